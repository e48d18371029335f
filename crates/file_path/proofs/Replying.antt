-- The reply of the whole call: the table comes before the way.
-- Assumes nothing.
use mathlib.Core.Path.{◌≡◌}
use mathlib.Core.Bool.{true, false}
use mathlib.Core.List.{List}
use Prim.Native.Nat.{ℕ}
use Rattle.status.specs.declared.Status.TheVariants.{FileCorruptError}
use Rattle.status.specs.Reply.{refuse}
use Rattle.file_table.specs.Table.{right_table}
use Rattle.file_path.specs.Path.{way_of, way_reply, path_reply}

module _ (table pool id root : List ℕ) (room : ℕ) where
  pub bad-reply : right_table pool table ≡ false → path_reply table pool id root room ≡ refuse FileCorruptError
  unfolding path_reply
  bad-reply g = rw g

  pub right-reply : right_table pool table ≡ true → path_reply table pool id root room ≡ way_reply (way_of table pool id root) room
  unfolding path_reply
  right-reply g = rw g
