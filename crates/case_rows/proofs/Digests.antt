-- Laws of the digest, a byte at a time.
-- Assumes nothing.
use mathlib.Core.Path.{◌≡◌}
use mathlib.Core.List.{List}
use Prim.Native.Nat.{ℕ, ◌+◌, ◌*◌, ◌%◌, ◌≤◌, ◌<◌}
use native.Mathlib.Numerals.{add-one}
use lib.ListN.{length, drop, get_or, drop_of_length-le}
use lib.Seq.{drop-cons}
use Rattle.case_rows.specs.Rows.{digest_from}

module _ (s : List ℕ) (whole d i : ℕ) (inv : digest_from d (drop i s) ≡ whole) where
  -- a turn of the loop
  pub digest_again : i < length s → digest_from (d % 4294967291 * 31 + get_or s i 0) (drop (i + 1) s) ≡ whole
  unfolding digest_from
  digest_again h = rw add-one (rw (drop-cons s i 0 h) at inv)

  -- the end of the loop
  pub digest_end : length s ≤ i → d % 4294967291 ≡ whole
  unfolding digest_from
  digest_end h = rw (drop_of_length-le s h) at inv
