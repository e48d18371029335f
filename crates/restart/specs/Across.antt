-- What a reader finds after a restart: it goes on in the history that the load of the saved journal opens, as if there had been none.
use Rattle.std.specs.Prelude.{◌≡◌, List, ◌++◌, map, true, ℕ, length, Some}
use Rattle.le.specs.Bytes.{Bytes}
use Rattle.status.specs.declared.Status.TheVariants.{Success, JournalEntryDeleted}
use Rattle.journal_page.specs.declared.Filter.{Filter}
use Rattle.journal_read.specs.Input.{start_of}
use Rattle.journal_post.specs.Posts.{Journal}
use Rattle.history.specs.Calls.{Read, Call, read, load, status_of, next, runs, Typed, AllTyped}
use Rattle.history.specs.Log.{History, posted, notes, opening}
use Rattle.history.specs.Reading.{Reader, fresh, Turn, call_of, follow, Chosen}
use Rattle.history.specs.Demand.{above, Startable, DroppedAbove, NoCreation, well_formed}
use Rattle.restart.specs.Restart.{SavedAs, TypedJournal}

-- a reader d of the journal that was saved, whose history was g; the load has left the journal k and opened the history n
pub record GoesOn (g : History) (d : Reader) (k : Journal) (n : History) : Type 0 where
  -- the records that were left are posted in it, with their Usns, and no others
  pub records : posted n ≡ g.left
  -- what is posted next follows where it would have
  pub end : n.end ≡ g.end
  -- if the reader has lost no record, it may start where it stands
  pub start : (DroppedAbove g d.position → ⊥) → Startable n d.position × (d.position ≡ 0 → ⊥)
  -- and behind its position are the same records
  pub behind : (DroppedAbove g d.position → ⊥) → above d.position (posted n) ≡ above d.position (posted g)
  -- if it has lost one, a well-formed read from its position tells it so
  pub lost : DroppedAbove g d.position → (a : Read) → start_of a.input ≡ d.position → well_formed n a ≡ true → status_of k (read a) ≡ JournalEntryDeleted

-- Any creation that succeeds, any list of calls after it, any reader that starts anywhere in it; then a save, and a load of what it
-- wrote that succeeds, wherever that is.
abbrev pub Across : Type 0
Across =
    (j : Journal) (c : Call) (h : History) → status_of j c ≡ Success
    → opening j.volume (length j.ring) c ≡ Some h
    → (before : List Call) (ts : List Turn) (start : ℕ) (f : Filter)
    → Typed c
    → AllTyped (before ++ map call_of ts)
    → NoCreation (next j c) (before ++ map call_of ts)
    → Startable (notes h before) start
    → (start ≡ 0 → ⊥)
    → Chosen (runs (next j c) before) (fresh start f) ts
    → let saved = runs (next j c) (before ++ map call_of ts) in
    TypedJournal saved.volume saved.ring
    → (s : List ℕ) → Bytes s → SavedAs saved.volume saved.ring s
    → (w : Journal) (id : ℕ) (n : History) → status_of w (load s id) ≡ Success
    → opening w.volume (length w.ring) (load s id) ≡ Some n
    → GoesOn (notes h (before ++ map call_of ts)) (follow (runs (next j c) before) (fresh start f) ts) (next w (load s id)) n
