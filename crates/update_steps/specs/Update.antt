-- An update of three files, and the journal that it is posted to.
use Rattle.std.specs.Prelude.{List, [], ◌∷◌, ℕ, zero, suc, ◌-◌, ◌/◌, ◌%◌}
use Rattle.file_ids.specs.Ids.{id_bytes}
use Rattle.volume.specs.declared.Volume.{Volume}
use Rattle.journal_post.specs.Posts.{Journal, Posting, after_posts}

-- a volume record with no journal yet, at LastUsn `last`, for a ring of n bytes
abbrev pub idle_volume : ℕ → ℕ → Volume
idle_volume n last =
    record { usn = 0; regions = 0; reparse = 0; points = 0; journal = 1; state = 0; id = 0; first = 0; last = last; capacity = n }

-- ---- the changes

-- the first, the second, or the last of three
abbrev pub pick {ℓ} : {A : Type ℓ} → ℕ → A → A → A → A
pick zero a b c = a
pick (suc zero) a b c = b
pick (suc (suc n)) a b c = c

-- the names, in UTF-16
unfoldable pub code : List ℕ
code = 99 ∷ 0 ∷ 111 ∷ 0 ∷ 100 ∷ 0 ∷ 101 ∷ 0 ∷ []

unfoldable pub table : List ℕ
table = 116 ∷ 0 ∷ 97 ∷ 0 ∷ 98 ∷ 0 ∷ 108 ∷ 0 ∷ 101 ∷ 0 ∷ []

unfoldable pub limits : List ℕ
limits = 108 ∷ 0 ∷ 105 ∷ 0 ∷ 109 ∷ 0 ∷ 105 ∷ 0 ∷ 116 ∷ 0 ∷ 115 ∷ 0 ∷ []

-- a file's change with this Reason
abbrev pub posting : ℕ → ℕ → List ℕ → Posting
posting file reason name =
    record {
      change = record { file = id_bytes file; parent = id_bytes 5; time = 0; reason = reason; source = 0; security = 0; attributes = 32 };
      name = name;
    }

-- change i of an update, three for each file: it is created, written, closed
abbrev pub reason_at : ℕ → ℕ
reason_at i = pick (i % 3) 0x100 0x102 0x80000102

abbrev pub change_at : ℕ → Posting
change_at i = posting (pick (i / 3) 41 42 43) (reason_at i) (pick (i / 3) code table limits)

-- n changes from number i on, of one update after the other
abbrev pub changes_from : ℕ → ℕ → List Posting
changes_from i zero = []
changes_from i (suc n) = change_at (i % 9) ∷ changes_from (suc i) n

-- the journal after changes `from` to `to`
abbrev pub updated : Journal → ℕ → ℕ → Journal
updated j from to = after_posts j (changes_from from (to - from))
