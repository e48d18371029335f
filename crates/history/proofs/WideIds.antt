-- The promise to a reader at a list with a wide id: in version 2 it stops before that record, is refused there, and goes on in version 3.
-- Assumes nothing.
use mathlib.Core.Path.{◌≡◌, refl, sym, ap, ap₂, ◌∙◌, subst}
use mathlib.Core.Logic.{inr}
use mathlib.Core.Bool.{true}
use mathlib.Core.List.Memᴰ
use mathlib.Core.List.{List, [], ◌∷◌, ◌++◌, map}
use Rattle.std.specs.Prelude.{None}
use Prim.Native.Nat.{ℕ, ◌+◌}
use native.Mathlib.Omega.{arith}
use Rattle.le.specs.Numbers.{le, unle, number_at, encode}
use Rattle.le.specs.Bytes.{all_zero}
use Rattle.le.proofs.Runs.{are-bytes}
use Rattle.status.specs.declared.Status.TheVariants.{Success, NotSupported}
use Rattle.status.specs.Reply.{Reply, refuse, give}
use Rattle.names.specs.Names.{good_unit, good_units, good_name}
use Rattle.usn_record.specs.Layout.{layout}
use Rattle.records.specs.Records.{joined, all_shown}
use Rattle.journal.specs.Boundary.{records_after}
use Rattle.journal_post.specs.declared.Change.{Change}
use Rattle.journal_post.specs.Post.{posted_name, record_of}
use Rattle.journal_post.specs.Posts.{Journal, Posting}
use Rattle.journal_page.specs.Select.{wanted}
use Rattle.kept_writer.specs.Kept.{fits}
use Rattle.journal_page.specs.Page.{stops, page_of, page_reply}
use Rattle.journal_read.specs.Input.{argument_check}
use Rattle.journal_read.specs.Read.{is_deleted, origin, deleted_check, read_answer}
use Rattle.history.specs.Calls.{Read, Call, create, post, reply_to, next, runs, Widths, AllTyped}
use Rattle.history.specs.Log.{History, opened, is_posted, shed, added, note_post, notes}
use Rattle.history.specs.Reading as reading
use Rattle.history.specs.Reading.{Reader, fresh, mine, follow, Carries, Chosen}
use Rattle.history.specs.Demand.{NoCreation, above, well_formed, one, counts, ample, ReaderPromise}
use Rattle.history.proofs.Effects.{clash}
use Rattle.history.proofs.Sim.{Sim}
use Rattle.history.proofs.Simulate.{opening-sim, sim-run}
use Rattle.history.proofs.Readers.{reply-live}
use Rattle.history.proofs.Whole.{demand3}
use Rattle.history.proofs.Examples.{narrow, change, name, disk, posting, history_after, widths, created-right, asks, all}

-- ---- four posts, the third of which has a parent id with a ninth byte

abbrev wide_parent : List ℕ
wide_parent = 2 ∷ 0 ∷ 0 ∷ 0 ∷ 0 ∷ 0 ∷ 0 ∷ 0 ∷ 1 ∷ 0 ∷ 0 ∷ 0 ∷ 0 ∷ 0 ∷ 0 ∷ 0 ∷ []

abbrev wide_change : Change
wide_change = record { file = narrow 1; parent = wide_parent; time = 3; reason = 256; source = 0; security = 0; attributes = 32 }

abbrev wide_posting : Posting
wide_posting = record { change = wide_change; name = name }

abbrev pub calls : List Call
calls = post posting ∷ post posting ∷ post wide_posting ∷ post posting ∷ []

abbrev pub journal : Journal
journal = runs (next disk (create 7)) calls

abbrev told : History
told = notes (history_after 0) calls

wide-widths : Widths wide_change
wide-widths = record { file = widths.file; parent = record { size = refl; bytes = are-bytes wide_parent refl }; time = omega arith; reason = omega arith; source = omega arith; security = omega arith; attributes = omega arith }

typed : AllTyped (calls ++ [])
typed = (widths, (widths, (wide-widths, (widths, tt))))

none-created : NoCreation (next disk (create 7)) (calls ++ [])
none-created = (λ q. clash cc, (λ q. clash cc, (λ q. clash cc, (λ q. clash cc, tt))))

sim : Sim journal told
sim = sim-run calls (next disk (create 7)) (history_after 0) (opening-sim disk (create 7) (history_after 0) tt created-right refl) typed none-created

live-told : told.live ≡ true
unfolding opened is_posted shed added note_post posted_name good_name good_units good_unit
live-told = refl

-- ---- its reads from position 80 on

-- the same in version 3
abbrev pub asks_three : ℕ → ℕ → Read
asks_three start room = record { input = (asks start room).input ++ (le 2 3 ++ (le 2 3 ++ le 4 0)); room = room }

-- in version 2, position 160 and one record; at position 160 a refusal, whatever the room; in version 3, position 320 and two records; there,
-- nothing more
abbrev two : List ℕ
two =
    160 ∷ 0 ∷ 0 ∷ 0 ∷ 0 ∷ 0 ∷ 0 ∷ 0
    ∷ 64 ∷ 0 ∷ 0 ∷ 0 ∷ 2 ∷ 0 ∷ 0 ∷ 0
    ∷ 1 ∷ 0 ∷ 0 ∷ 0 ∷ 0 ∷ 0 ∷ 0 ∷ 0
    ∷ 2 ∷ 0 ∷ 0 ∷ 0 ∷ 0 ∷ 0 ∷ 0 ∷ 0
    ∷ 160 ∷ 0 ∷ 0 ∷ 0 ∷ 0 ∷ 0 ∷ 0 ∷ 0
    ∷ 3 ∷ 0 ∷ 0 ∷ 0 ∷ 0 ∷ 0 ∷ 0 ∷ 0
    ∷ 0 ∷ 1 ∷ 0 ∷ 0 ∷ 0 ∷ 0 ∷ 0 ∷ 0
    ∷ 0 ∷ 0 ∷ 0 ∷ 0 ∷ 32 ∷ 0 ∷ 0 ∷ 0
    ∷ 2 ∷ 0 ∷ 60 ∷ 0 ∷ 97 ∷ 0 ∷ 0 ∷ 0
    ∷ []

abbrev three : List ℕ
three =
    64 ∷ 1 ∷ 0 ∷ 0 ∷ 0 ∷ 0 ∷ 0 ∷ 0
    ∷ 80 ∷ 0 ∷ 0 ∷ 0 ∷ 3 ∷ 0 ∷ 0 ∷ 0
    ∷ 1 ∷ 0 ∷ 0 ∷ 0 ∷ 0 ∷ 0 ∷ 0 ∷ 0
    ∷ 0 ∷ 0 ∷ 0 ∷ 0 ∷ 0 ∷ 0 ∷ 0 ∷ 0
    ∷ 2 ∷ 0 ∷ 0 ∷ 0 ∷ 0 ∷ 0 ∷ 0 ∷ 0
    ∷ 1 ∷ 0 ∷ 0 ∷ 0 ∷ 0 ∷ 0 ∷ 0 ∷ 0
    ∷ 240 ∷ 0 ∷ 0 ∷ 0 ∷ 0 ∷ 0 ∷ 0 ∷ 0
    ∷ 3 ∷ 0 ∷ 0 ∷ 0 ∷ 0 ∷ 0 ∷ 0 ∷ 0
    ∷ 0 ∷ 1 ∷ 0 ∷ 0 ∷ 0 ∷ 0 ∷ 0 ∷ 0
    ∷ 0 ∷ 0 ∷ 0 ∷ 0 ∷ 32 ∷ 0 ∷ 0 ∷ 0
    ∷ 2 ∷ 0 ∷ 76 ∷ 0 ∷ 97 ∷ 0 ∷ 0 ∷ 0
    ∷ 80 ∷ 0 ∷ 0 ∷ 0 ∷ 3 ∷ 0 ∷ 0 ∷ 0
    ∷ 1 ∷ 0 ∷ 0 ∷ 0 ∷ 0 ∷ 0 ∷ 0 ∷ 0
    ∷ 0 ∷ 0 ∷ 0 ∷ 0 ∷ 0 ∷ 0 ∷ 0 ∷ 0
    ∷ 2 ∷ 0 ∷ 0 ∷ 0 ∷ 0 ∷ 0 ∷ 0 ∷ 0
    ∷ 0 ∷ 0 ∷ 0 ∷ 0 ∷ 0 ∷ 0 ∷ 0 ∷ 0
    ∷ 64 ∷ 1 ∷ 0 ∷ 0 ∷ 0 ∷ 0 ∷ 0 ∷ 0
    ∷ 3 ∷ 0 ∷ 0 ∷ 0 ∷ 0 ∷ 0 ∷ 0 ∷ 0
    ∷ 0 ∷ 1 ∷ 0 ∷ 0 ∷ 0 ∷ 0 ∷ 0 ∷ 0
    ∷ 0 ∷ 0 ∷ 0 ∷ 0 ∷ 32 ∷ 0 ∷ 0 ∷ 0
    ∷ 2 ∷ 0 ∷ 76 ∷ 0 ∷ 97 ∷ 0 ∷ 0 ∷ 0
    ∷ []

abbrev end : List ℕ
end = 64 ∷ 1 ∷ 0 ∷ 0 ∷ 0 ∷ 0 ∷ 0 ∷ 0 ∷ []

abbrev pub reads : List Read
reads = asks 80 600 ∷ asks 160 600 ∷ asks 160 8 ∷ asks_three 160 600 ∷ asks_three 320 600 ∷ asks 320 600 ∷ []

abbrev pub replies : List Reply
replies = give Success two ∷ refuse NotSupported ∷ refuse NotSupported ∷ give Success three ∷ give Success end ∷ give Success end ∷ []

answered : (a : Read) → argument_check 7 a.input a.room ≡ None → reply_to journal a ≡ read_answer 0 told.left a.input a.room
unfolding opened is_posted shed added note_post posted_name good_name good_units good_unit
answered a ok = reply-live journal told sim live-told a ok

pub wide-right : map (reply_to journal) reads ≡ replies
unfolding opened is_posted shed added note_post posted_name good_name good_units good_unit le unle number_at argument_check is_deleted origin deleted_check records_after wanted all_zero fits stops page_of page_reply read_answer joined layout encode
wide-right =
    ap₂ ◌∷◌ (answered (asks 80 600) refl)
    (ap₂ ◌∷◌ (answered (asks 160 600) refl)
    (ap₂ ◌∷◌ (answered (asks 160 8) refl)
    (ap₂ ◌∷◌ (answered (asks_three 160 600) refl) (ap₂ ◌∷◌ (answered (asks_three 320 600) refl) (ap₂ ◌∷◌ (answered (asks 320 600) refl) refl)))))

-- ---- a reader whose reads get these replies, one after another

hear : Reader → List Read → List Reply → Reader
hear d [] rs = d
hear d (a ∷ more) [] = d
hear d (a ∷ more) (r ∷ rs) = hear (reading.told a r d) more rs

Carried : Reader → List Read → List Reply → Type 0
Carried d [] rs = Unit {0}
Carried d (a ∷ more) [] = Unit {0}
Carried d (a ∷ more) (r ∷ rs) = Carries d a × Carried (reading.told a r d) more rs

amount : History → Reader → List Read → List Reply → ℕ
amount h d [] rs = 0
amount h d (a ∷ more) [] = 0
amount h d (a ∷ more) (r ∷ rs) = one (counts h d (mine a)) + amount h (reading.told a r d) more rs

module _ (j : Journal) where
  follows : (d : Reader) (more : List Read) → follow j d (map mine more) ≡ hear d more (map (reply_to j) more)
  unfolding hear
  follows d [] = refl
  follows d (a ∷ more) = follows (reading.told a (reply_to j a) d) more

  carried : (d : Reader) (more : List Read) → Carried d more (map (reply_to j) more) → Chosen j d (map mine more)
  unfolding Carried
  carried d [] c = tt
  carried d (a ∷ more) c = (c.0, carried (reading.told a (reply_to j a) d) more c.1)

  amounts : (h : History) (d : Reader) (more : List Read) → ample j h d (map mine more) ≡ amount h d more (map (reply_to j) more)
  unfolding amount
  amounts h d [] = refl
  amounts h d (a ∷ more) = ap (λ (n : ℕ). one (counts h d (mine a)) + n) (amounts h (reading.told a (reply_to j a) d) more)

-- ---- the promise to it: three records are selected above its start, and of its reads three count, those of version 3 and the last, of version
-- 2, above whose position no wide id remains

reader : ReaderPromise (runs (next disk (create 7)) (calls ++ [])) (notes (history_after 0) (calls ++ [])) (fresh 80 all)
unfolding opened is_posted shed added note_post posted_name good_name good_units good_unit
reader = demand3 disk (create 7) (history_after 0) created-right refl calls [] 80 all tt typed none-created (inr (record_of change name 80, Memᴰ.head refl, refl)) (λ z. omega arith) tt

chosen : Chosen journal (fresh 80 all) (map mine reads)
unfolding Carried le unle number_at
chosen =
    carried journal (fresh 80 all) reads
    (subst (Carried (fresh 80 all) reads) (sym wide-right)
    ((refl, (refl, refl)), ((refl, (refl, refl)), ((refl, (refl, refl)), ((refl, (refl, refl)), ((refl, (refl, refl)), ((refl, (refl, refl)), tt)))))))

counted : ample journal told (fresh 80 all) (map mine reads) ≡ 3
unfolding amount opened is_posted shed added note_post posted_name good_name good_units good_unit le unle number_at argument_check well_formed wanted above all_zero all_shown
counted = amounts journal told (fresh 80 all) reads ∙ ap (amount told (fresh 80 all) reads) wide-right ∙ refl

-- so it is brought to the end
pub goes_on : (follow journal (fresh 80 all) (map mine reads)).position ≡ 320
unfolding opened is_posted shed added note_post posted_name good_name good_units good_unit wanted above
goes_on =
    reader.progress (λ d. Memᴰ.not-nil d.1) (map mine reads) (tt, (tt, (tt, (tt, (tt, (tt, tt))))))
    ((λ q. clash cc), ((λ q. clash cc), ((λ q. clash cc), ((λ q. clash cc), ((λ q. clash cc), ((λ q. clash cc), tt))))))
    chosen refl (omega (arith, counted))
