-- The promise of a restart.
-- Assumes nothing.
use mathlib.Core.Path.{◌≡◌, refl, sym, ap, ap₂, ◌∙◌, subst, subst₂}
use mathlib.Core.Bool.{true, not}
use Rattle.std.specs.Prelude.{Option, None, Some}
use Rattle.std.proofs.lemmas.Option.{none-some}
use mathlib.Core.List.{List}
use Prim.Native.Nat.{ℕ, ◌+◌, ◌*◌, ◌<◌}
use native.Mathlib.Omega.{arith}
use lib.ListN.{length, take, drop}
use borrow.Author.Tests.{ne_eqb}
use Rattle.le.specs.Bytes.{Bytes}
use Rattle.le.proofs.Runs.{and_left}
use Rattle.status.specs.declared.Status.{Status}
use Rattle.status.specs.declared.Status.TheVariants.{Success}
use Rattle.volume.specs.declared.Volume.{Volume}
use Rattle.volume.specs.State.{is_active, good_capacity}
use Rattle.volume.specs.Calls.{Outcome, performed}
use Rattle.usn_record.specs.declared.Version.{Version}
use Rattle.journal.specs.Kept.{good_marks, sound, kept}
use Rattle.journal.proofs.Boundaries.{sound-facts, marks-facts}
use Rattle.journal_post.specs.Posts.{Journal}
use Rattle.journal_post.proofs.Keeping.{Keeping, keeping-kept}
use Rattle.image.specs.Image.{Image, last_from, read_image}
use Rattle.image.specs.Forms.{stored}
use Rattle.image.proofs.RoundTrip.{Storable}
use Rattle.image.proofs.Cut as cutting
use Rattle.image.proofs.OneWord.{one_word}
use Rattle.image.proofs.Saving.{kept-storable, kept-end}
use Rattle.image.proofs.Forms.{read-stored, stored-read, form-passes, stored-none}
use Rattle.image_judge.specs.Judge.{marks_of}
use Rattle.image_save.specs.Save.{content}
use Rattle.image_save.proofs.Saving.{saved-image, saved-back}
use Rattle.image_load.specs.Load.{load_check, restored, settled, load_outcome, load_ring}
use Rattle.image_load.proofs.Restoring.{Passed, load-succeeds, load-none, passed-check, restored-put, restored-keeps}
use Rattle.image_load.specs.Steps.{loaded_volume}
use Rattle.image_move.specs.Moves.{MovedTo}
use Rattle.image_move.proofs.Whole.{moved-so}
use Rattle.image_move.proofs.Whole as moving
use Rattle.restart.specs.Restart.{Loads, NeverTaken, SavedAs, TypedJournal, IsImage, loads, moves, saved, moved, OtherWord, Ready, Again, Restart}

clash : {A : Type 0} → ◌≡◌ {A = ℕ} 0 1 → A
clash z = absurd (omega arith)

-- ---- what an image holds

-- what loads holds something
loads-stored : (v : Volume) (ring s : List ℕ) (id : ℕ) → Loads v ring s id → (i : Image) × (stored s ≡ Some i)
loads-stored v ring s id e = by (stored s) refl
  where
    by : (o : Option Image) → stored s ≡ o → (i : Image) × (stored s ≡ Some i)
    by None q =
        let c = load-succeeds v (length ring) s id (restored (record { volume = v; ring = ring }) id (stored s)).volume e in
        let z : Some (load-none v (length ring) s id q).0 ≡ None = sym (load-none v (length ring) s id q).1 ∙ c in
        clash cc
    by (Some i) q = (i, q)

pub saved-stored : (v : Volume) (ring s : List ℕ) → TypedJournal v ring → SavedAs v ring s → stored s ≡ Some (content v ring)
saved-stored v ring s t (form, room, e) =
    let k = saved-image v ring form room s e in
    read-stored k.version s (content v ring) (saved-back v ring form s k t.0 t.1)

moves-stored : (from : ℕ) (s t : List ℕ) → MovedTo from s t → (i : Image) × (stored s ≡ Some i)
moves-stored from s t m = let k = moved-so from s t m in (k.image, read-stored k.version s k.image k.read)

image-stored : (s : List ℕ) → IsImage s → (i : Image) × (stored s ≡ Some i)
image-stored s (loads v ring id e) = loads-stored v ring s id e
image-stored s (moves from t m) = moves-stored from s t m
image-stored s (saved v ring t w) = (content v ring, saved-stored v ring s t w)
image-stored s (moved from r b m) = let k = (moving.moves).keeps from r s b m in (k.image, k.held.1)

-- what is read in neither form is never taken
none-taken : (s : List ℕ) → ((v : Version) → read_image v s ≡ None) → NeverTaken s
none-taken s n =
    record {
      loads = λ v ring id e. let k = loads-stored v ring s id e in held k.0 k.1;
      moves = λ from t m. let k = moves-stored from s t m in held k.0 k.1;
    }
  where
    held : (i : Image) → stored s ≡ Some i → ⊥
    held i e = none-some i (sym (stored-none s n) ∙ e)

-- ---- cut, or with another word

cut-never : (s : List ℕ) → Bytes s → IsImage s → (n : ℕ) → n < length s → NeverTaken (take n s)
cut-never s b e n h =
    let i = image-stored s e in
    let r = stored-read s i.0 i.1 in
    none-taken (take n s) (λ w. cutting.cut r.0 w s i.0 n b r.2 h)

word-never : (s t : List ℕ) (k : ℕ) → Bytes s → Bytes t → IsImage s → OtherWord k s t → NeverTaken t
word-never s t k b c e d =
    let i = image-stored s e in
    let r = stored-read s i.0 i.1 in
    let m : 4 * k ≡ k * 4 = omega arith in
    none-taken t
    (λ w. one_word r.0 w k s t i.0 b c (sym d.size) (subst (λ (x : ℕ). take x s ≡ take x t) m (sym d.front))
    (subst (λ (x : ℕ). drop (x + 4) s ≡ drop (x + 4) t) m (sym d.back)) (λ q. d.other (sym q)) r.2)

-- ---- moved

-- what holds the same loads the same
same_check : (v : Volume) (n : ℕ) (s t : List ℕ) (id : ℕ) (i : Image) → stored s ≡ Some i → stored t ≡ Some i → load_check v n t id ≡ load_check v n s id
unfolding load_check
same_check v n s t id i e k = rw (form-passes s i e, form-passes t i k, e, k) refl

moved-loads : (from : ℕ) (s t : List ℕ) → Bytes s → MovedTo from s t → (v : Volume) (ring : List ℕ) (id : ℕ)
    → (load_outcome v ring t id ≡ load_outcome v ring s id) × (load_ring v ring t id ≡ load_ring v ring s id)
moved-loads from s t b m v ring id =
    let k = (moving.moves).keeps from s t b m in
    let c = same_check v (length ring) s t id k.image k.held.0 k.held.1 in
    let h : stored t ≡ stored s = k.held.1 ∙ sym k.held.0 in
    let j : Journal = record { volume = v; ring = ring } in (
      ap₂ (λ (x : Option Status) (o : Option Image). performed x v (restored j id o).volume) c h,
      ap₂ (λ (x : Option Status) (o : Option Image). settled x ring (restored j id o).ring) c h,
    )

-- ---- there again

module _ (v : Volume) (ring s : List ℕ) (t : TypedJournal v ring) (a : SavedAs v ring s) (w : Volume) (other : List ℕ) (id : ℕ) where
  abbrev i : Image
  i = content v ring

  whole : sound v ring ≡ true
  whole = (saved-image v ring a.0 a.1 s a.2).whole

  held : stored s ≡ Some i
  held = saved-stored v ring s t a

  end : last_from v.first (kept v ring) ≡ v.last
  end = kept-end v ring t.0 whole

  abbrev before : Journal
  before = record { volume = w; ring = other }

  -- where nothing refuses it
  module _ (p : Passed w (length other) id i) where
    check : load_check w (length other) s id ≡ None
    check = passed-check w (length other) s id i held p

    outcome-is : load_outcome w other s id ≡ record { status = Success; volume = (restored before id (Some i)).volume }
    outcome-is = ap₂ (λ (c : Option Status) (o : Option Image). performed c w (restored before id o).volume) check held

    ring-is : load_ring w other s id ≡ (restored before id (Some i)).ring
    ring-is = ap₂ (λ (c : Option Status) (o : Option Image). settled c other (restored before id o).ring) check held

    storable : Storable i
    storable = kept-storable v ring t.0 whole v.id t.1

    pub volume-is : (load_outcome w other s id).volume ≡ loaded_volume w id (marks_of i)
    volume-is = ap (λ (o : Outcome). o.volume) outcome-is ∙ ap (λ (j : Journal). j.volume) (restored-put w other id i storable p)

    -- the ring keeps its records
    pub loaded-keeps : Keeping (record { volume = (load_outcome w other s id).volume; ring = load_ring w other s id }) (kept v ring)
    loaded-keeps =
        subst₂ (λ (o : Outcome) (l : List ℕ). Keeping (record { volume = o.volume; ring = l }) (kept v ring)) (sym outcome-is) (sym ring-is)
        (restored-keeps w other id i storable p)

    -- and so it is there again
    pub loaded-again : Again v ring id (load_outcome w other s id) (load_ring w other s id)
    loaded-again =
        record {
          status = ap (λ (o : Outcome). o.status) outcome-is;
          active = ap (λ (x : Volume). is_active x) volume-is;
          id = ap (λ (x : Volume). x.id) volume-is;
          first = ap (λ (x : Volume). x.first) volume-is;
          last = ap (λ (x : Volume). x.last) volume-is ∙ end;
          records = keeping-kept _ (kept v ring) loaded-keeps;
        }

  -- nothing does in a volume that is ready
  passed : Ready v w other id → Passed w (length other) id i
  unfolding good_marks
  passed k =
      let m : good_marks v (length ring) ≡ true = (sound-facts v ring whole).0 in
      let f = marks-facts v (length ring) m in
      record {
        on = k.support;
        undeleted = ap not k.undeleted;
        idle = ap not k.inactive;
        capacity = subst (λ (n : ℕ). good_capacity n ≡ true) (sym k.capacity) (and_left (good_capacity v.capacity) _ m);
        buffer = k.buffer;
        fresh = rw (ne_eqb id 0 k.nonzero, ne_eqb id v.id k.fresh, ne_eqb id w.id k.unused) refl;
        room = omega (arith, end, k.capacity, f.0, f.8);
      }

  again : Ready v w other id → Again v ring id (load_outcome w other s id) (load_ring w other s id)
  again k = loaded-again (passed k)

pub restart : Restart
restart = record { cut = cut-never; word = word-never; moved = moved-loads; again = again }
