-- A reader goes on after a restart, or is told that it has lost a record.
-- Assumes nothing.
use mathlib.Core.Path.{◌≡◌, refl, sym, ap, ap₂, ◌∙◌, subst}
use mathlib.Core.Logic.{◌⊎◌, inl, inr}
use mathlib.Core.Bool.{Bool, true, false, cond, or-true}
use Rattle.std.specs.Prelude.{Option, Some}
use mathlib.Core.List.Memᴰ
use mathlib.Core.List.{List, [], ◌∷◌, ◌++◌, map, Memᴰ}
use Prim.Native.Nat.{ℕ, ◌^◌, ◌≤◌, ◌<◌}
use native.Mathlib.Omega.{arith}
use lib.Dec.{leb, ltb}
use lib.ListN.{length}
use borrow.Author.Tests.{ltb-true, ltb-false, lt-ltb, eq-eqb, ne_eqb}
use Rattle.le.specs.Bytes.{Bytes}
use Rattle.status.specs.declared.Status.TheVariants.{Success, JournalEntryDeleted}
use Rattle.status.specs.Reply.{Reply, answer}
use Rattle.volume.specs.declared.Volume.{Volume}
use Rattle.volume.specs.State.{supported}
use Rattle.usn_record.specs.Layout.{Record}
use Rattle.journal.proofs.Boundaries.{sound-facts, marks-facts}
use Rattle.journal_read.specs.Input.{start_of}
use Rattle.journal_read.specs.Read.{is_deleted, deleted_check, read_answer}
use Rattle.journal_post.specs.Posts.{Journal, Posting}
use Rattle.journal_post.proofs.Links.{Chain, chain-le, link-rises}
use Rattle.image.specs.Image.{Image}
use Rattle.image.specs.Forms.{stored}
use Rattle.image_save.specs.Save.{content}
use Rattle.image_save.proofs.Saving.{saved-image}
use Rattle.image_load.specs.Load.{posting_of, restored, load_outcome, load_ring}
use Rattle.image_load.proofs.Restoring.{Passed, load-succeeds, load-passed}
use Rattle.history.specs.Calls.{Read, read, load, load_effect, status_of, next, runs}
use Rattle.history.specs.Log.{History, posted, is_posted, added, note_post, note_posts, opened, opened_by, notes, opening}
use Rattle.history.specs.Reading.{Reader, fresh, call_of, follow}
use Rattle.history.specs.Demand.{keep, above, Startable, DroppedAbove, well_formed}
use Rattle.history.proofs.Effects.{clash, and-true, usable}
use Rattle.history.proofs.Sim.{Live, Sim}
use Rattle.history.proofs.Simulate.{kept-live, opening-sim, sim-run}
use Rattle.history.proofs.Chains.{above-append, mem-range, some-above}
use Rattle.history.proofs.Readers.{Stand, stand-boundary, formed, reply-live}
use Rattle.history.proofs.Whole.{stands}
use Rattle.restart.specs.Restart.{SavedAs, TypedJournal, Again}
use Rattle.restart.specs.Across.{GoesOn, Across}
use Rattle.restart.proofs.Whole.{saved-stored, volume-is, loaded-keeps, loaded-again}

-- ---- chains

-- between a position and itself there is no record
chain-empty : (p : ℕ) (l : List Record) (e : ℕ) → Chain p l e → p ≡ e → l ≡ []
chain-empty p [] e h q = refl
chain-empty p (r ∷ rs) e h q = absurd (omega (arith, link-rises p r h.0, chain-le r.fields.usn rs e h.1))

-- a chain ends where it begins or at the Usn of one of its records
chain-ends : (b : ℕ) (l : List Record) (e : ℕ) → Chain b l e → (e ≡ b) ⊎ ((r : Record) × Memᴰ r l × (r.fields.usn ≡ e))
chain-ends b [] e h = inl (sym h)
chain-ends b (r ∷ rs) e h = by (chain-ends r.fields.usn rs e h.1)
  where
    by : (e ≡ r.fields.usn) ⊎ ((x : Record) × Memᴰ x rs × (x.fields.usn ≡ e)) → (e ≡ b) ⊎ ((x : Record) × Memᴰ x (r ∷ rs) × (x.fields.usn ≡ e))
    by (inl q) = inr (r, Memᴰ.head refl, sym q)
    by (inr k) = inr (k.0, Memᴰ.tail k.1, k.2)

abbrev NoneAbove : ℕ → List Record → Type 0
NoneAbove p l = (r : Record) × Memᴰ r l × (p < r.fields.usn) → ⊥

above-none : (p : ℕ) (l : List Record) → NoneAbove p l → above p l ≡ []
unfolding above
above-none p [] n = refl
above-none p (r ∷ rs) n = go (ltb p r.fields.usn) refl (above-none p rs (λ k. n (k.0, Memᴰ.tail k.1, k.2)))
  where
    go : (b : Bool) → ltb p r.fields.usn ≡ b → above p rs ≡ [] → keep b r (above p rs) ≡ []
    go true q ih = absurd (n (r, Memᴰ.head refl, ltb-true p r.fields.usn q))
    go false q ih = ih

-- a position in a chain that has none above it is at its end or beyond
past_end : (b : ℕ) (l : List Record) (e p : ℕ) → Chain b l e → b ≤ p → NoneAbove p l → e ≤ p
past_end b l e p h lo n = go (ltb p e) refl
  where
    go : (x : Bool) → ltb p e ≡ x → e ≤ p
    go true q = absurd (n (some-above b l e p h lo (ltb-true p e q)))
    go false q = ltb-false p e q

-- ---- readers

-- where a reader stands it could have started
stand-startable : (j : Journal) (h : History) (d : Reader) → Sim j h → Stand h d → Startable h d.position
stand-startable j h d m t =
    let e = stand-boundary j h d m t in
    by e.before t.rest e.parts (chain-ends h.base e.before d.position e.upto)
  where
    by : (l rest : List Record) → posted h ≡ l ++ rest → (d.position ≡ h.base) ⊎ ((r : Record) × Memᴰ r l × (r.fields.usn ≡ d.position)) → Startable h d.position
    by l rest q (inl k) = inl k
    by l rest q (inr k) = inr (k.0, subst (Memᴰ k.0) (sym q) (Memᴰ.append_left rest k.1), k.2)

-- a read from a position that is not 0 and below the first position is told that entries are deleted
told-lost : (first : ℕ) (rs : List Record) (input : List ℕ) (room : ℕ) → (start_of input ≡ 0 → ⊥) → start_of input < first
    → (answer (read_answer first rs input room)).status ≡ JournalEntryDeleted
unfolding read_answer deleted_check is_deleted
told-lost first rs input room z k =
    rw (ne_eqb (start_of input) 0 z, lt-ltb (start_of input) first k, or-true (leb (2 ^ 63) (start_of input))) refl

-- ---- a history that begins where another has its first position, with the records left there

module _ (g n : History) (old : Chain g.base g.dropped g.first) (new : Chain n.base n.dropped n.first)
    (left : n.left ≡ g.left) (base : n.base ≡ g.first) (first : n.first ≡ n.base) where
  records : posted n ≡ g.left
  records = ap₂ ◌++◌ (chain-empty n.base n.dropped n.first new (sym first)) left

  start : (p : ℕ) → Startable g p → (DroppedAbove g p → ⊥) → Startable n p
  start p (inl q) z =
      let k = past_end g.base g.dropped g.first p old (omega arith) z in
      inl (omega (arith, chain-le g.base g.dropped g.first old))
  start p (inr (r, m, q)) z = by (Memᴰ.append_cases g.dropped m)
    where
      by : Memᴰ r g.dropped ⊎ Memᴰ r g.left → Startable n p
      by (inl d) =
          let k = mem-range g.base g.dropped g.first r old d in
          let e = past_end g.base g.dropped g.first p old (omega arith) z in
          inl (omega arith)
      by (inr d) = inr (r, subst (Memᴰ r) (sym records) d, q)

  behind : (p : ℕ) → (DroppedAbove g p → ⊥) → above p (posted n) ≡ above p (posted g)
  behind p z =
      ap (above p) records
      ∙ sym (above-append p g.dropped g.left ∙ ap (λ (x : List Record). x ++ above p g.left) (above-none p g.dropped z))

-- ---- the history that a load opens

base_kept : (h : History) (ps : List Posting) → (note_posts h ps).base ≡ h.base
unfolding note_post added
base_kept h [] = refl
base_kept h (p ∷ ps) = base_kept (note_post h p) ps ∙ by (is_posted h p.change p.name)
  where
    by : (b : Bool) → (cond b (added h p.change p.name) h).base ≡ h.base
    by true = refl
    by false = refl

-- it begins at the image's first position
loaded-base : (v : Volume) (n : ℕ) (s : List ℕ) (id : ℕ) (i : Image) (h : History) → stored s ≡ Some i → opening v n (load s id) ≡ Some h → h.base ≡ i.first
unfolding opened
loaded-base v n s id i h e o =
    let ps : List Posting = map posting_of i.records in
    let z : Some (note_posts (opened v n i.first id) ps) ≡ Some h = ap (λ (x : Option Image). opened_by v n (load_effect id x)) (sym e) ∙ o in
    let y : note_posts (opened v n i.first id) ps ≡ h = cc in
    ap (λ (x : History). x.base) (sym y) ∙ base_kept (opened v n i.first id) ps

-- a journal that can be used has a live history
usable-live : (j : Journal) (h : History) → Sim j h → usable j ≡ true → Live j h
usable-live j h m u = m.live (by h.live refl)
  where
    by : (b : Bool) → h.live ≡ b → h.live ≡ true
    by true q = q
    by false q = let d : usable j ≡ false = m.dead q in clash cc

-- ---- the whole

module _ (k : Journal) (g : History) (m : Sim k g) (d : Reader) (stood : Stand g d)
    (s : List ℕ) (b : Bytes s) (t : TypedJournal k.volume k.ring) (a : SavedAs k.volume k.ring s)
    (w : Journal) (id : ℕ) (n : History) (e : status_of w (load s id) ≡ Success) (o : opening w.volume (length w.ring) (load s id) ≡ Some n) where
  abbrev i : Image
  i = content k.volume k.ring

  abbrev back : Journal
  back = next w (load s id)

  held : stored s ≡ Some i
  held = saved-stored k.volume k.ring s t a

  passed : Passed w.volume (length w.ring) id i
  passed =
      load-passed w.volume (length w.ring) s id i held
      (load-succeeds w.volume (length w.ring) s id (restored w id (stored s)).volume e)

  there : Again k.volume k.ring id (load_outcome w.volume w.ring s id) (load_ring w.volume w.ring s id)
  there = loaded-again k.volume k.ring s t a w.volume w.ring id passed

  -- both histories are live
  saved-live : Live k g
  saved-live =
      let q = saved-image k.volume k.ring a.0 a.1 s a.2 in
      let f = marks-facts k.volume (length k.ring) (sound-facts k.volume k.ring q.whole).0 in
      usable-live k g m (and-true _ _ q.on (and-true _ _ q.active (eq-eqb _ _ f.0)))

  back-sim : Sim back n
  back-sim = opening-sim w (load s id) n b e o

  back-live : Live back n
  back-live =
      let on : supported back.volume.journal ≡ true =
      ap (λ (x : Volume). supported x.journal) (volume-is k.volume k.ring s t a w.volume w.ring id passed) ∙ passed.on in
      let buffer : length back.ring ≡ back.volume.capacity = (loaded-keeps k.volume k.ring s t a w.volume w.ring id passed).buffer in
      usable-live back n back-sim (and-true _ _ on (and-true _ _ there.active (eq-eqb _ _ buffer)))

  base : n.base ≡ k.volume.first
  base = loaded-base w.volume (length w.ring) s id i n held o

  -- the first position is the one that the saved journal had
  first : n.first ≡ g.first
  first = sym back-live.first ∙ there.first ∙ saved-live.first

  -- and the history begins there
  begins : n.base ≡ g.first
  begins = base ∙ saved-live.first

  left : n.left ≡ g.left
  left = sym (kept-live back n back-sim back-live) ∙ there.records ∙ kept-live k g m saved-live

  not-zero : d.position ≡ 0 → ⊥
  not-zero q = omega (arith, stood.positive, stood.rises)

  -- a record above its position that was dropped is not above the first position
  lost : DroppedAbove g d.position → (x : Read) → start_of x.input ≡ d.position → well_formed n x ≡ true → status_of back (read x) ≡ JournalEntryDeleted
  lost (r, gone, up) x at ok =
      let f = formed n x ok in
      let u = mem-range g.base g.dropped g.first r m.shape.gone gone in
      ap (λ (y : Reply). (answer y).status) (reply-live back n back-sim f.0 x f.1)
      ∙ told-lost n.first n.left x.input x.room (λ z. not-zero (sym at ∙ z)) (omega (arith, u.1, up, at, first))

  goes_on : GoesOn g d back n
  goes_on =
      let old : Chain g.base g.dropped g.first = m.shape.gone in
      let new : Chain n.base n.dropped n.first = back-sim.shape.gone in
      let bare : n.first ≡ n.base = first ∙ sym begins in
      record {
        records = records g n old new left begins bare;
        end = sym back-live.last ∙ there.last ∙ saved-live.last;
        start = λ z. (start g n old new left begins bare d.position (stand-startable k g d m stood) z, not-zero);
        behind = behind g n old new left begins bare d.position;
        lost = lost;
      }

pub across : Across
across j c h e o before ts start f tc y nc at pos own t s b sv w id n loads opens =
    let m = opening-sim j c h tc e o in
    goes_on (runs (next j c) (before ++ map call_of ts)) (notes h (before ++ map call_of ts)) (sim-run (before ++ map call_of ts) (next j c) h m y nc)
    (follow (runs (next j c) before) (fresh start f) ts) (stands ts start f pos before (next j c) h m y nc at own) s b t sv w id n loads opens
