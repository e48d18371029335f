-- A journal and its history go together through every call.
-- Assumes nothing.
use mathlib.Core.Path.{◌≡◌, refl, sym, ap, ap₂, ◌∙◌, subst, subst₂}
use mathlib.Core.Logic.{inl, inr}
use mathlib.Core.Bool.{Bool, true, false, not, cond, ◌&&◌, ◌||◌}
use Rattle.std.specs.Prelude.{Option, None, Some}
use mathlib.Core.List.{List, [], ◌∷◌, ◌++◌, append_assoc, append-nil, nil≢cons}
use Prim.Native.Nat.{ℕ, zero, suc, ◌+◌, ◌-◌, ◌%◌, ◌^◌, ◌≤◌, ◌<◌}
use native.Mathlib.Omega.{arith}
use lib.Dec.{leb, ltb, eqb}
use lib.ListN.{length}
use borrow.Author.Tests.{ltb-true, eqb-true, eq-eqb}
use Rattle.le.proofs.Runs.{and_left, and_right}
use Rattle.status.specs.declared.Status.{Status}
use Rattle.status.specs.declared.Status.TheVariants.{Success, InvalidParameter, FileCorruptError, JournalDeleteInProgress, JournalNotActive, DiskFull}
use Rattle.status.specs.Check.{unless, else, passes}
use Rattle.ring.specs.Ring.{placed}
use Rattle.volume.specs.declared.Volume.{Volume}
use Rattle.volume.specs.State.{supported, is_active, active_check, good_capacity, good_position}
use Rattle.volume.specs.Calls.{performed, in_state, at_positions, delete_check}
use Rattle.volume.proofs.Marks.{capacity-facts, position-facts}
use Rattle.names.specs.Names.{good_name}
use Rattle.usn_record.specs.declared.Version.TheVariants.{V3}
use Rattle.usn_record.specs.Layout.{record_length, shown, Record, bytes_of}
use Rattle.usn_record.proofs.Record.{record-short}
use Rattle.record_reader.proofs.Judge.{shown-same, shown-lt}
use Rattle.records.specs.Records.{joined}
use Rattle.journal.specs.Kept.{kept_bytes, keeps, good_marks, sound, kept}
use Rattle.journal.specs.Boundary.{oldest}
use Rattle.journal_post.specs.declared.Change.{Change}
use Rattle.journal_post.specs.declared.Verdict.{Verdict}
use Rattle.journal_post.specs.declared.Verdict.TheVariants.{Skip, Reject, Accept}
use Rattle.journal_post.specs.Post.{skipped, posted_name, end_of, post_check, checked, verdict, leaves, record_of, posted_volume, posted_ring}
use Rattle.journal_post.specs.Posts.{Journal, Posting, after_post, after_posts}
use Rattle.reparse_point.specs.Reparse.{points_check}
use Rattle.history.specs.Calls.{Call, Called, called, status_of, next, runs, Effect, opens, posts, point_posts, closes, nothing, effect, Widths, Typed, AllTyped}
use Rattle.history.specs.Log.{History, posted, opened, end_with, is_posted, Shed, shed, shed_to, added, closed, note_post, note_posts, note_point, note_delete, note_effect, note, notes, opened_by, opening}
use Rattle.history.specs.Demand.{is_opening, CreatesNone, NoCreation}
use Rattle.journal_post.proofs.Links.{Link, Chain, chain-append, chain-eight}
use Rattle.history.proofs.Effects.{clash, and-true, usable, with, emptied, after_delete, Does, either, unusable, does, AllWidths, TypedEffect, typed-effect}
use Rattle.history.proofs.Sim.{Live, Sim, Grow}
use Rattle.journal_post.proofs.Writing.{posted-bytes}
use Rattle.journal_post.proofs.Keeping.{Keeping, empty-kept, keeping-kept, keeping-sound}
use Rattle.history.proofs.Posting.{Cut, cut, snoc}

-- ---- a live journal keeps the records left

module _ (j : Journal) (h : History) (m : Sim j h) (l : Live j h) where
  live-keeping : Keeping j h.left
  live-keeping =
      record {
        buffer = l.buffer;
        capacity = subst (λ (n : ℕ). good_capacity n ≡ true) (sym l.capacity) m.shape.capacity;
        chain = subst₂ (λ (x y : ℕ). Chain x h.left y) (sym l.first) (sym l.last) m.shape.here;
        eight = omega (arith, l.first, m.shape.first_eight);
        low = omega (arith, l.last, m.shape.low);
        span = omega (arith, l.first, l.last, l.capacity, m.shape.span);
        bytes = l.bytes;
      }

  pub kept-live : kept j.volume j.ring ≡ h.left
  kept-live = keeping-kept j h.left live-keeping

  pub sound-live : sound j.volume j.ring ≡ true
  sound-live = keeping-sound j h.left live-keeping

-- a history that is not live goes with any journal that can't be used
dead-sim : (j k : Journal) (h : History) → Sim j h → h.live ≡ false → usable k ≡ false → Sim k h
dead-sim j k h m d u = record { shape = m.shape; live = λ q. clash cc; dead = λ q. u }

closed-sim : (j k : Journal) (h : History) → Sim j h → usable k ≡ false → Sim k (closed h)
closed-sim j k h m u = record { shape = m.shape; live = λ q. clash cc; dead = λ q. u }

-- ---- posting

-- the facts of a post that is posted
pub record Accepted (h : History) (c : Change) (name : List ℕ) : Type 0 where
  pub live : h.live ≡ true
  pub reason : not (eqb c.reason 0) ≡ true
  pub good : good_name name ≡ true
  pub long : leb 2 (length name) ≡ true
  pub low : end_with h name < 2 ^ 63

-- a live history takes a post by its Reason, its name and its end
posted-live : (h : History) (c : Change) (name : List ℕ) → h.live ≡ true → is_posted h c name ≡ not (eqb c.reason 0) && (posted_name name && ltb (end_with h name) (2 ^ 63))
unfolding is_posted
posted-live h c name v = rw v

accepted : (h : History) (c : Change) (name : List ℕ) → h.live ≡ true → is_posted h c name ≡ true → Accepted h c name
unfolding posted_name
accepted h c name v q =
    let q1 = sym (posted-live h c name v) ∙ q in
    let q2 = and_right (not (eqb c.reason 0)) _ q1 in
    let q3 = and_left (good_name name && leb 2 (length name)) _ q2 in
    record {
      live = v;
      reason = and_left (not (eqb c.reason 0)) _ q1;
      good = and_left (good_name name) _ q3;
      long = and_right (good_name name) _ q3;
      low = ltb-true _ _ (and_right (good_name name && leb 2 (length name)) _ q2);
    }

shown-not : (a : ℕ) → shown a ≡ 0 → ⊥
shown-not zero e = omega (arith, e)
shown-not (suc a) e = omega (arith, e, shown-same (suc a) (λ z. omega arith))

-- the journal once the record has been written
abbrev written : Journal → Change → List ℕ → Journal
written j c name = record { volume = posted_volume j.volume j.ring name; ring = posted_ring j.volume j.ring c name }

module _ (j : Journal) (h : History) (m : Sim j h) (l : Live j h) (c : Change) (name : List ℕ) (w : Widths c) (p : Accepted h c name) where
  abbrev end : ℕ
  end = end_with h name

  abbrev new : Record
  new = record_of c name end

  new-link : Link h.end new
  unfolding keeps
  new-link =
      record {
        kept = and-true _ _ p.long (and-true _ _ p.reason (eq-eqb end end refl));
        sound = record {
          sized = record {
            file = w.file;
            parent = w.parent;
            usn = p.low;
            time = w.time;
            reason = w.reason;
            source = w.source;
            security = w.security;
            attributes = shown-lt c.attributes w.attributes;
          };
          visible = refl;
          named = p.good;
          marked = shown-not c.attributes;
        };
      }

  room : end - h.end ≤ h.capacity
  room = omega (arith, record-short V3 name p.good, capacity-facts h.capacity m.shape.capacity)

  abbrev t : Shed
  t = shed h.capacity end h.first h.left

  old : Cut h.capacity end h.first h.left h.end t
  old = cut h.capacity end h.first h.left h.end m.shape.here room

  end_is : end_of j.volume name ≡ end
  end_is = ap (λ (x : ℕ). x + record_length V3 (length name)) l.last

  -- where the first position comes to stand
  from_is : oldest j.volume.capacity (end_of j.volume name) j.volume.first (kept j.volume j.ring) ≡ t.from
  from_is =
      ap₂ (λ (x : ℕ) (y : List Record). oldest x (end_of j.volume name) j.volume.first y) l.capacity (kept-live j h m l)
      ∙ ap₂ (λ (x y : ℕ). oldest h.capacity x y h.left) end_is l.first
      ∙ old.same

  -- journal and history after the post
  abbrev after : Journal
  after = with (at_positions j.volume t.from end) (placed j.ring (j.volume.last % length j.ring) (bytes_of new))

  abbrev grown : History
  grown = shed_to h end (snoc t new)

  added_is : added h c name ≡ grown
  unfolding added
  added_is = ap (shed_to h end) (old.more new)

  written_is : written j c name ≡ after
  unfolding posted_volume posted_ring
  written_is =
      ap₂ with (ap₂ (at_positions j.volume) from_is end_is)
      (ap (λ (x : ℕ). placed j.ring (j.volume.last % length j.ring) (bytes_of (record_of c name x))) end_is)

  after_kept : (length after.ring ≡ length j.ring) × (kept_bytes after.volume after.ring ≡ joined grown.left)
  after_kept =
      let k =
      posted-bytes j.volume j.ring t.gone t.rest t.from new
      (omega (arith, l.buffer, l.capacity, capacity-facts h.capacity m.shape.capacity))
      (subst (λ (x : ℕ). Chain x t.gone t.from) (sym l.first) old.gone)
      (subst (λ (x : ℕ). Chain t.from t.rest x) (sym l.last) old.rest)
      (l.bytes ∙ ap joined old.parts)
      (omega (arith, l.first, l.last, l.capacity, l.buffer, m.shape.span))
      (omega (arith, l.last, l.capacity, l.buffer, old.span)) in
      (k.0, ap (λ (x : ℕ). kept_bytes (at_positions j.volume t.from x) after.ring) (sym end_is) ∙ k.1)

  after-sim : Sim after grown
  after-sim =
      record {
        shape = record {
          gone = chain-append h.base h.dropped h.first t.gone t.from m.shape.gone old.gone;
          here = chain-append t.from t.rest h.end (new ∷ []) end old.rest (new-link, refl);
          low = p.low;
          first_eight = chain-eight h.first t.gone t.from old.gone m.shape.first_eight;
          end_eight = omega (arith, m.shape.end_eight);
          capacity = m.shape.capacity;
          span = old.span;
        };
        live = λ q. record {
          supported = l.supported;
          active = l.active;
          buffer = after_kept.0 ∙ l.buffer;
          capacity = l.capacity;
          id = l.id;
          first = refl;
          last = refl;
          points = l.points;
          bytes = after_kept.1;
        };
        dead = λ q. let l : h.live ≡ true = p.live in clash cc;
      }

  after-grow : Grow h grown
  after-grow =
      record {
        more = new ∷ [];
        parts =
            append_assoc h.dropped t.gone (t.rest ++ (new ∷ []))
            ∙ ap (λ (x : List Record). h.dropped ++ x) (sym (append_assoc t.gone t.rest (new ∷ [])) ∙ ap (λ (x : List Record). x ++ (new ∷ [])) (sym old.parts))
            ∙ sym (append_assoc h.dropped h.left (new ∷ []));
        chain = (new-link, refl);
        base = refl;
        calm = λ z. absurd (nil≢cons (sym z));
      }

  added_next : Sim (written j c name) (added h c name) × Grow h (added h c name)
  added_next = subst₂ (λ (x : Journal) (y : History). Sim x y × Grow h y) (sym written_is) (sym added_is) (after-sim, after-grow)

-- a journal that can't be used is left by a post
dead-post : (j : Journal) (c : Change) (name : List ℕ) → usable j ≡ false → {A : Type 0} (x y : A) → leaves (verdict j.volume j.ring c name) x y ≡ x
unfolding verdict post_check sound good_marks
dead-post j c name u {A} x y =
    go (supported j.volume.journal) (is_active j.volume) (eqb c.reason 0) (good_capacity j.volume.capacity)
    (eqb (length j.ring) j.volume.capacity) _ _ _ u
  where
    go : (s a z k e i b : Bool) (o : Option Status) → s && (a && e) ≡ false
        → leaves (cond (not s || (not a || z)) Skip (checked (else (unless ((k && (e && i)) && b) FileCorruptError) o))) x y ≡ x
    go false a z k e i b o u = refl
    go true false z k e i b o u = refl
    go true true true k e i b o u = refl
    go true true false k true i b o u = clash cc
    go true true false true false i b o u = refl
    go true true false false false i b o u = refl

-- a live journal takes a post exactly when its history does
module _ (j : Journal) (h : History) (m : Sim j h) (l : Live j h) (v : h.live ≡ true) (c : Change) (name : List ℕ) where
  skipped-live : skipped j.volume c ≡ eqb c.reason 0
  skipped-live = rw (l.supported, l.active)

  check-live : post_check j.volume j.ring name ≡ else (unless (posted_name name) InvalidParameter) (unless (ltb (end_with h name) (2 ^ 63)) DiskFull)
  unfolding post_check
  check-live =
      ap₂ (λ (x : Bool) (y : ℕ). else (unless x FileCorruptError) (else (unless (posted_name name) InvalidParameter)
      (unless (ltb (y + record_length V3 (length name)) (2 ^ 63)) DiskFull))) (sound-live j h m l) l.last

  live-post : {A : Type 0} (x y : A) → leaves (verdict j.volume j.ring c name) x y ≡ cond (is_posted h c name) y x
  unfolding verdict
  live-post {A} x y =
      ap₂ (λ (z : Bool) (o : Option Status). leaves (cond z Skip (checked o)) x y) skipped-live check-live
      ∙ go (eqb c.reason 0) (posted_name name) (ltb (end_with h name) (2 ^ 63))
      ∙ ap (λ (z : Bool). cond z y x) (sym (posted-live h c name v))
    where
      go : (z n e : Bool) → leaves (cond z Skip (checked (else (unless n InvalidParameter) (unless e DiskFull)))) x y ≡ cond (not z && (n && e)) y x
      go true n e = refl
      go false false e = refl
      go false true true = refl
      go false true false = refl

-- ---- one effect

-- posting nothing, the history stays, or it is closed
pub grow-same : (h : History) → Grow h h
grow-same h = record { more = []; parts = sym (append-nil (posted h)); chain = refl; base = refl; calm = λ q. refl }

grow-closed : (h : History) → Grow h (closed h)
grow-closed h = record { more = []; parts = sym (append-nil (posted h)); chain = refl; base = refl; calm = λ q. refl }

-- what a verdict leaves of the whole journal
leaves-both : (d : Verdict) (v w : Volume) (r s : List ℕ) → with (leaves d v w) (leaves d r s) ≡ leaves d (with v r) (with w s)
leaves-both Skip v w r s = refl
leaves-both (Reject x) v w r s = refl
leaves-both Accept v w r s = refl

pub active-none : (v : Volume) → is_active v ≡ true → active_check v ≡ None
active-none v e = ap (λ (x : ℕ). else (unless (not (eqb x 2)) JournalDeleteInProgress) (unless (eqb x 1) JournalNotActive)) (eqb-true v.state 1 e)

cond_same : {A : Type 0} (b : Bool) {x y : A} → x ≡ y → cond b x y ≡ y
cond_same true e = e
cond_same false e = refl

note-posted : (h : History) (p : Posting) (b : Bool) → is_posted h p.change p.name ≡ b → note_post h p ≡ cond b (added h p.change p.name) h
unfolding note_post
note-posted h p b q = rw q

note-closes : (h : History) (id : ℕ) → eqb id h.id ≡ true → note_delete h id ≡ closed h
unfolding note_delete
note-closes h id q = rw q

note-keeps : (h : History) (id : ℕ) → eqb id h.id ≡ false → note_delete h id ≡ h
unfolding note_delete
note-keeps h id q = rw q

module _ (j : Journal) (h : History) (m : Sim j h) where
  abbrev Next : Journal → History → Type 0
  Next k g = Sim k g × Grow h g

  stay : Next j h
  stay = (m, grow-same h)

  -- a post
  module _ (p : Posting) where
    post_is : after_post j p ≡ leaves (verdict j.volume j.ring p.change p.name) j (written j p.change p.name)
    post_is =
        leaves-both (verdict j.volume j.ring p.change p.name) j.volume (posted_volume j.volume j.ring p.name) j.ring
        (posted_ring j.volume j.ring p.change p.name)

    post-live : Widths p.change → h.live ≡ true → (b : Bool) → is_posted h p.change p.name ≡ b
        → Next (cond b (written j p.change p.name) j) (cond b (added h p.change p.name) h)
    post-live w v true q = added_next j h m (m.live v) p.change p.name w (accepted h p.change p.name v q)
    post-live w v false q = stay

    post-dead : h.live ≡ false → after_post j p ≡ j
    post-dead v = post_is ∙ dead-post j p.change p.name (m.dead v) j (written j p.change p.name)

    note-dead : h.live ≡ false → note_post h p ≡ h
    unfolding is_posted
    note-dead v = note-posted h p false (rw v)

    post-step : Widths p.change → Next (after_post j p) (note_post h p)
    post-step w = by h.live refl
      where
        by : (v : Bool) → h.live ≡ v → Next (after_post j p) (note_post h p)
        by true v =
            subst₂ Next (sym (post_is ∙ live-post j h m (m.live v) v p.change p.name j (written j p.change p.name))) (sym (note-posted h p _ refl))
            (post-live w v (is_posted h p.change p.name) refl)
        by false v = subst₂ Next (sym (post-dead v)) (sym (note-dead v)) stay

    -- the post of a set or a delete of a reparse point
    point-step : Widths p.change → Next (cond (passes (points_check j.volume)) (after_post j p) j) (note_point h p)
    point-step w = by h.live refl
      where
        both : (b : Bool) → Next (cond b (after_post j p) j) (cond b (note_post h p) h)
        both true = post-step w
        both false = stay

        by : (v : Bool) → h.live ≡ v → Next (cond (passes (points_check j.volume)) (after_post j p) j) (note_point h p)
        by true v = subst (λ (b : Bool). Next (cond b (after_post j p) j) (note_point h p)) (sym (m.live v).points) (both h.points)
        by false v =
            subst₂ Next (sym (cond_same (passes (points_check j.volume)) (post-dead v))) (sym (cond_same h.points (note-dead v))) stay

  -- a deletion
  module _ (id : ℕ) where
    abbrev deletes : Option Status → Journal
    deletes o = with (performed o j.volume (in_state j.volume 2)).volume j.ring

    -- a journal that can't be used stays so
    delete-dead : usable j ≡ false → usable (after_delete j id) ≡ false
    delete-dead u =
        either (delete_check j.volume id) j.volume (in_state j.volume 2) (λ (x : Volume). usable (with x j.ring) ≡ false) u
        (unusable (in_state j.volume 2) j.ring refl)

    -- a live one is deleted if the id is its own
    delete-live : h.live ≡ true → (e : Bool) → eqb id h.id ≡ e → after_delete j id ≡ deletes (unless e InvalidParameter)
    delete-live v e q =
        let l = m.live v in
        ap (λ (o : Option Status). deletes (else o (unless (eqb id j.volume.id) InvalidParameter))) (active-none j.volume l.active)
        ∙ ap (λ (x : Bool). deletes (unless x InvalidParameter)) (ap (eqb id) l.id ∙ q)

    delete-step : Next (after_delete j id) (note_delete h id)
    delete-step = by (eqb id h.id) refl h.live refl
      where
        shut : usable (after_delete j id) ≡ false → Next (after_delete j id) (closed h)
        shut u = (closed-sim j (after_delete j id) h m u, grow-closed h)

        by : (e : Bool) → eqb id h.id ≡ e → (v : Bool) → h.live ≡ v → Next (after_delete j id) (note_delete h id)
        by true q true v = rw (note-closes h id q) (shut (ap usable (delete-live v true q) ∙ unusable (in_state j.volume 2) j.ring refl))
        by true q false v = rw (note-closes h id q) (shut (delete-dead (m.dead v)))
        by false q true v = rw (note-keeps h id q, delete-live v false q) stay
        by false q false v = rw (note-keeps h id q) (dead-sim j (after_delete j id) h m v (delete-dead (m.dead v)), grow-same h)

  -- a live history's journal can be used
  live-usable : h.live ≡ true → usable j ≡ true
  live-usable v =
      let l = m.live v in
      and-true _ _ l.supported (and-true _ _ l.active (eq-eqb _ _ l.buffer))

  nothing-step : (k : Journal) → usable j ≡ false → usable k ≡ false → Next k h
  nothing-step k u w = by h.live refl
    where
      by : (v : Bool) → h.live ≡ v → Next k h
      by true v = let z : usable j ≡ true = live-usable v in clash cc
      by false v = (dead-sim j k h m v w, grow-same h)

  effect-step : (e : Effect) (k : Called) → Does j e k → TypedEffect e → (is_opening e ≡ true → k.status ≡ Success → ⊥) → Next k.journal (note_effect h e)
  effect-step (opens at id ps) k d t r = subst (λ (x : Journal). Next x h) (sym (d.1 (r refl))) stay
  effect-step (posts p) k d t r = subst (λ (x : Journal). Next x (note_post h p)) (sym d) (post-step p t)
  effect-step (point_posts p) k d t r = subst (λ (x : Journal). Next x (note_point h p)) (sym d) (point-step p t)
  effect-step (closes id) k d t r = subst (λ (x : Journal). Next x (note_delete h id)) (sym d) (delete-step id)
  effect-step nothing k (inl d) t r = subst (λ (x : Journal). Next x h) (sym d) stay
  effect-step nothing k (inr d) t r = nothing-step k.journal d.0 d.1

  pub sim-step : (c : Call) → Typed c → CreatesNone j c → Sim (next j c) (note h c) × Grow h (note h c)
  sim-step c t r = effect-step (effect c) (called j c) (does j c) (typed-effect c t) r

-- ---- an opening that succeeds

module _ (j : Journal) (p id : ℕ) (cap : good_capacity j.volume.capacity ≡ true) (pos : good_position p ≡ true) where
  opened-sim : Sim (emptied j p id) (opened j.volume (length j.ring) p id)
  unfolding opened
  opened-sim =
      let f = position-facts p pos in
      record {
        shape = record { gone = refl; here = refl; low = f.1; first_eight = f.0; end_eight = f.0; capacity = cap; span = omega arith };
        live = λ q. record {
          supported = and_left (supported j.volume.journal) _ q;
          active = refl;
          buffer = eqb-true _ _ (and_right (supported j.volume.journal) _ q);
          capacity = refl;
          id = refl;
          first = refl;
          last = refl;
          points = refl;
          bytes = empty-kept (emptied j p id).volume j.ring refl;
        };
        dead = λ q. q;
      }

posts-sim : (ps : List Posting) (j : Journal) (h : History) → Sim j h → AllWidths ps → Sim (after_posts j ps) (note_posts h ps)
posts-sim [] j h m w = m
posts-sim (p ∷ ps) j h m w = posts-sim ps (after_post j p) (note_post h p) (post-step j h m p w.0).0 w.1

effect-opens : (j : Journal) (e : Effect) (k : Called) (h : History) → Does j e k → TypedEffect e → k.status ≡ Success
    → opened_by j.volume (length j.ring) e ≡ Some h → Sim k.journal h
effect-opens j (opens at id ps) k h d t s o =
    let g = d.0 s in
    let p : ℕ = at j.volume in
    let z : note_posts (opened j.volume (length j.ring) p id) ps ≡ h = cc in
    subst₂ Sim (sym g.journal) z (posts-sim ps (emptied j p id) (opened j.volume (length j.ring) p id) (opened-sim j p id g.capacity g.position) t)
effect-opens j (posts p) k h d t s o = clash cc
effect-opens j (point_posts p) k h d t s o = clash cc
effect-opens j (closes id) k h d t s o = clash cc
effect-opens j nothing k h d t s o = clash cc

-- what a call opens goes together with its history
pub opening-sim : (j : Journal) (c : Call) (h : History) → Typed c → status_of j c ≡ Success → opening j.volume (length j.ring) c ≡ Some h → Sim (next j c) h
opening-sim j c h t s o = effect-opens j (effect c) (called j c) h (does j c) (typed-effect c t) s o

-- ---- lists of calls

pub sim-run : (cs : List Call) (j : Journal) (h : History) → Sim j h → AllTyped cs → NoCreation j cs → Sim (runs j cs) (notes h cs)
sim-run [] j h m t r = m
sim-run (c ∷ cs) j h m t r = sim-run cs (next j c) (note h c) (sim-step j h m c t.0 r.0).0 t.1 r.1

pub nil-parts : (x y : List Record) → x ++ y ≡ [] → (x ≡ []) × (y ≡ [])
nil-parts [] y q = (refl, q)
nil-parts (r ∷ x) y q = absurd (nil≢cons (sym q))

pub grow-trans : (a b c : History) → Grow a b → Grow b c → Grow a c
grow-trans a b c g h =
    record {
      more = g.more ++ h.more;
      parts = h.parts ∙ ap (λ (x : List Record). x ++ h.more) g.parts ∙ append_assoc (posted a) g.more h.more;
      chain = chain-append a.end g.more b.end h.more c.end g.chain h.chain;
      base = h.base ∙ g.base;
      calm = λ q. let n = nil-parts g.more h.more q in h.calm n.1 ∙ g.calm n.0;
    }

pub grow-run : (cs : List Call) (j : Journal) (h : History) → Sim j h → AllTyped cs → NoCreation j cs → Grow h (notes h cs)
grow-run [] j h m t r = grow-same h
grow-run (c ∷ cs) j h m t r =
    let k = sim-step j h m c t.0 r.0 in
    grow-trans h (note h c) (notes (note h c) cs) k.1 (grow-run cs (next j c) (note h c) k.0 t.1 r.1)
