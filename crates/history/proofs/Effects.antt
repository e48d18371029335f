-- What a call does to the journal, by its effect: one relation over effects, and one law with a row for each call.
-- Assumes nothing.
use mathlib.Core.Path.{◌≡◌, refl, sym, ap, ◌∙◌}
use mathlib.Core.Logic.{◌⊎◌, inl, inr}
use mathlib.Core.Bool.{Bool, true, false, not, and-false, cond, ◌&&◌, ◌||◌}
use Rattle.std.specs.Prelude.{Option, None, Some}
use mathlib.Core.List.{List, [], ◌∷◌, map}
use Prim.Native.Nat.{ℕ}
use native.Mathlib.Omega.{arith}
use lib.Dec.{eqb}
use lib.ListN.{length}
use Rattle.le.specs.Bytes.{Bytes}
use Rattle.le.proofs.Runs.{and_left, and_right}
use Rattle.status.specs.declared.Status.{Status}
use Rattle.status.specs.declared.Status.TheVariants.{Success, InvalidParameter, FileCorruptError, JournalDeleteInProgress, JournalNotActive}
use Rattle.status.specs.Check.{unless, else, passes}
use Rattle.volume.specs.declared.Volume.{Volume}
use Rattle.volume.specs.State.{supported, is_active, is_deleting, good_capacity, good_position}
use Rattle.volume.specs.Calls.{performed, in_state, at_positions, create_check, created, delete_outcome, finish_check}
use Rattle.usn_record.specs.Layout.{Record}
use Rattle.records.proofs.Runs.{AllSound}
use Rattle.journal_post.specs.declared.Verdict.{Verdict}
use Rattle.journal_post.specs.declared.Verdict.TheVariants.{Skip, Reject, Accept}
use Rattle.journal_post.specs.Post.{verdict, leaves, rejection}
use Rattle.journal_post.specs.Posts.{Journal, Posting, after_post, after_posts}
use Rattle.image.specs.Image.{Image}
use Rattle.image.specs.Forms.{stored}
use Rattle.image.proofs.RoundTrip.{fitting}
use Rattle.image.proofs.Forms.{stored-fit, stored-storable}
use Rattle.image_load.specs.Load.{posting_of, restored, settled, load_check}
use Rattle.image_load.proofs.Restoring.{load-none, load-passed, load-succeeds, created-made}
use Rattle.reparse_point.specs.Reparse.{points_check}
use Rattle.reparse_update.specs.declared.Update.{Update}
use Rattle.reparse_update.specs.Update.{Point, given_check, point_posting, update_check, left_by}
use Rattle.history.specs.Calls.{Call, create, post, read, delete, finish, save, load, update, Called, leaving, called, Effect, opens, posts, point_posts, closes, nothing, load_effect, update_effect, effect, Widths, Typed}

pub clash : {A : Type 0} → ◌≡◌ {A = ℕ} 0 1 → A
clash z = absurd (omega arith)

pub and-true : (a b : Bool) → a ≡ true → b ≡ true → a && b ≡ true
and-true a b p q = rw (p, q)

-- ---- the relation

-- can anything be read or posted?
abbrev pub usable : Journal → Bool
usable j = supported j.volume.journal && (is_active j.volume && eqb (length j.ring) j.volume.capacity)

abbrev pub with : Volume → List ℕ → Journal
with v ring = record { volume = v; ring = ring }

-- the journal just created at position p
abbrev pub emptied : Journal → ℕ → ℕ → Journal
emptied j p id = with (created (at_positions j.volume p p) id) j.ring

abbrev pub after_delete : Journal → ℕ → Journal
after_delete j id = with (delete_outcome j.volume id).volume j.ring

-- j is opened at p as k, with these posts
pub record Opens (j : Journal) (p id : ℕ) (ps : List Posting) (k : Journal) : Type 0 where
  pub capacity : good_capacity j.volume.capacity ≡ true
  pub position : good_position p ≡ true
  pub journal : k ≡ after_posts (emptied j p id) ps

-- what a call with this effect on j answers and leaves
abbrev pub Does : Journal → Effect → Called → Type 0
Does j (opens at id ps) k = (k.status ≡ Success → Opens j (at j.volume) id ps k.journal) × ((k.status ≡ Success → ⊥) → k.journal ≡ j)
Does j (posts p) k = k.journal ≡ after_post j p
Does j (point_posts p) k = k.journal ≡ cond (passes (points_check j.volume)) (after_post j p) j
Does j (closes id) k = k.journal ≡ after_delete j id
Does j nothing k = (k.journal ≡ j) ⊎ ((usable j ≡ false) × (usable k.journal ≡ false))

-- ---- a call that changes only the volume record, or is refused

pub either : (o : Option Status) (v w : Volume) (P : Volume → Type 0) → P v → P w → P (performed o v w).volume
either None v w P p q = q
either (Some x) v w P p q = p

refused : (o : Option Status) (v w : Volume) → ((performed o v w).status ≡ Success → ⊥) → (performed o v w).volume ≡ v
refused None v w n = absurd (n refl)
refused (Some x) v w n = refl

-- only an active journal can be used
pub unusable : (v : Volume) (ring : List ℕ) → is_active v ≡ false → usable (with v ring) ≡ false
unusable v ring q = ap (λ (x : Bool). supported v.journal && (x && eqb (length ring) v.capacity)) q ∙ and-false (supported v.journal)

created-check : (v w : Volume) (a b c d : Bool)
    → let k = else (unless a JournalDeleteInProgress) (else (unless b InvalidParameter) (else (unless c InvalidParameter) (unless d FileCorruptError))) in
    (performed k v w).status ≡ Success → (d ≡ true) × ((performed k v w).volume ≡ w)
created-check v w true true true true e = (refl, refl)
created-check v w true true true false e = clash cc
created-check v w true true false d e = clash cc
created-check v w true false c d e = clash cc
created-check v w false b c d e = clash cc

-- ---- each call has its effect

create-opens : (j : Journal) (id : ℕ) → (called j (create id)).status ≡ Success → Opens j j.volume.last id [] (called j (create id)).journal
create-opens j id e =
    let v : Volume = j.volume in
    let k =
    created-check v (created v id) (not (is_deleting v)) (not (is_active v)) (not (eqb id 0) && not (eqb id v.id)) (good_capacity v.capacity && good_position v.last) e in
    record {
      capacity = and_left (good_capacity v.capacity) _ k.0;
      position = and_right (good_capacity v.capacity) _ k.0;
      journal = ap (λ (x : Volume). with x j.ring) k.1;
    }

create-refused : (j : Journal) (id : ℕ) → ((called j (create id)).status ≡ Success → ⊥) → (called j (create id)).journal ≡ j
create-refused j id n = ap (λ (x : Volume). with x j.ring) (refused (create_check j.volume id) j.volume (created j.volume id) n)

finish-does : (j : Journal) → Does j (effect finish) (called j finish)
finish-does j = by (is_active j.volume) refl
  where
    by : (b : Bool) → is_active j.volume ≡ b → Does j nothing (called j finish)
    by true q =
        inl
        (ap (λ (x : Bool). with (performed (else (unless (x || is_deleting j.volume) JournalNotActive) (unless (not x) InvalidParameter)) j.volume (in_state j.volume 0)).volume j.ring)
        q)
    by false q =
        let u : usable j ≡ false = unusable j.volume j.ring q in
        inr (u, either (finish_check j.volume) j.volume (in_state j.volume 0) (λ (x : Volume). usable (with x j.ring) ≡ false) u (unusable (in_state j.volume 0) j.ring refl))

-- a load
module _ (j : Journal) (s : List ℕ) (id : ℕ) where
  abbrev check : Option Status
  check = load_check j.volume (length j.ring) s id

  abbrev ends : Option Status → Option Image → Called
  ends o i = leaving (performed o j.volume (restored j id i).volume) (settled o j.ring (restored j id i).ring)

  ends-refused : (o : Option Status) (i : Option Image) → ((ends o i).status ≡ Success → ⊥) → (ends o i).journal ≡ j
  ends-refused None i n = absurd (n refl)
  ends-refused (Some x) i n = refl

  loads-none : stored s ≡ None → (ends check None).journal ≡ j
  loads-none e = let k = load-none j.volume (length j.ring) s id e in ap (λ (o : Option Status). (ends o None).journal) k.1

  loads-some : (i : Image) → stored s ≡ Some i → (ends check (Some i)).status ≡ Success → Opens j i.first id (map posting_of i.records) (ends check (Some i)).journal
  loads-some i e q =
      let c : check ≡ None = load-succeeds j.volume (length j.ring) s id (restored j id (Some i)).volume q in
      let p = load-passed j.volume (length j.ring) s id i e c in
      let f = fitting i.first i.records (stored-fit s i e) in
      record {
        capacity = p.capacity;
        position = f.position;
        journal =
            ap (λ (o : Option Status). (ends o (Some i)).journal) c
            ∙ ap (λ (k : Journal). after_posts k (map posting_of i.records)) (created-made j.volume j.ring id i f.position p);
      }

  load_does : Does j (load_effect id (stored s)) (called j (load s id))
  load_does = by (stored s) refl
    where
      by : (o : Option Image) → stored s ≡ o → Does j (load_effect id o) (ends check o)
      by None e = inl (loads-none e)
      by (Some i) e = (loads-some i e, ends-refused check (Some i))

-- a set or a delete of a reparse point, by what its checks come to: a refusal leaves the journal, and so would the post that it comes from
module _ (j : Journal) (u : Update) (p : Point) (q : Posting) (input : List ℕ) where
  abbrev sets : Option Status → Point → Called
  sets o k = let l = left_by o j p (after_post j (point_posting q)) k in record { status = l.status; journal = l.journal }

  abbrev judgement : Verdict
  judgement = verdict j.volume j.ring (point_posting q).change q.name

  abbrev posted : Option Status → Journal
  posted o = cond (passes o) (after_post j (point_posting q)) j

  rejects : (d : Verdict) (v w : Volume) (r s : List ℕ) (k : Point)
      → (left_by (rejection d) (with v r) p (with (leaves d v w) (leaves d r s)) k).journal ≡ with (leaves d v w) (leaves d r s)
  rejects Skip v w r s k = refl
  rejects (Reject x) v w r s k = refl
  rejects Accept v w r s k = refl

  update-does : Does j (effect (update u p q input)) (called j (update u p q input))
  unfolding update_check
  update-does = by (points_check j.volume) (given_check u p.file (length p.store) input) _ refl
    where
      by : (a b : Option Status) (k : Point) → points_check j.volume ≡ a → Does j (update_effect b (point_posting q)) (sets (else a (else b (rejection judgement))) k)
      by None None k e = rejects judgement j.volume _ j.ring _ k ∙ sym (ap posted e)
      by (Some x) None k e = sym (ap posted e)
      by None (Some y) k e = inl refl
      by (Some x) (Some y) k e = inl refl

pub does : (j : Journal) (c : Call) → Does j (effect c) (called j c)
does j (create id) = (create-opens j id, create-refused j id)
does j (post p) = refl
does j (read a) = inl refl
does j (delete id) = refl
does j finish = finish-does j
does j (save form room) = inl refl
does j (load s id) = load_does j s id
does j (update u p q input) = update-does j u p q input

-- ---- the arguments of a call give its effect's postings their types

abbrev pub AllWidths : List Posting → Type 0
AllWidths [] = Unit {0}
AllWidths (p ∷ ps) = Widths p.change × AllWidths ps

abbrev pub TypedEffect : Effect → Type 0
TypedEffect (opens at id ps) = AllWidths ps
TypedEffect (posts p) = Widths p.change
TypedEffect (point_posts p) = Widths p.change
TypedEffect (closes id) = Unit {0}
TypedEffect nothing = Unit {0}

record-widths : (rs : List Record) → AllSound rs → AllWidths (map posting_of rs)
record-widths [] k = tt
record-widths (r ∷ rs) k =
    let z = k.0.sized in
    (record { file = z.file; parent = z.parent; time = z.time; reason = z.reason; source = z.source; security = z.security; attributes = z.attributes }, record-widths rs k.1)

load_typed : (s : List ℕ) (id : ℕ) (o : Option Image) → Bytes s → stored s ≡ o → TypedEffect (load_effect id o)
load_typed s id None b e = tt
load_typed s id (Some i) b e = record-widths i.records (stored-storable s i b e).sound

pub typed-effect : (c : Call) → Typed c → TypedEffect (effect c)
typed-effect (create id) t = tt
typed-effect (post p) t = t
typed-effect (read a) t = tt
typed-effect (delete id) t = tt
typed-effect finish t = tt
typed-effect (save form room) t = tt
typed-effect (load s id) t = load_typed s id (stored s) t refl
typed-effect (update u p q input) t = by (given_check u p.file (length p.store) input)
  where
    by : (o : Option Status) → TypedEffect (update_effect o (point_posting q))
    by None = record { file = t.file; parent = t.parent; time = t.time; reason = omega arith; source = t.source; security = t.security; attributes = t.attributes }
    by (Some x) = tt
