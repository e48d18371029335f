-- Filters over chains of records, the boundaries behind which a reader reads, and the page that a read takes from there.
-- Assumes nothing.
use mathlib.Core.Path.{◌≡◌, refl, sym, ap, ap₂, ◌∙◌, subst₂}
use mathlib.Core.Logic.{◌⊎◌, inl, inr}
use mathlib.Core.Bool.{and-false, Bool, true, false, not, cond, ◌&&◌, ◌||◌}
use Rattle.std.specs.Prelude.{Option, None, Some}
use mathlib.Core.List.Memᴰ
use mathlib.Core.List.{List, [], ◌∷◌, ◌++◌, Memᴰ, append_assoc}
use Prim.Native.Nat.{ℕ, ◌-◌, ◌^◌, ◌≤◌, ◌<◌}
use native.Mathlib.Omega.{arith}
use lib.Bits.{bit_and}
use lib.Dec.{leb, ltb, eqb}
use lib.ListN.{length}
use borrow.Author.Tests.{ltb-true, ltb-false, eqb-true, lt-ltb, le-ltb, le-leb, lt-leb, eq-eqb, ne_eqb}
use Rattle.le.proofs.Runs.{and_left}
use Rattle.status.specs.declared.Status.{Status}
use Rattle.usn_record.specs.declared.Version.{Version}
use Rattle.usn_record.specs.Layout.{shows, Record, length_of, in_version}
use Rattle.records.specs.Records.{all_shown}
use Rattle.journal.specs.Boundary.{records_after}
use Rattle.journal_page.specs.declared.Filter.{Filter}
use Rattle.journal_page.specs.Select.{wanted, selects}
use Rattle.kept_writer.specs.Kept.{fits}
use Rattle.journal_page.specs.Page.{stops, Page, page_step, page_of, page_check}
use Rattle.history.specs.Reading.{Alike}
use Rattle.history.specs.Demand.{keep, filter, between, above}
use Rattle.journal_post.proofs.Links.{Link, Chain, chain-le, link-rises, link-short}
use Rattle.history.proofs.Effects.{clash, and-true}

-- ---- filters

pub filter-append : (f : Record → Bool) (l m : List Record) → filter f (l ++ m) ≡ filter f l ++ filter f m
filter-append f [] m = refl
filter-append f (r ∷ rs) m = go (f r) (filter-append f rs m)
  where
    go : (b : Bool) → filter f (rs ++ m) ≡ filter f rs ++ filter f m → keep b r (filter f (rs ++ m)) ≡ keep b r (filter f rs) ++ filter f m
    go true ih = ap (λ (t : List Record). r ∷ t) ih
    go false ih = ih

pub filter-chain : (f g : Record → Bool) (p : ℕ) (l : List Record) (e : ℕ) → Chain p l e
    → ((r : Record) → p < r.fields.usn → r.fields.usn ≤ e → f r ≡ g r) → filter f l ≡ filter g l
filter-chain f g p [] e h same = refl
filter-chain f g p (r ∷ rs) e h same =
    ap₂ (λ (b : Bool) (t : List Record). keep b r t) (same r (link-rises p r h.0) (chain-le r.fields.usn rs e h.1))
    (filter-chain f g r.fields.usn rs e h.1 (λ x lo hi. same x (omega (arith, link-rises p r h.0)) hi))

pub filter-all : (l : List Record) → filter (λ (r : Record). true) l ≡ l
filter-all [] = refl
filter-all (r ∷ rs) = ap (λ (t : List Record). r ∷ t) (filter-all rs)

pub filter_none : (l : List Record) → filter (λ (r : Record). false) l ≡ []
filter_none [] = refl
filter_none (r ∷ rs) = filter_none rs

pub between-append : (a b : ℕ) (l m : List Record) → between a b (l ++ m) ≡ between a b l ++ between a b m
unfolding between
between-append a b l m = filter-append _ l m

module _ (a b p : ℕ) (l : List Record) (e : ℕ) (h : Chain p l e) where
  pub between-all : a ≤ p → e ≤ b → between a b l ≡ l
  unfolding between
  between-all k j =
      filter-chain _ (λ (r : Record). true) p l e h (λ r lo hi. and-true _ _ (lt-ltb a _ (omega arith)) (le-leb _ b (omega arith)))
      ∙ filter-all l

  pub between-high : b ≤ p → between a b l ≡ []
  unfolding between
  between-high k =
      filter-chain _ (λ (r : Record). false) p l e h (λ r lo hi. rw (lt-leb r.fields.usn b (omega arith)) (and-false (ltb a r.fields.usn)))
      ∙ filter_none l

  pub between-top : (c : ℕ) → e ≤ b → e ≤ c → between a b l ≡ between a c l
  unfolding between
  between-top c k j = filter-chain _ _ p l e h (λ r lo hi. rw (le-leb r.fields.usn b (omega arith), le-leb r.fields.usn c (omega arith)))

pub above_low : (a p : ℕ) (l : List Record) (e : ℕ) → Chain p l e → e ≤ a → above a l ≡ []
unfolding above
above_low a p l e h k = filter-chain _ (λ (r : Record). false) p l e h (λ r lo hi. le-ltb a r.fields.usn (omega arith)) ∙ filter_none l

pub above-all : (a p : ℕ) (l : List Record) (e : ℕ) → Chain p l e → a ≤ p → above a l ≡ l
unfolding above
above-all a p l e h k = filter-chain _ (λ (r : Record). true) p l e h (λ r lo hi. lt-ltb a r.fields.usn (omega arith)) ∙ filter-all l

pub above-append : (a : ℕ) (l m : List Record) → above a (l ++ m) ≡ above a l ++ above a m
unfolding above
above-append a l m = filter-append _ l m

-- ---- boundaries

pub after-here : (f p : ℕ) (l : List Record) → f ≡ p → records_after f p l ≡ Some l
unfolding records_after
after-here f p [] h = rw (eq-eqb f p h)
after-here f p (r ∷ rs) h = rw (eq-eqb f p h)

pub after_next : (f p : ℕ) (r : Record) (l : List Record) → f < p → records_after f p (r ∷ l) ≡ records_after r.fields.usn p l
unfolding records_after
after_next f p r l h = rw (ne_eqb f p (λ q. omega arith))

pub after-drop : (b : ℕ) (d : List Record) (f p : ℕ) (l : List Record) → Chain b d f → f ≤ p → records_after b p (d ++ l) ≡ records_after f p l
after-drop b [] f p l h k = ap (λ (x : ℕ). records_after x p l) h
after-drop b (r ∷ rs) f p l h k =
    after_next b p r (rs ++ l) (omega (arith, link-rises b r h.0, chain-le r.fields.usn rs f h.1))
    ∙ after-drop r.fields.usn rs f p l h.1 k

-- a list split at a boundary
pub record Boundary (f p : ℕ) (l t : List Record) (e : ℕ) : Type 0 where
  pub before : List Record
  pub parts : l ≡ before ++ t
  pub upto : Chain f before p
  pub beyond : Chain p t e

boundary-here : (f p : ℕ) (l t : List Record) (e : ℕ) → Chain f l e → eqb f p ≡ true → Some l ≡ Some t → Boundary f p l t e
boundary-here f p l t e h q k =
    let s : l ≡ t = cc in
    let z : f ≡ p = eqb-true f p q in
    record { before = []; parts = s; upto = z; beyond = subst₂ (λ (x : ℕ) (y : List Record). Chain x y e) z s h }

pub boundary : (f p : ℕ) (l t : List Record) (e : ℕ) → Chain f l e → records_after f p l ≡ Some t → Boundary f p l t e
unfolding records_after
boundary f p [] t e h k = go (eqb f p) refl k
  where
    go : (b : Bool) → eqb f p ≡ b → cond b (Some []) None ≡ Some t → Boundary f p [] t e
    go true q k = boundary-here f p [] t e h q k
    go false q k = clash cc
boundary f p (r ∷ rs) t e h k = go (eqb f p) refl k (boundary r.fields.usn p rs t e h.1)
  where
    go : (b : Bool) → eqb f p ≡ b → cond b (Some (r ∷ rs)) (records_after r.fields.usn p rs) ≡ Some t
        → (records_after r.fields.usn p rs ≡ Some t → Boundary r.fields.usn p rs t e)
        → Boundary f p (r ∷ rs) t e
    go true q k ih = boundary-here f p (r ∷ rs) t e h q k
    go false q k ih =
        let g = ih k in
        record { before = r ∷ g.before; parts = ap (λ (x : List Record). r ∷ x) g.parts; upto = (h.0, g.upto); beyond = g.beyond }

-- the boundary found again, behind what stood before it
pub after-boundary : (f p : ℕ) (l t : List Record) → Chain f l p → records_after f p (l ++ t) ≡ Some t
after-boundary f p l t h = after-drop f l p p t h (omega arith) ∙ after-here p p t refl

pub after-append : (f p : ℕ) (l t m : List Record) (e : ℕ) → Chain f l e → records_after f p l ≡ Some t → records_after f p (l ++ m) ≡ Some (t ++ m)
after-append f p l t m e h k =
    let g = boundary f p l t e h k in
    ap (λ (x : List Record). records_after f p (x ++ m)) g.parts
    ∙ ap (records_after f p) (append_assoc g.before t m)
    ∙ after-boundary f p g.before (t ++ m) g.upto

pub mem-range : (f : ℕ) (l : List Record) (e : ℕ) (r : Record) → Chain f l e → Memᴰ r l → (f < r.fields.usn) × (r.fields.usn ≤ e)
mem-range f [] e r h m = absurd (Memᴰ.not-nil m)
mem-range f (x ∷ xs) e r h m = go (Memᴰ.cases_cons m) (mem-range x.fields.usn xs e r h.1)
  where
    go : (r ≡ x) ⊎ Memᴰ r xs → (Memᴰ r xs → (x.fields.usn < r.fields.usn) × (r.fields.usn ≤ e))
        → (f < r.fields.usn) × (r.fields.usn ≤ e)
    go (inl q) ih =
        let u : r.fields.usn ≡ x.fields.usn = ap (λ (y : Record). y.fields.usn) q in
        (omega (arith, link-rises f x h.0), omega (arith, chain-le x.fields.usn xs e h.1))
    go (inr n) ih = (omega (arith, link-rises f x h.0, (ih n).0), (ih n).1)

pub after-mem : (f : ℕ) (l : List Record) (e : ℕ) (r : Record) → Chain f l e → Memᴰ r l
    → (t : List Record) × (records_after f r.fields.usn l ≡ Some t)
after-mem f [] e r h m = absurd (Memᴰ.not-nil m)
after-mem f (x ∷ xs) e r h m = go (Memᴰ.cases_cons m) (after-mem x.fields.usn xs e r h.1)
  where
    next : records_after f r.fields.usn (x ∷ xs) ≡ records_after x.fields.usn r.fields.usn xs
    next = after_next f r.fields.usn x xs (mem-range f (x ∷ xs) e r h m).0

    go : (r ≡ x) ⊎ Memᴰ r xs → (Memᴰ r xs → (t : List Record) × (records_after x.fields.usn r.fields.usn xs ≡ Some t))
        → (t : List Record) × (records_after f r.fields.usn (x ∷ xs) ≡ Some t)
    go (inl q) ih = (xs, next ∙ after-here x.fields.usn r.fields.usn xs (ap (λ (y : Record). y.fields.usn) (sym q)))
    go (inr n) ih = let k = ih n in (k.0, next ∙ k.1)

-- a record above p, if the chain goes on above p
pub some-above : (f : ℕ) (l : List Record) (e p : ℕ) → Chain f l e → f ≤ p → p < e → (r : Record) × Memᴰ r l × (p < r.fields.usn)
some-above f [] e p h lo hi = absurd (omega arith)
some-above f (x ∷ xs) e p h lo hi = go (ltb p x.fields.usn) refl (some-above x.fields.usn xs e p h.1)
  where
    go : (b : Bool) → ltb p x.fields.usn ≡ b
        → (x.fields.usn ≤ p → p < e → (r : Record) × Memᴰ r xs × (p < r.fields.usn))
        → (r : Record) × Memᴰ r (x ∷ xs) × (p < r.fields.usn)
    go true q ih = (x, Memᴰ.head refl, ltb-true p x.fields.usn q)
    go false q ih = let k = ih (ltb-false p x.fields.usn q) hi in (k.0, Memᴰ.tail k.1, k.2)

-- ---- the read loop

pub record Split (f : Filter) (p : ℕ) (l : List Record) (e : ℕ) (c : Page) : Type 0 where
  pub taken : List Record
  pub remain : List Record
  pub parts : l ≡ taken ++ remain
  pub upto : Chain p taken c.position
  pub beyond : Chain c.position remain e
  pub given : c.given ≡ filter (selects f) taken
  pub whole : c.stop ≡ None → c.position ≡ e
  pub waiting : (x : Status) → c.stop ≡ Some x → 1 ≤ length (filter (selects f) remain)

module _ (f : Filter) (p : ℕ) (r : Record) (rs : List Record) (e : ℕ) (h : Chain p (r ∷ rs) e) where
  -- the record r passed over or taken, before the rest of the page
  split-past : (c : Page) (given : List Record) (s : Split f r.fields.usn rs e c) → given ≡ filter (selects f) (r ∷ s.taken)
      → Split f p (r ∷ rs) e (record { given = given; position = c.position; stop = c.stop })
  split-past c given s q =
      record {
        taken = r ∷ s.taken;
        remain = s.remain;
        parts = ap (λ (x : List Record). r ∷ x) s.parts;
        upto = (h.0, s.upto);
        beyond = s.beyond;
        given = q;
        whole = s.whole;
        waiting = s.waiting;
      }

  split-turn : (b : Bool) (k : Option Status) (passed taken : Page) → selects f r ≡ b
      → Split f r.fields.usn rs e passed → Split f r.fields.usn rs e taken
      → Split f p (r ∷ rs) e (page_step b k r p passed taken)
  split-turn false k passed taken q s t = split-past passed passed.given s (rw q s.given)
  split-turn true None passed taken q s t = split-past taken (r ∷ taken.given) t (rw q (ap (λ (x : List Record). r ∷ x) t.given))
  split-turn true (Some x) passed taken q s t =
      record { taken = []; remain = r ∷ rs; parts = refl; upto = refl; beyond = h; given = refl; whole = λ z. clash cc; waiting = λ y z. rw q (omega arith) }

pub split : (v : Version) (f : Filter) (room p : ℕ) (l : List Record) (e : ℕ) → Chain p l e → Split f p l e (page_of v f room p l)
unfolding page_of
split v f room p [] e h =
    record { taken = []; remain = []; parts = refl; upto = refl; beyond = h; given = refl; whole = λ z. h; waiting = λ y z. clash cc }
split v f room p (r ∷ rs) e h =
    split-turn f p r rs e h (selects f r) (stops v room r) _ _ refl (split v f room r.fields.usn rs e h.1)
    (split v f (room - length_of (in_version v r)) r.fields.usn rs e h.1)

-- a record that the version shows, with room for the longest, can be given
no_stop : (v : Version) (room p : ℕ) (r : Record) → Link p r → 592 ≤ room → shows v r.fields ≡ true → stops v room r ≡ None
unfolding stops fits
no_stop v room p r k h w = rw (w, le-leb (length_of (in_version v r)) room (omega (arith, link-short p r k v)))

-- so with that room and a version that shows all selected ones, the first of them is given
pub first-given : (v : Version) (f : Filter) (room p : ℕ) (l : List Record) (e : ℕ) → Chain p l e → 592 ≤ room → all_shown v (filter (selects f) l) ≡ true
    → page_check (page_of v f room p l) ≡ None
unfolding page_of all_shown
first-given v f room p [] e h k w = refl
first-given v f room p (r ∷ rs) e h k w = go (selects f r) w (first-given v f room r.fields.usn rs e h.1 k)
  where
    go : (b : Bool) → all_shown v (keep b r (filter (selects f) rs)) ≡ true
        → (all_shown v (filter (selects f) rs) ≡ true → page_check (page_of v f room r.fields.usn rs) ≡ None)
        → page_check (page_step b (stops v room r) r p (page_of v f room r.fields.usn rs) (page_of v f (room - length_of (in_version v r)) r.fields.usn rs)) ≡ None
    go true w next = rw (no_stop v room p r h.0 k (and_left (shows v r.fields) _ w))
    go false w next = next w

-- filters with one mask, both or neither for closes only, want the same
wanted-alike : (f g : Filter) → Alike f g → (reason : ℕ) → wanted f reason ≡ wanted g reason
unfolding wanted
wanted-alike f g a reason = ap₂ (λ (m : ℕ) (x : Bool). not (eqb (bit_and reason m) 0) && (x || leb (2 ^ 31) reason)) a.0 a.1

-- so that they give the same page
pub page-alike : (v : Version) (f g : Filter) → Alike f g → (room p : ℕ) (l : List Record) → page_of v f room p l ≡ page_of v g room p l
unfolding page_of
page-alike v f g a room p [] = refl
page-alike v f g a room p (r ∷ rs) =
    ap (λ (x : Bool). page_step x (stops v room r) r p (page_of v f room r.fields.usn rs) (page_of v f (room - length_of (in_version v r)) r.fields.usn rs))
    (wanted-alike f g a r.fields.reason)
    ∙ ap₂ (λ (x y : Page). page_step (selects g r) (stops v room r) r p x y) (page-alike v f g a room r.fields.usn rs)
    (page-alike v f g a (room - length_of (in_version v r)) r.fields.usn rs)
