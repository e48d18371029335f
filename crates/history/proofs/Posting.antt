-- The oldest records dropped, as the history and the journal do it.
-- Assumes nothing.
use mathlib.Core.Path.{◌≡◌, refl, sym, ap, ◌∙◌, subst}
use mathlib.Core.Bool.{Bool, true, false, cond}
use mathlib.Core.List.{List, [], ◌∷◌, ◌++◌}
use Prim.Native.Nat.{ℕ, ◌-◌, ◌≤◌, ◌<◌}
use native.Mathlib.Omega.{arith}
use lib.Dec.{leb}
use borrow.Author.Tests.{leb-true, leb-false, le-leb, lt-leb, le-ltb, lt-ltb}
use Rattle.usn_record.specs.Layout.{Record}
use Rattle.journal.specs.Boundary.{oldest}
use Rattle.journal_post.proofs.Links.{Chain}
use Rattle.history.specs.Log.{Shed, dropping, shed}

-- nothing is dropped where all fits
shed-stop : (cap end f : ℕ) (l : List Record) → end - f ≤ cap → shed cap end f l ≡ record { gone = []; from = f; rest = l }
unfolding shed
shed-stop cap end f [] k = refl
shed-stop cap end f (r ∷ rs) k =
    ap (λ (b : Bool). cond b (dropping r (shed cap end r.fields.usn rs)) (record { gone = []; from = f; rest = r ∷ rs })) (le-ltb cap _ (omega arith))

-- the oldest record is dropped where not
shed-more : (cap end f : ℕ) (r : Record) (rs : List Record) → cap < end - f → shed cap end f (r ∷ rs) ≡ dropping r (shed cap end r.fields.usn rs)
unfolding shed
shed-more cap end f r rs k =
    ap (λ (b : Bool). cond b (dropping r (shed cap end r.fields.usn rs)) (record { gone = []; from = f; rest = r ∷ rs })) (lt-ltb cap _ (omega arith))

oldest-stop : (cap end f : ℕ) (l : List Record) → end - f ≤ cap → oldest cap end f l ≡ f
unfolding oldest
oldest-stop cap end f [] k = refl
oldest-stop cap end f (r ∷ rs) k = rw (le-leb (end - f) cap k)

oldest-more : (cap end f : ℕ) (r : Record) (rs : List Record) → cap < end - f → oldest cap end f (r ∷ rs) ≡ oldest cap end r.fields.usn rs
unfolding oldest
oldest-more cap end f r rs k = rw (lt-leb (end - f) cap k)

abbrev pub snoc : Shed → Record → Shed
snoc t r = record { gone = t.gone; from = t.from; rest = t.rest ++ (r ∷ []) }

pub record Cut (cap end f : ℕ) (l : List Record) (e : ℕ) (t : Shed) : Type 0 where
  pub parts : l ≡ t.gone ++ t.rest
  pub gone : Chain f t.gone t.from
  pub rest : Chain t.from t.rest e
  pub span : end - t.from ≤ cap
  -- the journal drops the same
  pub same : oldest cap end f l ≡ t.from
  -- and so it does with one more record, which stays
  pub more : (r : Record) → shed cap end f (l ++ (r ∷ [])) ≡ snoc t r

cut-none : (cap end f : ℕ) (l : List Record) (e : ℕ) → Chain f l e → end - f ≤ cap → Cut cap end f l e (shed cap end f l)
cut-none cap end f l e h k =
    subst (Cut cap end f l e) (sym (shed-stop cap end f l k))
    (record { parts = refl; gone = refl; rest = h; span = k; same = oldest-stop cap end f l k; more = λ r. shed-stop cap end f (l ++ (r ∷ [])) k })

pub cut : (cap end f : ℕ) (l : List Record) (e : ℕ) → Chain f l e → end - e ≤ cap → Cut cap end f l e (shed cap end f l)
cut cap end f [] e h k = cut-none cap end f [] e h (omega (arith, h))
cut cap end f (r ∷ rs) e h k = go (leb (end - f) cap) refl (cut cap end r.fields.usn rs e h.1 k)
  where
    go : (b : Bool) → leb (end - f) cap ≡ b → Cut cap end r.fields.usn rs e (shed cap end r.fields.usn rs) → Cut cap end f (r ∷ rs) e (shed cap end f (r ∷ rs))
    go true q ih = cut-none cap end f (r ∷ rs) e h (leb-true _ _ q)
    go false q ih =
        let k : cap < end - f = leb-false _ _ q in
        subst (Cut cap end f (r ∷ rs) e) (sym (shed-more cap end f r rs k))
        (record {
          parts = ap (λ (x : List Record). r ∷ x) ih.parts;
          gone = (h.0, ih.gone);
          rest = ih.rest;
          span = ih.span;
          same = oldest-more cap end f r rs k ∙ ih.same;
          more = λ x. shed-more cap end f r (rs ++ (x ∷ [])) k ∙ ap (dropping r) (ih.more x);
        })
