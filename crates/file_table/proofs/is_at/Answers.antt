-- `is_at` meets its contract: another lower half is another id, and beside the same one the upper half decides.
use mathlib.Core.Path.{◌≡◌, refl, sym}
use mathlib.Core.Bool.{Bool, true, false}
use Prim.Native.Nat.{ℕ}
use native.Mathlib.Omega.{arith}
use lib.Dec.{eqb}
use borrow.Author.Tests.{eq-eqb, ne_eqb, eqb-true, eqb-false}
use Rattle.file_table.proofs.Rows.{halves}
use Rattle.file_table.proofs.is_at.Goals as goal

-- two tests of facts that follow from each other
same-test : (a b c d : ℕ) → (a ≡ b → c ≡ d) → (c ≡ d → a ≡ b) → eqb a b ≡ eqb c d
same-test a b c d f g = by (eqb a b) refl
  where
    by : (t : Bool) → eqb a b ≡ t → t ≡ eqb c d
    by true e = sym (eq-eqb c d (f (eqb-true a b e)))
    by false e = sym (ne_eqb c d (λ q. eqb-false a b e (g q)))

pub returns-then-get-id : goal.returns-then-get-id
returns-then-get-id c =
    let a = c.args in
    sym (ne_eqb _ _ (λ e. c.if-get-id.true (omega (arith, halves a.table.now a.at c.requires, c.get.ensures.0, c.get.ensures.1, e))))

pub returns : goal.returns
returns c =
    let a = c.args in
    let h = halves a.table.now a.at c.requires in
    same-test _ _ _ _
    (λ e. omega (arith, h, c.if-get-id.false, c.get.ensures.0, c.get.ensures.1, c.get-2.ensures.0, c.get-2.ensures.1, e))
    (λ e. omega (arith, h, c.if-get-id.false, c.get.ensures.0, c.get.ensures.1, c.get-2.ensures.0, c.get-2.ensures.1, e))
