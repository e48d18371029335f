-- Laws of the rule for code units.
-- Assumes nothing.
use mathlib.Core.Path.{◌≡◌, refl, sym, ap, ◌∙◌}
use mathlib.Core.List.{List, [], ◌∷◌, ◌++◌}
use mathlib.Core.Bool.{Bool, true, false, not, ◌&&◌}
use Prim.Native.Nat.{ℕ, ◌+◌, ◌*◌, ◌%◌, ◌≤◌, ◌<◌}
use native.Mathlib.Omega.{arith}
use lib.Dec.{eqb}
use lib.ListN.{length, take, drop, length-drop}
use lib.Seq.{drop-drop}
use borrow.Author.Tests.{ne_eqb}
use Rattle.le.specs.Numbers.{unle, number_at}
use Rattle.names.specs.Names.{good_unit, good_units}

-- ---- one code unit

pub good : (u : ℕ) → (u ≡ 0 → ⊥) → (u ≡ 0x2F → ⊥) → (u ≡ 0x5C → ⊥) → good_unit u ≡ true
unfolding good_unit
good u a b c = rw (ne_eqb u 0 a, ne_eqb u 0x2F b, ne_eqb u 0x5C c)

pub not-zero : (u : ℕ) → u ≡ 0 → false ≡ good_unit u
unfolding good_unit
not-zero u e = rw e

pub not-slash : (u : ℕ) → u ≡ 0x2F → false ≡ good_unit u
unfolding good_unit
not-slash u e = rw e

pub last-test : (u : ℕ) → (u ≡ 0 → ⊥) → (u ≡ 0x2F → ⊥) → not (eqb u 0x5C) ≡ good_unit u
unfolding good_unit
last-test u a b = rw (ne_eqb u 0 a, ne_eqb u 0x2F b)

-- ---- the code units of a run, from a place on

pub units-nil : (s : List ℕ) → length s < 2 → true ≡ good_units s
unfolding good_units
units-nil [] h = refl
units-nil (a ∷ []) h = refl
units-nil (a ∷ b ∷ s) h = absurd (omega arith)

units-cons : (s : List ℕ) → 2 ≤ length s → good_units s ≡ good_unit (unle (take 2 s)) && good_units (drop 2 s)
unfolding good_units unle
units-cons [] h = absurd (omega arith)
units-cons (a ∷ []) h = absurd (omega arith)
units-cons (a ∷ b ∷ s) h =
    let e : a + 256 * b ≡ a + 256 * (b + 256 * 0) = omega arith in
    ap (λ (n : ℕ). good_unit n && good_units s) e

module _ (s : List ℕ) (i : ℕ) (h : i + 2 ≤ length s) where
  units-at : good_units (drop i s) ≡ good_unit (number_at s i 2) && good_units (drop (i + 2) s)
  unfolding number_at
  units-at =
      units-cons (drop i s) (omega (arith, length-drop i s))
      ∙ ap (λ (t : List ℕ). good_unit (unle (take 2 (drop i s))) && good_units t) (drop-drop 2 i s)

  -- g is what `good_unit` returned of the code unit there
  pub stops : (g : Bool) → g ≡ good_unit (number_at s i 2) → not g ≡ true → good_units (drop i s) ≡ good_units s → false ≡ good_units s
  stops true e t q = (cc)
  stops false e t q = rw (← q, units-at, ← e)

  pub goes_on : (g : Bool) → g ≡ good_unit (number_at s i 2) → not g ≡ false → good_units (drop i s) ≡ good_units s
      → good_units (drop (i + 2) s) ≡ good_units s
  goes_on false e t q = (cc)
  goes_on true e t q = rw (← q, units-at, ← e)

-- ---- two runs, the first of which has whole code units

and_assoc : (a b c : Bool) → (a && b) && c ≡ a && (b && c)
and_assoc true b c = refl
and_assoc false b c = refl

pub units-append : (s t : List ℕ) → length s % 2 ≡ 0 → good_units (s ++ t) ≡ good_units s && good_units t
unfolding good_units
units-append [] t e = refl
units-append (a ∷ []) t e = absurd (omega arith)
units-append (a ∷ b ∷ s) t e = rw (units-append s t (omega arith)) (sym (and_assoc (good_unit (a + 256 * b)) (good_units s) (good_units t)))
