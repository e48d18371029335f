-- What a refusal and a warning report, of replies that are put together.
-- Assumes nothing.
use mathlib.Core.Path.{◌≡◌, refl, sym, ◌∙◌}
use mathlib.Core.Bool.{Bool, true, false, cond}
use mathlib.Core.List.{List}
use Rattle.std.specs.Prelude.{Option, None, Some}
use Prim.Native.Nat.{ℕ, ◌<◌}
use native.Mathlib.Omega.{arith}
use lib.Dec.{leb}
use lib.ListN.{length}
use borrow.Author.Tests.{leb-false}
use Rattle.status.specs.declared.Status.{Status}
use Rattle.status.specs.declared.Status.TheVariants.{Success, BufferOverflow}
use Rattle.status.specs.Reply.{Reply, refuse, give, guard, answer, after}
use Rattle.status.proofs.Checking.{Never, nevers}
use Rattle.refusals.specs.Refusal.{is_warning, is_refusal}

pub refutes : {A : Type 0} (b : Bool) → b ≡ false → b ≡ true → A
refutes b e h = let z : ◌≡◌ {A = Bool} false true = sym e ∙ h in let n : ◌≡◌ {A = ℕ} 0 1 = cc in absurd (omega arith)

-- a refusal reports no bytes and leaves the output; and W holds of the count that comes with the warning
pub record Fair (W : ℕ → Type 0) (r : Reply) : Type 0 where
  pub refused : is_refusal (answer r).status ≡ true → ((answer r).count ≡ 0) × ((out : List ℕ) → after r out ≡ out)
  pub warned : is_warning (answer r).status ≡ true → W (answer r).count

module _ {W : ℕ → Type 0} where
  pub fair-refuse : (x : Status) → is_warning x ≡ false → Fair W (refuse x)
  fair-refuse x e = record { refused = λ h. (refl, λ out. refl); warned = refutes (is_warning x) e }

  pub fair-give : (bytes : List ℕ) → Fair W (give Success bytes)
  fair-give bytes = record { refused = refutes false refl; warned = refutes false refl }

  pub fair-warn : (bytes : List ℕ) → W (length bytes) → Fair W (give BufferOverflow bytes)
  fair-warn bytes w = record { refused = refutes false refl; warned = λ h. w }

  pub fair-guard : (k : Option Status) (r : Reply) → Never BufferOverflow k → Fair W r → Fair W (guard k r)
  fair-guard None r c p = p
  fair-guard (Some x) r c p = fair-refuse x c.other

  -- what the test leaves is known behind it
  pub fair-leb : (m n : ℕ) (r s : Reply) → Fair W r → (n < m → Fair W s) → Fair W (cond (leb m n) r s)
  fair-leb m n r s p q = go (leb m n) refl
    where
      go : (b : Bool) → leb m n ≡ b → Fair W (cond b r s)
      go true e = p
      go false e = q (leb-false m n e)

  pub fair-cond : (b : Bool) (r s : Reply) → Fair W r → Fair W s → Fair W (cond b r s)
  fair-cond true r s p q = p
  fair-cond false r s p q = q

pub ruleset fairs = (nevers, fair-refuse, fair-give, fair-warn, fair-guard, fair-cond)

-- a reply that is never the warning
pub fair-never : {r : Reply} → Fair (λ n. ⊥) r → is_warning (answer r).status ≡ false
fair-never {r} p = go (is_warning (answer r).status) p.warned
  where
    go : (b : Bool) → (b ≡ true → ⊥) → b ≡ false
    go true h = absurd (h refl)
    go false h = refl
