-- What checks that are joined tell, what they come to, and what they never come to.
-- Assumes nothing.
use mathlib.Core.Path.{◌≡◌, refl, sym, ap}
use mathlib.Core.Bool.{Bool, true, false, cond}
use Rattle.std.specs.Prelude.{Ok, Err, Option, None, Some}
use Prim.Native.Nat.{ℕ}
use native.Mathlib.Omega.{arith}
use lib.Dec.{eqb}
use Rattle.status.specs.declared.Status.{Status}
use Rattle.status.specs.Check.{unless, else, judged}
use Rattle.status.specs.Number.{number}

-- neither of two checks applies
pub else-none : (a b : Option Status) → else a b ≡ None → (a ≡ None) × (b ≡ None)
else-none None b k = (refl, k)
else-none (Some x) b k = let z : ◌≡◌ {A = ℕ} 0 1 = cc in absurd (omega arith)

pub else-left : (a b : Option Status) → else a b ≡ None → a ≡ None
else-left a b k = (else-none a b k).0

pub else-right : (a b : Option Status) → else a b ≡ None → b ≡ None
else-right a b k = (else-none a b k).1

-- the first two of three checks are known
pub both-refuse : (a b c : Option Status) (x : Status) → else a b ≡ Some x → else a (else b c) ≡ Some x
both-refuse None None c x k = let z : ◌≡◌ {A = ℕ} 0 1 = cc in absurd (omega arith)
both-refuse None (Some y) c x k = k
both-refuse (Some y) b c x k = k

pub both-pass : (a b c : Option Status) → else a b ≡ None → else a (else b c) ≡ c
both-pass None None c k = refl
both-pass None (Some y) c k = let z : ◌≡◌ {A = ℕ} 0 1 = cc in absurd (omega arith)
both-pass (Some y) b c k = let z : ◌≡◌ {A = ℕ} 0 1 = cc in absurd (omega arith)

pub unless-true : (t : Bool) (x : Status) → unless t x ≡ None → t ≡ true
unless-true true x k = refl
unless-true false x k = let z : ◌≡◌ {A = ℕ} 0 1 = cc in absurd (omega arith)

pub told-refused : (k : Option Status) (x : Status) → Err x ≡ judged k → k ≡ Some x
told-refused None x e = let z : ◌≡◌ {A = ℕ} 0 1 = cc in absurd (omega arith)
told-refused (Some y) x e = let q : x ≡ y = cc in ap Some (sym q)

pub told-passed : (k : Option Status) → Ok tt ≡ judged k → k ≡ None
told-passed None e = refl
told-passed (Some y) e = let z : ◌≡◌ {A = ℕ} 0 1 = cc in absurd (omega arith)

-- ---- a status that no check gives

-- whether checks refuse with this status
abbrev pub refuse_with : Option Status → Status → Bool
refuse_with None x = false
refuse_with (Some y) x = eqb (number y) (number x)

pub record Never (x : Status) (k : Option Status) : Type 0 where
  pub other : refuse_with k x ≡ false

module _ {x : Status} where
  pub never-none : Never x None
  never-none = record { other = refl }

  pub never-unless : (b : Bool) (y : Status) → eqb (number y) (number x) ≡ false → Never x (unless b y)
  never-unless true y h = never-none
  never-unless false y h = record { other = h }

  pub never-else : (a b : Option Status) → Never x a → Never x b → Never x (else a b)
  never-else None b p q = q
  never-else (Some y) b p q = p

  pub never-cond : (t : Bool) (a b : Option Status) → Never x a → Never x b → Never x (cond t a b)
  never-cond true a b p q = p
  never-cond false a b p q = q

pub ruleset nevers = (never-none, never-unless, never-else, never-cond)
