-- What a caller learns from a reply.
-- Assumes nothing.
use mathlib.Core.Path.{◌≡◌, refl, sym, ap, ap₂, ◌∙◌}
use mathlib.Core.Bool.{Bool, true, false}
use Rattle.std.specs.Prelude.{Option, None, Some, Result, Ok, Err}
use mathlib.Core.List.{List}
use Prim.Native.Nat.{ℕ, ◌+◌, ◌≤◌, ◌<◌}
use native.Mathlib.Omega.{arith}
use lib.ListN.{length, take, drop, length-append, length-drop}
use lib.Seq.{take_at}
use borrow.Author.Tests.{eq-eqb}
use Rattle.status.specs.declared.Status.{Status}
use Rattle.status.specs.declared.Answer.{Answer}
use Rattle.status.specs.Number.{number}
use Rattle.status.specs.declared.Status.TheVariants.{Success}
use Rattle.status.specs.Reply.{Reply, refuse, give, guard, answer, told, written, Replied}
use Rattle.status.proofs.Checking.{Never}

-- the count lies within the output buffer
pub count_fits : (reply : Reply) (r : Answer) (old new : List ℕ) → Replied reply r old new → length new ≡ length old → r.count ≤ length old
count_fits (refuse x) r old new p h = let e : r.count ≡ 0 = ap (λ (a : Answer). a.count) p.answered in omega arith
count_fits (give x bytes) r old new p h =
    let e : r.count ≡ length bytes = ap (λ (a : Answer). a.count) p.answered in
    let l : length new ≡ length bytes + length (drop (length bytes) old) = ap length p.output ∙ length-append bytes (drop (length bytes) old) in
    omega (arith, length-drop (length bytes) old)

-- whoever reads as many bytes of the output as the count says has the reply's bytes
pub bytes-found : (reply : Reply) (r : Answer) (old new : List ℕ) → Replied reply r old new → take r.count new ≡ written reply
bytes-found (refuse x) r old new p = ap (λ (a : Answer). take a.count new) p.answered
bytes-found (give x bytes) r old new p =
    ap₂ (λ (a : Answer) (l : List ℕ). take a.count l) p.answered p.output ∙ take_at bytes (drop (length bytes) old) (length bytes) refl

-- a status that no check gives comes behind the checks
pub behind-checks : (x : Status) (k : Option Status) (r : Reply) → Never x k → (answer (guard k r)).status ≡ x → (k ≡ None) × ((answer r).status ≡ x)
behind-checks x None r q e = (refl, e)
behind-checks x (Some y) r q e =
    let z : ◌≡◌ {A = Bool} false true = sym q.other ∙ eq-eqb (number y) (number x) (ap number e) in
    let n : ◌≡◌ {A = ℕ} 0 1 = cc in
    absurd (omega arith)

-- a call that answers so gave the length of bytes that are some
pub given-ok : (r : Result ℕ Status) (bytes : List ℕ) → 0 < length bytes → told r ≡ answer (give Success bytes) → r ≡ Ok (length bytes)
given-ok (Ok n) bytes h e = ap (λ (a : Answer). Ok a.count) e
given-ok (Err x) bytes h e = let z : 0 ≡ length bytes = ap (λ (a : Answer). a.count) e in absurd (omega arith)

-- or the refusal
pub refused-err : (r : Result ℕ Status) (x : Status) → 0 < number x → told r ≡ answer (refuse x) → r ≡ Err x
refused-err (Ok n) x h e = let z : 0 ≡ number x = ap (λ (a : Answer). number a.status) e in absurd (omega arith)
refused-err (Err y) x h e = ap (λ (a : Answer). Err a.status) e
