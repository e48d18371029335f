use mathlib.Core.Path.{◌≡◌, refl, sym, ap, ◌∙◌}
use mathlib.Core.List.{List, [], ◌∷◌, ◌++◌, append-nil, append_assoc}
use Prim.Native.Nat.{ℕ, ◌+◌, ◌-◌, ◌*◌, ◌^◌, ◌≤◌, ◌<◌}
use native.Mathlib.Omega.{arith}
use native.Mathlib.Nat.{lt_of_lt_of_le, pow-le-pow_right}
use lib.Dec.{lit<}
use lib.ListN.{length, take, drop, length-append, length-drop}
use lib.Seq.{drop_at, length-take-le}
use Rattle.std.specs.Iterator.Adapters.{rev_source}
use Rattle.std.specs.Slice.Iter.{iter_rest}
use Rattle.le.specs.Numbers.{unle, number_at}
use Rattle.le.specs.Bytes.{Bytes}
use Rattle.le.proofs.Numbers.{bytes_drop, bytes_take, unle-nil, unle-cons, unle-lt}
use Rattle.le.proofs.get_bytes.Goals as goal
use Rattle.le.proofs.get_bytes.Goals.{In-Some}

what-was-seen : (run left seen : List ℕ) → run ≡ left ++ seen → drop (length left) run ≡ seen
what-was-seen run left seen e = ap (drop (length left)) e ∙ drop_at left seen (length left) refl

-- the byte that comes stands before those seen, and their number is one of 64 bits
turn : (run left rest seen : List ℕ) (byte value : ℕ) → Bytes run → length run ≤ 8 → run ≡ left ++ seen → left ≡ rest ++ (byte ∷ []) → value ≡ unle seen
    → (run ≡ rest ++ (byte ∷ seen)) × (value * 256 + byte ≡ unle (byte ∷ seen)) × (value * 256 + byte < 2 ^ 64)
turn run left rest seen byte value b h e f v =
    let g : run ≡ rest ++ (byte ∷ seen) = e ∙ ap (λ (l : List ℕ). l ++ seen) f ∙ append_assoc rest (byte ∷ []) seen in
    let n : length run ≡ length rest + length (byte ∷ seen) = ap length g ∙ length-append rest (byte ∷ seen) in
    let d : drop (length rest) run ≡ byte ∷ seen = what-was-seen run rest (byte ∷ seen) g in
    let u : value * 256 + byte ≡ unle (byte ∷ seen) = rw (unle-cons byte seen, v) (omega arith) in
    let l : unle (byte ∷ seen) < 2 ^ 64 =
    lt_of_lt_of_le (unle-lt (byte ∷ seen) (rw d at (bytes_drop (length rest) run b))) (pow-le-pow_right {n = 256} (lit< tt) {j = 8} (omega arith)) in
    (g, u, rw u l)

run-bytes : (s : List ℕ) (at width : ℕ) → Bytes s → Bytes (take width (drop at s))
run-bytes s at width b = bytes_take width (drop at s) (bytes_drop at s b)

run-length : (s : List ℕ) (at width : ℕ) → at + width ≤ length s → length (take width (drop at s)) ≡ width
run-length s at width h = length-take-le width (drop at s) (omega (arith, length-drop at s))

more : (c : In-Some) → let seen = c.in-Some.byte.now ∷ c.loop-byte.invariant.0 in let value = c.loop-byte.value * 256 + c.in-Some.byte.now in
    (take c.args.width (drop c.args.at c.args.s.now) ≡ iter_rest (rev_source c.next.new.self) ++ seen) × (value ≡ unle seen) × (value < 2 ^ 64)
more c =
    let a = c.args in
    let i = c.loop-byte.invariant in
    turn _ _ _ _ _ _ (run-bytes a.s.now a.at a.width (λ j. omega (arith, c.type_inv.s j))) (omega (arith, run-length a.s.now a.at a.width c.requires.1, c.requires.0))
    i.1 c.in-Some.ensures.steps i.2

pub loop-byte-init : goal.loop-byte-init
loop-byte-init c =
    let e : c.args.at + c.args.width - c.args.at ≡ c.args.width = omega arith in
    ([], rw (c.into_iter-byte-iterator.ensures.into_iter_gives, c.rev-byte-items.ensures.source, c.iter.ensures.rest, append-nil, e) refl, sym unle-nil, tt, tt)

pub overflow_mul-value : goal.overflow_mul-value
overflow_mul-value c = omega (arith, (more c).2)

pub overflow_add-value : goal.overflow_add-value
overflow_add-value c = omega (arith, (more (goal.at.overflow_add-value c).In-Some).2)

pub loop-byte-preserved : goal.loop-byte-preserved
loop-byte-preserved c =
    let m = more (goal.at.loop-byte-preserved c).In-Some in
    (c.in-Some.byte.now ∷ c.loop-byte.invariant.0, m.0, m.1, tt, tt)

pub returns : goal.returns
unfolding number_at
returns c =
    let a = c.args in
    let i = c.loop-byte.invariant in
    let all : take a.width (drop a.at a.s.now) ≡ i.0 = rw c.in-None.ensures.steps.0 at (what-was-seen (take a.width (drop a.at a.s.now)) (iter_rest (rev_source c.loop-byte.byte-iterator)) i.0 i.1) in
    let e : c.loop-byte.value ≡ unle (take a.width (drop a.at a.s.now)) = i.2 ∙ ap unle (sym all) in
    let l = unle-lt _ (run-bytes a.s.now a.at a.width (λ j. omega (arith, c.type_inv.s j))) in
    (e, rw e (rw (run-length a.s.now a.at a.width c.requires.1) at l))
