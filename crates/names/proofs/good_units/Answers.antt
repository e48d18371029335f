use mathlib.Core.Path.{◌≡◌, sym, ap, ◌∙◌}
use Prim.Native.Nat.{ℕ, ◌+◌, ◌-◌, ◌%◌}
use native.Mathlib.Omega.{arith}
use lib.ListN.{length, drop, length-drop}
use Rattle.le.proofs.Places.{piece_at}
use Rattle.names.specs.Names.{good_units}
use Rattle.names.proofs.Words.{set-masked, turn}
use Rattle.names.proofs.good_units.Goals as goal

pub loop-word-preserved : goal.loop-word-preserved
loop-word-preserved c =
    let s = c.args.s.now in
    let i = c.loop-word.invariant in
    let e = c.in-Some.ensures.steps in
    let h = piece_at s c.in-Some.word.now _ i.0 8 i.1 (i.2 ∙ e.1.0) (e.1.1 ∙ i.3) in
    let n = e.0 ∙ i.3 in (
      i.0 + 8,
      h.2,
      sym h.1,
      n,
      turn s i.0 c.get-w.result c.loop-word.seen c.nonzero.result c.nonzero-in-loop-word.result c.nonzero-in-loop-word-2.result
          (λ k. omega (arith, c.type_inv.s k)) h.2 (c.get-w.ensures.0 ∙ h.0) c.nonzero.ensures c.nonzero-in-loop-word.ensures c.nonzero-in-loop-word-2.ensures i.4,
      omega (arith, i.5),
      omega (arith, n),
      tt,
    )

pub returns-then-seen : goal.returns-then-seen
returns-then-seen c =
    let s = c.args.s.now in
    let i = c.loop-word.invariant in
    let n : length s - length s % 8 ≡ i.0 = omega (arith, i.1, i.5, ap length i.2, length-drop i.0 s, i.3, c.in-None.ensures.steps.1.0) in
    c.each_good.ensures ∙ ap good_units (c.remainder-rest.ensures ∙ c.chunks_exact-words.ensures.remainder ∙ ap (λ (k : ℕ). drop k s) n)
    ∙ i.4 (set-masked c.loop-word.seen c.if-seen.true)
