-- A number of eight bytes, written in front of the bytes that were written behind its place.
-- Assumes nothing.
use mathlib.Core.Path.{◌≡◌, sym, ap, ◌∙◌}
use mathlib.Core.List.{List, [], ◌++◌, append_assoc}
use Prim.Native.Nat.{ℕ, ◌+◌, ◌≤◌}
use lib.ListN.{length, take, drop, length-append, take-append-drop}
use lib.Seq.{length-take-le, drop_at, drop-drop}
use Rattle.le.specs.Numbers.{le}
use Rattle.le.proofs.Numbers.{length-le}
use Rattle.le.proofs.Tail.{lent, back, lent-tail, tail-back}

pub length_front : (n : ℕ) (bs : List ℕ) → length (le 8 n ++ bs) ≡ 8 + length bs
length_front n bs = length-append (le 8 n) bs ∙ ap (λ (k : ℕ). k + length bs) (length-le 8 n)

-- the bytes bs were written behind the place, and `last` came back
module _ (o bs last : List ℕ) (h : 8 ≤ length o) (e : last ≡ bs ++ drop (length bs) (lent 8 o)) where
  -- no byte was written
  pub front-none : bs ≡ [] → back 8 o last ≡ o
  front-none z =
      let l : last ≡ drop 8 o = e ∙ ap (λ (x : List ℕ). x ++ drop (length x) (lent 8 o)) z ∙ lent-tail 8 o h in
      tail-back 8 o h last ∙ ap (λ (x : List ℕ). take 8 o ++ x) l ∙ take-append-drop 8 o

  after-eight : drop 8 (back 8 o last) ≡ last
  after-eight = ap (drop 8) (tail-back 8 o h last) ∙ drop_at (take 8 o) last 8 (length-take-le 8 o h)

  -- number and bytes
  pub front-written : (n : ℕ) (out : List ℕ) → out ≡ le 8 n ++ drop 8 (back 8 o last) → out ≡ (le 8 n ++ bs) ++ drop (length (le 8 n ++ bs)) o
  front-written n out p =
      let b : last ≡ bs ++ drop (8 + length bs) o = e ∙ ap (λ (x : List ℕ). bs ++ drop (length bs) x) (lent-tail 8 o h) ∙ ap (λ (x : List ℕ). bs ++ x) (drop-drop (length bs) 8 o) in
      p ∙ ap (λ (x : List ℕ). le 8 n ++ x) (after-eight ∙ b) ∙ sym (append_assoc (le 8 n) bs (drop (8 + length bs) o))
      ∙ ap (λ (k : ℕ). (le 8 n ++ bs) ++ drop k o) (sym (length_front n bs))
