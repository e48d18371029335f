-- The reads of a service.
-- Assumes nothing.
use mathlib.Core.Path.{◌≡◌, refl, sym, ap, ◌∙◌, subst}
use mathlib.Core.Bool.{Bool, true, false, cond}
use mathlib.Core.List.{List, ◌++◌, append_assoc, append-nil, []}
use Prim.Native.Nat.{ℕ, zero, suc, ◌+◌, ◌-◌, ◌≤◌, ◌<◌}
use native.Mathlib.Omega.{arith}
use lib.Dec.{eqb}
use lib.ListN.{length, take, drop}
use lib.Seq.{take-append-le}
use borrow.Author.Tests.{le-leb, lt-leb, eq-eqb, ne_eqb}
use Rattle.le.specs.Numbers.{le, unle, encode, number_at}
use Rattle.le.proofs.Numbers.{length-le}
use Rattle.le.proofs.Tail.{lent, back, put_first, put_next}
use Rattle.status.specs.declared.Answer.{Answer}
use Rattle.status.specs.Reply.{Reply, refuse, give, Replied}
use Rattle.volume.specs.declared.Volume.{Volume}
use Rattle.update_steps.specs.Service.{input_of, position_in, read_to, reads_to, reply_from}
use Rattle.journal_read.specs.Read.{read_reply}

pub input_put : (id start mask : ℕ) (o l1 l2 l3 : List ℕ) → 40 ≤ length o → l1 ≡ le 8 start ++ drop 8 o → l2 ≡ le 24 mask ++ drop 24 (lent 8 l1)
    → l3 ≡ le 8 id ++ drop 8 (lent 32 (back 8 l1 l2)) → back 32 (back 8 l1 l2) l3 ≡ input_of id start mask ++ drop 40 o
unfolding encode
input_put id start mask o l1 l2 l3 h q1 q2 q3 =
    let p = put_next (put_first 8 (le 8 start) o l1 (length-le 8 start) q1) 24 (le 24 mask) l2 (length-le 24 mask) (omega arith) q2 in
    (put_next p 8 (le 8 id) l3 (length-le 8 id) h q3).whole ∙ simp (append_assoc, append-nil)

-- ---- one read

-- a reply of less than a position leaves the reader
pub stays : (start : ℕ) (reply : Reply) (r : Answer) (old new : List ℕ) → Replied reply r old new → r.count < 8 → start ≡ position_in start reply
unfolding position_in
stays start (refuse x) r old new p h = refl
stays start (give x bytes) r old new p h =
    let e : r.count ≡ length bytes = ap (λ (a : Answer). a.count) p.answered in
    rw (lt-leb 8 (length bytes) (omega arith))

-- and one of more gives it
pub moves : (start : ℕ) (reply : Reply) (r : Answer) (old new : List ℕ) → Replied reply r old new → 8 ≤ r.count → number_at new 0 8 ≡ position_in start reply
unfolding position_in number_at
moves start (refuse x) r old new p h = let e : r.count ≡ 0 = ap (λ (a : Answer). a.count) p.answered in absurd (omega arith)
moves start (give x bytes) r old new p h =
    let e : r.count ≡ length bytes = ap (λ (a : Answer). a.count) p.answered in
    let front : unle (take 8 new) ≡ unle (take 8 bytes) = ap (λ (l : List ℕ). unle (take 8 l)) p.output ∙ ap unle (take-append-le 8 bytes _ (omega arith)) in
    rw (le-leb 8 (length bytes) (omega arith)) front

-- ---- one read after the other

module _ (v : Volume) (ring : List ℕ) (id i p whole : ℕ) (inv : reads_to (16 - i) v ring id p ≡ whole) where
  -- none at the journal's end
  pub ended : p ≡ v.last → p ≡ whole
  unfolding reads_to
  ended e = sym (by (16 - i)) ∙ inv
    where
      by : (n : ℕ) → reads_to n v ring id p ≡ p
      by zero = refl
      by (suc n) = rw (eq-eqb p v.last e)

  -- none that moves the reader
  pub stuck : read_to v ring id p ≡ p → p ≡ whole
  unfolding reads_to
  stuck e = sym (by (16 - i)) ∙ inv
    where
      either : (b : Bool) (q : ℕ) → q ≡ p → cond b p q ≡ p
      either true q h = refl
      either false q h = h

      by : (n : ℕ) → reads_to n v ring id p ≡ p
      by zero = refl
      by (suc n) = either (eqb p v.last) _ (ap (λ (q : ℕ). reads_to n v ring id q) e ∙ by n)

  -- a turn of the loop
  pub turned : (q : ℕ) → i < 16 → (p ≡ v.last → ⊥) → q ≡ read_to v ring id p → reads_to (16 - (i + 1)) v ring id q ≡ whole
  unfolding reads_to
  turned q h n r =
      let e : 16 - i ≡ suc (16 - (i + 1)) = omega arith in
      ap (λ (x : ℕ). reads_to (16 - (i + 1)) v ring id x) r ∙ rw (e, ne_eqb p v.last n) at inv

  -- no turn is left
  pub used : 16 ≤ i → p ≡ whole
  unfolding reads_to
  used h = let e : 16 - i ≡ 0 = omega arith in rw e at inv

-- an input of 40 bytes is all that a read gets
pub read-so : (v : Volume) (ring input : List ℕ) (id start mask : ℕ) (r : Answer) (old new : List ℕ) → input ≡ input_of id start mask ++ []
    → Replied (read_reply v ring input (length old)) r old new → Replied (reply_from v ring id start mask (length old)) r old new
read-so v ring input id start mask r old new e p =
    subst (λ (s : List ℕ). Replied (read_reply v ring s (length old)) r old new) (e ∙ append-nil (input_of id start mask)) p

-- ---- any number of reads

module _ (v : Volume) (ring : List ℕ) (id : ℕ) where
  -- none at the journal's end
  pub reads-done : (n p : ℕ) → p ≡ v.last → reads_to n v ring id p ≡ p
  unfolding reads_to
  reads-done zero p e = refl
  reads-done (suc n) p e = rw (eq-eqb p v.last e)

  -- none that moves the reader
  pub reads-stuck : (n p : ℕ) → read_to v ring id p ≡ p → reads_to n v ring id p ≡ p
  unfolding reads_to
  reads-stuck zero p e = refl
  reads-stuck (suc n) p e = by (eqb p v.last) (ap (λ (q : ℕ). reads_to n v ring id q) e ∙ reads-stuck n p e)
    where
      by : (b : Bool) → reads_to n v ring id (read_to v ring id p) ≡ p → cond b p (reads_to n v ring id (read_to v ring id p)) ≡ p
      by true h = refl
      by false h = h
