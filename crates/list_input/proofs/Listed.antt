-- The listing of what was read of an input is that of the input: it was read whole, or both are too long.
-- Assumes nothing.
use mathlib.Core.Path.{◌≡◌, refl, sym, ap, ◌∙◌, subst}
use mathlib.Core.Bool.{Bool, true, false}
use mathlib.Core.List.{List}
use Prim.Native.Nat.{ℕ, ◌+◌, ◌*◌, ◌≤◌, ◌<◌}
use native.Mathlib.Omega.{arith}
use lib.Dec.{leb}
use lib.ListN.{length, take}
use lib.Seq.{take_all, length-take-le}
use borrow.Author.Tests.{leb-true, leb-false, le-leb}
use Rattle.status.specs.declared.Answer.{Answer}
use Rattle.status.specs.declared.Status.TheVariants.{Success}
use Rattle.status.specs.Reply.{give, Replied}
use Rattle.usn_listing.specs.Listing.{listing, list_reply}
use Rattle.usn_listing.proofs.Listing.{long-listing}
use Rattle.list_input.specs.Input.{ReadInto}

module _ (buf input : List ℕ) (n : ℕ) (k : 65536 < length buf) (e : ReadInto buf n input) where
  -- the listing of what was read is that of the input
  same-listing : listing (take n buf) ≡ listing input
  same-listing = by (leb (length buf) (length input)) refl
    where
      by : (b : Bool) → leb (length buf) (length input) ≡ b → listing (take n buf) ≡ listing input
      by true t =
          let l : length buf ≤ length input = leb-true _ _ t in
          let m : length (take n buf) ≡ length buf = ap length e ∙ length-take-le (length buf) input l in
          sym (long-listing (take n buf) (omega (arith, m, k))) ∙ long-listing input (omega (arith, l, k))
      by false t = ap listing (e ∙ take_all (length buf) input (omega (arith, leb-false (length buf) (length input) t)))

  pub input-listed : (o new : List ℕ) (r : Answer) → n ≤ length buf → 64 + 2 * length buf ≤ length o → Replied (list_reply (take n buf) (length o)) r o new
      → Replied (give Success (listing input)) r o new
  input-listed o new r h room p =
      let w : 64 + 2 * length (take n buf) ≤ length o = omega (arith, length-take-le n buf h, h, room) in
      subst (λ (t : List ℕ). Replied (give Success t) r o new) same-listing (rw (le-leb _ _ w) at p)
