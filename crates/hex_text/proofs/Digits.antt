-- Laws of bytes in hex: what the writers leave, and how long the text is.
-- Assumes nothing.
use mathlib.Core.Path.{◌≡◌, refl, sym, ◌∙◌}
use mathlib.Core.List.{List, [], ◌∷◌, ◌++◌, append_assoc}
use Prim.Native.Nat.{ℕ, ◌+◌, ◌*◌, ◌/◌, ◌%◌, ◌≤◌, ◌<◌}
use native.Mathlib.Nat.{not-suc-le-zero, le_of_suc-le-suc}
use native.Mathlib.Omega.{arith}
use native.Mathlib.Numerals.{add-one}
use lib.ListN.{length, take, drop, get_or, set}
use lib.Seq.{take-suc, length-take-le}
use Rattle.le.proofs.Tail.{put-tail, lent, back}
use Rattle.hex_text.specs.Hex.{hex_digit, hex_byte, hex_bytes, hex_word}

-- the two digits of a byte
pub put_two : (out : List ℕ) (a b x : ℕ) → 2 ≤ length out → a ≡ hex_digit (x / 16) → b ≡ hex_digit (x % 16)
    → set (set out 0 a) 1 b ≡ hex_byte x ++ drop 2 out
unfolding hex_byte
put_two [] a b x h e f = absurd (not-suc-le-zero h)
put_two (p ∷ []) a b x h e f = absurd (not-suc-le-zero (le_of_suc-le-suc h))
put_two (p ∷ q ∷ out) a b x h e f = rw (e, f)

pub length-hex_bytes : (s : List ℕ) → length (hex_bytes s) ≡ 2 * length s
unfolding hex_bytes hex_byte
length-hex_bytes [] = refl
length-hex_bytes (b ∷ s) = omega (arith, length-hex_bytes s)

pub length-hex_word : (x : ℕ) → length (hex_word x) ≡ 8
unfolding hex_word
length-hex_word x = length-hex_bytes _

pub hex_bytes-append : (s t : List ℕ) → hex_bytes (s ++ t) ≡ hex_bytes s ++ hex_bytes t
unfolding hex_bytes
hex_bytes-append [] t = refl
hex_bytes-append (b ∷ s) t = rw (hex_bytes-append s t) (sym (append_assoc (hex_byte b) (hex_bytes s) (hex_bytes t)))

-- one byte more, written into the tail that was lent
pub hex-more : (at : ℕ) (s : List ℕ) (b : ℕ) (out o last : List ℕ) → at ≡ 2 * length s → at + 2 ≤ length o → out ≡ hex_bytes s ++ drop at o
    → last ≡ hex_byte b ++ drop 2 (lent at out)
    → back at out last ≡ hex_bytes (s ++ (b ∷ [])) ++ drop (at + 2) o
unfolding hex_bytes hex_byte
hex-more at s b out o last n h e q =
    rw (hex_bytes-append s (b ∷ []))
    (put-tail at 2 (hex_bytes s) (hex_byte b) out o last e (length-hex_bytes s ∙ sym n) refl h q)

-- a turn of the loop
pub hex-again : (at i : ℕ) (s out o last : List ℕ) → at ≡ 2 * i → i < length s → 2 * length s ≤ length o → out ≡ hex_bytes (take i s) ++ drop at o
    → last ≡ hex_byte (get_or s i 0) ++ drop 2 (lent at out)
    → back at out last ≡ hex_bytes (take (i + 1) s) ++ drop (at + 2) o
hex-again at i s out o last n h k e q =
    let l : length (take i s) ≡ i = length-take-le i s (omega arith) in
    rw (add-one, take-suc s i 0 h) (hex-more at (take i s) (get_or s i 0) out o last (omega arith) (omega arith) e q)

-- four bytes, one after another
pub hex-four : (a b c d : ℕ) (o o₁ l₂ l₃ l₄ : List ℕ) → 8 ≤ length o → o₁ ≡ hex_byte a ++ drop 2 o → l₂ ≡ hex_byte b ++ drop 2 (lent 2 o₁)
    → l₃ ≡ hex_byte c ++ drop 2 (lent 4 (back 2 o₁ l₂)) → l₄ ≡ hex_byte d ++ drop 2 (lent 6 (back 4 (back 2 o₁ l₂) l₃))
    → back 6 (back 4 (back 2 o₁ l₂) l₃) l₄ ≡ hex_bytes (a ∷ b ∷ c ∷ d ∷ []) ++ drop 8 o
unfolding hex_bytes hex_byte
hex-four a b c d o o₁ l₂ l₃ l₄ h e₁ e₂ e₃ e₄ =
    hex-more 6 (a ∷ b ∷ c ∷ []) d _ o l₄ refl h
    (hex-more 4 (a ∷ b ∷ []) c _ o l₃ refl (omega arith) (hex-more 2 (a ∷ []) b o₁ o l₂ refl (omega arith) e₁ e₂) e₃) e₄
