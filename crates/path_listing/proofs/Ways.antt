-- The line of a file: its id in digits, what a reply says of its way, and the parts of the line one behind another.
-- Assumes nothing.
use mathlib.Core.Path.{◌≡◌, refl, sym, ap, ◌∙◌}
use mathlib.Core.Bool.{Bool, true, false, not, cond}
use mathlib.Core.List.{List, [], ◌∷◌, ◌++◌, append_assoc}
use Rattle.std.specs.Prelude.{Option, None, Some}
use Prim.Native.Nat.{ℕ, zero, suc, ◌+◌, ◌-◌, ◌/◌, ◌%◌, ◌^◌, ◌≤◌, ◌<◌}
use native.Mathlib.Omega.{arith}
use lib.Dec.{eqb}
use lib.ListN.{length, take, drop, set, length-append}
use borrow.Author.Tests.{le-leb, eqb-false, not-true, ne_eqb, eq-eqb}
use Rattle.le.specs.Numbers.{unle, number_at}
use Rattle.le.proofs.Tail.{put_first, put_next, put_byte, lent, back}
use Rattle.status.specs.declared.Status.{Status}
use Rattle.status.specs.declared.Status.TheVariants.{Success, NameTooLong}
use Rattle.status.specs.declared.Answer.{Answer}
use Rattle.status.specs.Number.{number}
use Rattle.status.specs.Reply.{give, Replied}
use Rattle.status.proofs.Replies.{bytes-found}
use Rattle.hex_text.specs.Hex.{hex_word}
use Rattle.hex_text.proofs.Digits.{length-hex_word}
use Rattle.file_ids.specs.Ids.{id_number, id_bytes}
use Rattle.file_ids.proofs.Ids.{number-back}
use Rattle.file_table.specs.Table.{Row, find, row_name}
use Rattle.file_path.specs.Path.{Way, reached, stopped, below, step, joined, upward, way_reply}
use Rattle.file_path.specs.Steps.{path_of}
use Rattle.usn_listing.proofs.Writing.{Written, put_written}
use Rattle.path_listing.specs.Text.{text}
use Rattle.path_listing.specs.Listing.{id_text, root_text, far_text, lost_text, stop_text, way_text, path_line}

-- ---- the id

-- 16 digits
abbrev pub half_text : ℕ → List ℕ
half_text x = hex_word (x / 2 ^ 32) ++ hex_word (x % 2 ^ 32)

pub half_out : (x : ℕ) (o l₁ l₂ : List ℕ) → 16 ≤ length o → l₁ ≡ hex_word (x / 2 ^ 32) ++ drop 8 o → l₂ ≡ hex_word (x % 2 ^ 32) ++ drop 8 (lent 8 l₁)
    → back 8 l₁ l₂ ≡ half_text x ++ drop 16 o
half_out x o l₁ l₂ h q₁ q₂ =
    (put_next (put_first 8 (hex_word (x / 2 ^ 32)) o l₁ (length-hex_word (x / 2 ^ 32)) q₁) 8 (hex_word (x % 2 ^ 32)) l₂ (length-hex_word (x % 2 ^ 32)) h q₂).whole

length-half : (x : ℕ) → length (half_text x) ≡ 16
length-half x =
    length-append (hex_word (x / 2 ^ 32)) (hex_word (x % 2 ^ 32)) ∙ omega (arith, length-hex_word (x / 2 ^ 32), length-hex_word (x % 2 ^ 32))

id-text : (n : ℕ) → half_text (n / 2 ^ 64) ++ half_text (n % 2 ^ 64) ≡ id_text n
unfolding id_text
id-text n =
    let a : n / 2 ^ 64 / 2 ^ 32 ≡ n / 2 ^ 96 = omega arith in
    let b : n % 2 ^ 64 / 2 ^ 32 ≡ n / 2 ^ 32 % 2 ^ 32 = omega arith in
    let c : n % 2 ^ 64 % 2 ^ 32 ≡ n % 2 ^ 32 = omega arith in
    rw (a, b, c) (append_assoc (hex_word (n / 2 ^ 96)) (hex_word (n / 2 ^ 64 % 2 ^ 32)) (hex_word (n / 2 ^ 32 % 2 ^ 32) ++ hex_word (n % 2 ^ 32)))

pub length-id : (n : ℕ) → length (id_text n) ≡ 32
unfolding id_text
length-id n =
    simp length-append
    (omega (arith, length-hex_word (n / 2 ^ 96), length-hex_word (n / 2 ^ 64 % 2 ^ 32), length-hex_word (n / 2 ^ 32 % 2 ^ 32), length-hex_word (n % 2 ^ 32)))

pub id-out : (n : ℕ) (o l₁ l₂ : List ℕ) → 32 ≤ length o → l₁ ≡ half_text (n / 2 ^ 64) ++ drop 16 o → l₂ ≡ half_text (n % 2 ^ 64) ++ drop 16 (lent 16 l₁)
    → back 16 l₁ l₂ ≡ id_text n ++ drop 32 o
id-out n o l₁ l₂ h q₁ q₂ =
    (put_next (put_first 16 (half_text (n / 2 ^ 64)) o l₁ (length-half (n / 2 ^ 64)) q₁) 16 (half_text (n % 2 ^ 64)) l₂ (length-half (n % 2 ^ 64)) h q₂).whole
    ∙ ap (λ (t : List ℕ). t ++ drop 32 o) (id-text n)

-- ---- the way

pub stop-far : (x : Status) (o out : List ℕ) → number x ≡ number NameTooLong → out ≡ far_text ++ drop 20 o → Written o 20 20 (stop_text x) out
stop-far x o out e q = rw (eq-eqb (number x) (number NameTooLong) e) (refl, omega arith, q)

pub stop-lost : (x : Status) (o out : List ℕ) → (number x ≡ number NameTooLong → ⊥) → out ≡ lost_text ++ drop 11 o → Written o 11 20 (stop_text x) out
stop-lost x o out e q = rw (ne_eqb (number x) (number NameTooLong) e) (refl, omega arith, q)

-- a way does not stop with success
abbrev fails : Way → Bool
fails (reached names) = true
fails (stopped x) = not (eqb (number x) 0)

-- nor does it reach a name where it starts
abbrev pub told : Way → Bool
told (reached []) = false
told (reached (name ∷ names)) = true
told (stopped x) = not (eqb (number x) 0)

fails-below : (name : List ℕ) (w : Way) → fails w ≡ true → fails (below name w) ≡ true
fails-below name (reached names) e = refl
fails-below name (stopped x) e = e

told_below : (name : List ℕ) (w : Way) → fails w ≡ true → told (below name w) ≡ true
told_below name (reached []) e = refl
told_below name (reached (n ∷ names)) e = refl
told_below name (stopped x) e = e

module _ (pool : List ℕ) (rs : List Row) (root : ℕ) where
  up-fails : (left id : ℕ) → fails (upward pool rs root left id) ≡ true
  unfolding upward
  up-fails zero id = go (eqb id root)
    where
      go : (b : Bool) → fails (cond b (reached []) (stopped NameTooLong)) ≡ true
      go true = refl
      go false = refl
  up-fails (suc left) id = go (eqb id root) (find id rs) (up-fails left)
    where
      go : (b : Bool) (r : Option Row) → ((n : ℕ) → fails (upward pool rs root left n) ≡ true) → fails (cond b (reached []) (step pool r (upward pool rs root left))) ≡ true
      go true r k = refl
      go false None k = refl
      go false (Some r) k = fails-below (row_name pool r) (upward pool rs root left (id_number r.parent)) (k (id_number r.parent))

  pub up-told : (left id : ℕ) → eqb id root ≡ false → told (upward pool rs root (suc left) id) ≡ true
  unfolding upward
  up-told left id e = rw e (go (find id rs))
    where
      go : (r : Option Row) → told (step pool r (upward pool rs root left)) ≡ true
      go None = refl
      go (Some r) = told_below (row_name pool r) (upward pool rs root left (id_number r.parent)) (up-fails left (id_number r.parent))

-- what the reply says of the way of a file that is not the root
module _ (r : Answer) (old new : List ℕ) (room : ℕ) (h : room ≤ length old) where
  given : (names : List (List ℕ)) → length (joined names) ≤ room → Replied (way_reply (reached names) (length old)) r old new
      → Replied (give Success (joined names)) r old new
  given names k p = rw (le-leb (length (joined names)) (length old) (omega arith)) at p

  pub way-shown : (w : Way) → told w ≡ true → length (path_of w) ≤ room → Replied (way_reply w (length old)) r old new → number r.status ≡ 0
      → text (take r.count new) ≡ way_text w
  way-shown (reached []) e k p z = let n : ◌≡◌ {A = ℕ} 0 1 = cc in absurd (omega arith)
  way-shown (reached (name ∷ names)) e k p z = ap text (bytes-found (give Success (joined (name ∷ names))) r old new (given (name ∷ names) k p))
  way-shown (stopped x) e k p z =
      let s : number x ≡ 0 = ap (λ (a : Answer). number a.status) (sym p.answered) ∙ z in
      absurd (eqb-false (number x) 0 (not-true (eqb (number x) 0) e) s)

  pub way-stopped : (w : Way) → told w ≡ true → length (path_of w) ≤ room → Replied (way_reply w (length old)) r old new → (number r.status ≡ 0 → ⊥)
      → stop_text r.status ≡ way_text w
  way-stopped (reached []) e k p z = let n : ◌≡◌ {A = ℕ} 0 1 = cc in absurd (omega arith)
  way-stopped (reached (name ∷ names)) e k p z =
      absurd (z (ap (λ (a : Answer). number a.status) (given (name ∷ names) k p).answered))
  way-stopped (stopped x) e k p z = ap (λ (a : Answer). stop_text a.status) p.answered

-- what is written of it
pub way_out : (o out part shown : List ℕ) (r n m : ℕ) → Written o r n part out → part ≡ shown → n ≤ m → Written o r m shown out
way_out o out part shown r n m q e h = (q.0 ∙ ap length e, omega arith, q.2 ∙ ap (λ (l : List ℕ). l ++ drop r o) e)

pub root-out : (pool : List ℕ) (rs : List Row) (root left id : ℕ) (o out : List ℕ) → eqb id root ≡ true → out ≡ root_text ++ drop 6 o
    → Written o 6 98298 (way_text (upward pool rs root (suc left) id)) out
unfolding upward
root-out pool rs root left id o out e q = rw e (refl, omega arith, q)

-- two ids are compared by numbers that are theirs
pub same_test : (a b m n : ℕ) → a ≡ m → b ≡ n → eqb a b ≡ eqb m n
same_test a b m n e f = rw (e, f)

-- ---- the line

-- the id that was copied from a row is the one that was read there
pub row-id : (table id : List ℕ) (at n : ℕ) → n < 2 ^ 128 → n ≡ number_at table at 16 → id ≡ id_bytes (unle (take (at + 16 - at) (drop at table))) → n ≡ id_number id
unfolding number_at
row-id table id at n h q e =
    let z : at + 16 - at ≡ 16 = omega arith in
    let i : id ≡ id_bytes n = rw z at e ∙ ap id_bytes (sym q) in
    sym (ap id_number i ∙ number-back n h)

pub line-out : (n m : ℕ) (shown o l₁ l₂ : List ℕ) → 98332 ≤ length o → l₁ ≡ id_text n ++ drop 32 o
    → Written (lent 33 (set l₁ 32 32)) m 98298 shown l₂
    → Written o (33 + m + 1) 98332 (id_text n ++ (32 ∷ (shown ++ (10 ∷ [])))) (set (back 33 (set l₁ 32 32) l₂) (33 + m) 10)
line-out n m shown o l₁ l₂ h q₁ q₂ =
    let p₁ = put_byte (put_first 32 (id_text n) o l₁ (length-id n) q₁) 32 (omega arith) in
    let p₂ = put_next p₁ m shown l₂ (sym q₂.0) (omega arith) q₂.2 in
    put_written (put_byte p₂ 10 (omega arith)) 98332 (id_text n ++ (32 ∷ (shown ++ (10 ∷ [])))) (simp append_assoc) (omega arith)

-- with the row's own id
pub row_line : (pool : List ℕ) (rs : List Row) (root : ℕ) (r : Row) (n m : ℕ) (id o l₁ l₂ : List ℕ) → 98332 ≤ length o → n ≡ id_number id → n ≡ id_number r.id
    → l₁ ≡ id_text n ++ drop 32 o
    → Written (lent 33 (set l₁ 32 32)) m 98298 (way_text (upward pool rs root 64 (id_number id))) l₂
    → Written o (33 + m + 1) 98332 (path_line pool rs root r) (set (back 33 (set l₁ 32 32) l₂) (33 + m) 10)
unfolding path_line
row_line pool rs root r n m id o l₁ l₂ h k e q₁ q₂ =
    let a : l₁ ≡ id_text (id_number r.id) ++ drop 32 o = q₁ ∙ ap (λ (x : ℕ). id_text x ++ drop 32 o) e in
    line-out (id_number r.id) m (way_text (upward pool rs root 64 (id_number r.id))) o l₁ l₂ h a
    (way_out (lent 33 (set l₁ 32 32)) l₂ _ _ m 98298 98298 q₂ (ap (λ (x : ℕ). way_text (upward pool rs root 64 x)) (sym k ∙ e)) (omega arith))
