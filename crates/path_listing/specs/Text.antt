-- A path as text: UTF-8, with what is no character shown by its code units.
use Rattle.std.specs.Prelude.{Bool, not, cond, ◌&&◌, ◌||◌, List, [], ◌∷◌, ◌++◌, ℕ, ◌+◌, ◌-◌, ◌*◌, ◌/◌, ◌%◌, leb, ltb, eqb}
use Rattle.hex_text.specs.Hex.{hex_byte}

-- ---- characters

-- n is from a to b
abbrev pub within : ℕ → ℕ → ℕ → Bool
within a b n = leb a n && leb n b

-- two code units that are one character
abbrev pub is_pair : ℕ → ℕ → Bool
is_pair u v = within 0xD800 0xDBFF u && within 0xDC00 0xDFFF v

-- which one
abbrev pub pair_of : ℕ → ℕ → ℕ
pair_of u v = 0x10000 + 0x400 * (u - 0xD800) + (v - 0xDC00)

-- a control character, and what ends a line or turns its direction
unfoldable pub is_control : ℕ → Bool
is_control c = ltb c 0x20 || (within 0x7F 0x9F c || (within 0x2028 0x202E c || within 0x2066 0x2069 c))

-- half of a pair, or one of the code points that stand for no character
abbrev pub is_none : ℕ → Bool
is_none c = within 0xD800 0xDFFF c || (within 0xFDD0 0xFDEF c || leb 0xFFFE (c % 0x10000))

-- shown as it is: any other character but '<', which begins an escape
unfoldable pub is_shown : ℕ → Bool
is_shown c = not (is_control c) && (not (is_none c) && not (eqb c 0x3C))

-- ---- how they are shown

-- a character in UTF-8
unfoldable pub utf8 : ℕ → List ℕ
utf8 c =
    cond (ltb c 0x80) (c ∷ [])
    (cond (ltb c 0x800) ((0xC0 + c / 0x40) ∷ (0x80 + c % 0x40) ∷ [])
    (cond (ltb c 0x10000) ((0xE0 + c / 0x1000) ∷ (0x80 + c / 0x40 % 0x40) ∷ (0x80 + c % 0x40) ∷ [])
    ((0xF0 + c / 0x40000) ∷ (0x80 + c / 0x1000 % 0x40) ∷ (0x80 + c / 0x40 % 0x40) ∷ (0x80 + c % 0x40) ∷ [])))

-- a code unit as an escape: '<', four digits, '>'
abbrev pub escape : ℕ → List ℕ
escape u = 0x3C ∷ (hex_byte (u / 256) ++ (hex_byte (u % 256) ++ (0x3E ∷ [])))

-- a code unit that is not in a pair
abbrev pub unit_text : ℕ → List ℕ
unit_text u = cond (is_shown u) (utf8 u) (escape u)

-- a pair
abbrev pub pair_text : ℕ → ℕ → List ℕ
pair_text u v = cond (is_shown (pair_of u v)) (utf8 (pair_of u v)) (escape u ++ escape v)

-- a run of code units, each two bytes, the lower first; a single last byte shows nothing
unfoldable pub text : List ℕ → List ℕ
text [] = []
text (a ∷ []) = []
text (a ∷ b ∷ []) = unit_text (a + 256 * b)
text (a ∷ b ∷ c ∷ []) = unit_text (a + 256 * b)
text (a ∷ b ∷ c ∷ d ∷ s) =
    let u = a + 256 * b in
    let v = c + 256 * d in
    cond (is_pair u v) (pair_text u v ++ text s) (unit_text u ++ text (c ∷ d ∷ s))
