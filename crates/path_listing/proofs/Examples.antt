-- Paths, ids and lines as literal text.
-- Assumes nothing.
use mathlib.Core.Path.{◌≡◌, refl}
use mathlib.Core.List.{[], ◌∷◌}
use Prim.Native.Nat.{◌+◌, ◌^◌}
use Rattle.hex_text.specs.Hex.{hex_digit, hex_byte, hex_bytes, hex_word}
use Rattle.file_table.specs.Table.{find}
use Rattle.file_path.specs.Path.{upward}
use Rattle.path_listing.specs.Text.{is_control, is_shown, utf8, text}
use Rattle.path_listing.specs.Listing.{id_text, way_text}

-- "a"
pub letter : text (0x61 ∷ 0x00 ∷ []) ≡ 0x61 ∷ []
unfolding text is_control is_shown utf8
letter = refl

-- U+E4
pub umlaut : text (0xE4 ∷ 0x00 ∷ []) ≡ 0xC3 ∷ 0xA4 ∷ []
unfolding text is_control is_shown utf8
umlaut = refl

-- U+20AC
pub euro : text (0xAC ∷ 0x20 ∷ []) ≡ 0xE2 ∷ 0x82 ∷ 0xAC ∷ []
unfolding text is_control is_shown utf8
euro = refl

-- U+1F600
pub pair : text (0x3D ∷ 0xD8 ∷ 0x00 ∷ 0xDE ∷ []) ≡ 0xF0 ∷ 0x9F ∷ 0x98 ∷ 0x80 ∷ []
unfolding text is_control is_shown utf8
pair = refl

-- U+10FFFD, the last character
pub last-pair : text (0xFF ∷ 0xDB ∷ 0xFD ∷ 0xDF ∷ []) ≡ 0xF4 ∷ 0x8F ∷ 0xBF ∷ 0xBD ∷ []
unfolding text is_control is_shown utf8
last-pair = refl

-- "<d83d>": a first half alone
pub first-half : text (0x3D ∷ 0xD8 ∷ []) ≡ 0x3C ∷ 0x64 ∷ 0x38 ∷ 0x33 ∷ 0x64 ∷ 0x3E ∷ []
unfolding text is_control is_shown hex_byte hex_digit
first-half = refl

-- "<de00>": a second half alone
pub second-half : text (0x00 ∷ 0xDE ∷ []) ≡ 0x3C ∷ 0x64 ∷ 0x65 ∷ 0x30 ∷ 0x30 ∷ 0x3E ∷ []
unfolding text is_control is_shown hex_byte hex_digit
second-half = refl

-- "<d83d>a": a first half, and a letter behind it
pub half-letter : text (0x3D ∷ 0xD8 ∷ 0x61 ∷ 0x00 ∷ []) ≡ 0x3C ∷ 0x64 ∷ 0x38 ∷ 0x33 ∷ 0x64 ∷ 0x3E ∷ 0x61 ∷ []
unfolding text is_control is_shown utf8 hex_byte hex_digit
half-letter = refl

-- two first halves and a second: an escape, then U+1F600
pub half-pair :
    text (0x3D ∷ 0xD8 ∷ 0x3D ∷ 0xD8 ∷ 0x00 ∷ 0xDE ∷ [])
    ≡
    0x3C ∷ 0x64 ∷ 0x38 ∷ 0x33 ∷ 0x64 ∷ 0x3E ∷ 0xF0 ∷ 0x9F ∷ 0x98 ∷ 0x80 ∷ []
unfolding text is_control is_shown utf8 hex_byte hex_digit
half-pair = refl

-- "<000a>": LF
pub line-end : text (0x0A ∷ 0x00 ∷ []) ≡ 0x3C ∷ 0x30 ∷ 0x30 ∷ 0x30 ∷ 0x61 ∷ 0x3E ∷ []
unfolding text is_control is_shown hex_byte hex_digit
line-end = refl

-- "<0085>": a control character that some take for the end of a line
pub next-line : text (0x85 ∷ 0x00 ∷ []) ≡ 0x3C ∷ 0x30 ∷ 0x30 ∷ 0x38 ∷ 0x35 ∷ 0x3E ∷ []
unfolding text is_control is_shown hex_byte hex_digit
next-line = refl

-- a character that ends a line, though it is no control character
pub line-separator : text (0x28 ∷ 0x20 ∷ []) ≡ 0x3C ∷ 0x32 ∷ 0x30 ∷ 0x32 ∷ 0x38 ∷ 0x3E ∷ []
unfolding text is_control is_shown hex_byte hex_digit
line-separator = refl

-- "<003c>": '<' itself
pub bracket : text (0x3C ∷ 0x00 ∷ []) ≡ 0x3C ∷ 0x30 ∷ 0x30 ∷ 0x33 ∷ 0x63 ∷ 0x3E ∷ []
unfolding text is_control is_shown hex_byte hex_digit
bracket = refl

-- "<fffe>": U+FFFE, which stands for no character
pub none : text (0xFE ∷ 0xFF ∷ []) ≡ 0x3C ∷ 0x66 ∷ 0x66 ∷ 0x66 ∷ 0x65 ∷ 0x3E ∷ []
unfolding text is_control is_shown hex_byte hex_digit
none = refl

-- "<d83f><dffe>": U+1FFFE, as its two halves
pub no-pair :
    text (0x3F ∷ 0xD8 ∷ 0xFE ∷ 0xDF ∷ [])
    ≡
    0x3C ∷ 0x64 ∷ 0x38 ∷ 0x33 ∷ 0x66 ∷ 0x3E ∷ 0x3C ∷ 0x64 ∷ 0x66 ∷ 0x66 ∷ 0x65 ∷ 0x3E ∷ []
unfolding text is_control is_shown hex_byte hex_digit
no-pair = refl

-- "a\b": the separator as it is
pub separated : text (0x61 ∷ 0x00 ∷ 0x5C ∷ 0x00 ∷ 0x62 ∷ 0x00 ∷ []) ≡ 0x61 ∷ 0x5C ∷ 0x62 ∷ []
unfolding text is_control is_shown utf8
separated = refl

-- ---- a line

-- an id of more than 64 bits: "00000000000000010000000000000017"
pub wide-id :
    id_text (2 ^ 64 + 0x17)
    ≡
    48 ∷ 48 ∷ 48 ∷ 48 ∷ 48 ∷ 48 ∷ 48 ∷ 48 ∷ 48 ∷ 48 ∷ 48 ∷ 48 ∷ 48 ∷ 48 ∷ 48 ∷ 49
    ∷ 48 ∷ 48 ∷ 48 ∷ 48 ∷ 48 ∷ 48 ∷ 48 ∷ 48 ∷ 48 ∷ 48 ∷ 48 ∷ 48 ∷ 48 ∷ 48 ∷ 49 ∷ 55 ∷ []
unfolding id_text hex_word hex_bytes hex_byte hex_digit
wide-id = refl

-- a table with no rows: the root, and a file whose parent is missing
pub root-shown : way_text (upward [] [] 5 64 5) ≡ 60 ∷ 114 ∷ 111 ∷ 111 ∷ 116 ∷ 62 ∷ []
unfolding upward
root-shown = refl

pub lost-shown : way_text (upward [] [] 5 64 6) ≡ 60 ∷ 110 ∷ 111 ∷ 32 ∷ 112 ∷ 97 ∷ 114 ∷ 101 ∷ 110 ∷ 116 ∷ 62 ∷ []
unfolding upward find
lost-shown = refl
