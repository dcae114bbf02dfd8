-- The report of trials in JUnit's form of XML (docs/reference/tool.md, "test").
use Rattle.std.specs.Prelude.{ℕ, ◌+◌, ◌-◌, ◌/◌, ◌%◌, ◌==◌, ◌++◌, ◌∷◌, ◌&&◌, ◌||◌, Bool, not, List, [], bytes_eq, codes}
use Rattle.std.specs.Prelude.{decimal, flat_map, if◌then◌else◌, length, nat_lt, slice_index_or}
use Rattle.std.specs.List.{list_any}
use Rattle.pos_script.specs.Lines.{is_nothing}
use Rattle.pos_shell.specs.Trials.{failures}
use Rattle.pos_shell.specs.declared.trials.Trial.{Trial}

-- a byte lies in a range
abbrev pub is_within : ℕ → ℕ → ℕ → Bool
is_within low high byte = not (nat_lt byte low) && not (nat_lt high byte)

-- the byte at a place, 0 behind the last
abbrev pub byte_at : List ℕ → ℕ → ℕ
byte_at bytes place = slice_index_or bytes place 0

-- a byte of UTF-8 that isn't the first one of its character
abbrev pub is_next : ℕ → Bool
is_next byte = is_within 128 191 byte

-- the second byte of a character, by its first one: the character has no shorter spelling, is no surrogate, and isn't
-- above the last one
abbrev pub is_second : ℕ → ℕ → Bool
is_second first byte = is_within (if first == 224 then 160 else if first == 240 then 144 else 128)
    (if first == 237 then 159 else if first == 244 then 143 else 191) byte

-- U+FFFE or U+FFFF, which XML 1.0 excludes
abbrev pub is_excluded : ℕ → ℕ → ℕ → Bool
is_excluded first second third = first == 239 && second == 191 && is_within 190 191 third

-- two bytes spell a character, three do, or four
abbrev pub are_two : ℕ → List ℕ → Bool
are_two first rest = is_within 194 223 first && is_next (byte_at rest 0)

abbrev pub are_three : ℕ → List ℕ → Bool
are_three first rest = is_within 224 239 first && is_second first (byte_at rest 0) && is_next (byte_at rest 1)
    && not (is_excluded first (byte_at rest 0) (byte_at rest 1))

abbrev pub are_four : ℕ → List ℕ → Bool
are_four first rest = is_within 240 244 first && is_second first (byte_at rest 0) && is_next (byte_at rest 1)
    && is_next (byte_at rest 2)

-- how many bytes the character has that they spell from here on, if it isn't ASCII and XML 1.0 may have it; else none
abbrev pub spelled : ℕ → List ℕ → ℕ
spelled first rest =
    if are_two first rest then 2 else if are_three first rest then 3 else if are_four first rest then 4 else 0

-- how many bytes from here on are of such a character, by how many were known to be
abbrev pub known_at : ℕ → ℕ → List ℕ → ℕ
known_at known first rest = if known == 0 then spelled first rest else known

-- a digit of a byte in hex
abbrev pub hex_digit : ℕ → ℕ
hex_digit value = if nat_lt value 10 then 48 + value else 87 + value

-- a byte that XML can't have
abbrev pub hex_byte : ℕ → List ℕ
hex_byte byte = 92 ∷ 120 ∷ hex_digit (byte / 16) ∷ hex_digit (byte % 16) ∷ []

-- a byte, which may be of a character that XML may have: by an escape, as it is, or in hex
abbrev pub piece : Bool → ℕ → List ℕ
piece is_known byte =
    if byte == 38 then codes "&amp;" else if byte == 60 then codes "&lt;" else if byte == 62 then codes "&gt;" else
    if byte == 34 then codes "&quot;" else if byte == 9 then codes "&#9;" else if byte == 10 then codes "&#10;" else
    if byte == 13 then codes "&#13;" else if nat_lt byte 32 then hex_byte byte else
    if nat_lt byte 128 || is_known then byte ∷ [] else hex_byte byte

-- the pieces of bytes, the first of which are known to be of a character
abbrev pub pieces_from : ℕ → List ℕ → List (List ℕ)
pieces_from known [] = []
pieces_from known (byte ∷ bytes) =
    piece (nat_lt 0 (known_at known byte bytes)) byte ∷ pieces_from (known_at known byte bytes - 1) bytes

-- bytes as the text of an element or of an attribute
abbrev pub escaped : List ℕ → List ℕ
escaped bytes = flat_map (λ part. part) (pieces_from 0 bytes)

-- a byte that XML reads as markup
abbrev pub is_markup : ℕ → Bool
is_markup byte = byte == 60 || byte == 38 || byte == 34

-- an escape
abbrev pub is_escape : List ℕ → Bool
is_escape text = bytes_eq text (codes "&amp;") || bytes_eq text (codes "&lt;") || bytes_eq text (codes "&gt;")
    || bytes_eq text (codes "&quot;") || bytes_eq text (codes "&#9;") || bytes_eq text (codes "&#10;")
    || bytes_eq text (codes "&#13;")

-- an escape, or bytes that aren't markup
abbrev pub is_harmless : List ℕ → Bool
is_harmless text = is_escape text || not (list_any is_markup text)

-- the failure of a script whose answers differ
abbrev pub failed_text : List ℕ → List ℕ
failed_text differences =
    codes "\"><failure message=\"answers differ\">" ++ escaped differences ++ codes "</failure></testcase>\n"

-- the rest of the element of a script that was tried: its failure, if its answers differ
abbrev pub failure_text : List ℕ → List ℕ
failure_text differences = if is_nothing differences then codes "\"/>\n" else failed_text differences

-- the element of a script that was tried
abbrev pub case_text : Trial → List ℕ
case_text trial = codes "<testcase classname=\"kijolvar\" name=\"" ++ escaped trial.path.now
    ++ failure_text trial.differences.items

-- how many tests there are, and how many failed
abbrev pub counts_text : List Trial → List ℕ
counts_text trials = decimal (length trials) ++ codes "\" failures=\"" ++ decimal (failures trials)

-- what is before the elements of the scripts
abbrev pub head_text : List Trial → List ℕ
head_text trials = codes "<?xml version=\"1.0\" encoding=\"UTF-8\"?>\n<testsuite name=\"kijolvar\" tests=\""
    ++ counts_text trials ++ codes "\">\n"

-- the whole report
abbrev pub junit : List Trial → List ℕ
junit trials = head_text trials ++ flat_map case_text trials ++ codes "</testsuite>\n"
