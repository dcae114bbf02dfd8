-- What a receipt printer does with the bytes that reach it (ESC/POS).
use Rattle.std.specs.Prelude.{◌≡◌, ℕ, ◌-◌, ◌%◌, Bool, false, List, [], ◌∷◌, ◌++◌, length, nat_le, ◌==◌, ◌&&◌, ◌||◌}
use Rattle.std.specs.Prelude.{if◌then◌else◌, Option, Some, None, bytes_eq, drop, take}
use Rattle.std.specs.List.{fold, list_all}
use Rattle.pos_service.specs.declared.receipt_text.Alignment.{Alignment}
use Rattle.pos_service.specs.declared.receipt_text.Alignment.TheVariants as alignment
use Rattle.pos_service.specs.declared.receipt_text.PrintedCharacter.{PrintedCharacter}

-- what is on the paper: a line, a full or partial cut, or lines fed with nothing on them; before a cut the paper was
-- fed to the cutter and so many dots on, or not at all
pub data OnPaper : Type 0 where
  PrintedLine : (alignment : Alignment) (characters : List PrintedCharacter) → OnPaper
  CutThrough : (is_full : Bool) (feed : Option ℕ) → OnPaper
  Fed : (lines : ℕ) → OnPaper

-- a pulse at a pin of the drawer connector, in 2 ms on and off
pub record Pulse : Type 0 where
  pub pin : ℕ
  pub on : ℕ
  pub off : ℕ

-- a printer: its paper, line buffer, alignment and bold, the pulses that it gave, the commands for a status that it
-- got, those that the machine doesn't know, and the bytes of a command that isn't whole yet
pub record Press : Type 0 where
  pub paper : List OnPaper
  pub line : List PrintedCharacter
  pub alignment : Alignment
  pub is_bold : Bool
  pub pulses : List Pulse
  pub asked : List (List ℕ)
  pub unknown : List (List ℕ)
  pub begun : List ℕ

-- A command that isn't said here, or not with such a number or at such a place. A printer may do anything then, and how
-- many bytes the command has is a guess.
abbrev pub not_known : List ℕ → Press → Press
not_known bytes press = record press { unknown = press.unknown ++ bytes ∷ [] }

-- the line buffer is empty
abbrev pub is_at_line_start : Press → Bool
is_at_line_start press = length press.line == 0

-- something more on the paper
abbrev pub laid : OnPaper → Press → Press
laid item press = record press { paper = press.paper ++ item ∷ [] }

-- LF: the line buffer is a line; an empty one is an empty line
abbrev pub line_ended : Press → Press
line_ended press = record press { paper = press.paper ++ PrintedLine press.alignment press.line ∷ []; line = [] }

-- a character at the end of the line buffer
abbrev pub character_put : ℕ → Press → Press
character_put b press =
    record press { line = press.line ++ record { byte = b; is_bold = press.is_bold } ∷ [] }

-- a character: if the line buffer is full, it is a line first
abbrev pub character_taken : ℕ → ℕ → Press → Press
character_taken width b press =
    if length press.line == width then character_put b (line_ended press) else character_put b press

-- ESC @: the line buffer is cleared, bold off, the alignment left
abbrev pub initialized : Press → Press
initialized press = record press { line = []; alignment = alignment.Left; is_bold = false }

-- the alignment with a number of 0 to 2
abbrev pub alignment_by : ℕ → Alignment
alignment_by n = if n == 0 then alignment.Left else (if n == 1 then alignment.Center else alignment.Right)

-- ESC a: another alignment, at the beginning of a line alone
abbrev pub aligned : ℕ → Press → Press
aligned n press =
    if is_at_line_start press && nat_le n 2 then record press { alignment = alignment_by n }
    else not_known (27 ∷ 97 ∷ n ∷ []) press

-- ESC E: characters are bold from here on, or not
abbrev pub emboldened : ℕ → Press → Press
emboldened n press = record press { is_bold = n % 2 == 1 }

-- ESC d: a line that has begun is printed, and the paper fed by so many lines in all
abbrev pub fed : ℕ → Press → Press
fed n press = if is_at_line_start press then laid (Fed n) press else laid (Fed (n - 1)) (line_ended press)

-- GS V, with these bytes: a cut, at the beginning of a line alone
abbrev pub cut_through : List ℕ → Bool → Option ℕ → Press → Press
cut_through bytes is_full feed press =
    if is_at_line_start press then laid (CutThrough is_full feed) press else not_known bytes press

-- ESC p: a pulse at pin 2 or 5
abbrev pub pulsed : ℕ → ℕ → ℕ → Press → Press
pulsed m on off press =
    if nat_le m 1
    then record press { pulses = press.pulses ++ record { pin = if m == 0 then 2 else 5; on = on; off = off } ∷ [] }
    else not_known (27 ∷ 112 ∷ m ∷ on ∷ off ∷ []) press

-- a command for a status
abbrev pub questioned : List ℕ → Press → Press
questioned bytes press = record press { asked = press.asked ++ bytes ∷ [] }

-- a command of three bytes asks for a status: GS a with 0 or 255, GS r with 1 or 2, DLE EOT with 1 to 4
abbrev pub asks_status : ℕ → ℕ → ℕ → Bool
asks_status a b n =
    (a == 29 && b == 97 && (n == 0 || n == 255)) || (a == 29 && b == 114 && (n == 1 || n == 2))
    || (a == 16 && b == 4 && nat_le 1 n && nat_le n 4)

-- a command of eleven bytes asks for a job's end: GS ( H with four characters
abbrev pub asks_job_end : List ℕ → Bool
asks_job_end bytes =
    bytes_eq (take 7 bytes) (29 ∷ 40 ∷ 72 ∷ 6 ∷ 0 ∷ 48 ∷ 48 ∷ [])
    && list_all (λ b. nat_le 32 b && nat_le b 126) (drop 7 bytes)

-- the bytes of ESC and this byte: @ has two, p five, each other three
abbrev pub escape_size : ℕ → ℕ
escape_size b = if b == 64 then 2 else (if b == 112 then 5 else 3)

-- the bytes of GS V and these: 65 and 66 are followed by a feed
abbrev pub cut_size : List ℕ → ℕ
cut_size [] = 3
cut_size (n ∷ more) = if n == 65 || n == 66 then 4 else 3

-- the bytes of GS and these: ( has eleven, V by its cut, each other three
abbrev pub group_size : ℕ → List ℕ → ℕ
group_size b more = if b == 40 then 11 else (if b == 86 then cut_size more else 3)

-- how many bytes the command has that begins so; while too few have come to say it, one more than have come
abbrev pub size_of : List ℕ → ℕ
size_of [] = 1
size_of (a ∷ []) = if a == 27 || a == 29 || a == 16 then 2 else 1
size_of (a ∷ b ∷ more) =
    if a == 27 then escape_size b else (if a == 29 then group_size b more else 3)

-- a single byte: LF, a character of 20 and more, or another control character
abbrev pub obeys_byte : ℕ → ℕ → Press → Press
obeys_byte width b press =
    if b == 10 then line_ended press
    else (if nat_le 32 b then character_taken width b press else not_known (b ∷ []) press)

-- ESC and a command with one number
abbrev pub obeys_escape : ℕ → ℕ → Press → Press
obeys_escape b n press =
    if b == 97 then aligned n press
    else (if b == 69 then emboldened n press
    else (if b == 100 then fed n press else not_known (27 ∷ b ∷ n ∷ []) press))

-- a command of three bytes: GS V with 0 or 1 cuts without a feed
abbrev pub obeys_three : ℕ → ℕ → ℕ → Press → Press
obeys_three a b n press =
    if a == 27 then obeys_escape b n press
    else (if a == 29 && b == 86 && nat_le n 1 then cut_through (a ∷ b ∷ n ∷ []) (n == 0) None press
    else (if asks_status a b n then questioned (a ∷ b ∷ n ∷ []) press else not_known (a ∷ b ∷ n ∷ []) press))

-- a command that is whole
abbrev pub obeys : ℕ → List ℕ → Press → Press
obeys width (a ∷ []) press = obeys_byte width a press
obeys width (a ∷ b ∷ []) press = initialized press
obeys width (a ∷ b ∷ n ∷ []) press = obeys_three a b n press
obeys width (a ∷ b ∷ n ∷ dots ∷ []) press = cut_through (a ∷ b ∷ n ∷ dots ∷ []) (n == 65) (Some dots) press
obeys width (a ∷ b ∷ m ∷ on ∷ off ∷ []) press = pulsed m on off press
obeys width bytes press = if asks_job_end bytes then questioned bytes press else not_known bytes press

-- the bytes of a command so far: it is obeyed once it is whole
abbrev pub command_taken : ℕ → List ℕ → Press → Press
command_taken width bytes press =
    if nat_le (size_of bytes) (length bytes)
    then obeys width bytes (record press { begun = [] })
    else record press { begun = bytes }

-- one byte, at a printer of so many characters a line
abbrev pub takes : ℕ → Press → ℕ → Press
takes width press b = command_taken width (press.begun ++ b ∷ []) press

-- a printer after these bytes
abbrev pub press_after : ℕ → Press → List ℕ → Press
press_after width press bytes = fold (takes width) press bytes

-- a printer at the beginning of a line and of a command, not bold
pub record IsReady (press : Press) : Type 0 where
  pub line : press.line ≡ []
  pub not_bold : press.is_bold ≡ false
  pub whole : press.begun ≡ []

-- From the old printer, ready and with nothing else done, so much was printed, and each command is known.
pub record PrintsOnly (old : Press) (items : List OnPaper) (new : Press) : Type 0 where
  pub paper : new.paper ≡ old.paper ++ items
  pub ready : IsReady new
  pub pulses : new.pulses ≡ old.pulses
  pub asked : new.asked ≡ old.asked
  pub unknown : new.unknown ≡ old.unknown
