-- What C is told by a number (abi/README.md, "Codes").
use Rattle.std.specs.Prelude.{ℕ, Bool, true, false, Result, Ok, Err}
use Rattle.pos_run.specs.declared.waiting_lines.LineProgress.{LineProgress}
use Rattle.pos_run.specs.declared.waiting_lines.LineProgress.TheVariants.{Printed, Waits, NoMemory}

-- the call did what it says
abbrev pub ok : ℕ
ok = 0

-- there was no memory, and nothing was done but lines before one that is held
abbrev pub no_memory : ℕ
no_memory = 1

-- the profile is refused
abbrev pub bad_profile : ℕ
bad_profile = 2

-- what is told is longer than the room for it
abbrev pub short : ℕ
short = 3

-- there was no memory for the whole answer
abbrev pub cut : ℕ
cut = 4

-- the answer waits for errands
abbrev pub errands_left : ℕ
errands_left = 5

-- errands of earlier lines are left
abbrev pub undone : ℕ
undone = 6

-- the file fell behind
abbrev pub disk_failed : ℕ
disk_failed = 7

-- totals are in the file already
abbrev pub formatted : ℕ
formatted = 8

-- the file is shorter than a disk
abbrev pub too_small : ℕ
too_small = 9

-- an errand that writes
abbrev pub write : ℕ
write = 10

-- an errand that makes what was written stay
abbrev pub sync : ℕ
sync = 11

-- an order is told
abbrev pub order_told : ℕ
order_told = 12

-- no device of the name has orders, or replies
abbrev pub no_device : ℕ
no_device = 13

-- the profile isn't text, or is no TOML document
abbrev pub bad_text : ℕ
bad_text = 14

-- the file isn't formatted
abbrev pub unformatted : ℕ
unformatted = 15

-- the totals in the file are damaged
abbrev pub damaged : ℕ
damaged = 16

-- the totals in the file have layout 2 already
abbrev pub moved : ℕ
moved = 17

-- a control has an event to deliver
abbrev pub event_there : ℕ
event_there = 18

-- no control has the name
abbrev pub no_control : ℕ
no_control = 19

-- a line waits for the host
abbrev pub waits : ℕ
waits = 20

-- the host has no order, or it has no bytes
abbrev pub no_order : ℕ
no_order = 21

-- the settings of the hardware are out of their ranges
abbrev pub bad_settings : ℕ
bad_settings = 22

-- the code of a text that is told, by whether the room holds it: this one, or that it doesn't
abbrev pub told_as : ℕ → Bool → ℕ
told_as fine true = fine
told_as fine false = short

-- the code of an answer, by whether the room holds it
abbrev pub told : Bool → ℕ
told true = ok
told false = short

-- the code of the line that is left
abbrev pub left_code : LineProgress → ℕ
left_code Printed = ok
left_code Waits = waits
left_code NoMemory = no_memory

-- the code of lines that were carried out, all of them or as far as there was memory for what they print, by whether
-- the room holds the answer, and by what is left
abbrev pub carried : {E : Type 0} → Result (Unit {0}) E → Bool → LineProgress → ℕ
carried (Ok u) true left = left_code left
carried (Ok u) false left = short
carried (Err fault) holds left = cut
