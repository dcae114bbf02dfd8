-- What a till's host is told of its devices' orders (abi/README.md, "Your own devices").
use Rattle.std.specs.Prelude.{◌≡◌, ◌≤◌, ◌<◌, ◌⊎◌, ◌++◌, ◌∷◌, [], ℕ, List, IfSome, MatchResult, Result, Ok, false, true}
use Rattle.std.specs.Prelude.{codes, decimal, drop, length, map}
use Rattle.std.specs.declared.vec.Vec.{Vec}
use Rattle.pos_service.specs.declared.faults.NoMemory.{NoMemory}
use Rattle.pos_service.specs.declared.order.Argument.{Argument}
use Rattle.pos_service.specs.declared.order.Argument.TheVariants.{Bytes, Number}
use Rattle.pos_service.specs.declared.order.Order.{Order}
use Rattle.pos_service.specs.declared.order.Reply.{Reply}
use Rattle.pos_service.specs.declared.order.Reply.TheVariants as reply
use Rattle.pos_service.specs.Peripherals.{Asked, PeripheralState, order_arguments, order_fits, order_word}
use Rattle.pos_script.specs.Text.{hex_text}
use Rattle.pos_drive.specs.declared.courses.Course.{Course}
use Rattle.pos_drive.specs.declared.courses.Course.TheVariants.{Free}
use Rattle.pos_drive.specs.declared.driven.Driven.{Driven}
use Rattle.pos_drive.specs.DrivenPeripherals.{driven_state}
use Rattle.pos_run.specs.declared.wrapped.Wrapped.{Wrapped}
use Rattle.pos_run.specs.Simulations.{Mounts, wrapped_devices}
use Rattle.kijolvar.specs.declared.device.Device.{Device}
use Rattle.kijolvar.specs.Codes.{ok, order_told, short}

-- a number, and bytes in hex, behind a space
abbrev pub number_word : ℕ → List ℕ
number_word n = codes " " ++ decimal n

abbrev pub bytes_word : List ℕ → List ℕ
bytes_word bytes = codes " " ++ hex_text bytes

-- an argument of an order behind a space (docs/reference/console.md, "Methods")
abbrev pub argument_text : Argument → List ℕ
argument_text (Number n) = number_word n
argument_text (Bytes bytes) = bytes_word bytes

-- a line with arguments behind it
abbrev pub with_arguments : List ℕ → List Argument → List ℕ
with_arguments line [] = line
with_arguments line (argument ∷ arguments) = with_arguments (line ++ argument_text argument) arguments

-- the line of a device's order: the device's name, the order's word and its arguments
abbrev pub order_text : List ℕ → Order → List ℕ
order_text device asked = with_arguments (device ++ codes " " ++ order_word asked) (order_arguments asked)

-- what contracts see of a simulated peripheral that may be driven
abbrev pub twin_state : Driven Wrapped → PeripheralState
twin_state driven = driven_state wrapped_devices driven

-- what contracts see of a till's device: the simulated peripheral in it, with the count of the orders that came by the
-- device
abbrev pub device_state : Device → PeripheralState
device_state device = record (twin_state device.driven) { orders = device.asks }

-- how a till's device stands to the host
abbrev pub device_course : Device → Course
device_course device = device.driven.course

-- a simulated peripheral is put into a device that is not driven, whose orders are kept under the name of its entry; a
-- spare's aren't kept
abbrev pub mounts_device : Mounts Device
mounts_device entry made device =
    (device.driven.twin ≡ made) × (device.driven.course ≡ Free)
    × IfSome device.order_sender (λ order_sender. order_sender.device.items ≡ entry.name)

-- the simulated peripheral was given an order, and isn't driven if it wasn't; or there was no memory for its line, and
-- it wasn't given any
abbrev pub AsksTwin : Driven Wrapped → Order → Result Reply NoMemory → Driven Wrapped → Type 0
AsksTwin old asked outcome new =
    ((twin_state old).is_parked ≡ false → order_fits (twin_state old).kind asked ≡ true
    → Asked (twin_state old) asked outcome (twin_state new) × (old.course ≡ Free → new.course ≡ Free))
    ⊎ MatchResult outcome (λ said. ⊥) (λ want. new ≡ old)

-- the bytes of lines
abbrev pub order_lines : {A : Type 0} → List (Vec ℕ A) → List (List ℕ)
order_lines lines = map (λ line. line.items) lines

-- the line of an order is kept behind the others where the order was carried out, and no other is
abbrev pub Keeps : List ℕ → Result Reply NoMemory → (old new : List (List ℕ)) → Type 0
Keeps line (Ok reply.Done) old new = new ≡ old ++ line ∷ []
Keeps line outcome old new = new ≡ old

-- other orders wait only where none did
abbrev pub Refills : (old new : List (List ℕ)) → Type 0
Refills old new = (old ≡ []) ⊎ (new ≡ old)

-- The oldest of the lines that wait is written where there is room for it, and left out from then on, and else stays,
-- and how long it is is told; where none waits, that is 0.
abbrev pub WritesOrder : List (List ℕ) → (before after : List ℕ) (needed code : ℕ) → List (List ℕ) → Type 0
WritesOrder [] before after needed code left = (code ≡ ok) × (needed ≡ 0) × (after ≡ before) × (left ≡ [])
WritesOrder (line ∷ lines) before after needed code left = (needed ≡ length line)
    × (((length line ≤ length before) × (code ≡ order_told) × (after ≡ line ++ drop (length line) before)
    × (left ≡ lines))
    ⊎ ((length before < length line) × (code ≡ short) × (after ≡ before) × (left ≡ line ∷ lines)))
