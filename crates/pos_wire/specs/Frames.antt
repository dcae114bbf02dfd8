-- The bytes around an order for a printer, and what printers do with them and with those of the order.
use Rattle.std.specs.Prelude.{◌≡◌, ℕ, Bool, true, false, List, [], ◌∷◌, ◌++◌}
use Rattle.std.specs.List.{concat}
use Rattle.pos_escpos.specs.PrinterCommands.{automatic_command, job_command, order_command, start_command}
use Rattle.pos_escpos.specs.Printers.{IsReady, OnPaper, Press, Pulse, press_after}
use Rattle.pos_wire.specs.declared.frames.JobEnd.{JobEnd}
use Rattle.pos_wire.specs.declared.frames.JobEnd.TheVariants as job_end

-- the commands for a status at the start of a connection, and at the end of a job
abbrev pub asked_first : Bool → List (List ℕ)
asked_first true = automatic_command true ∷ []
asked_first false = []

abbrev pub asked_last : JobEnd → List (List ℕ)
asked_last job_end.Nothing = []
asked_last (job_end.Job number) = job_command number ∷ []
asked_last (job_end.Status status) = order_command status ∷ []

-- the bytes that come before those of an order: the start, if the connection is new
abbrev pub bytes_before : Bool → List ℕ
bytes_before true = start_command true
bytes_before false = []

-- the bytes of an order with what is around them: what asks for a status or a job's end is behind them
abbrev pub framed_bytes : Bool → JobEnd → List ℕ → List ℕ
framed_bytes is_new end bytes = bytes_before is_new ++ bytes ++ concat (asked_last end)

-- a printer whose connection is new may have begun a line, but no command; else it is ready
abbrev pub IsOpen : Bool → Press → Type 0
IsOpen true press = press.begun ≡ []
IsOpen false press = IsReady press

-- From the old printer, ready and with nothing else done, so much was printed, pulsed and asked, and each command is
-- known.
pub record Does (items : List OnPaper) (kicks : List Pulse) (questions : List (List ℕ)) (old new : Press) : Type 0 where
  pub paper : new.paper ≡ old.paper ++ items
  pub pulses : new.pulses ≡ old.pulses ++ kicks
  pub asked : new.asked ≡ old.asked ++ questions
  pub unknown : new.unknown ≡ old.unknown
  pub ready : IsReady new

-- any printer of this width does so with the bytes
abbrev pub AllDo : Bool → ℕ → List OnPaper → List Pulse → List (List ℕ) → List ℕ → Type 0
AllDo is_new width items pulses asked bytes =
    (press : Press) → IsOpen is_new press → Does items pulses asked press (press_after width press bytes)
