-- Which of the waiting events is the first.
use Rattle.std.specs.Prelude.{Bool, true, false}
use Rattle.pos_events.specs.declared.queue.Waiting.{Waiting}
use Rattle.pos_events.specs.declared.queue.Waiting.TheVariants as waiting

-- EL_INPUT_DATA stands before the scans, and EL_INPUT behind them
abbrev pub first_waiting : Bool → Bool → Waiting
first_waiting true no_scans = waiting.InputData
first_waiting false true = waiting.Input
first_waiting false false = waiting.Data
