-- What a machine does whatever its disk is, by requests that spare it (chapter Hard Totals).
use Rattle.std.specs.Prelude.{◌≡◌, ◌⊎◌, List, [], ◌∷◌, ⊤}
use Rattle.pos_counter.specs.DiskUse.{ChangesTotalsAlone, SparesDisk}
use Rattle.pos_counter.specs.Machine.{Machine}
use Rattle.pos_counter.specs.Steps.{Request, Response, Step}

-- From old the request gets this response, and the machine is new then, whatever the disk is. It is a step if the
-- request spares the disk, otherwise a step or a call at Hard Totals that changes nothing else.
abbrev pub StepSparing : Machine → Request → Response → Machine → Type 0
StepSparing old request response new =
    (SparesDisk old request → Step old request response new)
    × (Step old request response new ⊎ ChangesTotalsAlone old request new)

-- These responses are given to these requests, one such step after another.
abbrev pub RunSparing : Machine → List (Request × Response) → Machine → Type 0
RunSparing old [] new = new ≡ old
RunSparing old (step ∷ steps) new =
    (mid : Machine) × StepSparing old step.0 step.1 mid × RunSparing mid steps new

-- each of the requests spares the disk
abbrev pub AllSpare : (old : Machine) (steps : List (Request × Response)) (new : Machine)
    → RunSparing old steps new → Type 0
AllSpare old [] new run = ⊤
AllSpare old (step ∷ steps) new run = SparesDisk old step.0 × AllSpare run.0 steps new run.2
