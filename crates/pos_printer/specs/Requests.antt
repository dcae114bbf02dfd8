-- The requests of a control that are to be done.
use Rattle.std.specs.Prelude.{ℕ, ◌≤◌, List, MatchOption, IsSome, slice_get}
use Rattle.pos_service.specs.Output.{request_to_do}
use Rattle.pos_common.specs.KeptControls.{KeptControl}

-- The control with a number has a request that is to be done now, and room for the event that it has then.
abbrev pub HasRequest : ℕ → List KeptControl → Type 0
HasRequest number controls = MatchOption (slice_get controls number) ⊥ (λ held.
    IsSome (request_to_do held.control.writer.output) × (1 ≤ held.spare))
