use Rattle.std.proofs.Common.{◌≡◌, ℕ, List, [], ◌∷◌, false, ap, subst, sym, ◌∙◌}
use Rattle.std.proofs.lemmas.Result.{IfOk-weaker}
use Rattle.pos_wire.specs.Frames.{AllDo, asked_last}
use Rattle.pos_wire.proofs.FrameLemmas.{asks}
use Rattle.pos_wire.proofs.frames.last_bytes.Goals as goal

pub returns-in-Job-clause-does : goal.returns-in-Job-clause-does
returns-in-Job-clause-does c =
    let sent = c.job_bytes.result in
    let asked : sent ∷ [] ≡ asked_last c.args.end =
    ap (λ (s : List ℕ). s ∷ []) c.job_bytes.ensures.bytes ∙ ap asked_last (sym c.in-Job.is) in
    IfOk-weaker c.from_slice.result _ _ (λ bytes is width. subst (λ (all : List ℕ). AllDo false width [] []
    (asked_last c.args.end) all) (sym is) (subst (λ (questions : List (List ℕ)). AllDo false width [] [] questions sent)
    asked (asks width (c.job_bytes.ensures.asks width)))) c.from_slice.ensures.items
