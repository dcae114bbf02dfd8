use Rattle.std.proofs.Common.{inl, ⊎_elim}
use Rattle.pos_console.proofs.TotalsRunLemmas.{closed_unchanged, totals_leave}
use Rattle.pos_console.proofs.totals_run.run_over_totals.Goals as goal

pub returns : goal.returns
returns g c =
    let ran = c.run_over_profile-outcome.ensures in
    let mirrored = c.file_is_mirrored.ensures in
    let closed = c.close_totals.ensures in
    ⊎_elim (λ nothing. inl (nothing.0, closed_unchanged g.F.BlockFile closed nothing.1)) (λ keys. ⊎_elim
    (λ nothing. inl (nothing.0, closed_unchanged g.F.BlockFile closed nothing.1))
    (λ runs. totals_leave _ _ c.args.totals c.requires _ _ _ mirrored.file mirrored.cut closed _ keys
    (λ left leaves. (runs.0 left tt leaves).0)) ran.leaves) ran.keys
