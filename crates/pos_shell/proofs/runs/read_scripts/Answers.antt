use Rattle.std.proofs.Common.{List, [], drop, inl, inr, refl, slice_index_or, subst, sym, take, ◌++◌, ◌+◌}
use Rattle.std.proofs.Common.{◌∷◌}
use Rattle.std.proofs.lemmas.List.{take-append-drop}
use Rattle.pos_shell.specs.Runs.{AreRead}
use Rattle.pos_shell.specs.declared.scripts.Script.{Script}
use Rattle.pos_shell.proofs.RunLemmas.{in_parts_at, reads_next}
use Rattle.pos_shell.proofs.runs.read_scripts.Goals as goal

pub returns-in-Err : goal.returns-in-Err
returns-in-Err g c =
    let paths = c.args.paths.now in
    let i = c.loop-path.path-index in (
      take i paths,
      drop (i + 1) paths,
      c.loop-path.scripts.items,
      inl (_, _, in_parts_at paths i _ c.loop-path-test.true, c.loop-path.invariant, c.in-Err.ensures),
    )

pub returns-in_default : goal.returns-in_default
returns-in_default g c =
    let paths = c.args.paths.now in
    let i = c.loop-path.path-index in
    let path = slice_index_or paths i (record { ref_ptr = (0, 0); now = [] }) in
    let script : Script = record { name = path; text = c.in-Ok.text } in (
      take (i + 1) paths,
      drop (i + 1) paths,
      c.loop-path.scripts.items ++ script ∷ [],
      inr (
        sym (take-append-drop (i + 1) paths),
        reads_next g.S.FileSystem c.args.system.now paths i _ c.loop-path.scripts.items script _ _ _
            c.loop-path-test.true c.loop-path.invariant refl c.in-Ok.ensures,
        refl,
      ),
    )

pub loop-path-preserved : goal.loop-path-preserved
loop-path-preserved g c =
    let paths = c.args.paths.now in
    let i = c.loop-path.path-index in
    let path = slice_index_or paths i (record { ref_ptr = (0, 0); now = [] }) in
    let script : Script = record { name = path; text = c.in-Ok.text } in
    subst (λ (scripts : List Script). AreRead g.S.FileSystem c.args.system.now (take (i + 1) paths) scripts
    (g.R.Source.taken c.args.reader.now) (g.R.Source.taken c.read_script.new.reader)) (sym c.in-Ok-push.ensures.items)
    (reads_next g.S.FileSystem c.args.system.now paths i _ c.loop-path.scripts.items script _ _ _
    c.loop-path-test.true c.loop-path.invariant refl c.in-Ok.ensures)
