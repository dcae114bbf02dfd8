use Rattle.std.proofs.Common.{List, Ok, Err, [], drop, map, subst, sym, take, ◌++◌, ◌+◌, ◌∷◌, ◌≡◌, ℕ}
use Rattle.std.specs.Prelude.{string_bytes}
use Rattle.pos_shell.specs.Trials.{AreTried, TriesScript}
use Rattle.pos_shell.specs.declared.trials.Trial.{Trial}
use Rattle.pos_shell.proofs.TrialLemmas.{in_memory, mapped_parts, mapped_taken, tried_more}
use Rattle.pos_shell.proofs.trials.try_scripts.Goals as goal

pub returns-in-Err : goal.returns-in-Err
returns-in-Err g c =
    let names = c.args.paths.now in
    let i = c.loop-name.name-index in
    let name = c.name-item.result in (
      map (λ name. string_bytes name) (take i names),
      string_bytes name,
      map (λ name. string_bytes name) (drop (i + 1) names),
      mapped_parts (λ name. string_bytes name) names i name c.loop-name-test.true c.name-item.is,
      (c.loop-name.trials.items, c.loop-name.invariant),
      subst (λ (path : List ℕ). TriesScript g.S.FileSystem c.args.system.now in_memory c.args.profile.now path
          (Err c.in-Err.fault)) c.as_str-path.ensures.value c.in-Err.ensures,
    )

pub returns-in_default : goal.returns-in_default
returns-in_default g c =
    let names = c.args.paths.now in
    let i = c.loop-name.name-index in
    let name = c.name-item.result in (
      map (λ name. string_bytes name) (take i names),
      string_bytes name,
      map (λ name. string_bytes name) (drop (i + 1) names),
      mapped_parts (λ name. string_bytes name) names i name c.loop-name-test.true c.name-item.is,
      (c.loop-name.trials.items, c.loop-name.invariant),
      tt,
    )

pub loop-name-preserved : goal.loop-name-preserved
loop-name-preserved g c =
    let names = c.args.paths.now in
    let i = c.loop-name.name-index in
    let name = c.name-item.result in
    let trial : Trial = record { path = c.as_str-path.result; differences = c.in-Ok.differences } in
    let value : c.as_str-path.result.now ≡ string_bytes name = c.as_str-path.ensures.value in
    subst (λ (paths : List (List ℕ)). AreTried g.S.FileSystem c.args.system.now in_memory c.args.profile.now paths
    c.push.new.self.items) (sym (mapped_taken (λ name. string_bytes name) names i name c.loop-name-test.true
    c.name-item.is)) (subst (λ (trials : List Trial). AreTried g.S.FileSystem c.args.system.now in_memory
    c.args.profile.now (map (λ name. string_bytes name) (take i names) ++ string_bytes name ∷ []) trials)
    (sym c.in-Ok-push.ensures.items) (tried_more g.S.FileSystem c.args.system.now
    (map (λ name. string_bytes name) (take i names)) c.loop-name.trials.items trial c.loop-name.invariant value
    (subst (λ (path : List ℕ). TriesScript g.S.FileSystem c.args.system.now in_memory c.args.profile.now path
    (Ok c.in-Ok.differences.items)) value c.in-Ok.ensures)))
