use Rattle.std.proofs.Common.{List, [], ap, drop, slice_index_or, subst, sym, take, ◌++◌, ◌+◌, ◌∙◌, ◌∷◌, ℕ}
use Rattle.std.specs.Prelude.{string_bytes}
use Rattle.std.specs.Borrow.{Bor}
use Rattle.std.proofs.lemmas.List.{map-append}
use Rattle.pos_tool.proofs.NameLemmas.{finds_more, in_parts_at, taken_at}
use Rattle.pos_tool.specs.Names.{FindsAll}
use Rattle.pos_tool.specs.Texts.{texts}
use Rattle.pos_tool.proofs.names.find_scripts.Goals as goal

pub returns-in-Err : goal.returns-in-Err
returns-in-Err g c =
    let paths = c.args.paths.now in
    let i = c.loop-path.path-index in
    (take i paths, _, drop (i + 1) paths, in_parts_at paths i _ c.loop-path-test.true, c.in-Err.ensures)

pub loop-path-preserved : goal.loop-path-preserved
loop-path-preserved g c =
    let paths = c.args.paths.now in
    let i = c.loop-path.path-index in
    let path = slice_index_or paths i (record { ref_ptr = (0, 0); now = [] }) in
    subst (λ (ps : List (Bor (List ℕ))). FindsAll g.S.Folder c.args.system.now ps (texts c.append.new.self.items))
    (sym (taken_at paths i _ c.loop-path-test.true)) (subst (λ (all : List (List ℕ)). FindsAll g.S.Folder
    c.args.system.now (take i paths ++ path ∷ []) all) (sym (ap texts c.in-Ok-append.ensures.items ∙ map-append
    (λ name. string_bytes name) c.loop-path.found.items c.in-Ok.more.items))
    (finds_more g.S.Folder c.args.system.now (take i paths) (texts c.loop-path.found.items) path
    (texts c.in-Ok.more.items) c.loop-path.invariant c.in-Ok.ensures))
