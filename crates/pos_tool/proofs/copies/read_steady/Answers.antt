use Rattle.std.proofs.Common.{Err, Result, List, subst, sym, ap, ℕ, ◌≡◌, ◌∙◌}
use Rattle.std.proofs.lemmas.Result.{err_from_is_err_and}
use Rattle.pos_program.specs.Answers.{bytes_of}
use Rattle.pos_tool.specs.Copies.{ReadsSteady, ReadsTwice, lent}
use Rattle.pos_program.specs.declared.file_fault.FileFault.{FileFault}
use Rattle.pos_tool.proofs.CopyLemmas.{one_turn_more, unread}
use Rattle.pos_tool.proofs.copies.read_steady.Goals as goal

pub returns-in_err-bytes : goal.returns-in_err-bytes
returns-in_err-bytes g c =
    let p = err_from_is_err_and c.from_residual.result c.from_residual.ensures.1 in
    let fault = c.in_err-bytes.field-0.0 in
    let is = unread g.F.BlockFile.calls c.args.file.now c.loop.file c.read_twice.new.file c.loop.counter
    c.loop.invariant c.loop-test.true fault c.in_err-bytes.ensures.err in
    let told : bytes_of c.from_residual.result ≡ Err fault = ap bytes_of p.1 ∙ ap (λ why. Err why) p.2 in
    subst (λ (answer : Result (List ℕ) FileFault). ReadsSteady g.F.BlockFile.calls c.args.file.now c.read_twice.new.file
    answer) (sym told) is

pub loop-preserved : goal.loop-preserved
loop-preserved g c = one_turn_more g.F.BlockFile.calls c.args.file.now c.loop.file c.read_twice.new.file c.loop.counter
    c.loop.invariant
    (subst (λ same. ReadsTwice g.F.BlockFile.calls c.loop.file c.read_twice.new.file (lent same)) c.in_default.is
    c.in_ok-bytes.ensures.ok)
