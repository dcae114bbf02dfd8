use Rattle.std.proofs.Common.{◌≡◌, rules}
use Rattle.std.specs.Prelude.{◌≢◌}
use Rattle.pos_tool.proofs.CopyLemmas.{different, same_twice}
use Rattle.pos_tool.proofs.copies.read_twice.Goals as goal

pub returns-then-eq-clause-ok : goal.returns-then-eq-clause-ok
returns-then-eq-clause-ok g c =
    let same : c.in_ok-second.second.items ≡ c.in_ok-first.first.items = search rules in
    same_twice g.F.BlockFile.calls c.args.file.now c.read_front.new.file c.read_front-2.new.file
    c.in_ok-first.first.items c.in_ok-second.second.items c.in_ok-first.ensures.ok c.in_ok-second.ensures.ok same

pub returns-clause-ok : goal.returns-clause-ok
returns-clause-ok g c =
    let differ : c.in_ok-second.second.items ≢ c.in_ok-first.first.items = search rules in
    different g.F.BlockFile.calls c.args.file.now c.read_front.new.file c.read_front-2.new.file
    c.in_ok-first.first.items c.in_ok-second.second.items c.in_ok-first.ensures.ok c.in_ok-second.ensures.ok differ
