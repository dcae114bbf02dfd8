use Rattle.pos_totals.proofs.Common.{FindsFile, is_called, sym, to_z-of_z, w128, with_tags}
use Rattle.pos_totals.proofs.SearchLemmas.{called_found, none_below}
use Rattle.pos_totals.proofs.files.find_handle.Goals as goal

pub returns-in_default-clause-finds : goal.returns-in_default-clause-finds
returns-in_default-clause-finds c =
    let fits = c.ranges.handle in
    record { file = sym (none_below c.args.handle _ (simp to_z-of_z at c.in_default.ensures)); index = tt; small = tt }

pub returns : goal.returns
returns c =
    let files = with_tags c.args.files.tags.now c.args.files.directory.now.files in
    let finds : FindsFile (is_called c.args.handle) files c.find_number.result =
    rw (← to_z-of_z w128 c.args.handle c.ranges.handle, c.in-Some.ensures) c.find_number.ensures in
    record { finds = finds; called = called_found c.args.handle files c.find_number.result finds.file }
