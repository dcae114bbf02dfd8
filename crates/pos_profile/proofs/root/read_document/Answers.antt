use Rattle.pos_profile.proofs.Common.{arith, table_view}
use Rattle.pos_profile.proofs.DocumentLemmas.{device_mistaken, document_read, spare_mistaken}
use Rattle.pos_profile.proofs.root.read_document.Goals as goal

pub returns-in-Err-Flawed-read_list : goal.returns-in-Err-Flawed-read_list
returns-in-Err-Flawed-read_list c =
    let fault = c.in-Err-Flawed-read_list in
    let flawed = rw fault.field-0-is at fault.ensures in
    grind (
      arith,
      device_mistaken (table_view c.args.root.now) c.in-Ok.ensures fault.flaw.place fault.flaw.reason flawed,
    )

pub returns-in-Ok-read_list-2 : goal.returns-in-Ok-read_list-2
returns-in-Ok-read_list-2 c = document_read (table_view c.args.root.now) c.in-Ok.ensures c.in-Ok-read_list.devices.items
    c.in-Ok-read_list.ensures c.in-Ok-read_list-2.ensures

pub returns-in-Err-Flawed-read_list-2 : goal.returns-in-Err-Flawed-read_list-2
returns-in-Err-Flawed-read_list-2 c =
    let fault = c.in-Err-Flawed-read_list-2 in
    let flawed = rw fault.field-0-is at fault.ensures in
    grind (
      arith,
      spare_mistaken (table_view c.args.root.now) c.in-Ok.ensures c.in-Ok-read_list.devices.items
          c.in-Ok-read_list.ensures c.len.result fault.flaw.place fault.flaw.reason (omega arith) flawed,
    )
