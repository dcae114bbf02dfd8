use Rattle.pos_image.proofs.new_disks.new_disk.Goals as goal

pub returns-in-Ok : goal.returns-in-Ok
returns-in-Ok c = record {
  at_rest = c.in-Ok.ensures.at_rest tt;
  image = c.in-Ok.ensures.image tt;
}
