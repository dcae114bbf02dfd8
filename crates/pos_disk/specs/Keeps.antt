-- What each call of a disk keeps, whatever it answers.
use Rattle.std.specs.Prelude.{◌≡◌, ◌↔◌, ◌≤◌}
use Rattle.pos_disk.specs.State.{IsSame}
use Rattle.pos_disk.specs.declared.device.Disk.{Ghosts}

-- The disk has as many bytes as before and is honest or not as before; the failures of an honest one never fall. What
-- no call changes is as it was.
pub record KeepsDisk {D : Type 0} (bound : Ghosts D) (old new : D) : Type 0 where
  pub size : bound.size new ≡ bound.size old
  pub honest : bound.honest old ↔ bound.honest new
  pub later : bound.honest old → (bound.state old).failures ≤ (bound.state new).failures
  pub fixed : bound.fixed new ≡ bound.fixed old

-- All that is known of the disk is as it was.
pub record KeepsState {D : Type 0} (bound : Ghosts D) (old new : D) : Type 0 where
  pub size : bound.size new ≡ bound.size old
  pub honest : bound.honest old ↔ bound.honest new
  pub same : bound.honest old → IsSame (bound.state old) (bound.state new)
