use Rattle.pos_store.proofs.Common.{Layout1, Layout2, ap, layout_of, limits_of, refl, rules, sym, ⊎_elim, ◌∙◌, ◌≡◌}
use Rattle.pos_store.proofs.MigrationLemmas.{Moves, refused_migrates, moved_holds, moved_migrates, failed_migrates}
use Rattle.pos_store.proofs.MigrationLemmas.{keeps_first}
use Rattle.pos_store.proofs.migrations.migrate_files.Given.{Over}
use Rattle.pos_store.proofs.migrations.migrate_files.Goals.{After-migrate}
use Rattle.pos_store.specs.declared.fault.StoreFault.TheVariants as fault
use Rattle.pos_store.proofs.migrations.migrate_files.Goals as goal

pub returns-then-eq-clause-migrates : goal.returns-then-eq-clause-migrates
returns-then-eq-clause-migrates g c =
    let sound = rw c.in-Ready.is at c.requires.sound in
    let second : layout_of c.in-Ready.log.images.slot ≡ Layout2 = search rules in
    rw c.in-Ready.is (refused_migrates g.D.Disk c.in-Ready.log c.in-Ready.directory.files sound.0 sound.1
    fault.AlreadyLayout2 (rw second (refl, refl)) (λ is. absurd cc) (g.met.D.Disk.only_now c.in-Ready.log.images.disk))

pub returns-in_default-clause-migrates : goal.returns-in_default-clause-migrates
returns-in_default-clause-migrates g c =
    let sound = rw c.in-Ready.is at c.requires.sound in
    let first : layout_of c.in-Ready.log.images.slot ≡ Layout1 = search rules in
    rw c.in-Ready.is (refused_migrates g.D.Disk c.in-Ready.log c.in-Ready.directory.files sound.0 sound.1 fault.NoMemory
    (rw first refl) (λ is. absurd cc) (g.met.D.Disk.only_now c.in-Ready.log.images.disk))

moves : (g : Over) (c : After-migrate g) → Moves g.D.Disk c.in-Ready.log c.in-Ready.directory.files c.in-Ok.body.items
moves g c =
    let sound = rw c.in-Ready.is at c.requires.sound in
    let first : layout_of c.in-Ready.log.images.slot ≡ Layout1 = search rules in
    let limits : c.in-Ready.directory.limits ≡ limits_of Layout1 = sound.2 ∙ ap limits_of first in
    record {
      ready = sound.0;
      holds = sound.1;
      first = first;
      sound = c.wider_directory.ensures (limits_of Layout1) (limits_of Layout2) c.in-Ready.directory.files
          (search rules) (rw limits at c.encode.ensures.directory);
      spelled = c.in-Ok.ensures.spelling;
    }

pub returns-in-Ok-migrate : goal.returns-in-Ok-migrate
returns-in-Ok-migrate g c =
    let it = moves g (goal.at.returns-in-Ok-migrate g c).After-migrate in
    let renews = c.in-Ok-migrate.ensures.migrates in
    rw (c.in-Ready.is, c.widen.ensures) (record {
      sound = (
        renews.ready,
        moved_holds it c.migrate.new.self renews,
        c.limits_of.ensures ∙ ap limits_of (sym renews.layout_is),
      );
      migrates = moved_migrates it c.migrate.new.self renews (λ h. keeps_first (c.in-Ok-migrate.ensures.rest h));
    })

pub returns-in-Device-clause-migrates : goal.returns-in-Device-clause-migrates
returns-in-Device-clause-migrates g c =
    let here = (goal.at.returns-in-Device-clause-migrates g c).After-migrate in
    let renews = rw c.in-Device.is at c.in-Err.ensures.migrates in
    rw (c.in-Ready.is, c.turn_off.ensures) (failed_migrates (moves g here) c.migrate.new.self renews
    (λ h bytes. g.met.D.Disk.counts_now c.migrate.new.self.images.disk (g.D.Disk.state
    c.in-Ready.log.images.disk).moment bytes (renews.keeps.honest.0 h))
    (λ h. keeps_first (c.in-Err.ensures.rest h)))

pub returns-in-NoMemory : goal.returns-in-NoMemory
returns-in-NoMemory g c =
    let here = (goal.at.returns-in-NoMemory g c).After-migrate in
    let sound = rw c.in-Ready.is at c.requires.sound in
    let renews = c.in-Err.ensures.migrates in
    let same : c.migrate.new.self ≡ c.in-Ready.log =
    ⊎_elim (λ device. absurd (let is = c.in-NoMemory.is in cc)) (λ same. same) (renews.unchanged refl) in
    rw (same, c.in-Ready.is) (record {
      sound = sound;
      migrates = refused_migrates g.D.Disk c.in-Ready.log c.in-Ready.directory.files sound.0 sound.1 fault.NoMemory
          (rw (moves g here).first refl) (λ is. absurd cc) (g.met.D.Disk.only_now c.in-Ready.log.images.disk);
    })
