use Rattle.pos_log.proofs.Common.{IsLogReady, ap, log_over, migrated_image}
use Rattle.pos_log.proofs.RenewalLemmas.{not_renewed, renewed}
use Rattle.pos_log.proofs.log.Log.migrate.Goals as goal

pub returns-in-Err-clause-migrates : goal.returns-in-Err-clause-migrates
returns-in-Err-clause-migrates g c = rw (← c.self.view_is) (let was : IsLogReady g.D.Disk
    (log_over c.self.inside.images c.self.inside.tail) = rw c.self.view_is c.requires.ready in
    not_renewed g.D.Disk c.self.inside.images c.self.inside.tail (migrated_image c.args.body.items)
    c.migrate_images.new.images was.images _ c.in-Err.ensures.replaces)

pub returns-in-Ok-clause-migrates : goal.returns-in-Ok-clause-migrates
returns-in-Ok-clause-migrates g c = rw (← c.self.view_is) (let was : IsLogReady g.D.Disk
    (log_over c.self.inside.images c.self.inside.tail) = rw c.self.view_is c.requires.ready in
    renewed g.D.Disk c.self.inside.images c.self.inside.tail (migrated_image c.args.body.items)
    c.migrate_images.new.images was.images _ (ap (λ s. s.0) c.log_span.ensures) c.in-Ok.ensures.replaces)
