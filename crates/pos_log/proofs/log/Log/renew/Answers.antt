use Rattle.pos_log.proofs.Common.{IsLogReady, ap, log_over, next_image, same_layout}
use Rattle.pos_log.proofs.RenewalLemmas.{not_renewed, renewed}
use Rattle.pos_log.proofs.log.Log.renew.Goals as goal

pub returns-in-Err-clause-renews : goal.returns-in-Err-clause-renews
returns-in-Err-clause-renews g c = rw (← c.self.view_is) (let old = c.self.inside.images in
    let was : IsLogReady g.D.Disk (log_over c.self.inside.images c.self.inside.tail) = rw c.self.view_is c.requires in
    rw (same_layout old.slot) at (not_renewed g.D.Disk old c.self.inside.tail (next_image old c.args.body.items)
    c.renew_images.new.images was.images _ c.in-Err.ensures.replaces))

pub returns-in-Ok-clause-renews : goal.returns-in-Ok-clause-renews
returns-in-Ok-clause-renews g c = rw (← c.self.view_is) (let old = c.self.inside.images in
    let was : IsLogReady g.D.Disk (log_over c.self.inside.images c.self.inside.tail) = rw c.self.view_is c.requires in
    rw (same_layout old.slot) at (renewed g.D.Disk old c.self.inside.tail (next_image old c.args.body.items)
    c.renew_images.new.images was.images _ (ap (λ s. s.0) c.log_span.ensures) c.in-Ok.ensures.replaces))
