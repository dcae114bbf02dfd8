use Rattle.pos_log.proofs.Common.{layout_of, log_place, ◌-◌}
use Rattle.pos_log.proofs.SpanLemmas.{sync_moments}
use Rattle.pos_log.proofs.append.write_through.Goals as goal

pub returns-clause-any_moment : goal.returns-clause-any_moment
returns-clause-any_moment g c honest =
    let images = c.args.images.now in
    let wrote = c.log_write.ensures in
    sync_moments images (c.args.at - log_place (layout_of images.slot)) c.args.bytes.now c.log_write.result _ _
    (c.requires.ready.sound honest) (wrote.span honest) (wrote.any_moment honest) c.log_write.new.self
    c.log_write.new.self.disk wrote.same _ (c.log_sync.ensures.any_moment (wrote.keeps.honest.0 honest))
