use Rattle.pos_image.proofs.Common.{KeepsImage, LeavesOnly, rules, span_of, watches_sync}
use Rattle.pos_image.proofs.SpanLemmas.{synced, watched_image}
use Rattle.pos_image.proofs.images.Images.log_sync.Given.{Over}
use Rattle.pos_image.proofs.images.Images.log_sync.Goals.{After-sync}
use Rattle.pos_image.proofs.images.Images.log_sync.Goals as goal

-- a crash at any moment, whatever the sync answers
moments : (g : Over) (c : After-sync g) → g.D.Disk.honest c.args.self.now.disk
    → LeavesOnly (g.D.Disk.state c.args.self.now.disk) (g.D.Disk.state c.sync.new.self)
    (KeepsImage c.args.self.now (span_of c.args.self.now (g.D.Disk.state c.args.self.now.disk)))
moments g c =
    let was = rw (← c.self.view_is) at c.requires in
    rw (← c.self.view_is) (λ honest. watched_image (was.held honest) (watches_sync _ _
    (λ f left. g.met.D.Disk.only_now c.self.inside.disk f honest left) _ (c.sync.ensures.syncs honest)))

pub returns-in_err-sync-clause-any_moment : goal.returns-in_err-sync-clause-any_moment
returns-in_err-sync-clause-any_moment g c = moments g (goal.at.returns-in_err-sync-clause-any_moment g c).After-sync

pub returns-clause-any_moment : goal.returns-clause-any_moment
returns-clause-any_moment g c = moments g (goal.at.returns-clause-any_moment g c).After-sync

pub returns-clause-ready : goal.returns-clause-ready
returns-clause-ready g c =
    let was = rw (← c.self.view_is) at c.requires in
    let ready = synced g.D.Disk _ c.sync.new.self c.sync.result was c.sync.ensures.size c.sync.ensures.honest
    c.sync.ensures.syncs in
    search rules
