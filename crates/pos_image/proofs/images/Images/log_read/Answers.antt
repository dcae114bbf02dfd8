use Rattle.pos_image.proofs.Common.{Watches, ap, arith, length, part, watches_read, ℕ, ◌+◌, ◌∙◌}
use Rattle.pos_image.proofs.SpanLemmas.{span_part, writable}
use Rattle.pos_image.proofs.images.Images.log_read.Given.{Over}
use Rattle.pos_image.proofs.images.Images.log_read.Goals.{After-read}
use Rattle.pos_image.proofs.images.Images.log_read.Goals as goal

-- what a crash leaves, whatever the read answers
watches : (g : Over) (c : After-read g) → g.D.Disk.honest c.args.self.now.disk
    → Watches (g.D.Disk.state c.args.self.now.disk) (g.D.Disk.state c.read.new.self)
watches g c = rw (← c.self.view_is) (λ honest. watches_read _ _
    (λ f left. g.met.D.Disk.only_now c.self.inside.disk f honest left) _ _ c.read.new.out (c.read.ensures.reads honest))

pub returns-in_err-read-clause-any_moment : goal.returns-in_err-read-clause-any_moment
returns-in_err-read-clause-any_moment g c = watches g (goal.at.returns-in_err-read-clause-any_moment g c).After-read

pub returns-clause-any_moment : goal.returns-clause-any_moment
returns-clause-any_moment g c = watches g (goal.at.returns-clause-any_moment g c).After-read

pub returns-clause-bytes : goal.returns-clause-bytes
returns-clause-bytes g c =
    let inside = rw (← c.self.view_is) at c.requires.inside in
    let was = rw (← c.self.view_is) at c.requires.writable in
    rw (← c.self.view_is) (λ honest. (c.in_ok-read.ensures.reads honest).bytes ∙ ap
    (λ (k : ℕ). part (k + c.args.at) (length c.read.new.out) (g.D.Disk.state c.self.inside.disk).reading)
    c.start.ensures ∙ span_part (was.held honest).current c.args.at (length c.read.new.out) inside.from
    (omega (arith, inside.to, c.read.auto.out)))
