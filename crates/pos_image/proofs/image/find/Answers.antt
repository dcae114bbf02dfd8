use Rattle.pos_image.proofs.Common.{List, Watches, ap, part, start, watches_on, watches_sync, ℕ, ◌+◌, ◌∙◌}
use Rattle.pos_image.proofs.CurrentImageLemmas.{found_current}
use Rattle.pos_image.proofs.image.find.Given.{Over}
use Rattle.pos_image.proofs.image.find.Goals.{After-read_body}
use Rattle.pos_image.proofs.image.find.Goals as goal

-- it only looks at the disk, whatever it answers
watches : (g : Over) (c : After-read_body g) → g.D.Disk.honest c.args.disk.now
    → Watches (g.D.Disk.state c.args.disk.now) (g.D.Disk.state c.read_body.new.disk)
watches g c honest =
    let honest1 = c.sync.ensures.honest.0 honest in
    let honest2 = c.read_heads.ensures.keeps.honest.0 honest1 in
    let w1 =
    watches_sync _ _ (λ f left. g.met.D.Disk.only_now c.args.disk.now f honest left) _ (c.sync.ensures.syncs honest) in
    watches_on _ _ _ (watches_on _ _ _ w1 (c.read_heads.ensures.watches honest1)) (c.read_body.ensures.watches honest2)

pub returns-in_err-body-clause-watches : goal.returns-in_err-body-clause-watches
returns-in_err-body-clause-watches g c = watches g (goal.at.returns-in_err-body-clause-watches g c).After-read_body

pub returns-clause-watches : goal.returns-clause-watches
returns-clause-watches g c = watches g (goal.at.returns-clause-watches g c).After-read_body

pub returns-clause-found : goal.returns-clause-found
returns-clause-found g c honest =
    let honest1 = c.sync.ensures.honest.0 honest in
    let honest2 = c.read_heads.ensures.keeps.honest.0 honest1 in
    let same1 = (c.sync.ensures.syncs honest).reading in
    let same2 = (c.read_heads.ensures.watches honest1).reading ∙ same1 in
    let heads = rw same1 at (c.in_ok-heads.ensures.heads honest1) in
    let found = c.in_ok-slot.ensures.found (g.D.Disk.state c.args.disk.now).reading heads in
    found_current heads.whole found (c.in_ok-body.ensures.body honest2 ∙ ap
    (λ (b : List ℕ). part (start c.in_ok-slot.slot + 13) c.in_ok-slot.head.length b) same2)
