use Rattle.pos_image.proofs.Common.{CrashClosing, SameBut, arith, false, followed_by, is_open, rules, start, weaker, ℕ}
use Rattle.pos_image.proofs.Common.{◌≡◌}
use Rattle.std.proofs.lemmas.Grind.{common_steps}
use Rattle.pos_image.proofs.StageLemmas.{closing_stages, writing_stages}
use Rattle.pos_image.proofs.disk_calls.place_image.Goals as goal

-- what is searched for holds also where the disk is looked at before the gate is closed: so must-fail edits have twins

pub returns-in_err-close_gate-clause-any_moment : goal.returns-in_err-close_gate-clause-any_moment
returns-in_err-close_gate-clause-any_moment g c honest =
    let s0 = g.D.Disk.state c.args.disk.now in
    let closing : CrashClosing (start c.args.image.now.slot) s0 (g.D.Disk.state c.close_gate.new.disk) =
    first_of (search rules, grind (arith, common_steps) steps 300000) in
    weaker s0 _ _ _ (λ f same. closing_stages c.args.image.now.slot s0.loose s0.reading f (c.requires.gate honest) same)
    closing

pub returns-clause-any_moment : goal.returns-clause-any_moment
returns-clause-any_moment g c honest =
    let s0 = g.D.Disk.state c.args.disk.now in
    let s1 = g.D.Disk.state c.close_gate.new.disk in
    let slot = c.args.image.now.slot in
    let settled = c.requires.gate honest in
    let closing : CrashClosing (start slot) s0 s1 = first_of (search rules, grind (arith, common_steps) steps 300000) in
    let same : SameBut (start slot) 1 s0.reading s1.reading =
    first_of (search rules, grind (arith, common_steps) steps 300000) in
    let shut : is_open s1.reading (start slot) ≡ false =
    first_of (search rules, grind (arith, common_steps) steps 300000) in
    let still : (i : ℕ) → s1.loose i → s0.loose i = first_of (search rules, grind (arith, common_steps) steps 300000) in
    let honest1 : g.D.Disk.honest c.close_gate.new.disk = search rules in
    followed_by s0 s1 _ _ (weaker s0 s1 _ _
    (λ f closed. closing_stages slot s0.loose s0.reading f settled closed) closing) (weaker s1 _ _ _
    (λ f after. writing_stages slot s0.loose s1.loose s0.reading s1.reading f settled still same shut after)
    (c.write_image.ensures.any_moment honest1))
