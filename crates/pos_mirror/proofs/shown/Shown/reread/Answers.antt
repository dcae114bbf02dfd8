use Rattle.std.proofs.Common.{subst}
use Rattle.pos_disk.proofs.Common.{List, Spoils, arith, common_steps, drop, length, state_of, take, written, ℕ, ◌+◌}
use Rattle.pos_disk.proofs.Common.{◌-◌, ◌≡◌, ◌≤◌}
use Rattle.pos_mirror.proofs.CallLemmas.{spoils_of}
use Rattle.pos_disk.proofs.CallLemmas.{writes}
use Rattle.pos_mirror.proofs.shown.Shown.reread.Goals as goal

pub returns-clause-spoils : goal.returns-clause-spoils
returns-clause-spoils g c =
    let at = c.args.at in
    let memory = c.self.inside.known.memory in
    let left : List ℕ = take (at + c.args.len - at) (drop at c.deref.result.now) in
    let fits : at + c.args.len ≤ length memory.present.reading = rw (← c.self.view_is) at c.requires.memory in
    let same : length c.deref.result.now ≡ length memory.present.reading = grind (arith, common_steps) in
    let long : length left ≡ c.args.len = grind (arith, common_steps, same, fits) in
    rw (c.written-self-inside.ensures, ← c.self.view_is)
    (subst (λ n. Spoils (state_of memory) (state_of (written at left memory)) at n) long
    (spoils_of (writes memory at left c.self.invariant.each (rw long fits))))
