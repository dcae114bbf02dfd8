use Rattle.pos_totals.proofs.CommitLemmas.{refuses, finds_none, found, done, put_down}
use Rattle.pos_totals.proofs.PutGroupLemmas.{Begins}
use Rattle.pos_totals.proofs.commits.commit_trans.Given.{Over}
use Rattle.pos_totals.proofs.commits.commit_trans.Goals.{After-commit_buffer}
use Rattle.pos_totals.proofs.commits.commit_trans.Goals as goal

begins : (g : Over) (c : After-commit_buffer g) → Begins g.D.Disk c.args.store.now c.args.holdings.now
begins g c = record {
  only = g.met.D.Disk.only_now c.args.store.now.disk;
  directory = c.commit_buffer.ensures.directory;
  sound = c.requires.sound;
  leaves = c.leaves_its_files.ensures;
}

pub returns-in-Ok-Refused-clause-commits : goal.returns-in-Ok-Refused-clause-commits
returns-in-Ok-Refused-clause-commits g c =
    let did = rw (c.in-Ok-Refused.is, c.in-Ok-Refused.field-0-is) at c.commit_buffer.ensures.commits in
    rw did.1 (refuses (begins g (goal.at.returns-in-Ok-Refused-clause-commits g c).After-commit_buffer) c.args.control
    c.in-Ok-Refused.refusal did.0)

pub returns-in-Ok-Done : goal.returns-in-Ok-Done
returns-in-Ok-Done g c =
    let did = rw (c.in-Ok-Done.is, c.in-Ok-Done.field-0-is) at c.commit_buffer.ensures.commits in
    let both = done (begins g (goal.at.returns-in-Ok-Done g c).After-commit_buffer) c.args.control did.0 did.1 in
    rw c.set.ensures (record { sound = both.1; commits = both.0 })

pub returns-in-Ok-Failed : goal.returns-in-Ok-Failed
returns-in-Ok-Failed g c =
    let did = rw (c.in-Ok-Failed.is, c.in-Ok-Failed.field-0-is) at c.commit_buffer.ensures.commits in
    let b = begins g (goal.at.returns-in-Ok-Failed g c).After-commit_buffer in
    let both = put_down (found b c.args.control did.0) b did.0 did.1 in
    rw (c.answer_fault.ensures, c.end_at.ensures) (record { sound = both.1; commits = both.0 })

pub returns-in-Err-clause-commits : goal.returns-in-Err-clause-commits
returns-in-Err-clause-commits g c = rw c.in-Err.ensures.commits.1 (finds_none (begins g
    (goal.at.returns-in-Err-clause-commits g c).After-commit_buffer) c.args.control c.in-Err.ensures.commits.0)
