use Rattle.pos_totals.proofs.Common.{Bool, arith, change_of, false, is_some, lacks, sym, transaction_at}
use Rattle.pos_totals.proofs.Common.{◌∙◌, ◌≡◌}
use Rattle.pos_totals.proofs.ChangeLemmas.{Allowed, refuses, allowed, applicable, place, buffers, lacking, put_down}
use Rattle.pos_totals.proofs.PutGroupLemmas.{as_found}
use Rattle.pos_totals.proofs.changes.change.Given.{Over}
use Rattle.pos_totals.proofs.changes.change.Goals.{In-Ok, After-lack}
use Rattle.pos_totals.proofs.changes.change.Goals as goal

-- what the checks let through
may : (g : Over) (c : In-Ok g)
    → Allowed g.D.Disk c.args.store.now c.args.holdings.now c.args.control (change_of c.args.update) c.in-Ok.checked
may g c =
    let store = c.args.store.now in
    allowed store.state (record {
      only = g.met.D.Disk.only_now store.disk;
      directory = c.in-Ok.ensures.directory;
      sound = c.requires.sound;
      leaves = c.leaves_its_files.ensures;
    }) c.in-Ok.ensures.checks

module _ (g : Over) (c : After-lack g) where
  free : is_some (transaction_at c.args.holdings.now.transactions c.args.control) ≡ false
  free = sym c.is_open.ensures ∙ c.if-is_open.false

  left : {b : Bool} → c.lack.result ≡ b → lacks c.args.holdings.now.handles.next c.in-Ok.checked.change ≡ b
  left is = sym c.lack.ensures.lacks ∙ is

pub returns-in-Err-clause-changes : goal.returns-in-Err-clause-changes
returns-in-Err-clause-changes g c = refuses {store = c.args.store.now} (record {
  only = g.met.D.Disk.only_now c.args.store.now.disk;
  directory = c.in-Err.ensures.directory;
  sound = c.requires.sound;
  leaves = c.leaves_its_files.ensures;
}) c.in-Err.ensures.checks

pub returns-then-is_open : goal.returns-then-is_open
returns-then-is_open g c =
    let both = buffers (may g (goal.at.returns-then-is_open g c).In-Ok) (sym c.is_open.ensures ∙ c.if-is_open.true)
    c.buffer_change.result c.buffer_change.new.transactions c.buffer_change.ensures in
    record { sound = both.1; changes = both.0 }

pub returns-then-lack-clause-changes : goal.returns-then-lack-clause-changes
returns-then-lack-clause-changes g c =
    let here = goal.at.returns-then-lack-clause-changes g c in
    lacking (may g here.In-Ok) (free g here.After-lack) (left g here.After-lack c.if-lack.true)

pub put_change-requires-clause-applicable : goal.put_change-requires-clause-applicable
put_change-requires-clause-applicable g c = applicable (may g (goal.at.put_change-requires-clause-applicable g c).In-Ok)

pub keep-requires : goal.keep-requires
keep-requires g c =
    let here = goal.at.keep-requires g c in
    place (may g here.In-Ok) (left g here.After-lack c.if-lack.false)
    (let bound = c.lack.ensures.bound in omega (arith, bound))

pub returns-in-Ok-put_change : goal.returns-in-Ok-put_change
returns-in-Ok-put_change g c =
    let here = goal.at.returns-in-Ok-put_change g c in
    let it = may g here.In-Ok in
    let both = put_down (as_found it.begins it.ready) it (free g here.After-lack)
    (left g here.After-lack c.if-lack.false) c.in-Ok-put_change.ensures.commits in
    rw (c.keep.ensures.given, c.keep.ensures.next, c.keep.ensures.value, c.in-Ok-put_change.ensures.transactions)
    (record { sound = both.1; changes = both.0 })

pub returns-in-Err-put_change : goal.returns-in-Err-put_change
returns-in-Err-put_change g c =
    let here = goal.at.returns-in-Err-put_change g c in
    let it = may g here.In-Ok in
    let both = put_down (as_found it.begins it.ready) it (free g here.After-lack)
    (left g here.After-lack c.if-lack.false) c.in-Err-put_change.ensures.commits in
    rw (c.answer_fault.ensures, c.in-Err-put_change.ensures.transactions) (record { sound = both.1; changes = both.0 })
