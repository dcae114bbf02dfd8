use Rattle.pos_totals.proofs.Common.{Change, File, FileChange, Gathers, List, Some, [], false, group_of}
use Rattle.pos_totals.proofs.Common.{length, nat_eq, refl, sym, ◌∙◌, ◌∷◌, ◌≡◌}
use Rattle.pos_totals.proofs.commits.plan_in.Goals as goal

-- what is buffered and isn't nothing makes a group
gathers : {files : List File} (changes : List Change) {group : List FileChange} → nat_eq (length changes) 0 ≡ false
    → group ≡ group_of files changes → Gathers files (Some changes) group
gathers [] some made = absurd cc
gathers (first ∷ others) some made = record { first = first; others = others; buffered = refl; made = made }

pub returns-in-Ok : goal.returns-in-Ok
returns-in-Ok c = (
  sym c.in-None.ensures,
  gathers c.args.changes.now (sym c.is_empty.ensures ∙ c.if-is_empty.false) c.in-Ok.ensures,
)
