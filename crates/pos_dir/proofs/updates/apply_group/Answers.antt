use Rattle.pos_dir.proofs.Common.{Applies, Change, DirectoryFault, DirectoryView, Err, File, Limits, List, NoMemory}
use Rattle.pos_dir.proofs.Common.{Some, [], arith, err_from_is_err_and, fault_of, outcome_of_all, refl, sym, ◌∷◌, ◌≡◌}
use Rattle.pos_dir.proofs.OutcomeLemmas.{never_one}
use Rattle.pos_dir.proofs.updates.apply_group.Goals as goal

-- no change of a group is refused for memory
never_all : (limits : Limits) (files : List File) (changes : List Change)
    → outcome_of_all limits files changes ≡ Err NoMemory → ⊥
never_all limits files [] e = cc
never_all limits files (change ∷ changes) e =
    grind (arith, never_one limits files change, λ (next : List File). never_all limits next changes)

-- a group that has a fault is refused with it
not_applicable : (X : Type 0) (old : DirectoryView) (changes : List Change) (fault : DirectoryFault)
    → Some fault ≡ fault_of old.limits old.files changes → Applies {X = X} old changes (Err fault) old
not_applicable X old changes NoMemory e = absurd (never_all old.limits old.files changes (grind arith))
not_applicable X old changes other e = (sym e, refl)

pub returns-in_err-check_group-clause-applied : goal.returns-in_err-check_group-clause-applied
returns-in_err-check_group-clause-applied c =
    let p = err_from_is_err_and c.from_residual.result c.from_residual.ensures.1 in
    rw (p.1, p.2) (not_applicable (Unit {0}) c.args.directory.now c.args.group.now c.in_err-check_group.field-0.0
    c.in_err-check_group.ensures)
