use Rattle.pos_image.proofs.Common.{Head, Slot, ap, arith, first_of, layout_of, longest, other, ◌<◌, ◌∙◌, ◌≡◌}
use Rattle.pos_image.proofs.RefusalLemmas.{first_long, none_found, second_long, tie_found}
use Rattle.pos_image.proofs.image.choose.Goals.{in-false-true, in-true-false, in-true-true, in-true-true-2}
use Rattle.pos_image.proofs.image.choose.Goals as goal

pub returns-in-false-false-clause-unformatted : goal.returns-in-false-false-clause-unformatted
returns-in-false-false-clause-unformatted c bytes heads _ = none_found heads c.in-false-false.is-0 c.in-false-false.is-1

pub returns-in-true-true-3-clause-damaged : goal.returns-in-true-true-3-clause-damaged
returns-in-true-true-3-clause-damaged c bytes heads _ =
    tie_found heads c.in-true-true.is-0 c.in-true-true.is-1 (omega arith)

pub returns-then-head-longest-clause-damaged : goal.returns-then-head-longest-clause-damaged
returns-then-head-longest-clause-damaged c bytes heads _ =
    let over : (slot : Slot) (head : Head) → c.if-first.slot ≡ (slot, head) → longest (layout_of slot) < head.length =
    λ slot head is.
    let most = c.longest.ensures ∙ ap longest (c.layout.ensures ∙ ap (λ s. layout_of s.0) is) in
    omega (arith, most, ap (λ s. s.1.length) is) in
    let first = first_of c.args.heads.layout in
    elim c.if-first.branch [
      | in-true-true v ↦ first_long heads v.in-true-true.is-0
          (λ _. omega arith) (over first c.args.heads.first (rw c.first-slot.ensures at v.slot-is))
      | in-true-true-2 v ↦ second_long heads v.in-true-true.is-1 (λ _. omega arith)
          (over (other first) c.args.heads.second (rw (v.other.ensures, c.first-slot.ensures) at v.slot-is))
      | in-true-false v ↦ first_long heads v.in-true-false.is-0 (λ opened. absurd (cc (opened, v.in-true-false.is-1)))
          (over first c.args.heads.first (rw c.first-slot.ensures at v.slot-is))
      | in-false-true v ↦ second_long heads v.in-false-true.is-1
          (λ opened. absurd (cc (opened, v.in-false-true.is-0))) (over (other first) c.args.heads.second
          (rw (v.other-in-false-true.ensures, c.first-slot.ensures) at v.slot-is))
    ]
