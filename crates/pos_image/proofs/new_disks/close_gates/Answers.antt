use Rattle.pos_image.proofs.Common.{GATES, SameBut, arith, cases_lt, get_or, inl, inr, length, rules, ℕ, ◌+◌, ◌<◌, ◌≡◌}
use Rattle.pos_image.proofs.Common.{◌≤◌}
use Rattle.std.proofs.lemmas.List.Elements.{All-get_or}
use Rattle.pos_image.proofs.ChangeLemmas.{written_gate}
use Rattle.pos_image.proofs.NewDiskLemmas.{stays_closed}
use Rattle.pos_image.proofs.new_disks.close_gates.Goals as goal

gates_low : (k : ℕ) → k < 6 → get_or GATES k 0 ≤ 196608
gates_low k inside = All-get_or (λ at. at ≤ 196608) GATES k 0 inside (search rules)

pub loop-at-preserved : goal.loop-at-preserved
loop-at-preserved g c = record {
  size = search rules;
  fixed = search rules;
  honest = search rules;
  closed = λ honest k less.
      let s1 = g.D.Disk.state c.loop-at.disk in
      let s2 = g.D.Disk.state c.write.new.self in
      let at : ℕ = get_or GATES c.loop-at.at-index 0 in
      let now = c.loop-at.invariant.honest.0 honest in
      let wrote = c.in_ok-write.ensures.writes now in
      let whole = g.met.D.Disk.whole c.loop-at.disk now in
      let low = gates_low c.loop-at.at-index c.loop-at-test.true in
      let fits : at + 1 ≤ length s1.reading = omega (arith, low, whole, c.requires.large, c.loop-at.invariant.size) in
      let same : SameBut at 1 s1.reading s2.reading =
      record { same_length = wrote.same_length; elsewhere = wrote.elsewhere } in
      let shut : get_or s2.reading at 0 ≡ 0 = (written_gate s1.reading s2.reading at 0 fits wrote.written).1 in
      elim (cases_lt k c.loop-at.at-index) [
        | inl earlier ↦ stays_closed s1.reading s2.reading at (get_or GATES k 0) same shut
            (c.loop-at.invariant.closed honest k earlier)
        | inr not_earlier ↦
            let here : k ≡ c.loop-at.at-index = omega (arith, less, not_earlier) in rw here shut
      ];
  rest = search rules;
  counts = search rules;
}
