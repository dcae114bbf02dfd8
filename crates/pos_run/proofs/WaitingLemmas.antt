-- Lines that are carried out one after another, and may wait.
use Rattle.pos_run.proofs.Common.{Appends, Appends-nil, Appends-trans, Counter, DiskGhosts, Finishes, Ghosts, Given, []}
use Rattle.pos_run.proofs.Common.{IsRun, List, Machine, Request, Response, Result, Run, Session, Stops, Ok, Err, ap}
use Rattle.pos_run.proofs.Common.{append-nil, append_assoc, arith, drop, given_after, length, machine}
use Rattle.pos_run.proofs.Common.{refl, runs_from, subst, sym, true, false, ℕ, ◌++◌, ◌<◌, ◌≤◌, ◌∙◌, ◌∷◌, ◌≡◌, ◌⊎◌}
use Rattle.pos_run.proofs.Common.{codes, get_or}
use Rattle.pos_run.proofs.Common.{suc, false≢true}
use Rattle.std.proofs.Common.{inl, inr, take, ⊎_elim}
use Rattle.pos_streams.specs.Transfers.{given_to}
use Rattle.pos_run.specs.declared.line_texts.LineText.{LineText}
use Rattle.pos_run.proofs.LineLemmas.{prints_join}
use Rattle.pos_run.proofs.WantingLemmas.{one_wanting}
use Rattle.std.proofs.Common.{length-append, slice_index_or}
use Rattle.std.specs.Prelude.{◌≢◌}
use Rattle.std.specs.declared.vec.Vec.{Vec}
use Rattle.pos_counter.proofs.ErrandLemmas.{runs_on}
use Rattle.pos_counter.proofs.ServiceLemmas.{OnlyNow}
use Rattle.pos_counter.proofs.HostsLemmas.{alone_same}
use Rattle.pos_counter.proofs.RunLemmas.{run_tally}
use Rattle.pos_counter.specs.Counters.{IsLeftDuring, RunsFrom, Stays}
use Rattle.pos_counter.specs.HostTallies.{LeavesHostAlone, forgets}
use Rattle.pos_counter.specs.Hosts.{progress_in}
use Rattle.pos_counter.specs.declared.host_tally.HostTally.{HostTally}
use Rattle.pos_counter.specs.Leaving.{Leaves, part_of}
use Rattle.pos_disk.proofs.MomentLemmas.{weaker}
use Rattle.pos_disk.specs.Keeps.{KeepsDisk}
use Rattle.pos_disk.specs.State.{DiskState, LeavesOnly}
use Rattle.pos_drive.specs.declared.courses.Course.{Course}
use Rattle.pos_drive.specs.declared.courses.Progress.{Progress}
use Rattle.pos_drive.specs.declared.courses.Progress.TheVariants as progress
use Rattle.pos_script.specs.Lines.{lines_of}
use Rattle.pos_script.specs.Text.{printed}
use Rattle.pos_script.specs.Writing.{IsCut, Writes}
use Rattle.pos_store.proofs.RecoveryLemmas.{both_keep}
use Rattle.pos_store.specs.Standing.{StandsForOneOf}
use Rattle.pos_streams.specs.Streams.{given_with}
use Rattle.pos_streams.specs.declared.sink.WriteFault.{WriteFault}
use Rattle.pos_totals.specs.Views.{TotalsView}
use Rattle.pos_run.specs.Runs.{StopsAt}
use Rattle.pos_run.specs.Transcript.{LineBecomes, LinesPrint, Outcome, Transcript}
use Rattle.pos_run.specs.WaitingLines.{CarriesEach, CarriesOn, Cuts, CutsOff, Holds, IsNotHeld, LacksMemory}
use Rattle.pos_run.specs.WaitingLines.{LeavesReady, LeavesOrder, LineLeaves, RunsLines, RunsAndWrites, is_held}
use Rattle.pos_run.specs.WaitingLines.{lines_in, text_of}
use Rattle.pos_run.specs.declared.waiting_lines.LineProgress.{LineProgress}

-- lines with one more at their end are some
some_carried : (lines : List (List ℕ)) (line : List ℕ) → lines ++ line ∷ [] ≡ [] → ⊥
some_carried lines line none =
    let count : length (lines ++ line ∷ []) ≡ 0 = ap length none in
    omega (arith, count, length-append lines (line ∷ []))

-- a text that begins with one that was cut is cut too
pub cut_more : (old new : Given) {text : List ℕ} (more : List ℕ) → IsCut old new text → IsCut old new (text ++ more)
cut_more old new more (front, back, is, some, failed) = (
  front,
  back ++ more,
  ap (λ l. l ++ more) is ∙ append_assoc front back more,
  omega (arith, some, length-append back more),
  failed,
)

-- what there was memory for of a text was written as far as could be
cut_short : (old new : Given) {text : List ℕ} (front back : List ℕ) (result : Result (Unit {0}) WriteFault)
    → text ≡ front ++ back → 8 ≤ length front → 0 < length back → Writes old new front result
    → IsCut old new text ⊎ LacksMemory old new text
cut_short old new front back (Ok u) is long some wrote = inr (front, back, is, long, some, wrote)
cut_short old new front back (Err fault) is long some cut =
    inl (subst (IsCut old new) (sym is) (cut_more old new back cut))

-- a text that is short, and one that isn't
pub short_text : (text : LineText) → text.count < 8 → (text_of text).bytes ≡ take text.count text.first
short_text text short = grind (arith, short)

pub whole_text : (text : LineText) → 8 ≤ text.count → (text_of text).bytes ≡ text.first ++ (given_to text.rest).bytes
whole_text text long = grind (arith, long)

-- a text of eight bytes or more isn't what a line prints that finds no memory
pub long_text : (front back : List ℕ) → 8 ≤ length front → front ++ back ≢ codes "memory\n"
long_text front back long is =
    let count : length (front ++ back) ≡ 7 = ap length is in
    omega (arith, long, count, length-append front back)

-- a run to this machine is one to an equal one, with the same moments
arrives : {D : Type 0} (state : D → DiskState) (old : DiskState) {d e : D} (m : Machine) {n k : Machine}
    (steps : List (Request × Response)) → d ≡ e → n ≡ k → (run : Run m steps n)
    → LeavesOnly old (state d) (IsLeftDuring m steps n run)
    → (again : Run m steps k) × LeavesOnly old (state e) (IsLeftDuring m steps k again)
arrives {D} state old {d} m {n} {k} steps here same run any_moment =
    let P : D → Machine → Type 0 = λ x y. (r : Run m steps y) × LeavesOnly old (state x) (IsLeftDuring m steps y r) in
    subst (λ x. P x k) here (subst (λ y. P d y) same (run, any_moment))

-- a host is left alone from one moment to the next, and then to another
alone_join : {a b c : HostTally} → LeavesHostAlone a b → LeavesHostAlone b c → LeavesHostAlone a c
alone_join first second = record {
  driven = second.driven ∙ first.driven;
  given = second.given ∙ first.given;
  done = second.done ∙ first.done;
  not_done = second.not_done ∙ first.not_done;
}

-- no order is forgotten where none is pending
forgets_none : (far : Progress) (tally : HostTally) → is_held far ≢ true → forgets far tally ≡ tally
forgets_none progress.Free tally idle = refl
forgets_none progress.Ready tally idle = refl
forgets_none progress.Waits tally idle = absurd (idle refl)
forgets_none progress.HandedOut tally idle = absurd (idle refl)
forgets_none progress.Reported tally idle = absurd (idle refl)

-- a line that prints that there was no memory forgets no order, if the counter is settled after it
keeps_order : (far : Progress) {old ran new : HostTally} {text : List ℕ} → LeavesOrder old ran far text
    → new ≡ forgets far ran → text ≡ codes "memory\n" → new ≡ old
keeps_order far {ran} (same, unheld) tally memory =
    tally ∙ forgets_none far ran (λ pends. unheld pends memory) ∙ same

module _ {D P : Type 0} (bound : DiskGhosts D) (peripherals : Ghosts P) where
  keeps_same : (disk : D) → KeepsDisk bound disk disk
  keeps_same disk = record { size = refl; honest = (λ h. h, λ h. h); later = λ h. omega arith; fixed = refl }

  -- a run keeps the disk
  pub run_keeps : (a b : Counter D P) (steps : List (Request × Response)) → IsRun bound peripherals a steps b
      → KeepsDisk bound a.totals.disk b.totals.disk
  run_keeps a b [] run = subst (λ (c : Counter D P). KeepsDisk bound a.totals.disk c.totals.disk) (sym run)
      (keeps_same a.totals.disk)
  run_keeps a b (s ∷ steps) run =
      both_keep bound a.totals.disk run.0.totals.disk b.totals.disk run.1.kept (run_keeps run.0 b steps run.2)

  -- lines that a counter ran by, the machine ran by
  pub runs_lines : ((disk : D) → OnlyNow bound disk) → {a b : Counter D P} {s left : Session} {lines : List (List ℕ)}
      {text : List ℕ}
      → Transcript (IsRun bound peripherals) a s lines text left b → RunsLines bound peripherals a s lines text b left
  runs_lines only {a} {b} done = λ standing leaves. record {
    steps = done.steps;
    ran = runs_from bound peripherals a b done.steps standing only leaves done.run;
    prints = done.prints;
  }

  -- then the counter stays as it is to the machine
  runs_stay : (a : Counter D P) {b c : Counter D P} {s left : Session} {lines : List (List ℕ)} {text : List ℕ}
      → RunsLines bound peripherals a s lines text b left → Stays peripherals b c
      → RunsLines bound peripherals a s lines text c left
  runs_stay a {b} {c} runs stays = λ standing leaves.
      let r = runs standing leaves in
      let after = r.ran.after in
      let same : machine peripherals b (part_of bound b.totals after) ≡ machine peripherals c
      (part_of bound c.totals after) = sym (ap (λ v. machine peripherals c (part_of bound v after)) stays.totals
      ∙ stays.machine (part_of bound b.totals after)) in
      let (run, any_moment) = arrives bound.state (bound.state a.totals.disk) _ r.steps
      (sym (ap (λ (v : TotalsView D). v.disk) stays.totals)) same r.ran.run r.ran.any_moment in
      record {
        steps = r.steps;
        ran = record {
          after = after;
          leaves = subst (λ v. Leaves bound v after) (sym stays.totals) r.ran.leaves;
          run = run;
          any_moment = any_moment;
        };
        prints = r.prints;
      }

  kept_stay : (a : Counter D P) {b c : Counter D P} → KeepsDisk bound a.totals.disk b.totals.disk
      → Stays peripherals b c → KeepsDisk bound a.totals.disk c.totals.disk
  kept_stay a kept stays = subst (λ v. KeepsDisk bound a.totals.disk v.disk) (sym stays.totals) kept

  pub tells_stay : {a b c : Counter D P} {s left : Session} {lines : List (List ℕ)} {before after : Given}
      → RunsAndWrites bound peripherals a s lines before after b left → Stays peripherals b c
      → LeavesHostAlone b.tally c.tally → RunsAndWrites bound peripherals a s lines before after c left
  tells_stay {a} h stays alone = record {
    text = h.text;
    runs = runs_stay a h.runs stays;
    written = h.written;
    kept = kept_stay a h.kept stays;
    tally = alone_join h.tally alone;
  }

  pub cuts_stay : {a b c : Counter D P} {s left : Session} {line : List ℕ} {before after : Given}
      → Cuts bound peripherals a s line before after b left → Stays peripherals b c
      → LeavesHostAlone b.tally c.tally → Cuts bound peripherals a s line before after c left
  cuts_stay {a} h stays alone = record {
    text = h.text;
    runs = runs_stay a h.runs stays;
    cut = h.cut;
    kept = kept_stay a h.kept stays;
    tally = alone_join h.tally alone;
  }

  -- no line yet
  pub tells_none : ((disk : D) → OnlyNow bound disk) → (c : Counter D P) (s : Session) (given : Given)
      → RunsAndWrites bound peripherals c s [] given given c s
  tells_none only c s given = record {
    text = [];
    runs = λ standing leaves. record {
      steps = [];
      ran = runs_from bound peripherals c c [] standing only leaves refl;
      prints = (refl, refl, refl);
    };
    written = Appends-nil given;
    kept = keeps_same c.totals.disk;
    tally = alone_same refl;
  }

  -- a line that is held back is none
  pub tells_held : {a b : Counter D P} {s left : Session} {before after : Given}
      → Holds bound peripherals a s before after b left → RunsAndWrites bound peripherals a s [] before after b left
  tells_held {before} h = record {
    text = [];
    runs = λ standing leaves.
        let (stays, session) = h.stays standing leaves in
        record { steps = []; ran = stays; prints = (refl, refl, session) };
    written = h.nothing ∙ Appends-nil before;
    kept = h.kept;
    tally = alone_same h.tally;
  }

  -- lines and then more
  lines_join : (a b c : Counter D P) {s mid left : Session} {lines more : List (List ℕ)} {text rest : List ℕ}
      → RunsLines bound peripherals a s lines text b mid → RunsLines bound peripherals b mid more rest c left
      → RunsLines bound peripherals a s (lines ++ more) (text ++ rest) c left
  lines_join a b c {s} {mid} {left} {lines} {more} {text} {rest} first second = λ standing leaves.
      let one = first standing leaves in
      let two = second one.ran.after one.ran.leaves in
      record {
        steps = one.steps ++ two.steps;
        ran = runs_on bound peripherals a b standing one.steps two.steps one.ran two.ran;
        prints = prints_join s lines one.steps text mid more two.steps rest left one.prints two.prints;
      }

  pub tells_join : {a b c : Counter D P} {s mid left : Session} {lines more : List (List ℕ)}
      {before between after : Given} → RunsAndWrites bound peripherals a s lines before between b mid
      → RunsAndWrites bound peripherals b mid more between after c left
      → RunsAndWrites bound peripherals a s (lines ++ more) before after c left
  tells_join {a} {b} {c} first second = record {
    text = first.text ++ second.text;
    runs = lines_join a b c first.runs second.runs;
    written = Appends-trans _ _ _ first.text second.text first.written second.written;
    kept = both_keep bound a.totals.disk b.totals.disk c.totals.disk first.kept second.kept;
    tally = alone_join first.tally second.tally;
  }

  -- what a line leaves at which a write failed, where it is the only one
  abbrev StopsAlone : Counter D P → Session → List ℕ → Given → Given → Counter D P → Session → Type 0
  StopsAlone a s line before after b left =
      (text : List ℕ) × Transcript (IsRun bound peripherals) a s (line ∷ []) text left b × IsCut before after text

  alone : {a b mid : Counter D P} {s between left : Session} {line at : List ℕ} (earlier later : List (List ℕ))
      {before given after : Given} → line ∷ [] ≡ earlier ++ at ∷ later
      → Finishes (IsRun bound peripherals) a s earlier before given between mid
      → StopsAt (IsRun bound peripherals) mid between at given after left b → StopsAlone a s line before after b left
  alone {a} {b} {mid} {s} {between} {left} {line} {at} [] later {before} {given} {after} split done failed =
      let (none, nothing, names) = done.transcript.prints in
      let same : at ≡ line = sym (ap (λ (ls : List (List ℕ)). get_or ls 0 []) split) in
      let still : mid ≡ a =
      subst (λ (ss : List (Request × Response)). IsRun bound peripherals a ss mid) none done.transcript.run in
      let first : given ≡ before = done.written ∙ ap (given_after before) nothing ∙ sym (Appends-nil before) in
      let outcome : Outcome = record { reply = failed.reply; steps = failed.carried.steps; session = left } in
      let becomes : LineBecomes s line outcome = subst (λ n. LineBecomes n line outcome) names
      (subst (λ l. LineBecomes between l outcome) same failed.carried.becomes) in (
        printed failed.reply,
        record {
          steps = failed.carried.steps;
          run = subst (λ (m : Counter D P). IsRun bound peripherals m failed.carried.steps b) still failed.carried.run;
          prints = (
            outcome,
            [],
            [],
            becomes,
            (refl, refl, refl),
            sym (append-nil failed.carried.steps),
            sym (append-nil (printed failed.reply)),
          );
        },
        subst (λ g. IsCut g after (printed failed.reply)) first failed.cut,
      )
  alone {at} (x ∷ xs) later split done failed =
      let count : 1 ≡ suc (length (xs ++ at ∷ later)) = ap length split in
      absurd (omega (arith, count, length-append xs (at ∷ later)))

  stops_alone : {a b : Counter D P} {s left : Session} {line : List ℕ} {before after : Given}
      → Stops (IsRun bound peripherals) a s (line ∷ []) before after left b → StopsAlone a s line before after b left
  stops_alone h = alone h.earlier h.later h.split h.done h.failed

  module _ (only : (disk : D) → OnlyNow bound disk) (a b : Counter D P) (s left : Session) (lines : List (List ℕ))
      (line : List ℕ) (is_one : lines ≡ line ∷ []) (start before after now : Given) (empty : start ≡ given_with [] 0)
      (far : Progress) where
    -- a line whose text failed
    pub cuts_failed : (result : Result (Unit {0}) WriteFault)
        → Stops (IsRun bound peripherals) a s lines start now left b → (now.faults ≡ 0) ⊎ (8 ≤ length now.bytes)
        → Writes before after now.bytes result
        → (cuts : Cuts bound peripherals a s line before after b left)
        × LeavesOrder a.tally b.tally far cuts.text
    cuts_failed result h fails writes =
        let stops : Stops (IsRun bound peripherals) a s (line ∷ []) (given_with [] 0) now left b =
        subst (λ g. Stops (IsRun bound peripherals) a s (line ∷ []) g now left b) empty
        (subst (λ (ls : List (List ℕ)). Stops (IsRun bound peripherals) a s ls start now left b) is_one h) in
        let (text, done, cut) = stops_alone stops in
        let (front, back, is, some, failed) = cut in
        let bytes : now.bytes ≡ front = ap (λ (g : Given). g.bytes) failed in
        let faults : now.faults ≡ 1 = ap (λ (g : Given). g.faults) failed in
        let long : 8 ≤ length front =
        ⊎_elim (λ none. absurd (omega (arith, none, faults))) (λ are. subst (λ l. 8 ≤ length l) bytes are) fails in (
          record {
            text = text;
            runs = runs_lines only done;
            cut = cut_short before after front back result is long some
                (subst (λ l. Writes before after l result) bytes writes);
            kept = run_keeps a b done.steps done.run;
            tally = alone_same (run_tally bound peripherals a b done.steps done.run);
          },
          (
            run_tally bound peripherals a b done.steps done.run,
            λ pends memory. long_text front back long (sym is ∙ memory),
          ),
        )

    module _ (done : Finishes (IsRun bound peripherals) a s lines start now left b) where
      bytes_are : now.bytes ≡ done.text
      bytes_are = ap (λ (g : Given). g.bytes) (done.written ∙ ap (λ g. given_after g done.text) empty)

      ran : Transcript (IsRun bound peripherals) a s (line ∷ []) done.text left b
      ran = subst (λ (ls : List (List ℕ)). Transcript (IsRun bound peripherals) a s ls done.text left b) is_one
          done.transcript

      -- a line whose text was given
      pub tells_given : Appends before after now.bytes → IsNotHeld far now.bytes
          → (tells : RunsAndWrites bound peripherals a s (line ∷ []) before after b left)
          × LeavesOrder a.tally b.tally far tells.text
      tells_given written not_held = (
        record {
          text = done.text;
          runs = runs_lines only ran;
          written = subst (Appends before after) bytes_are written;
          kept = run_keeps a b ran.steps ran.run;
          tally = alone_same (run_tally bound peripherals a b ran.steps ran.run);
        },
        (run_tally bound peripherals a b ran.steps ran.run, subst (IsNotHeld far) bytes_are not_held),
      )

      -- a line at whose text a write failed
      pub cuts_given : IsCut before after now.bytes → IsNotHeld far now.bytes
          → (cuts : Cuts bound peripherals a s line before after b left)
          × LeavesOrder a.tally b.tally far cuts.text
      cuts_given cut not_held = (
        record {
          text = done.text;
          runs = runs_lines only ran;
          cut = inl (subst (IsCut before after) bytes_are cut);
          kept = run_keeps a b ran.steps ran.run;
          tally = alone_same (run_tally bound peripherals a b ran.steps ran.run);
        },
        (run_tally bound peripherals a b ran.steps ran.run, subst (IsNotHeld far) bytes_are not_held),
      )

      -- a line that found no memory
      pub holds_line : now.bytes ≡ codes "memory\n" → Holds bound peripherals a s before before b left
      holds_line memory =
          let prints : LinesPrint s (line ∷ []) ran.steps (codes "memory\n") left =
          subst (λ (t : List ℕ). LinesPrint s (line ∷ []) ran.steps t left) (sym bytes_are ∙ memory) ran.prints in
          record {
            stays = λ standing leaves.
                let r = runs_from bound peripherals a b ran.steps standing only leaves ran.run in
                let (same, names, idle) = one_wanting line prints r.run in
                let ran : RunsFrom bound peripherals standing a [] b = record {
                  after = r.after;
                  leaves = r.leaves;
                  run = same;
                  any_moment = weaker _ _ _ (StandsForOneOf standing) idle r.any_moment;
                } in
                (ran, names);
            nothing = refl;
            kept = run_keeps a b ran.steps ran.run;
            tally = run_tally bound peripherals a b ran.steps ran.run;
          }

  -- what a line leaves, by what became of it
  pub leaves_as : (course_of : P → Course) (Then : HostTally → HostTally → Progress → List ℕ → Type 0)
      (a b : Counter D P) (s left : Session) (line : List ℕ) (before after : Given)
      {result known : Result LineProgress WriteFault} → result ≡ known
      → LineLeaves bound peripherals course_of Then a s line before after result b left
      → LineLeaves bound peripherals course_of Then a s line before after known b left
  leaves_as course_of Then a b s left line before after is h =
      subst (λ r. LineLeaves bound peripherals course_of Then a s line before after r b left) is h

  -- a line after which the counter is settled
  pub tells_settled : {a b c : Counter D P} {s left : Session} {line : List ℕ} {before after : Given} (far : Progress)
      {done : Progress} → (tells : RunsAndWrites bound peripherals a s (line ∷ []) before after b left)
      × LeavesOrder a.tally b.tally far tells.text → Stays peripherals b c → LeavesHostAlone b.tally c.tally
      → c.tally ≡ forgets far b.tally → done ≡ progress.Ready
      → (tells : RunsAndWrites bound peripherals a s (line ∷ []) before after c left)
      × LeavesReady a.tally c.tally done tells.text
  unfolding tells_stay
  tells_settled far (h, leaves) stays alone tally ready =
      (tells_stay h stays alone, (ready, keeps_order far leaves tally))

  pub cuts_settled : {a b c : Counter D P} {s left : Session} {line : List ℕ} {before after : Given} (far : Progress)
      {done : Progress} → (cuts : Cuts bound peripherals a s line before after b left)
      × LeavesOrder a.tally b.tally far cuts.text → Stays peripherals b c → LeavesHostAlone b.tally c.tally
      → c.tally ≡ forgets far b.tally → done ≡ progress.Ready
      → (cuts : Cuts bound peripherals a s line before after c left) × LeavesReady a.tally c.tally done cuts.text
  unfolding cuts_stay
  cuts_settled far (h, leaves) stays alone tally ready =
      (cuts_stay h stays alone, (ready, keeps_order far leaves tally))

  -- no line yet, one after another
  each_none : ((disk : D) → OnlyNow bound disk) → (c : Counter D P) (s : Session) (given : Given)
      → CarriesEach bound peripherals c s [] given given c s
  unfolding tells_none
  each_none only c s given = (tells_none only c s given, refl, refl)

  -- one line more
  each_line : ((disk : D) → OnlyNow bound disk) → (lines : List (List ℕ)) (a : Counter D P) (s : Session)
      (before : Given) {b c : Counter D P} {mid left : Session} {line : List ℕ} {between after : Given}
      → CarriesEach bound peripherals a s lines before between b mid
      → (tells : RunsAndWrites bound peripherals b mid (line ∷ []) between after c left)
      → (tells.text ≡ codes "memory\n" → c.tally ≡ b.tally)
      → CarriesEach bound peripherals a s (lines ++ line ∷ []) before after c left
  unfolding tells_join
  each_line only [] a s before {c} {left} {after} (none, nothing, same) tells quiet = (
    c,
    left,
    after,
    tells_join none tells,
    (λ memory. quiet (sym (ap (λ t. t ++ tells.text) nothing) ∙ memory) ∙ same),
    each_none only c left after,
  )
  each_line only (x ∷ xs) a s before (mid, between, given, first, is_quiet, rest) tells quiet =
      (mid, between, given, first, is_quiet, each_line only xs mid between given rest tells quiet)

  -- no line more
  each_then : (lines : List (List ℕ)) (a : Counter D P) (s : Session) (before : Given) {b c : Counter D P}
      {mid left : Session} {between after : Given} → CarriesEach bound peripherals a s lines before between b mid
      → (tells : RunsAndWrites bound peripherals b mid [] between after c left) → tells.text ≡ []
      → c.tally ≡ b.tally → CarriesEach bound peripherals a s lines before after c left
  unfolding tells_join
  each_then [] a s before (none, nothing, same) tells empty tally =
      (tells_join none tells, ap (λ t. t ++ tells.text) nothing ∙ empty, tally ∙ same)
  each_then (x ∷ xs) a s before (mid, between, given, first, is_quiet, rest) tells empty tally =
      (mid, between, given, first, is_quiet, each_then xs mid between given rest tells empty tally)

  module _ {A : Type 0} where
    -- no line yet
    pub carries_none : ((disk : D) → OnlyNow bound disk) → (c : Counter D P) (s : Session) (texts : List (Vec ℕ A))
        (given : Given)
        → CarriesOn bound peripherals c s texts texts given given c s
    carries_none only c s texts given = record {
      carried = [];
      split = refl;
      tells = tells_none only c s given;
      each = λ some. absurd (some refl);
      unforgotten = λ none some. refl;
    }

    -- Lines are carried out, one after another, and no order is pending after one.
    abbrev pub CarriesSo : (P → Course) → Counter D P → Session → (texts left_texts : List (Vec ℕ A))
        → (before after : Given) → Counter D P → Session → Type 0
    CarriesSo course_of old session texts left_texts before after new left =
        (carries : CarriesOn bound peripherals old session texts left_texts before after new left)
        × CarriesEach bound peripherals old session carries.carried before after new left
        × (carries.carried ≢ [] → progress_in course_of new ≡ progress.Ready)

    pub carries_begin : ((disk : D) → OnlyNow bound disk) → (course_of : P → Course) (c : Counter D P) (s : Session)
        (texts : List (Vec ℕ A)) (given : Given) → CarriesSo course_of c s texts texts given given c s
    unfolding carries_none
    carries_begin only course_of c s texts given =
        (carries_none only c s texts given, each_none only c s given, λ some. absurd (some refl))

    module _ (course_of : P → Course) (a b : Counter D P) {c : Counter D P} (s : Session) {mid : Session}
        (left : Session) {texts : List (Vec ℕ A)} (before : Given) {between : Given} (after : Given) where
      -- one line more
      pub carries_line : ((disk : D) → OnlyNow bound disk) → {text : Vec ℕ A} {rest : List (Vec ℕ A)} {line : List ℕ}
          → lines_of text.items ≡ line ∷ []
          → CarriesSo course_of a s texts (text ∷ rest) before between b mid
          → (tells : RunsAndWrites bound peripherals b mid (line ∷ []) between after c left)
          × LeavesReady b.tally c.tally (progress_in course_of c) tells.text
          → CarriesSo course_of a s texts rest before after c left
      carries_line only {rest} {line} is (h, each, ready) (tells, (now_ready, quiet)) =
          let more = each_line only h.carried a s before each tells quiet in (
            record {
              carried = h.carried ++ line ∷ [];
              split = h.split ∙ ap (λ (ls : List (List ℕ)). h.carried ++ (ls ++ lines_in rest)) is
                  ∙ sym (append_assoc h.carried (line ∷ []) (lines_in rest));
              tells = tells_join h.tells tells;
              each = λ some. more;
              unforgotten = λ none some. absurd (some_carried h.carried line none);
            },
            more,
            λ some. now_ready,
          )

      -- a line that is held back
      pub carries_held : {left_texts : List (Vec ℕ A)}
          → CarriesSo course_of a s texts left_texts before between b mid
          → Holds bound peripherals b mid between after c left
          → CarriesOn bound peripherals a s texts left_texts before after c left
      unfolding tells_held
      carries_held (h, each, ready) held = record {
        carried = h.carried;
        split = h.split;
        tells = subst (λ ls. RunsAndWrites bound peripherals a s ls before after c left) (append-nil h.carried)
            (tells_join h.tells (tells_held held));
        each = λ some. each_then h.carried a s before each (tells_held held) refl held.tally;
        unforgotten = λ none some. held.tally ∙ h.unforgotten none some;
      }

      -- a line at which a write failed
      pub cuts_off : {text : Vec ℕ A} {rest : List (Vec ℕ A)} {line : List ℕ} → lines_of text.items ≡ line ∷ []
          → CarriesSo course_of a s texts (text ∷ rest) before between b mid
          → Cuts bound peripherals b mid line between after c left
          → CutsOff bound peripherals a s texts rest before after c left
      cuts_off {rest} {line} is (h, each, ready) cuts = record {
        carried = h.carried;
        line = line;
        given = between;
        mid = b;
        between = mid;
        split = h.split ∙ ap (λ (ls : List (List ℕ)). h.carried ++ (ls ++ lines_in rest)) is;
        tells = h.tells;
        each = each;
        cuts = cuts;
      }

    -- then the counter stays as it is to the machine, and is settled
    pub carries_stay : ((disk : D) → OnlyNow bound disk) → (course_of : P → Course) {a b c : Counter D P}
        {s left : Session} {texts left_texts : List (Vec ℕ A)} {before after : Given}
        → CarriesSo course_of a s texts left_texts before after b left → Stays peripherals b c
        → LeavesHostAlone b.tally c.tally → c.tally ≡ forgets (progress_in course_of b) b.tally → left_texts ≡ []
        → CarriesOn bound peripherals a s texts left_texts before after c left
    unfolding tells_stay tells_none
    carries_stay only course_of {a} {b} {s} {left} {before} {after} (h, each, ready) stays alone tally none = record {
      carried = h.carried;
      split = h.split;
      tells = tells_stay h.tells stays alone;
      each = λ some. each_then h.carried a s before each (tells_stay (tells_none only b left after) stays alone) refl
          (tally ∙ ap (λ far. forgets far b.tally) (ready some));
      unforgotten = λ idle some. absurd (some none);
    }

-- the first of some
pub first_of : {A : Type 0} (xs : List A) {ys : List A} {x : A} → 0 < length xs → x ≡ slice_index_or xs 0 x
    → ys ≡ drop 1 xs → xs ≡ x ∷ ys
first_of [] some is rest = absurd (omega (arith, some))
first_of (z ∷ zs) some is rest = rw (is, rest) refl

-- nothing is left where there is no first
pub none_left : {A : Type 0} (xs : List A) → (0 < length xs → false ≡ true) → xs ≡ []
none_left [] none = refl
none_left (x ∷ xs) none = absurd (false≢true (none (omega arith)))

-- where there is a first, some are left
pub some_left : {A : Type 0} {xs : List A} {x : A} {ys : List A} → xs ≡ x ∷ ys → xs ≡ [] → ⊥
some_left {ys} is none =
    let count : suc (length ys) ≡ 0 = ap length (sym is ∙ none) in
    omega (arith, count)
