-- What a host's report leaves, from what each part of it leaves.
use Rattle.kijolvar.proofs.Common.{TillState, List, ap, refl, subst, sym, true≢false, ℕ, ◌∙◌, ◌≡◌, []}
use Rattle.std.proofs.Common.{All, Bool, Err, Global, Ok, Vec, false, true}
use Rattle.std.specs.Prelude.{Result, is_ok}
use Rattle.pos_disk.specs.declared.device.Disk.{Ghosts as DiskGhosts}
use Rattle.pos_service.specs.declared.peripheral.Peripheral.{Ghosts}
use Rattle.pos_drive.specs.Courses.{reported_course}
use Rattle.pos_drive.specs.declared.courses.Course.{Course}
use Rattle.pos_counter.specs.Counters.{Stays}
use Rattle.pos_counter.specs.HostTallies.{LeavesHostAlone, hears}
use Rattle.pos_counter.specs.Hosts.{changed_pending, hosts_in, progress_in}
use Rattle.pos_counter.specs.declared.counter.Counter.{Counter}
use Rattle.pos_script.specs.Lines.{lines_of}
use Rattle.pos_totals.specs.Views.{TotalsView}
use Rattle.pos_streams.specs.Streams.{Given, given_with}
use Rattle.pos_streams.specs.Transfers.{given_to}
use Rattle.pos_run.specs.LineRuns.{RunsGivenLines}
use Rattle.pos_run.specs.Transcript.{Session}
use Rattle.pos_run.specs.WaitingLines.{IsOneLine, lines_in}
use Rattle.kijolvar.specs.declared.device.Device.{Device}
use Rattle.kijolvar.specs.HeldLines.{AreHeld, BeginsAnswer, DropsHeld, GoesOn, behind_first}
use Rattle.kijolvar.specs.Reports.{CutsInputs, IsReported, TakesDone, TakesFailure}
use Rattle.kijolvar.specs.TillDisks.{HostedDisk, IsInStep, fixed_of}
use Rattle.kijolvar.specs.Tills.{KeepsRest, disk_of, session_in}
use Rattle.kijolvar.proofs.HeldLemmas.{each_behind, lines_behind}
use Rattle.kijolvar.proofs.HostedLemmas.{file_follows}

-- the lines of inputs behind the first of those that are held
pub held_behind : {these those held : List (Vec ℕ Global)} → held ≡ behind_first these those → AreHeld these
    → AreHeld those → AreHeld held
held_behind {these} {those} is each others =
    record { each = subst (All IsOneLine) (sym is) (each_behind these those each.each others.each) }

-- what the till keeps, if it kept it before too
pub rest_from : {old mid new : TillState} → fixed_of (disk_of mid) ≡ fixed_of (disk_of old) → mid.failed ≡ old.failed
    → mid.profile ≡ old.profile → mid.orders ≡ old.orders → mid.is_driven ≡ old.is_driven → KeepsRest mid new
    → KeepsRest old new
rest_from {old} {new = new} file failed profile orders is_driven rest = record {
  file = rest.file ∙ file;
  in_step = rest.in_step;
  follows = file_follows (disk_of old) (disk_of new) (rest.file ∙ file) rest.in_step;
  told = rest.told;
  failed = rest.failed ∙ failed;
  profile = rest.profile ∙ profile;
  orders = rest.orders ∙ orders;
  is_driven = rest.is_driven ∙ is_driven;
}

module _ (bound : DiskGhosts HostedDisk) (hosts : Device → Course) (peripherals : Ghosts Device) where
  -- lines go on, from the same
  goes_from : {counter : Counter HostedDisk Device} (s : Session) {t : Session} {b d : Given} {ls : List (Vec ℕ Global)}
      (ms : List (Vec ℕ Global)) (new : TillState) → s ≡ t → b ≡ d → ls ≡ ms
      → GoesOn bound hosts peripherals counter s b ls new → GoesOn bound hosts peripherals counter t d ms new
  goes_from {counter} s {b} {d} ms new same_session same_given same_lines go =
      subst (λ (x : Session). GoesOn bound hosts peripherals counter x d ms new) same_session
      (subst (λ (x : Given). GoesOn bound hosts peripherals counter s x ms new) same_given
      (subst (λ (x : List (Vec ℕ Global)). GoesOn bound hosts peripherals counter s b x new) same_lines go))

  -- a device takes the report, whatever the till has beside its counter
  reports_from : (is_done : Bool) {old same : Counter HostedDisk Device} (new : Counter HostedDisk Device) → same ≡ old
      → Stays peripherals same new
      → hosts_in hosts new ≡ changed_pending (reported_course is_done) (hosts_in hosts same)
      → new.tally ≡ hears is_done (progress_in hosts same) same.tally
      → IsReported hosts peripherals is_done old new
  reports_from is_done new is stays course tally =
      subst (λ (c : Counter HostedDisk Device). IsReported hosts peripherals is_done c new) is
      (record { stays = stays; course = course; tally = tally })

  pub takes_done : {old before begun : TillState} {reported : Counter HostedDisk Device} {new : TillState}
      {inputs : List ℕ} (these : List (Vec ℕ Global)) → before ≡ record old { held = before.held }
      → BeginsAnswer before begun → Stays peripherals begun.counter reported
      → hosts_in hosts reported ≡ changed_pending (reported_course true) (hosts_in hosts begun.counter)
      → reported.tally ≡ hears true (progress_in hosts begun.counter) begun.counter.tally
      → lines_in these ≡ lines_of inputs → before.held.items ≡ behind_first these old.held.items
      → AreHeld old.held.items → GoesOn bound hosts peripherals reported (session_in peripherals begun)
      (given_to begun.answer) begun.held.items new → KeepsRest (record begun { counter = reported }) new
      → TakesDone bound hosts peripherals old inputs new
  takes_done {old} {before} {begun} {reported} {new} these is begins stays course told are inserted each go rest =
      let counter : begun.counter ≡ old.counter =
      ap (λ (k : TillState). k.counter) begins.stays ∙ ap (λ (k : TillState). k.counter) is in
      let session : session_in peripherals begun ≡ session_in peripherals old =
      ap (session_in peripherals) begins.stays ∙ ap (session_in peripherals) is in
      let answer : given_to begun.answer ≡ given_with [] (given_to old.answer).faults =
      begins.answer ∙ ap (λ (k : TillState). given_with [] (given_to k.answer).faults) is in
      let held : begun.held.items ≡ before.held.items = ap (λ (k : TillState). k.held.items) begins.stays in
      record {
        reported = reported;
        reports = reports_from true reported counter stays course told;
        lines = before.held.items;
        are = ap lines_in inserted ∙ lines_behind these old.held.items each.each
            ∙ ap (λ (ls : List (List ℕ)). behind_first ls (lines_in old.held.items)) are;
        go_on = goes_from _ _ new session answer held go;
        rest = rest_from (ap (λ (t : TotalsView HostedDisk). fixed_of t.disk) stays.totals
            ∙ ap (λ (c : Counter HostedDisk Device). fixed_of c.totals.disk) counter)
            (ap (λ (k : TillState). k.failed) begins.stays ∙ ap (λ (k : TillState). k.failed) is)
            (ap (λ (k : TillState). k.profile) begins.stays ∙ ap (λ (k : TillState). k.profile) is)
            (ap (λ (k : TillState). k.orders) begins.stays ∙ ap (λ (k : TillState). k.orders) is)
            (ap (λ (k : TillState). k.is_driven) begins.stays ∙ ap (λ (k : TillState). k.is_driven) is) rest;
      }

  -- lines that were carried out, in the terms of any fault
  all_carried : {E : Type 0} {old new : Counter HostedDisk Device} {s left : Session} {lines : List (List ℕ)}
      {before after : Given} (result : Result (Unit {0}) E) → is_ok result ≡ true
      → RunsGivenLines bound peripherals old s lines before after result left new
      → RunsGivenLines {E = Unit {0}} bound peripherals old s lines before after (Ok tt) left new
  all_carried (Ok u) is done = done
  all_carried (Err fault) is done = absurd (true≢false (sym is))

  -- lines are carried out by a till that has begun its answer
  carries_from : {E : Type 0} (old begun : TillState) (fed : Counter HostedDisk Device) (left : Session)
      (lines : List (List ℕ)) (between : Given) (result : Result (Unit {0}) E) → BeginsAnswer old begun
      → RunsGivenLines bound peripherals begun.counter (session_in peripherals begun) lines
      (given_to begun.answer) between result left fed → RunsGivenLines bound peripherals old.counter
      (session_in peripherals old) lines (given_with [] (given_to old.answer).faults) between result left fed
  carries_from old begun fed left lines between result begins done =
      let counter : begun.counter ≡ old.counter = ap (λ (k : TillState). k.counter) begins.stays in
      let session : session_in peripherals begun ≡ session_in peripherals old =
      ap (session_in peripherals) begins.stays in
      subst (λ (c : Counter HostedDisk Device). RunsGivenLines bound peripherals c (session_in peripherals old) lines
      (given_with [] (given_to old.answer).faults) between result left fed) counter
      (subst (λ (x : Session). RunsGivenLines bound peripherals begun.counter x lines
      (given_with [] (given_to old.answer).faults) between result left fed) session
      (subst (λ (x : Given). RunsGivenLines bound peripherals begun.counter
      (session_in peripherals begun) lines x between result left fed) begins.answer done))

  pub takes_failure : {E : Type 0} {old begun mid : TillState} {fed reported : Counter HostedDisk Device}
      (left : Session) (between : Given) (result : Result (Unit {0}) E) {new : TillState} {inputs : List ℕ}
      → BeginsAnswer old begun → RunsGivenLines bound peripherals begun.counter (session_in peripherals begun)
      (lines_of inputs) (given_to begun.answer) between result left fed → is_ok result ≡ true
      → fixed_of fed.totals.disk ≡ fixed_of (disk_of begun) → Stays peripherals fed reported
      → hosts_in hosts reported ≡ changed_pending (reported_course false) (hosts_in hosts fed)
      → reported.tally ≡ hears false (progress_in hosts fed) fed.tally → mid ≡ record begun {
        counter = reported;
        names = mid.names;
        spares = mid.spares;
        answer = mid.answer;
        outcome = mid.outcome;
      } → GoesOn bound hosts peripherals reported left between begun.held.items new → KeepsRest mid new → TakesFailure
      bound hosts peripherals old inputs new
  takes_failure {old} {begun} {fed} {reported} left between result {new} begins done all file stays course told is go
      rest =
      record {
        fed = fed;
        session = left;
        between = between;
        carries = all_carried result all (carries_from old begun fed left _ between result begins done);
        reported = reported;
        reports = record { stays = stays; course = course; tally = told };
        go_on = goes_from left _ new refl refl (ap (λ (k : TillState). k.held.items) begins.stays) go;
        rest = rest_from (ap (λ (k : TillState). fixed_of (disk_of k)) is ∙ ap (λ (t : TotalsView HostedDisk).
            fixed_of t.disk) stays.totals ∙ file ∙ ap (λ (k : TillState). fixed_of (disk_of k)) begins.stays)
            (ap (λ (k : TillState). k.failed) is ∙ ap (λ (k : TillState). k.failed) begins.stays)
            (ap (λ (k : TillState). k.profile) is ∙ ap (λ (k : TillState). k.profile) begins.stays)
            (ap (λ (k : TillState). k.orders) is ∙ ap (λ (k : TillState). k.orders) begins.stays)
            (ap (λ (k : TillState). k.is_driven) is ∙ ap (λ (k : TillState). k.is_driven) begins.stays) rest;
      }

  pub cuts_inputs : {old begun mid : TillState} {fed : Counter HostedDisk Device} {new : TillState} {inputs : List ℕ}
      → BeginsAnswer old begun
      → RunsGivenLines bound peripherals begun.counter (session_in peripherals begun) (lines_of inputs)
      (given_to begun.answer) (given_to mid.answer) mid.outcome (session_in peripherals mid) fed
      → is_ok mid.outcome ≡ false → fixed_of fed.totals.disk ≡ fixed_of (disk_of begun) → mid ≡ record begun {
        counter = fed;
        names = mid.names;
        spares = mid.spares;
        answer = mid.answer;
        outcome = mid.outcome;
      } → DropsHeld hosts peripherals mid new → IsInStep (disk_of new)
      → CutsInputs bound hosts peripherals old inputs new
  cuts_inputs {old} {begun} {mid} {fed} {new} {inputs} begins done cut file is drops in_step =
      let counter : mid.counter ≡ fed = ap (λ (k : TillState). k.counter) is in
      let Runs : TillState → Type 0 = λ k. RunsGivenLines bound peripherals old.counter (session_in peripherals old)
      (lines_of inputs) (given_with [] (given_to old.answer).faults) (given_to k.answer) k.outcome
      (session_in peripherals k) fed in
      let file_stays : fixed_of (disk_of new) ≡ fixed_of (disk_of old) =
      ap (λ (t : TotalsView HostedDisk). fixed_of t.disk) drops.counter.totals
      ∙ ap (λ (c : Counter HostedDisk Device). fixed_of c.totals.disk) counter ∙ file
      ∙ ap (λ (k : TillState). fixed_of (disk_of k)) begins.stays in
      record {
        fed = fed;
        carries = subst Runs (sym drops.stays)
            (carries_from old begun fed (session_in peripherals mid) (lines_of inputs) (given_to mid.answer)
            mid.outcome begins done);
        cut = ap (λ (k : TillState). is_ok k.outcome) drops.stays ∙ cut;
        stays = subst (λ (c : Counter HostedDisk Device). Stays peripherals c new.counter) counter drops.counter;
        tally = subst (λ (c : Counter HostedDisk Device). LeavesHostAlone c.tally new.counter.tally) counter
            drops.tally;
        ready = drops.ready;
        held = drops.held;
        left = ap (λ (k : TillState). k.left) drops.stays;
        rest = record {
          file = file_stays;
          in_step = in_step;
          follows = file_follows (disk_of old) (disk_of new) file_stays in_step;
          told = ap (λ (k : TillState). k.told) drops.stays ∙ ap (λ (k : TillState). k.told) is
              ∙ ap (λ (k : TillState). k.told) begins.stays;
          failed = ap (λ (k : TillState). k.failed) drops.stays ∙ ap (λ (k : TillState). k.failed) is
              ∙ ap (λ (k : TillState). k.failed) begins.stays;
          profile = ap (λ (k : TillState). k.profile) drops.stays ∙ ap (λ (k : TillState). k.profile) is
              ∙ ap (λ (k : TillState). k.profile) begins.stays;
          orders = ap (λ (k : TillState). k.orders) drops.stays ∙ ap (λ (k : TillState). k.orders) is
              ∙ ap (λ (k : TillState). k.orders) begins.stays;
          is_driven = ap (λ (k : TillState). k.is_driven) drops.stays ∙ ap (λ (k : TillState). k.is_driven) is
              ∙ ap (λ (k : TillState). k.is_driven) begins.stays;
        };
      }
