-- A line that prints `memory` changed nothing.
use Rattle.std.proofs.Common.{Bool, List, Option, Some, None, [], ap, arith, refl, subst, sym, true, false, get_or, ℕ}
use Rattle.std.proofs.Common.{◌++◌, ◌∷◌, ◌≡◌, ◌∙◌, ◌⊎◌, inl, inr, ⊎_elim}
use Rattle.std.proofs.lemmas.List.{append_cancel_right}
use Rattle.pos_run.proofs.Common.{append-nil}
use Rattle.std.specs.Bool.{MatchBool}
use Rattle.std.specs.Prelude.{MatchOption, codes, slice_get, IsTrue}
use Rattle.pos_service.specs.declared.call.Call.{Call}
use Rattle.pos_service.specs.declared.answer.Answer.TheVariants as answer
use Rattle.pos_service.specs.declared.event.Event.TheVariants as event
use Rattle.pos_service.specs.declared.faults.AttachFault.TheVariants as attach
use Rattle.pos_service.specs.declared.faults.DetachFault.TheVariants as detach
use Rattle.pos_service.specs.declared.plant.Mechanism.{Mechanism}
use Rattle.pos_service.specs.declared.plant.Mechanism.TheVariants as mechanism
use Rattle.pos_service.specs.declared.answer.WorkResult.TheVariants as worked
use Rattle.pos_service.specs.Controls.{Control}
use Rattle.pos_script.specs.Text.{mechanism_text, printed, reply_text, response_text}
use Rattle.pos_script.specs.declared.print.LineReply.TheVariants as reply
use Rattle.pos_script.specs.Arguments.{Reading}
use Rattle.pos_script.specs.Commands.{LineRequest, asked_by}
use Rattle.pos_script.specs.Lines.{is_quiet}
use Rattle.pos_counter.specs.Counters.{IsLeftDuring}
use Rattle.pos_counter.specs.Machine.{Machine}
use Rattle.pos_counter.specs.Steps.{Request, Response, Run, Step, Wants, NewControl, CallOf, InputTo, WorkOn}
use Rattle.pos_counter.specs.Steps.{Snapshot, Made, Full, Answered, TakenIn, NoDevice, WrongInput}
use Rattle.pos_counter.specs.Steps.{Worked, Delivered, Shown, Attached, NotAttached, Detached, NotDetached, OutOfMemory}
use Rattle.pos_store.specs.Standing.{StandsForOneOf}
use Rattle.pos_run.specs.Transcript.{AskingBecomes, LineBecomes, LinesPrint, Outcome, ReadingBecomes, RequestBecomes}
use Rattle.pos_run.specs.Transcript.{Session, passed_over, rebuke, request_of, session_after, turned_down}

-- the first letter of a text
head_of : {l m : List ℕ} → l ≡ m → get_or l 0 0 ≡ get_or m 0 0
head_of e = ap (λ x. get_or x 0 0) e

clash : {n : ℕ} {l : List ℕ} → (n ≡ 109 → ⊥) → n ∷ l ≡ codes "memory" → ⊥
clash differs e = differs (head_of e)

mechanism_differs : (f : Mechanism) → mechanism_text f ≡ codes "memory" → ⊥
mechanism_differs (mechanism.Drawer true) e = clash (λ x. omega (arith, x)) e
mechanism_differs (mechanism.Drawer false) e = clash (λ x. omega (arith, x)) e
mechanism_differs mechanism.Scanner e = clash (λ x. omega (arith, x)) e
mechanism_differs (mechanism.Display shown) e = clash (λ x. omega (arith, x)) e
mechanism_differs (mechanism.Printer paper) e = clash (λ x. omega (arith, x)) e

-- only want of memory is told as `memory`
wants_memory : (r : Response) → response_text r ≡ codes "memory" → r ≡ OutOfMemory
wants_memory (Made number) e = absurd (clash (λ x. omega (arith, x)) e)
wants_memory Full e = absurd (clash (λ x. omega (arith, x)) e)
wants_memory (Answered (answer.Done value)) e = absurd (clash (λ x. omega (arith, x)) e)
wants_memory (Answered (answer.Refused code extended)) e = absurd (clash (λ x. omega (arith, x)) e)
wants_memory TakenIn e = absurd (clash (λ x. omega (arith, x)) e)
wants_memory NoDevice e = absurd (clash (λ x. omega (arith, x)) e)
wants_memory WrongInput e = absurd (clash (λ x. omega (arith, x)) e)
wants_memory (Worked worked.Idle) e = absurd (clash (λ x. omega (arith, x)) e)
wants_memory (Worked (worked.Done id)) e = absurd (clash (λ x. omega (arith, x)) e)
wants_memory (Worked (worked.Failed code extended)) e = absurd (clash (λ x. omega (arith, x)) e)
wants_memory (Delivered None) e = absurd (clash (λ x. omega (arith, x)) e)
wants_memory (Delivered (Some (event.StatusUpdate n))) e = absurd (clash (λ x. omega (arith, x)) e)
wants_memory (Delivered (Some event.Data)) e = absurd (clash (λ x. omega (arith, x)) e)
wants_memory (Delivered (Some (event.Error code extended locus))) e = absurd (clash (λ x. omega (arith, x)) e)
wants_memory (Delivered (Some (event.OutputComplete id))) e = absurd (clash (λ x. omega (arith, x)) e)
wants_memory (Shown snapshot) e = absurd (mechanism_differs snapshot.0.mechanism e)
wants_memory Attached e = absurd (clash (λ x. omega (arith, x)) e)
wants_memory (NotAttached attach.Unknown given) e = absurd (clash (λ x. omega (arith, x)) e)
wants_memory (NotAttached attach.KindDiffers given) e = absurd (clash (λ x. omega (arith, x)) e)
wants_memory (NotAttached attach.InUse given) e = absurd (clash (λ x. omega (arith, x)) e)
wants_memory (Detached given) e = absurd (clash (λ x. omega (arith, x)) e)
wants_memory (NotDetached detach.Unknown) e = absurd (clash (λ x. omega (arith, x)) e)
wants_memory (NotDetached detach.Vacant) e = absurd (clash (λ x. omega (arith, x)) e)
wants_memory (NotDetached detach.InUse) e = absurd (clash (λ x. omega (arith, x)) e)
wants_memory OutOfMemory e = refl

-- want of memory leaves the machine as it was
of_wants : {m n : Machine} (number : ℕ) (call : Call) (o : Option Control)
    → MatchOption o ⊥ (λ control. Wants m number control call n) → n ≡ m
of_wants number call None h = absurd h
of_wants number call (Some control) h = h.2

pub no_step : {m n : Machine} (q : Request) → Step m q OutOfMemory n → n ≡ m
no_step (NewControl u category) h = h.1
no_step {m} (CallOf number call) h = of_wants number call (slice_get m.controls number) h
no_step (InputTo name input) h = h.1
no_step (WorkOn name) h = h.1
no_step (Snapshot name) h = h.1
no_step other h = absurd h

-- and the names and the spares
kept : (s : Session) (asking : LineRequest) → session_after s asking OutOfMemory ≡ s
kept s (NewControl name category) = refl
kept s asking = refl

-- a run changed nothing, and a crash in it leaves what may be left before
abbrev pub Idles : Session → Session → List (Request × Response) → Machine → Machine → Type 0
Idles s left steps m n = (run : Run m steps n) → (n ≡ m) × (left ≡ s)
    × ((bytes : List ℕ) → IsLeftDuring m steps n run bytes → StandsForOneOf m.totals.left bytes)

-- a line of this outcome changed nothing, where it told that there was no memory
abbrev Quiets : Session → Outcome → Machine → Machine → Type 0
Quiets s o m n = o.reply ≡ Some (codes "memory") → Idles s o.session o.steps m n

abbrev told_in : Option (List ℕ) → List ℕ
told_in None = []
told_in (Some text) = text

module _ (s : Session) (m n : Machine) where
  asked_nothing : {o : Outcome} {reply : Option (List ℕ)} → o ≡ record { reply = reply; steps = []; session = s }
      → Quiets s o m n
  asked_nothing is = subst (λ x. Quiets s x m n) (sym is) (λ told run. (run, refl, λ bytes h. h))

  by_response : (asking : LineRequest) (request : Request) {r : Response} → r ≡ OutOfMemory
      → Idles s (session_after s asking r) ((request, r) ∷ []) m n
  by_response asking request is run =
      let same = no_step request (subst (λ x. Step m request x run.0) is run.1) in (
        run.2 ∙ same,
        ap (session_after s asking) is ∙ kept s asking,
        λ bytes. ⊎_elim (λ h. h) (subst (λ (x : Machine). StandsForOneOf x.totals.left bytes) same),
      )

  by_request : (asking : LineRequest) {o : Outcome} {request : Request} → RequestBecomes s asking request o
      → Quiets s o m n
  by_request asking (inl none) = asked_nothing none.1
  by_request asking {request} (inr (r, is)) = subst (λ x. Quiets s x m n) (sym is)
      (λ told run. by_response asking request (wants_memory r (ap told_in told)) run)

  by_asking : (asking : LineRequest) (o : Outcome) (request : Option Request)
      → MatchOption request (o ≡ turned_down s (rebuke asking)) (λ q. RequestBecomes s asking q o) → Quiets s o m n
  by_asking asking o None is = asked_nothing is
  by_asking asking o (Some request) becomes = by_request asking becomes

  by_kept : {is_kept : Bool} (asking : LineRequest) {o : Outcome}
      → (IsTrue is_kept × (o ≡ turned_down s (reply_text reply.Memory))) ⊎ AskingBecomes s asking o → Quiets s o m n
  by_kept asking (inl none) = asked_nothing none.1
  by_kept asking {o} (inr becomes) = by_asking asking o (request_of s asking) becomes

  by_reading : (is_kept : Bool) (o : Outcome) (value : Option LineRequest)
      → MatchOption value (o ≡ turned_down s (reply_text reply.BadLine))
      (λ asking. (IsTrue is_kept × (o ≡ turned_down s (reply_text reply.Memory))) ⊎ AskingBecomes s asking o)
      → Quiets s o m n
  by_reading is_kept o None is = asked_nothing is
  by_reading is_kept o (Some asking) becomes = by_kept asking becomes

  by_quiet : (reading : Reading LineRequest) (o : Outcome) (is : Bool)
      → MatchBool is (o ≡ passed_over s) (ReadingBecomes s reading o) → Quiets s o m n
  by_quiet reading o true is = asked_nothing is
  by_quiet reading o false becomes = by_reading reading.is_kept o reading.value becomes

  -- a line that printed `memory` changed nothing
  pub by_line : (line : List ℕ) (o : Outcome) → LineBecomes s line o → Quiets s o m n
  by_line line o becomes = by_quiet (asked_by line) o (is_quiet line) becomes

-- one line of this text
told_memory : (reply : Option (List ℕ)) → printed reply ≡ codes "memory\n" → reply ≡ Some (codes "memory")
told_memory None e = absurd (let d : 0 ≡ 10 = ap (λ x. get_or x 6 0) e in omega (arith, d))
told_memory (Some r) e = ap Some (append_cancel_right r (codes "memory") (10 ∷ []) e)

-- one line that printed it
pub one_wanting : {s left : Session} (line : List ℕ) {steps : List (Request × Response)} {m n : Machine}
    → LinesPrint s (line ∷ []) steps (codes "memory\n") left → Idles s left steps m n
one_wanting {s} {left} line {steps} {m} {n} (o, more, rest, becomes, (none, nothing, same), is_steps, is_text) =
    let all : o.steps ≡ steps = sym (is_steps ∙ ap (λ x. o.steps ++ x) none ∙ append-nil o.steps) in
    let text : printed o.reply ≡ codes "memory\n" =
    sym (is_text ∙ ap (λ x. printed o.reply ++ x) nothing ∙ append-nil (printed o.reply)) in
    subst (λ x. Idles s x steps m n) (sym same) (subst (λ x. Idles s o.session x m n) all
    (by_line s m n line o becomes (told_memory o.reply text)))
