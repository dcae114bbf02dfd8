-- What becomes of a line, by the steps of the machine that it asks; and scripts of such lines.
use Rattle.pos_run.proofs.Common.{Counter, DiskGhosts, Err, Ghosts, Given, IsRun, IsStep, IsStepBeside, IsTrue, List}
use Rattle.pos_run.proofs.Common.{None, Ok, Option, ReadingBecomes, Request, Response, Result, Session, Some, Writes}
use Rattle.pos_run.proofs.Common.{[], codes, gives_name, inl, inr, is_some, one_beside, one_step, rebuke, refl}
use Rattle.pos_run.proofs.Common.{request_of, session_after, true, ◌++◌, ◌∙◌, ◌∷◌, ◌≡◌}
use Rattle.pos_counter.proofs.ServiceLemmas.{OnlyNow}
use Rattle.pos_run.specs.LineRuns.{RunsAsking, RunsRead, RunsReading, IsAsked}
use Rattle.pos_run.specs.Sessions.{IsSessionSound, KeepsSession}
use Rattle.pos_run.specs.declared.session.Session.{Session as Running}
use Rattle.pos_run.specs.Transcript.{Outcome, ReadBecomes, asked_as}
use Rattle.pos_script.specs.Arguments.{Reading, Reads, become, misshapen}
use Rattle.pos_script.specs.Commands.{LineRequest}
use Rattle.pos_script.specs.Text.{fault_text, reply_text, response_text}
use Rattle.pos_script.specs.declared.arguments.ArgumentFault.{ArgumentFault}
use Rattle.pos_script.specs.declared.arguments.ArgumentFault.TheVariants as fault
use Rattle.pos_script.specs.declared.print.LineReply.{LineReply}
use Rattle.pos_script.specs.declared.print.LineReply.TheVariants.{Memory, Responded}
use Rattle.pos_service.specs.declared.request.Response.{Response as ResponseOf}

module _ {D P : Type 0} (bound : DiskGhosts D) (peripherals : Ghosts P) (old : Counter D P) (session : Session)
    (asking : LineRequest) where
  -- an unknown control, a name in use, or no such spare
  pub asks_none : (reply : LineReply) (left : Session) → request_of session asking ≡ None
      → reply_text reply ≡ rebuke asking → left ≡ session
      → RunsAsking bound peripherals old session asking reply left old
  asks_none reply left none is same =
      record { carried = record { steps = []; run = refl; becomes = rw (none, is, same) refl } }

  -- no memory for the name that a line keeps
  pub asks_unkept : (left : Session) (request : Request) → request_of session asking ≡ Some request
      → IsTrue (gives_name asking) → left ≡ session → RunsAsking bound peripherals old session asking Memory left old
  asks_unkept left request is keeps same =
      record { carried = record { steps = []; run = refl; becomes = rw (is, same) (inl (keeps, refl)) } }

module _ {D P : Type 0} {bound : DiskGhosts D} {peripherals : Ghosts P} {old new : Counter D P} {session left : Session}
    {asking : LineRequest} {given : ResponseOf (Unit {0})} {request : Request} {response : Response} where
  answers : IsAsked bound peripherals old ((request, response) ∷ []) new → request_of session asking ≡ Some request
      → left ≡ session_after session asking response → response_text given ≡ response_text response
      → RunsAsking bound peripherals old session asking (Responded given) left new
  answers step is same told = record {
    carried = record {
      steps = (request, response) ∷ [];
      run = step;
      becomes = rw (is, same, told) (inr (response, refl));
    };
  }

  -- a request and its response
  pub asks_step : IsStep bound peripherals old request response new → request_of session asking ≡ Some request
      → left ≡ session_after session asking response → response_text given ≡ response_text response
      → RunsAsking bound peripherals old session asking (Responded given) left new
  asks_step step = answers (inl step)

  -- likewise, where the totals have no part
  pub asks_beside : IsStepBeside peripherals old request response new → request_of session asking ≡ Some request
      → left ≡ session_after session asking response → response_text given ≡ response_text response
      → RunsAsking bound peripherals old session asking (Responded given) left new
  asks_beside step = answers (inr step)

-- a value that is there
some_of : {A : Type 0} (o : Option A) → is_some o ≡ true → (a : A) × (o ≡ Some a)
some_of None e = cc
some_of (Some a) e = (a, refl)

-- what becomes of what was read becomes of what may be
reads_become : {A : Type 0} (session : Session) (make : A → LineRequest) (reading : Reading A)
    (read : Result A ArgumentFault) (outcome : Outcome) → Reads reading read
    → ReadBecomes session (asked_as make read) outcome → ReadingBecomes session (become make reading) outcome
reads_become session make reading (Ok value) outcome is becomes = rw is (inr becomes)
reads_become session make reading (Err fault.WrongShape) outcome wrong becomes = rw wrong becomes
reads_become session make reading (Err fault.NoMemory) outcome lacks becomes =
    let (value, is) = some_of reading.value lacks.0 in rw is (inl (lacks.1, becomes))

module _ {D P E : Type 0} (bound : DiskGhosts D) (peripherals : Ghosts P) (old : Counter D P) (session : Session)
    (before after : Given) (result : Result (Unit {0}) E) where
  asked_run : OnlyNow bound old.totals.disk → (steps : List (Request × Response)) (new : Counter D P)
      → IsAsked bound peripherals old steps new → IsRun bound peripherals old steps new
  asked_run only [] new same = same
  asked_run only (step ∷ []) new (inl is) = one_step bound peripherals old new step.0 step.1 is
  asked_run only (step ∷ []) new (inr beside) = one_beside bound peripherals old new step.0 step.1 only beside
  asked_run only (step ∷ more ∷ steps) new never = absurd never

  -- what was read is asked, and this was written of the reply
  pub asks_what_was_read : (left : Session) (new : Counter D P) (asking : LineRequest) (reply : LineReply)
      → OnlyNow bound old.totals.disk → RunsAsking bound peripherals old session asking reply left new
      → Writes before after (reply_text reply ++ 10 ∷ []) result
      → RunsRead bound peripherals old session (Ok asking) before after result left new
  asks_what_was_read left new asking reply only asks writes = record {
    reply = reply_text reply;
    carried = record {
      steps = asks.carried.steps;
      run = asked_run only asks.carried.steps new asks.carried.run;
      becomes = asks.carried.becomes;
    };
    written = writes;
  }

  -- what was not read asks nothing
  pub asks_nothing_unread : (why : ArgumentFault) → Writes before after (fault_text why ++ 10 ∷ []) result
      → RunsRead bound peripherals old session (Err why) before after result session old
  asks_nothing_unread why writes =
      record { reply = fault_text why; carried = record { steps = []; run = refl; becomes = refl }; written = writes }

  -- a line of a wrong shape asks nothing
  pub asks_nothing_misshapen : (reading : Reading LineRequest) → reading ≡ misshapen
      → Writes before after (codes "bad line" ++ 10 ∷ []) result
      → RunsReading bound peripherals old session reading before after result session old
  asks_nothing_misshapen reading is writes = record {
    reply = codes "bad line";
    carried = record { steps = []; run = refl; becomes = rw is refl };
    written = writes;
  }

  -- what is asked by what was read is asked by the words
  pub asks_by_words : {A : Type 0} (left : Session) (new : Counter D P) (make : A → LineRequest) (reading : Reading A)
      (read : Result A ArgumentFault) → Reads reading read
      → RunsRead bound peripherals old session (asked_as make read) before after result left new
      → RunsReading bound peripherals old session (become make reading) before after result left new
  asks_by_words left new make reading read reads done = record {
    reply = done.reply;
    carried = record {
      steps = done.carried.steps;
      run = done.carried.run;
      becomes = reads_become session make reading read _ reads done.carried.becomes;
    };
    written = done.written;
  }

-- what keeps a session twice keeps it
pub keeps_on : {D P : Type 0} (peripherals : Ghosts P) (old mid new : Running D P) → KeepsSession peripherals old mid
    → KeepsSession peripherals mid new → KeepsSession peripherals old new
keeps_on peripherals old mid new first second = record {
  sound = second.sound;
  counter = second.counter ∙ first.counter;
  names = second.names ∙ first.names;
  spares = second.spares ∙ first.spares;
}

-- and so does what leaves it
pub keeps_here : {D P : Type 0} {peripherals : Ghosts P} {session : Running D P} → IsSessionSound peripherals session
    → KeepsSession peripherals session session
keeps_here sound = record { sound = sound; counter = refl; names = refl; spares = refl }
