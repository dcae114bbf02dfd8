-- Lines that are carried out one after another, and written as far as they can be.
use Rattle.pos_run.proofs.Common.{Appends-nil, Appends-trans, RunsLine, Err, Fails-trans, Finishes, FinishesUnflushed}
use Rattle.pos_run.proofs.Common.{Given, Leads, LineBecomes, LinesPrint, List, MatchResult, Ok, Option, Request}
use Rattle.pos_run.proofs.Common.{Response, Result, RunFault, ScriptLeaves, Session, Stops, Writes, Writing, [], ap}
use Rattle.pos_run.proofs.Common.{append-nil, append_assoc, carried_steps, inl, inr, refl, sym, ℕ}
use Rattle.pos_run.proofs.Common.{◌++◌, ◌∙◌, ◌∷◌, ◌≡◌, ◌⊎◌}
use Rattle.pos_script.specs.Text.{printed}
use Rattle.pos_run.specs.Runs.{StopsAt}
use Rattle.pos_run.specs.Transcript.{Transcript}
use Rattle.pos_run.specs.declared.scripts.RunFault.TheVariants as fault

-- lines and then more
pub prints_join : (session : Session) (lines : List (List ℕ)) (steps : List (Request × Response)) (text : List ℕ)
    (mid : Session) (more : List (List ℕ)) (further : List (Request × Response)) (rest : List ℕ) (after : Session)
    → LinesPrint session lines steps text mid → LinesPrint mid more further rest after
    → LinesPrint session (lines ++ more) (steps ++ further) (text ++ rest) after
prints_join session [] steps text mid more further rest after (none, nothing, same) second =
    rw (none, nothing, ← same) second
prints_join session (line ∷ lines) steps text mid more further rest after
    (outcome, some, back, becomes, prints, is_steps, is_text) second = (
      outcome,
      some ++ further,
      back ++ rest,
      becomes,
      prints_join outcome.session lines some back mid more further rest after prints second,
      ap (λ s. s ++ further) is_steps ∙ append_assoc outcome.steps some further,
      ap (λ t. t ++ rest) is_text ∙ append_assoc (printed outcome.reply) back rest,
    )

module _ {C : Type 0} {Runs : Leads C} {old : C} {session : Session} where
  -- a write that failed at a line behind others
  pub stops_behind : {lines earlier : List (List ℕ)} {line : List ℕ} (later : List (List ℕ))
      {before given after : Given} {between left : Session} {mid new : C} → lines ≡ earlier ++ line ∷ later
      → Finishes Runs old session earlier before given between mid → StopsAt Runs mid between line given after left new
      → Stops Runs old session lines before after left new
  stops_behind later split done failed = record {
    earlier = _;
    line = _;
    later = later;
    between = _;
    mid = _;
    given = _;
    split = split;
    done = done;
    failed = failed;
  }

  -- lines that follow one at which a write failed
  pub stops_more : {lines : List (List ℕ)} (more : List (List ℕ)) {before after : Given} {left : Session} {new : C}
      → Stops Runs old session lines before after left new
      → Stops Runs old session (lines ++ more) before after left new
  stops_more more h = stops_behind (h.later ++ more)
      (ap (λ ls. ls ++ more) h.split ∙ append_assoc h.earlier (h.line ∷ h.later) more) h.done h.failed

  -- a flush gave nothing
  pub finishes_flushed : {lines : List (List ℕ)} {before mid after : Given} {left : Session} {new : C}
      → Finishes Runs old session lines before mid left new → after ≡ mid
      → Finishes Runs old session lines before after left new
  finishes_flushed done same = record { text = done.text; transcript = done.transcript; written = same ∙ done.written }

  -- no line yet
  pub finishes_none : Runs old [] old → (given : Given) → Finishes Runs old session [] given given session old
  finishes_none none given = record {
    text = [];
    transcript = record { steps = []; run = none; prints = (refl, refl, refl) };
    written = Appends-nil given;
  }

-- one line, and what it prints is written as far as it can be
pub one_line : {C E : Type 0} {Runs : Leads C} {old : C} (session : Session) → Runs old [] old → (line : List ℕ)
    (reply : Option (List ℕ)) (before after : Given) (result : Result (Unit {0}) E) (left : Session) (new : C)
    → RunsLine Runs old (LineBecomes session line) reply left new → Writes before after (printed reply) result
    → MatchResult result (λ u. Finishes Runs old session (line ∷ []) before after left new)
    (λ e. Stops Runs old session (line ∷ []) before after left new)
one_line session none line reply before after (Ok u) left new carried writes = record {
  text = printed reply;
  transcript = record {
    steps = carried.steps;
    run = carried.run;
    prints = (
      record { reply = reply; steps = carried.steps; session = left },
      [],
      [],
      carried.becomes,
      (refl, refl, refl),
      sym (append-nil carried.steps),
      sym (append-nil (printed reply)),
    );
  };
  written = writes;
}
one_line session none line reply before after (Err e) left new carried writes =
    stops_behind [] refl (finishes_none none before) (record { reply = reply; carried = carried; cut = writes })

module _ {C : Type 0} {Runs : Leads C} (join : (a b c : C) (s t : List (Request × Response)) → Runs a s b → Runs b t c
    → Runs a (s ++ t) c) {old : C} {session : Session} {lines : List (List ℕ)} {before between : Given}
    {mid_session : Session} {mid : C} (first : Finishes Runs old session lines before between mid_session mid) where
  -- more lines that print a text
  transcripts_join : {more : List (List ℕ)} (text : List ℕ) {left : Session} {new : C}
      → Transcript Runs mid mid_session more text left new
      → Transcript Runs old session (lines ++ more) (first.text ++ text) left new
  transcripts_join text second = record {
    steps = first.transcript.steps ++ second.steps;
    run = join _ _ _ _ _ first.transcript.run second.run;
    prints = prints_join _ lines _ _ _ _ _ _ _ first.transcript.prints second.prints;
  }

  -- more lines
  pub finishes_join : {more : List (List ℕ)} {after : Given} {left : Session} {new : C}
      → Finishes Runs mid mid_session more between after left new
      → Finishes Runs old session (lines ++ more) before after left new
  finishes_join second = record {
    text = first.text ++ second.text;
    transcript = transcripts_join second.text second.transcript;
    written = Appends-trans _ _ _ first.text second.text first.written second.written;
  }

  -- more lines, and then a fault of the sink
  unflushed_join : {more : List (List ℕ)} {after : Given} {left : Session} {new : C}
      → FinishesUnflushed Runs mid mid_session more between after left new
      → FinishesUnflushed Runs old session (lines ++ more) before after left new
  unflushed_join second = record {
    text = first.text ++ second.text;
    transcript = transcripts_join second.text second.transcript;
    failed = Fails-trans _ _ _ first.text second.text first.written second.failed;
  }

  -- a write that failed at one of more lines
  pub stops_join : {more : List (List ℕ)} {after : Given} {left : Session} {new : C}
      → Stops Runs mid mid_session more between after left new
      → Stops Runs old session (lines ++ more) before after left new
  stops_join second = stops_behind second.later (ap (λ ls. lines ++ ls) second.split
      ∙ sym (append_assoc lines second.earlier (second.line ∷ second.later))) (finishes_join second.done) second.failed

  module _ (others more : List (List ℕ)) (same : others ≡ lines ++ more) (after : Given) (left : Session)
      (new : C) where
    -- more lines, as far as they can be written
    pub lines_join : {E : Type 0} (result : Result (Unit {0}) E)
        → MatchResult result (λ u. Finishes Runs mid mid_session more between after left new)
        (λ e. Stops Runs mid mid_session more between after left new)
        → MatchResult result (λ u. Finishes Runs old session others before after left new)
        (λ e. Stops Runs old session others before after left new)
    lines_join (Ok u) done = rw same (finishes_join done)
    lines_join (Err e) stops = rw same (stops_join stops)

    -- a fault of the sink at more lines, or behind them
    pub fault_join : Stops Runs mid mid_session more between after left new ⊎ FinishesUnflushed Runs mid mid_session
        more between after left new → Stops Runs old session others before after left new
        ⊎ FinishesUnflushed Runs old session others before after left new
    fault_join (inl stops) = inl (rw same (stops_join stops))
    fault_join (inr done) = inr (rw same (unflushed_join done))

-- what the lines that were carried out asked is one run, also where a write failed
pub carried_run : {C : Type 0} (Runs : Leads C) → ((c : C) → Runs c [] c)
    → ((a b c : C) (s t : List (Request × Response)) → Runs a s b → Runs b t c → Runs a (s ++ t) c) → (old : C)
    (session : Session) (lines : List (List ℕ)) (before after : Writing) (result : Result (Unit {0}) RunFault)
    (left : Session) (new : C) (leaves : ScriptLeaves Runs old session lines before after result left new)
    → Runs old (carried_steps Runs old session lines before after result left new leaves) new
carried_run Runs none join old session lines before after (Ok u) left new (done, held) = done.transcript.run
carried_run Runs none join old session lines before after (Err fault.Read) left new (done, held) = done.transcript.run
carried_run Runs none join old session lines before after (Err fault.Write) left new (inl stops) =
    join old stops.mid new _ _ stops.done.transcript.run stops.failed.carried.run
carried_run Runs none join old session lines before after (Err fault.Write) left new (inr done) = done.transcript.run
carried_run Runs none join old session lines before after (Err fault.NoMemory) left new same = rw same.0 (none old)
