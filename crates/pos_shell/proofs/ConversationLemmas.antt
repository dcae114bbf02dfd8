-- Lines that are typed one after another.
use Rattle.std.proofs.Common.{◌≡◌, ◌++◌, ◌∷◌, ◌∙◌, Err, List, Ok, Result, [], false, true, ap, inl, inr, sym}
use Rattle.std.specs.Prelude.{MatchResult, codes, flat_map}
use Rattle.pos_counter.specs.Steps.{Request, Response}
use Rattle.pos_run.proofs.Common.{Appends-trans, taken_twice}
use Rattle.pos_run.specs.Transcript.{Session}
use Rattle.pos_streams.specs.Streams.{taken_after}
use Rattle.pos_shell.specs.Conversation.{AnswersLine, AnswersLines, AreEndedLines, EndsExchanges, IsEndedLine}
use Rattle.pos_shell.specs.Conversation.{exchange_text, prompt, typed}
use Rattle.pos_shell.specs.Outputs.{IsCutOff, IsWritten, Output, Streams}
use Rattle.pos_shell.specs.Scripts.{Turn, turn_text}
use Rattle.pos_shell.specs.declared.scripts.ScriptsFault.{ScriptsFault}
use Rattle.pos_shell.specs.declared.scripts.ScriptsFault.TheVariants as fault
use Rattle.pos_shell.specs.declared.answer_texts.AnswerStyle.{AnswerStyle}
use Rattle.pos_shell.proofs.RunLemmas.{one_more, turns_more}

ended_more : (turns : List Turn) (turn : Turn) → AreEndedLines turns → IsEndedLine turn.script
    → AreEndedLines (turns ++ turn ∷ [])
ended_more [] turn are is = (is, tt)
ended_more (other ∷ turns) turn (first, are) is = (first, ended_more turns turn are is)

-- one more line was typed and answered
pub answers_more : {style : AnswerStyle} (turns : List Turn) (session middle left : Session)
    (first last : List (Request × Response)) (old : Streams) {between new : Streams}
    → AnswersLines style turns session first old between middle
    → AnswersLine style middle last between new true (Ok tt) left
    → (turn : Turn) × AnswersLines style (turns ++ turn ∷ []) session (first ++ last) old new left
answers_more {style} turns session middle left first last old done one =
    let (answers, prints, written) = one.told in
    let turn : Turn = record { name = []; script = one.text; answers = answers } in (
      turn,
      record {
        ended = ended_more turns turn done.ended one.taken.0;
        taken = one.taken.1 ∙ ap (λ taken. taken_after taken one.text) done.taken
            ∙ taken_twice old.taken (typed turns) one.text
            ∙ ap (λ text. taken_after old.taken text) (sym (one_more (λ (t : Turn). t.script) turns turn));
        prints = turns_more turns turn session middle left first last done.prints prints;
        given = rw (one_more (exchange_text style) turns turn)
            (Appends-trans _ _ _ (flat_map (exchange_text style) turns) (exchange_text style turn) done.given
            (Appends-trans _ _ _ prompt (turn_text style turn) one.prompted.0 written.0));
        flushed = inl written.1;
      },
    )

-- the terminal's line was ended after the last line that was typed, or couldn't be
pub ends_typed : {style : AnswerStyle} {session : Session} {steps : List (Request × Response)} {old : Streams}
    (mid : Streams) (after : Output) (result : Result (Unit {0}) ScriptsFault) {left : Session}
    → AnswersLine style session steps old mid false (Ok tt) left
    → MatchResult result (λ _. IsWritten mid.output after (codes "\n")) (λ why. (why ≡ fault.Write) × IsCutOff
    mid.output after (codes "\n"))
    → EndsExchanges style session steps old (record { taken = mid.taken; output = after }) result left
ends_typed mid after (Ok u) last written = inr (record { between = mid.output; last = last; ends = written })
ends_typed mid after (Err why) last (is, cut) = inr (is, record { between = mid.output; last = last; ends = cut })
