use Rattle.pos_run.proofs.Common.{Err, Option, None, Some, ◌≡◌, refl}
use Rattle.std.specs.Prelude.{option_map}
use Rattle.pos_counter.specs.Steps.{CallOf}
use Rattle.pos_script.specs.Arguments.{Reading, become, one}
use Rattle.pos_script.specs.Commands.{LineRequest}
use Rattle.pos_script.specs.Lines.{words_of}
use Rattle.pos_script.specs.Words.{property_shape}
use Rattle.pos_service.specs.declared.call.Call.TheVariants as call
use Rattle.pos_run.proofs.SessionLemmas.{asks_by_words, asks_nothing_unread}
use Rattle.pos_run.proofs.lines.run_get.Goals as goal

-- what is made of what is made
twice : {A B C : Type 0} (make : B → C) (first : A → B) (o : Option A)
    → option_map make (option_map first o) ≡ option_map (λ a. make (first a)) o
twice make first None = refl
twice make first (Some a) = refl

become_twice : {A B C : Type 0} (make : B → C) (first : A → B) (reading : Reading A)
    → become make (become first reading) ≡ become (λ a. make (first a)) reading
become_twice make first reading = rw (twice make first reading.value) refl

pub returns-in-Err-clause-line : goal.returns-in-Err-clause-line
returns-in-Err-clause-line g c = rw (become_twice {C = LineRequest} (λ called. CallOf c.args.name.now called) call.Get
    (one property_shape (words_of c.args.words.now))) (asks_by_words _ _ _ _ _ _ _ _ _
    (λ property. CallOf c.args.name.now (call.Get property)) (one property_shape (words_of c.args.words.now))
    (Err c.in-Err.fault) c.in-Err.ensures (asks_nothing_unread _ _ _ _ _ _ _ c.in-Err.fault c.print_fault.ensures))
