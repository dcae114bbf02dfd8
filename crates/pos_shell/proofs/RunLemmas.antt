-- Scripts that are run one after another.
use Rattle.std.proofs.Common.{ap, append-nil, append_assoc, drop, get_or, inl, length, map, refl, subst, sym, take}
use Rattle.std.proofs.Common.{◌+◌, ◌<◌, ◌++◌, ◌∙◌, ◌∷◌, ◌≡◌, List, [], ℕ}
use Rattle.std.specs.Prelude.{Ok, flat_map}
use Rattle.std.proofs.lemmas.List.{drop_more, map-append, take-append-drop, take_more}
use Rattle.std.specs.Borrow.{Bor}
use Rattle.pos_program.specs.declared.file_system.FileSystem.{Ghosts as SystemGhosts}
use Rattle.pos_streams.specs.Streams.{Taken}
use Rattle.pos_shell.specs.Runs.{AreRead, ReadsPath}
use Rattle.std.proofs.lemmas.Grind.{flat_map-append}
use Rattle.pos_counter.specs.Steps.{Request, Response}
use Rattle.pos_run.proofs.Common.{Appends-trans}
use Rattle.pos_run.proofs.LineLemmas.{prints_join}
use Rattle.pos_run.specs.Runs.{Stops}
use Rattle.pos_run.specs.Transcript.{Leads, LinesPrint, Session}
use Rattle.pos_script.specs.Text.{printed}
use Rattle.pos_streams.specs.Streams.{Given}
use Rattle.pos_shell.specs.Outputs.{IsWritten, Output}
use Rattle.pos_shell.specs.Scripts.{AreTurns, PrintsTurns, RunsFront, Turn, TurnsPrint, script_of, script_run, turn_lines}
use Rattle.pos_shell.specs.Scripts.{turn_text}
use Rattle.pos_shell.specs.declared.scripts.Script.{Script}
use Rattle.pos_shell.specs.declared.answer_texts.AnswerStyle.{AnswerStyle}

module _ {A : Type 0} (xs : List A) (i : ℕ) (x : A) (lt : i < length xs) (is : x ≡ get_or xs i x) where
  -- what is before a place, what is there, and what is after it
  pub in_parts : xs ≡ take i xs ++ x ∷ drop (i + 1) xs
  in_parts = sym (take-append-drop i xs)
      ∙ ap (λ ys. take i xs ++ ys) (drop_more xs i x lt ∙ ap (λ y. y ∷ drop (i + 1) xs) (sym is))

  -- what is up to a place
  pub one_taken : take (i + 1) xs ≡ take i xs ++ x ∷ []
  one_taken = take_more xs i x lt ∙ ap (λ y. take i xs ++ y ∷ []) (sym is)

module _ {A : Type 0} (xs : List A) (i : ℕ) (d : A) (lt : i < length xs) where
  pub in_parts_at : xs ≡ take i xs ++ get_or xs i d ∷ drop (i + 1) xs
  in_parts_at = sym (take-append-drop i xs) ∙ ap (λ ys. take i xs ++ ys) (drop_more xs i d lt)

  pub taken_at : take (i + 1) xs ≡ take i xs ++ get_or xs i d ∷ []
  taken_at = take_more xs i d lt

-- one more script was read
pub reads_more : {S F : Type 0} (system : SystemGhosts S F) (them : S) (paths : List (Bor (List ℕ)))
    (scripts : List Script) {path : Bor (List ℕ)} (script : Script) (old between new : Taken)
    → AreRead system them paths scripts old between → script.name ≡ path
    → ReadsPath system them path between new (Ok script.text.items)
    → AreRead system them (paths ++ path ∷ []) (scripts ++ script ∷ []) old new
reads_more system them [] [] {path} script old between new same named reads =
    (named, new, subst (λ before. ReadsPath system them path before new (Ok script.text.items)) same reads, refl)
reads_more system them [] (other ∷ scripts) script old between new are named reads = absurd are
reads_more system them (other ∷ paths) [] script old between new are named reads = absurd are
reads_more system them (other ∷ paths) (first ∷ scripts) script old between new (is, first_new, own, are) named reads =
    (is, first_new, own, reads_more system them paths scripts script first_new between new are named reads)

-- the one at the next path
pub reads_next : {S F : Type 0} (system : SystemGhosts S F) (them : S) (paths : List (Bor (List ℕ))) (i : ℕ)
    (d : Bor (List ℕ)) (scripts : List Script) (script : Script) (old between new : Taken) → i < length paths
    → AreRead system them (take i paths) scripts old between → script.name ≡ get_or paths i d
    → ReadsPath system them (get_or paths i d) between new (Ok script.text.items)
    → AreRead system them (take (i + 1) paths) (scripts ++ script ∷ []) old new
reads_next system them paths i d scripts script old between new lt are named reads =
    subst (λ xs. AreRead system them xs (scripts ++ script ∷ []) old new) (sym (taken_at paths i d lt))
    (reads_more system them (take i paths) scripts script old between new are named reads)

-- one more is at the end of what all are mapped to
pub one_more : {A : Type 0} (f : Turn → List A) (turns : List Turn) (turn : Turn)
    → flat_map f (turns ++ turn ∷ []) ≡ flat_map f turns ++ f turn
one_more f turns turn = flat_map-append f turns (turn ∷ []) ∙ ap (λ xs. flat_map f turns ++ xs) (append-nil (f turn))

-- no line was run
pub front_none : (session : Session) (lines : List (List ℕ)) → RunsFront session lines [] session
front_none session lines =
    record { front = []; back = lines; answers = []; split = refl; prints = (refl, refl, refl) }

-- all lines were run
pub front_whole : {session : Session} (lines : List (List ℕ)) (steps : List (Request × Response)) (answers : List ℕ)
    {left : Session} → LinesPrint session lines steps answers left → RunsFront session lines steps left
front_whole lines steps answers prints =
    record { front = lines; back = []; answers = answers; split = sym (append-nil lines); prints = prints }

-- lines were run up to one at which a write failed, and that one too
pub front_stopped : {C : Type 0} {Runs : Leads C} {old : C} {session : Session} {lines : List (List ℕ)}
    {before after : Given} {left : Session} {new : C} (stops : Stops Runs old session lines before after left new)
    → RunsFront session lines (stops.done.transcript.steps ++ stops.failed.carried.steps) left
front_stopped {session = session} {left = left} stops = record {
  front = stops.earlier ++ stops.line ∷ [];
  back = stops.later;
  answers = stops.done.text ++ printed stops.failed.reply;
  split = stops.split ∙ sym (append_assoc stops.earlier (stops.line ∷ []) stops.later);
  prints = prints_join session stops.earlier stops.done.transcript.steps stops.done.text stops.between
      (stops.line ∷ []) stops.failed.carried.steps (printed stops.failed.reply) left stops.done.transcript.prints (
        record { reply = stops.failed.reply; steps = stops.failed.carried.steps; session = left },
        [],
        [],
        stops.failed.carried.becomes,
        (refl, refl, refl),
        sym (append-nil stops.failed.carried.steps),
        sym (append-nil (printed stops.failed.reply)),
      );
}

-- the answers of turns, and then of one more
pub turns_more : (turns : List Turn) (turn : Turn) (session middle left : Session)
    (first last : List (Request × Response)) → TurnsPrint session turns first middle
    → LinesPrint middle (turn_lines turn) last turn.answers left
    → TurnsPrint session (turns ++ turn ∷ []) (first ++ last) left
turns_more [] turn session middle left first last (none, same) prints = (
  last,
  [],
  left,
  subst (λ s. LinesPrint s (turn_lines turn) last turn.answers left) same prints,
  (refl, refl),
  ap (λ steps. steps ++ last) none ∙ sym (append-nil last),
)
turns_more (other ∷ turns) turn session middle left first last (own, more, between, printed, rest, are) prints = (
  own,
  more ++ last,
  between,
  printed,
  turns_more turns turn between middle left more last rest prints,
  ap (λ steps. steps ++ last) are ∙ append_assoc own more last,
)

-- scripts, and then one more
pub turns_join : {style : AnswerStyle} (turns : List Turn) (turn : Turn) {session middle left : Session}
    {first : List (Request × Response)} (last : List (Request × Response)) {old between new : Output}
    → PrintsTurns style turns session first old between middle
    → LinesPrint middle (turn_lines turn) last turn.answers left → IsWritten between new (turn_text style turn)
    → PrintsTurns style (turns ++ turn ∷ []) session (first ++ last) old new left
turns_join {style} turns turn {session} {middle} {left} {first} last done prints written = record {
  prints = turns_more turns turn session middle left first last done.prints prints;
  given = rw (one_more (turn_text style) turns turn)
      (Appends-trans _ _ _ (flat_map (turn_text style) turns) (turn_text style turn) done.given written.0);
  flushed = inl written.1;
}

pub are_join : (scripts : List Script) (turns : List Turn) (script : Script) (turn : Turn)
    → script_run turn ≡ script_of script → AreTurns scripts turns
    → AreTurns (scripts ++ script ∷ []) (turns ++ turn ∷ [])
are_join scripts turns script turn same are =
    map-append script_run turns (turn ∷ []) ∙ ap (λ xs. xs ++ script_run turn ∷ []) are
    ∙ ap (λ x. map script_of scripts ++ x ∷ []) same ∙ sym (map-append script_of scripts (script ∷ []))
