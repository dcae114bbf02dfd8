-- What a parse of the program's words tells of them.
use Rattle.std.proofs.Common.{◌≡◌, ◌∷◌, ◌∙◌, [], Bool, List, eqb, length, Some, None, Option, Err, Ok, true, false}
use Rattle.std.proofs.Common.{map, codes, refl, ap, subst, inl, inr}
use Rattle.std.specs.Prelude.{◌≢◌, ◌⊎◌, find, option_map, is_some}
use Rattle.clap.specs.declared.parser.matches.ArgMatches.{ArgMatches}
use Rattle.clap.specs.Words.{App, HasKind, HasMatchesOf, IsAmong, Row, Shape, Text, fault_of, is_simple}
use Rattle.clap.specs.Words.{is_simple_and_free, kind_of, app_of, first_value, new_app, rows_of}
use Rattle.clap.specs.Words.{subcommand_rows_of}
use Rattle.clap.specs.Simple.{app_of_fields, argument_words, built, entered, label_of, names_of, on_top, rows_at}
use Rattle.clap.specs.declared.builder.command.Command.{Command}
use Rattle.clap.specs.declared.builder.command.Command.TheViews.{out-Command as fields_of}
use Rattle.clap.specs.declared.parser.matches.Found.{Found}
use Rattle.clap.proofs.WalkLemmas.{first_value-rows}
use Rattle.clap.specs.Faults.{check_fault, defaults_fault, entered_fault, level_fault, settle_fault, walk_fault}
use Rattle.clap.specs.Kinds.{Kinds, or_else}
use Rattle.clap.specs.Walk.{Held, Names, answers_to, finished, nothing_held, settled, stop_after, walk, walk_from}
use Rattle.clap.specs.declared.error.Error.{Error}
use Rattle.clap.specs.declared.error.kind.ErrorKind.TheVariants.{MissingSubcommand, OutOfMemory}
use Rattle.clap.proofs.OnLiterals.{clap_on_literals}
use Rattle.pos_program.specs.declared.choice_fault.ChoiceFault.{ChoiceFault}
use Rattle.pos_program.specs.declared.choice_fault.ChoiceFault.TheVariants.{Words, NoMemory}
use Rattle.pos_program.specs.declared.choice_fault.WordsFault.TheVariants.{Help, Refused, NotUtf8}
use Rattle.pos_program.specs.declared.words.Task.{Task}
use Rattle.pos_program.specs.declared.words.Task.TheVariants.{Demo, Run, Format, Migrate, Files}
use Rattle.pos_program.specs.Choices.{Asks, Chooses, IsCommand, IsKnown, ReportsWhy, bare_line, command_in}
use Rattle.pos_program.specs.Choices.{path_in, program_line}

-- the program's is a command line of which `clap` says when it refuses words and what it finds in them
pub program_known : (is_simple_and_free program_line ≡ true) × (is_simple program_line ≡ true)
unfolding clap_on_literals
program_known = (refl, refl)

-- ---- words without a fault have a command

last : (first : Kinds) {next : Kinds} → or_else first next ≡ [] → next ≡ []
last [] none = none
last (kind ∷ kinds) none = cc

-- nor do the checks at the end of a level find a fault
last_check : (s : Shape) (names : Names) (h : Held) (words : List Text) (has : Bool) (below : Kinds)
    → level_fault s names h words has below ≡ []
    → check_fault s (finished s.rules (walk s.rules names h words).held) has ≡ []
last_check s names h words has below none =
    let end = (walk s.rules names h words).held in
    last (defaults_fault (settled s.rules end).rows s.rules) (last (settle_fault s.rules s.args_override_self end)
    (last below (last (walk_fault s names (walk_from h) words) none)))

-- a command line that asks for a command refuses words without one
wanted : (s : Shape) (rows : List Row) → s.arg_required_else_help ≡ false → s.subcommand_required ≡ true
    → check_fault s rows false ≢ []
wanted s rows off on none = let missing : MissingSubcommand ∷ [] ≡ [] = rw (off, on) at none in cc

settings : ((built program_line).top.arg_required_else_help ≡ false)
    × ((built program_line).top.subcommand_required ≡ true)
unfolding clap_on_literals
settings = (refl, refl)

-- ---- the command that is found is one of the program's

abbrev IsIn : Text → List Text → Type 0
IsIn name [] = ⊥
IsIn name (x ∷ xs) = (name ≡ x) ⊎ IsIn name xs

found_in : (subs : List Shape) (word : Text) (words : List Text) {found : Text × List Row}
    → option_map (λ s. rows_at s words) (find (λ s. answers_to word (label_of s)) subs) ≡ Some found
    → IsIn found.0 (map (λ s. s.name) subs)
found_in [] word words is = cc
found_in (s ∷ subs) word words {found} is =
    by (answers_to word (label_of s)) refl (λ more. found_in subs word words more)
  where
    by : (answers : Bool) → answers_to word (label_of s) ≡ answers
        → (option_map (λ s. rows_at s words) (find (λ s. answers_to word (label_of s)) subs) ≡ Some found
        → IsIn found.0 (map (λ s. s.name) subs)) → IsIn found.0 (map (λ s. s.name) (s ∷ subs))
    by true answers rest = let first : Some (rows_at s words) ≡ Some found = rw answers at is in inl (cc)
    by false answers rest = inr (rest (rw answers at is))

entered_in : (a : App) (stop : Option (Text × List Text)) {found : Text × List Row} → entered a stop ≡ Some found
    → IsIn found.0 (map (λ s. s.name) a.subs)
entered_in a None is = cc
entered_in a (Some p) is = found_in a.subs p.0 p.1 is

four_names : map (λ s. s.name) (built program_line).subs ≡ codes "run" ∷ codes "format" ∷ codes "migrate"
    ∷ codes "files" ∷ []
unfolding clap_on_literals
four_names = refl

one_of_four : {name : Text} → IsIn name (codes "run" ∷ codes "format" ∷ codes "migrate" ∷ codes "files" ∷ [])
    → IsCommand name
one_of_four (inl run) = inl run
one_of_four (inr (inl format)) = inr (inl format)
one_of_four (inr (inr (inl migrate))) = inr (inr (inl migrate))
one_of_four (inr (inr (inr (inl files)))) = inr (inr (inr files))
one_of_four (inr (inr (inr (inr never)))) = absurd never

end_of : List Text → List Row
end_of words = let top = (built program_line).top in
    finished top.rules (walk top.rules (names_of (built program_line)) nothing_held
    (argument_words program_line words)).held

ended : (words : List Text) → fault_of program_line words ≡ []
    → check_fault (built program_line).top (end_of words) (is_some (command_in words)) ≡ []
ended words none = let line = built program_line in let given = argument_words program_line words in
    last_check line.top (names_of line) nothing_held given (is_some (command_in words))
    (entered_fault line (stop_after line.top.rules (names_of line) given)) none

known : (words : List Text) (found : Option (Text × List Row)) → command_in words ≡ found
    → fault_of program_line words ≡ [] → IsKnown found
known words None is none = wanted (built program_line).top (end_of words) settings.0 settings.1
    (subst (λ found. check_fault (built program_line).top (end_of words) (is_some found) ≡ []) is (ended words none))
known words (Some found) is none =
    one_of_four (subst (λ names. IsIn found.0 names) four_names (entered_in (built program_line)
    (stop_after (built program_line).top.rules (names_of (built program_line)) (argument_words program_line words)) is))

pub command_known : (words : List Text) → fault_of program_line words ≡ [] → IsKnown (command_in words)
command_known words none = known words (command_in words) refl none

-- what a command asks for is no demonstration
no_demo : (found : Option (Text × List Row)) → Asks found Demo → ⊥
no_demo None asks = asks
no_demo (Some found) asks = asks

pub chosen : (words : List Text) (task : Task) → fault_of program_line words ≡ [] → Asks (command_in words) task
    → Chooses words (Ok task)
chosen words Demo none asks = absurd (no_demo (command_in words) asks)
chosen words (Run profile disk) none asks = (none, asks)
chosen words (Format disk) none asks = (none, asks)
chosen words (Migrate disk) none asks = (none, asks)
chosen words (Files disk) none asks = (none, asks)

-- a list that isn't empty has texts
pub some_texts : {X : Type 0} (text : X → Text) (xs : List X) {empty : Bool} → empty ≡ eqb (length xs) 0 → empty ≡ false
    → map text xs ≢ []
some_texts text [] is not_empty = cc
some_texts text (x ∷ xs) is not_empty = λ none. cc

-- ---- what is made of a parse

module _ {app : App} (words : List Text) (same : app ≡ program_line) where
  -- the command that was met is the one in the words
  pub met : (m : ArgMatches) → HasMatchesOf app words m → subcommand_rows_of m ≡ command_in words
  met m matches = rw same at (matches (rw same program_known.1)).1

  -- matches come of words without a fault
  pub accepted : (is_simple_and_free app ≡ true → fault_of app words ≡ []) → fault_of program_line words ≡ []
  accepted kinds = rw same at (kinds (rw same program_known.0))

  -- an error of another kind than memory is a fault in the words
  among : (error : Error) → (is_simple_and_free app ≡ true → HasKind (fault_of app words) error)
      → kind_of error ≢ OutOfMemory → IsAmong (kind_of error) (fault_of program_line words)
  among error kinds other = by (rw same at (kinds (rw same program_known.0)))
    where
      by : HasKind (fault_of program_line words) error → IsAmong (kind_of error) (fault_of program_line words)
      by (inl memory) = absurd (other memory)
      by (inr is) = is

  pub refused : (error : Error) (fault : ChoiceFault) → words ≢ []
      → (is_simple_and_free app ≡ true → HasKind (fault_of app words) error) → ReportsWhy error fault
      → Chooses words (Err fault)
  refused error (Words Help) some kinds why = (some, rw why at (among error kinds (λ memory. cc)))
  refused error (Words (Refused told)) some kinds why = (some, rw why.0 (among error kinds why.1))
  refused error (Words NotUtf8) some kinds why = absurd why
  refused error NoMemory some kinds why = some

-- ---- the program's command line, as it is built

-- its head
pub bare : (new unnamed plain started : Command) → app_of new ≡ new_app (codes "pos_console")
    → (fields_of new).has_globals ≡ false → fields_of unnamed ≡ record (fields_of new) { no_binary_name = true }
    → fields_of plain ≡ record (fields_of unnamed) { disable_help_subcommand = true }
    → fields_of started ≡ record (fields_of plain) { subcommand_required = true }
    → (app_of started ≡ bare_line) × ((fields_of started).has_globals ≡ false)
bare new unnamed plain started is local first second third = (
  ap app_of_fields third ∙ ap (on_top (λ s. record s { subcommand_required = true }))
      (ap app_of_fields second ∙ ap (on_top (λ s. record s { disable_help_subcommand = true }))
      (ap app_of_fields first ∙ ap (on_top (λ s. record s { no_binary_name = true })) is)),
  ap (λ f. f.has_globals) third ∙ ap (λ f. f.has_globals) second ∙ ap (λ f. f.has_globals) first ∙ local,
)

-- ---- a path in the matches of a command

pub path_there : (found : Found) (option path : Text) → Some path ≡ first_value found option
    → path ≡ path_in option (rows_of found)
path_there found option path is = rw (← (is ∙ first_value-rows found option)) refl

pub no_path : (found : Found) (option : Text) → None ≡ first_value found option → [] ≡ path_in option (rows_of found)
no_path found option is = rw (← (is ∙ first_value-rows found option)) refl
