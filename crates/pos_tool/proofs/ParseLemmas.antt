-- What a parse of the program's words tells of them.
use Rattle.std.proofs.Common.{◌≡◌, [], ◌∙◌, List, Err, Ok, true, false, refl, ap, inl, inr}
use Rattle.std.specs.Prelude.{◌≢◌, IfOk, None, Result, Some, codes, option_map}
use Rattle.std.specs.Borrow.{Bor}
use Rattle.clap.specs.declared.parser.matches.ArgMatches.{ArgMatches}
use Rattle.clap.specs.Words.{App, HasKind, HasMatchesOf, IsAmong, Text, fault_of, is_simple, is_simple_and_free}
use Rattle.clap.specs.Words.{kind_of, app_of, matched_of, new_app, raw_values, rows_of, subcommand_rows_of}
use Rattle.clap.specs.declared.parser.matches.Found.{Found}
use Rattle.clap.proofs.WalkLemmas.{raw_values-rows}
use Rattle.clap.specs.Simple.{app_of_fields, on_top}
use Rattle.clap.specs.declared.builder.command.Command.{Command}
use Rattle.clap.specs.declared.builder.command.Command.TheViews.{out-Command as fields_of}
use Rattle.clap.specs.declared.error.Error.{Error}
use Rattle.clap.specs.declared.error.kind.ErrorKind.TheVariants.{OutOfMemory}
use Rattle.clap.proofs.OnLiterals.{clap_on_literals}
use Rattle.pos_tool.specs.Commands.{Chooses, PrintsWhy, command_in, words_in}
use Rattle.pos_tool.specs.Lines.{bare_line, program_line}
use Rattle.pos_tool.specs.declared.commands.Task.{Task}
use Rattle.pos_tool.specs.declared.commands.Task.TheVariants.{Help, Version, Explain, Ask, Create, Migrate, Backup}
use Rattle.pos_tool.specs.declared.commands.Task.TheVariants.{Restore, Diff, Load, Salvage, Run, Test, Completions, Man}
use Rattle.pos_tool.specs.declared.fault.WordsFault.{WordsFault}
use Rattle.pos_tool.specs.declared.fault.WordsFault.TheVariants.{Refused, NotUtf8, NoMemory}

-- the program's is a command line of which `clap` says when it refuses words and what it finds in them
pub program_known : (is_simple_and_free program_line ≡ true) × (is_simple program_line ≡ true)
unfolding clap_on_literals
program_known = (refl, refl)

module _ (app : App) (words : List Text) (same : app ≡ program_line) where
  -- the command that was met is the one in the words
  pub met : (m : ArgMatches) → HasMatchesOf app words m → subcommand_rows_of m ≡ command_in words
  met m matches = rw same at (matches (rw same program_known.1)).1

  -- matches come of words without a fault
  pub accepted : (is_simple_and_free app ≡ true → fault_of app words ≡ []) → fault_of program_line words ≡ []
  accepted kinds = rw same at (kinds (rw same program_known.0))

  -- an error of another kind than memory is a fault in the words
  among : (error : Error) → (is_simple_and_free app ≡ true → HasKind (fault_of app words) error)
      → kind_of error ≢ OutOfMemory → IsAmong (kind_of error) (fault_of program_line words)
  among error kinds other = by (rw same at (kinds (rw same program_known.0)))
    where
      by : HasKind (fault_of program_line words) error → IsAmong (kind_of error) (fault_of program_line words)
      by (inl memory) = absurd (other memory)
      by (inr is) = is

  -- what is made of an error is what the words ask for
  pub told : (error : Error) (result : Result Task WordsFault)
      → (is_simple_and_free app ≡ true → HasKind (fault_of app words) error) → PrintsWhy error result
      → Chooses words result
  told error (Ok Help) kinds why = inr (rw why at (among error kinds (λ memory. cc)))
  told error (Ok Version) kinds why = inr (rw why at (among error kinds (λ memory. cc)))
  told error (Ok (Explain code extended)) kinds why = absurd why
  told error (Ok (Ask file question)) kinds why = absurd why
  told error (Ok (Create file)) kinds why = absurd why
  told error (Ok (Migrate file)) kinds why = absurd why
  told error (Ok (Backup file to)) kinds why = absurd why
  told error (Ok (Restore from file replaces)) kinds why = absurd why
  told error (Ok (Diff file other)) kinds why = absurd why
  told error (Ok (Load text file)) kinds why = absurd why
  told error (Ok (Salvage file to)) kinds why = absurd why
  told error (Ok (Run scripts profile totals json)) kinds why = absurd why
  told error (Ok (Test paths profile junit colour)) kinds why = absurd why
  told error (Ok (Completions shell)) kinds why = absurd why
  told error (Ok Man) kinds why = absurd why
  told error (Err (Refused refusal)) kinds why = rw why.0 (among error kinds why.1)
  told error (Err NotUtf8) kinds why = absurd why
  told error (Err NoMemory) kinds why = tt

-- the program's command line as it begins
pub begun : (text : Bor Text) (new named plain bare : Command) → app_of new ≡ new_app (codes "kijolvar")
    → (fields_of new).has_globals ≡ false → fields_of named ≡ record (fields_of new) { no_binary_name = true }
    → fields_of plain ≡ record (fields_of named) { disable_help_subcommand = true }
    → fields_of bare ≡ record (fields_of plain) { version = Some text }
    → (app_of bare ≡ bare_line) × ((fields_of bare).has_globals ≡ false)
begun text new named plain bare is local first second third = (
  ap app_of_fields third ∙ ap (on_top (λ s. record s { has_version = true }))
      (ap app_of_fields second ∙ ap (on_top (λ s. record s { disable_help_subcommand = true }))
      (ap app_of_fields first ∙ ap (on_top (λ s. record s { no_binary_name = true })) is)),
  ap (λ f. f.has_globals) third ∙ ap (λ f. f.has_globals) second ∙ ap (λ f. f.has_globals) first ∙ local,
)

-- the words of a place in the matches of a command
pub words_there : (found : Found) (place : Text) (words : List Text)
    → Some words ≡ option_map raw_values (matched_of found place) → words ≡ words_in place (rows_of found)
words_there found place words is = rw (← (is ∙ raw_values-rows found place)) refl

pub no_words : (found : Found) (place : Text) → None ≡ option_map raw_values (matched_of found place)
    → [] ≡ words_in place (rows_of found)
no_words found place is = rw (← (is ∙ raw_values-rows found place)) refl

-- what holds of an answer, by what else holds of it
pub ok_map : {A E : Type 0} {P Q : A → Type 0} (result : Result A E) → ((x : A) → P x → Q x) → IfOk result P
    → IfOk result Q
ok_map (Ok x) gives holds = gives x holds
ok_map (Err why) gives holds = tt
