-- The program's command line (docs/reference/tool.md).
use Rattle.std.specs.Prelude.{◌∷◌, [], true, Some, codes}
use Rattle.clap.specs.Words.{App, Rule, Text, new_app, new_rule, with_rule, with_subcommand}
use Rattle.clap.specs.Lexer.{usize_max}
use Rattle.clap.specs.Simple.{on_top}
use Rattle.clap.specs.declared.builder.ArgAction.TheVariants.{Append, Set, SetTrue}

-- a word that has to be there, by its place
abbrev pub place_rule : Text → Rule
place_rule name = record (new_rule name) { required = true; action = Some Set }

-- a word that may be there, by its place
abbrev pub free_rule : Text → Rule
free_rule name = record (new_rule name) { action = Some Set }

-- an option --NAME
abbrev pub flag_rule : Text → Rule
flag_rule name = record (new_rule name) { long = Some name; action = Some SetTrue }

-- an option --NAME WORD
abbrev pub valued_rule : Text → Rule
valued_rule name = record (new_rule name) { long = Some name; action = Some Set }

-- words by their place, of which there may be any number; `-` stands for none
abbrev pub places_rule : Text → Rule
places_rule name = record (new_rule name) {
  range = Some (record { start_inclusive = 1; end_inclusive = usize_max });
  defaults = codes "-" ∷ [];
  action = Some Append;
}

-- run SCRIPT .. [--profile P] [--totals FILE] [--json]
abbrev pub run_line : App
run_line = with_rule (with_rule (with_rule (with_rule (new_app (codes "run")) (places_rule (codes "SCRIPT")))
    (valued_rule (codes "profile"))) (valued_rule (codes "totals"))) (flag_rule (codes "json"))

-- words by their place, of which there must be one
abbrev pub some_places_rule : Text → Rule
some_places_rule name = record (new_rule name) {
  range = Some (record { start_inclusive = 1; end_inclusive = usize_max });
  required = true;
  action = Some Append;
}

-- test PATH .. [--profile P] [--junit FILE] [--color WHEN]
abbrev pub test_line : App
test_line = with_rule (with_rule (with_rule (with_rule (new_app (codes "test")) (some_places_rule (codes "PATH")))
    (valued_rule (codes "profile"))) (valued_rule (codes "junit"))) (valued_rule (codes "color"))

-- COMMAND NAME
abbrev pub place_line : Text → Text → App
place_line command name = with_rule (new_app command) (place_rule name)

-- explain CODE [EXTENDED]
abbrev pub explain_line : App
explain_line = with_rule (place_line (codes "explain") (codes "CODE")) (free_rule (codes "EXTENDED"))

-- COMMAND FILE [--OPTION]
abbrev pub flagged_line : Text → Text → App
flagged_line command option = with_rule (place_line command (codes "FILE")) (flag_rule option)

-- COMMAND FIRST SECOND
abbrev pub two_line : Text → Text → Text → App
two_line command first second = with_rule (place_line command first) (place_rule second)

-- COMMAND FIRST SECOND [--OPTION]
abbrev pub flagged_two_line : Text → Text → Text → Text → App
flagged_two_line command first second option = with_rule (two_line command first second) (flag_rule option)

-- the program's, which has no command yet: its name isn't among the words, and `clap`'s own `help` is no command
abbrev pub bare_line : App
bare_line =
    on_top (λ s. record s { no_binary_name = true; disable_help_subcommand = true; has_version = true })
    (new_app (codes "kijolvar"))

-- with help and version
abbrev pub top_line : App
top_line = with_subcommand (with_subcommand bare_line (new_app (codes "help")).top) (new_app (codes "version")).top

-- with the commands that only read, too
abbrev pub reading_line : App
reading_line = with_subcommand (with_subcommand (with_subcommand (with_subcommand (with_subcommand (with_subcommand
    top_line explain_line.top)
    (flagged_line (codes "check") (codes "quiet")).top) (flagged_line (codes "files") (codes "json")).top)
    (flagged_two_line (codes "cat") (codes "FILE") (codes "NAME") (codes "hex")).top)
    (place_line (codes "dump") (codes "FILE")).top) (two_line (codes "diff") (codes "FILE") (codes "OTHER")).top

-- with those that make files, too
abbrev pub making_line : App
making_line = with_subcommand (with_subcommand (with_subcommand (with_subcommand (with_subcommand (with_subcommand
    reading_line (place_line (codes "create") (codes "FILE")).top) (place_line (codes "migrate") (codes "FILE")).top)
    (two_line (codes "backup") (codes "FILE") (codes "TO")).top)
    (flagged_two_line (codes "restore") (codes "FROM") (codes "FILE") (codes "replace")).top)
    (two_line (codes "load") (codes "TEXT") (codes "FILE")).top)
    (two_line (codes "salvage") (codes "FILE") (codes "TO")).top

-- with all commands
abbrev pub program_line : App
program_line = with_subcommand (with_subcommand (with_subcommand (with_subcommand
    making_line run_line.top) test_line.top)
    (place_line (codes "completions") (codes "SHELL")).top) (new_app (codes "man")).top
