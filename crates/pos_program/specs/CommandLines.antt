-- Command lines as `clap` takes them, which are made in steps.
use Rattle.std.specs.Prelude.{◌≡◌, false, IfOk, Result}
use Rattle.std.specs.declared.alloc.AllocError.{AllocError}
use Rattle.clap.specs.declared.builder.arg.Arg.{Arg}
use Rattle.clap.specs.declared.builder.command.Command.{Command}
use Rattle.clap.specs.declared.builder.command.Command.TheViews.{out-Command as fields_of}
use Rattle.clap.specs.Words.{App, Rule, app_of, rule_of}

-- a command line, if it was made, is this one, and none of its options is one of its commands' too
abbrev pub IsLine : Result Command AllocError → App → Type 0
IsLine made app = IfOk made (λ line. (app_of line ≡ app) × ((fields_of line).has_globals ≡ false))

-- a word or an option is by this rule, and no command's too
abbrev pub IsWord : Arg → Rule → Type 0
IsWord word rule = (rule_of word ≡ rule) × (word.global ≡ false)
