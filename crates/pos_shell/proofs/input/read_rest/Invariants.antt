use Rattle.std.proofs.Common.{◌≡◌, ◌≤◌, length}
use Rattle.pos_streams.specs.Streams.{taken_after}
use Rattle.pos_shell.proofs.input.read_rest.Given as goal

-- what was taken so far is the text, a byte or more each time
abbrev pub invariant-loop-turn : goal.invariant-loop-turn
invariant-loop-turn g l = (l._turn ≤ length l.text.items)
    × (g.R.Source.taken l.reader ≡ taken_after (g.R.Source.taken l.fn.reader) l.text.items)
