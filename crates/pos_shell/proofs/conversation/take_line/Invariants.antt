use Rattle.std.proofs.Common.{◌≡◌, length}
use Rattle.pos_streams.specs.Streams.{taken_after}
use Rattle.pos_shell.specs.Conversation.{HasNoFeed}
use Rattle.pos_shell.proofs.conversation.take_line.Given as goal

-- what was taken so far is the line, and has no line feed
abbrev pub invariant-loop-turn : goal.invariant-loop-turn
invariant-loop-turn g l = HasNoFeed l.text.items × (length l.text.items ≡ l._turn)
    × (g.R.Source.taken l.reader ≡ taken_after (g.R.Source.taken l.fn.reader) l.text.items)
