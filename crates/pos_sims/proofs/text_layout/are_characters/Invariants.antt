use Rattle.pos_sims.proofs.Common.{is_character, list_all, take, ◌≡◌}
use Rattle.pos_sims.proofs.text_layout.are_characters.Given as goal

abbrev pub invariant-loop-byte : goal.invariant-loop-byte
invariant-loop-byte l = l.all ≡ list_all is_character (take l.byte-index l.bytes)
