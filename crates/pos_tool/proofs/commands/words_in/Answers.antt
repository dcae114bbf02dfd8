use Rattle.std.proofs.Common.{ap, map, ◌∙◌}
use Rattle.std.specs.Borrow.{Bor}
use Rattle.clap.specs.Words.{Text, found_of}
use Rattle.pos_tool.proofs.ParseLemmas.{no_words, ok_map, words_there}
use Rattle.pos_tool.proofs.commands.words_in.Goals as goal

pub returns-in-Some : goal.returns-in-Some
returns-in-Some c = ok_map c.from_slice.result (λ words same. ap (map (λ (word : Bor Text). word.now)) same
    ∙ words_there (found_of c.args.found.now) c.args.place.now
    (map (λ (word : Bor Text). word.now) c.in-Some.words.now) c.in-Some.ensures) c.from_slice.ensures.items

pub returns-in-None : goal.returns-in-None
returns-in-None c = ap (map (λ (word : Bor Text). word.now)) c.new.ensures.items
    ∙ no_words (found_of c.args.found.now) c.args.place.now c.in-None.ensures
