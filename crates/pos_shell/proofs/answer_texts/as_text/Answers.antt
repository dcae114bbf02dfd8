use Rattle.std.proofs.lemmas.Str.{is_utf8-from_IsUtf8}
use Rattle.pos_shell.proofs.TextLemmas.{not_text}
use Rattle.pos_shell.proofs.answer_texts.as_text.Goals as goal

pub returns-in-Ok : goal.returns-in-Ok
returns-in-Ok c = let (same, valid) = c.in-Ok.ensures.cases in (is_utf8-from_IsUtf8 c.args.bytes.now valid, same)

pub returns-in-Err : goal.returns-in-Err
returns-in-Err c = not_text c.in-Err.ensures.cases.0
