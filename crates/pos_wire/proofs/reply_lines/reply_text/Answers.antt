use Rattle.std.proofs.Common.{sym, subst}
use Rattle.std.proofs.lemmas.Result.{IfOk-weaker}
use Rattle.pos_service.specs.declared.kind.Kind.{Kind}
use Rattle.pos_wire.specs.ReplyLines.{ReplyHasText}
use Rattle.pos_wire.proofs.reply_lines.reply_text.Goals as goal

pub returns-in-Drawer-clause-text : goal.returns-in-Drawer-clause-text
returns-in-Drawer-clause-text c = IfOk-weaker c.drawer_text.result _ _
    (λ text tells. subst (λ (is : Kind). ReplyHasText c.args.settings.now c.args.name.now is c.args.signs c.args.reply
    text.items) (sym c.in-Drawer.is) tells) c.drawer_text.ensures.text

pub returns-in-Printer-clause-text : goal.returns-in-Printer-clause-text
returns-in-Printer-clause-text c = IfOk-weaker c.printer_text.result _ _
    (λ text tells. subst (λ (is : Kind). ReplyHasText c.args.settings.now c.args.name.now is c.args.signs c.args.reply
    text.items) (sym c.in-Printer.is) (tells c.in-Printer.chars)) c.printer_text.ensures.text
