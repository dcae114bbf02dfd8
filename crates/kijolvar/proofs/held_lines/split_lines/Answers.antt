use Rattle.std.proofs.Common.{Global, List, Vec, arith, drop, sym, subst, ◌++◌, ◌∷◌, [], ◌≡◌, ℕ}
use Rattle.pos_run.specs.WaitingLines.{IsOneLine, lines_in}
use Rattle.pos_script.specs.Lines.{lines_of}
use Rattle.std.proofs.Common.{All}
use Rattle.kijolvar.proofs.HeldLemmas.{each_more, one_more, to_end}
use Rattle.kijolvar.proofs.held_lines.split_lines.Goals as goal

pub loop-rest-preserved : goal.loop-rest-preserved
loop-rest-preserved c =
    let rest = c.loop-rest.rest.now in
    let count = c.first_line-count.result in
    let lines = c.loop-rest.lines.items in
    let line = c.in_ok-line.line in
    let pushed : c.push_back.new.self.items ≡ lines ++ line ∷ [] = grind arith in
    let same =
    one_more lines line rest count (grind arith) c.first_line-count.ensures.splits c.loop-rest.invariant.same in
    let each = each_more lines line (grind arith) c.first_line-count.ensures.splits c.loop-rest.invariant.each in
    record {
      same = subst (λ (xs : List ℕ). lines_of c.args.text.now ≡ lines_in c.push_back.new.self.items ++ lines_of xs)
          (sym (to_end rest count)) (subst (λ (ls : List (Vec ℕ Global)). lines_of c.args.text.now
          ≡ lines_in ls ++ lines_of (drop count rest)) (sym pushed) same);
      each = subst (All IsOneLine) (sym pushed) each;
    }
