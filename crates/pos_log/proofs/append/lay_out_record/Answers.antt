use Rattle.pos_log.proofs.Common.{ap, arith, length, rules, slice_set, take, ◌++◌, ◌+◌, ◌∙◌}
use Rattle.pos_log.proofs.LayoutLemmas.{laid_out, put_back}
use Rattle.pos_log.proofs.append.lay_out_record.Goals as goal

pub returns-clause-text : goal.returns-clause-text
returns-clause-text c =
    let behind = c.split_at_mut-body.result.1.now in
    let whole = c.copy_from_slice.new.self ++ (c.copy_from_slice-2.new.self ++ slice_set behind 0 0) in
    let buffer = c.args.buffer.now in
    let slice = c.as_mut_slice.ensures in
    let long = ap length slice.value in
    ap (take (5 + length c.args.group.now)) (put_back whole buffer.items (omega (arith, slice.len, long))
    (search rules)) ∙ laid_out behind (c.copy_from_slice.ensures.after ∙ c.to_be_bytes.ensures)
    c.copy_from_slice-2.ensures.after (let front = c.split_at_mut-body.ensures.back_len
    in let all = c.split_at_mut-head.ensures.back_len in let fits =
    c.requires.fits in omega (arith, slice.len, long))
