-- `answer_line` meets its contract: the line is read, its call is made, and the marked parts stand under the answer. A size of a table is a byte, so the text fits.
use borrow.Author.Rules.{rules}
use Rattle.desk_rehearsal.proofs.Answered.{answer_short, line_answered}
use Rattle.desk_rehearsal.proofs.answer_line.Goals as goal

pub returns-clause-answered : goal.returns-clause-answered
returns-clause-answered c =
    let sizes = c.type_inv.t in
    line_answered _ _ _ _ _ _ _ _ c.args.asked _ _ _ _ _ _ _ _ _ c.parse_line-x.ensures c.estimate_length-n.ensures c.is_call.ensures c.make_call-made.ensures.ends c.make_call-made.ensures.count c.make_call-made.ensures.written c.make_call-made.ensures.r_after c.add_parts.ensures (sizes 0).fits (sizes 1).fits (search rules) c.new-page.ensures.length (search rules)

pub returns-clause-length_le_max_answer : goal.returns-clause-length_le_max_answer
returns-clause-length_le_max_answer c =
    let sizes = c.type_inv.t in
    answer_short _ _ _ _ _ _ _ _ c.args.asked _ _ _ c.args.out.now c.args.out.now _ _ _ _ c.parse_line-x.ensures c.estimate_length-n.ensures c.is_call.ensures c.make_call-made.ensures.ends c.make_call-made.ensures.count c.make_call-made.ensures.written c.make_call-made.ensures.r_after c.add_parts.ensures (sizes 0).fits (sizes 1).fits (search rules) c.new-page.ensures.length
