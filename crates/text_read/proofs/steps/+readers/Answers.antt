-- The readers that call one another meet their contracts: one law for each return.
use Rattle.std.proofs.Common.{rules, arith, ◌<◌, refl}
use Rattle.text_read.proofs.Doing.{moves_on, room_moved}
use Rattle.text_read.proofs.Plain.{passed_room}
use Rattle.text_read.proofs.Readers.{step_goal, step_start, step_wait, step_maintain, maintain_stops, step_repeat, step_if, step_group, group_stops, step_none, mark_none, mark_begun, begun, joining_starts, joining_more, joining_stops, joining_ends, sequence_read, sequence_stops, tail_read, tail_stops, choice_read, choice_stops_1, choice_stops_2, choice_stops_3, choice_stops_4, enclosing_more, enclosing_ends, body_stops_1, body_stops_2, body_stops_3, body_stops_4, item_step, item_sequence}
use Rattle.text_read.proofs.steps.+readers.Goals as goal

pub body-returns-in_err-first-clause-does : goal.body-returns-in_err-first-clause-does
body-returns-in_err-first-clause-does t c = body_stops_1 _ _ _ _ _ _ c.brackets-count.ensures _ _ _ _ c.in_err-first.ensures.does c.from_residual.ensures.1

pub body-returns-in_err-at-clause-does : goal.body-returns-in_err-at-clause-does
body-returns-in_err-at-clause-does t c = body_stops_2 _ _ _ _ _ _ c.brackets-count.ensures _ _ c.in_ok-first.ensures.does _ _ _ _ c.in_err-at.ensures.continues c.from_residual-in_err-at.ensures.1

pub body-returns-in_err-group-clause-does : goal.body-returns-in_err-group-clause-does
body-returns-in_err-group-clause-does t c = body_stops_3 _ _ _ _ _ _ c.brackets-count.ensures _ _ c.in_ok-first.ensures.does _ _ c.in_ok-at.ensures.continues _ _ _ c.loop.invariant.0 c.loop-test.true _ _ _ c.in_err-group.ensures.passes c.from_residual-in_err-group.ensures.1

pub body-returns-in_err-at-2-clause-does : goal.body-returns-in_err-at-2-clause-does
body-returns-in_err-at-2-clause-does t c = body_stops_4 _ _ _ _ _ _ c.brackets-count.ensures _ _ c.in_ok-first.ensures.does _ _ c.in_ok-at.ensures.continues _ _ _ c.loop.invariant.0 c.loop-test.true _ _ _ _ _ c.in_ok-group.ensures.passes c.in_err-at-2.ensures.continues c.from_residual-in_err-at-2.ensures.1

pub body-loop-preserved : goal.body-loop-preserved
body-loop-preserved t c =
    let group = c.in_ok-group.ensures.moves in
    let more = c.in_ok-at-2.ensures.moves in (
      enclosing_more _ _ _ _ _ _ _ _ _ _ _ c.loop-test.true c.loop.invariant.0 c.in_ok-group.ensures.passes c.in_ok-at-2.ensures.continues,
      omega (arith, group.onward, more.onward),
      moves_on _ _ _ _ _ _ (moves_on _ _ _ _ _ _ c.loop.invariant.2 group) more,
      search rules,
    )

pub body-returns-clause-does : goal.body-returns-clause-does
body-returns-clause-does t c = enclosing_ends _ _ _ _ _ _ c.brackets-count.ensures _ _ c.in_ok-first.ensures.does _ _ c.in_ok-at.ensures.continues _ _ _ c.loop.invariant.0 (omega arith)

pub choice-returns-in_err-tested-clause-does : goal.choice-returns-in_err-tested-clause-does
choice-returns-in_err-tested-clause-does t c = choice_stops_1 _ _ _ _ _ _ _ _ c.in_err-tested.ensures.does c.from_residual.ensures.1

pub choice-returns-in_err-first-clause-does : goal.choice-returns-in_err-first-clause-does
choice-returns-in_err-first-clause-does t c = choice_stops_2 _ _ _ _ _ _ _ _ c.in_ok-tested.ensures.does _ c.in_err-first.ensures.passes c.from_residual-in_err-first.ensures.1

pub choice-returns-in_err-taken-clause-does : goal.choice-returns-in_err-taken-clause-does
choice-returns-in_err-taken-clause-does t c = choice_stops_3 _ _ _ _ _ _ _ _ c.in_ok-tested.ensures.does _ c.in_ok-first.ensures.passes _ _ c.in_err-taken.ensures.does c.from_residual-in_err-taken.ensures.1

pub choice-returns-in_err-second-clause-does : goal.choice-returns-in_err-second-clause-does
choice-returns-in_err-second-clause-does t c = choice_stops_4 _ _ _ _ _ _ _ _ c.in_ok-tested.ensures.does _ c.in_ok-first.ensures.passes _ _ c.in_ok-taken.ensures.does _ c.in_err-second.ensures.passes c.from_residual-in_err-second.ensures.1

pub choice-returns-clause-does : goal.choice-returns-clause-does
choice-returns-clause-does t c = choice_read _ _ _ _ _ _ _ _ c.in_ok-tested.ensures.does _ c.in_ok-first.ensures.passes _ _ c.in_ok-taken.ensures.does _ c.in_ok-second.ensures.passes c.step-2.ensures.does

pub item-returns-in-Steps-clause-does : goal.item-returns-in-Steps-clause-does
item-returns-in-Steps-clause-does t c = search item_step

pub item-returns-in-Sequences-clause-does : goal.item-returns-in-Sequences-clause-does
item-returns-in-Sequences-clause-does t c = search item_sequence

pub items-loop-joining-init : goal.items-loop-joining-init
items-loop-joining-init t c = (search joining_starts, search rules, search rules, search rules, search rules, refl, c.requires.uncut)

pub items-item-requires : goal.items-item-requires
items-item-requires t c = let there : c.loop-joining.at.place < c.after.result = search begun in omega arith

pub items-returns-in_err-at-clause-continues : goal.items-returns-in_err-at-clause-continues
items-returns-in_err-at-clause-continues t c = joining_stops _ _ _ _ _ _ _ _ _ _ c.loop-joining.invariant.0 _ c.joining_mark-joining.ensures _ c.stands_at.ensures _ _ c.loop-joining-test.true c.after.ensures _ _ _ refl refl c.in_err-at.ensures.does c.from_residual.ensures.1

pub items-loop-joining-smaller : goal.items-loop-joining-smaller
items-loop-joining-smaller t c =
    let there : c.loop-joining.at.place < c.after.result = search begun in
    let more = c.in_ok-at.ensures.moves in
    omega (arith, more.onward, more.inside)

pub items-loop-joining-preserved : goal.items-loop-joining-preserved
items-loop-joining-preserved t c =
    let there : c.loop-joining.at.place < c.after.result = search begun in
    let more = c.in_ok-at.ensures.moves in (
      joining_more _ _ _ _ _ _ _ _ _ _ c.loop-joining.invariant.0 _ c.joining_mark-joining.ensures _ c.stands_at.ensures _ _ c.loop-joining-test.true c.after.ensures _ c.in_ok-at.ensures.does,
      omega (arith, more.onward),
      more.inside,
      omega (arith, more.parts_fit),
      omega arith,
      search rules,
      more.uncut,
    )

pub items-returns-clause-continues : goal.items-returns-clause-continues
items-returns-clause-continues t c = joining_ends _ _ _ _ _ _ _ _ _ _ c.loop-joining.invariant.0 _ c.joining_mark-joining.ensures _ c.stands_at.ensures _ _ _ refl refl c.loop-joining-test.false c.join.ensures

pub sequence-returns-in_err-first-clause-does : goal.sequence-returns-in_err-first-clause-does
sequence-returns-in_err-first-clause-does t c = sequence_stops _ _ _ _ _ _ _ _ c.in_err-first.ensures.does c.from_residual.ensures.1

pub sequence-returns-clause-does : goal.sequence-returns-clause-does
sequence-returns-clause-does t c = sequence_read _ _ _ _ _ _ _ _ c.in_ok-first.ensures.does c.items.ensures.continues

pub tail-returns-in_err-sequence-clause-continues : goal.tail-returns-in_err-sequence-clause-continues
tail-returns-in_err-sequence-clause-continues t c = tail_stops _ _ _ _ _ _ _ _ c.in_err-sequence.ensures.continues c.from_residual.ensures.1

pub tail-returns-clause-continues : goal.tail-returns-clause-continues
tail-returns-clause-continues t c = tail_read _ _ _ _ _ _ _ _ c.in_ok-sequence.ensures.continues c.items-2.ensures.continues

pub step-returns-in-Variable-clause-does : goal.step-returns-in-Variable-clause-does
step-returns-in-Variable-clause-does t c = search step_goal

pub step-returns-in-StartWord-clause-does : goal.step-returns-in-StartWord-clause-does
step-returns-in-StartWord-clause-does t c = search step_start

pub step-returns-in-WaitWord-clause-does : goal.step-returns-in-WaitWord-clause-does
step-returns-in-WaitWord-clause-does t c = search step_wait

pub step-returns-in-RepeatWord-clause-does : goal.step-returns-in-RepeatWord-clause-does
step-returns-in-RepeatWord-clause-does t c = search step_repeat

pub step-returns-in-RepeatWord-clause-moves : goal.step-returns-in-RepeatWord-clause-moves
step-returns-in-RepeatWord-clause-moves t c =
    let there : c.args.from.place < c.after.result = search mark_begun in
    let more = c.step-in-RepeatWord.ensures.moves in
    record { onward = omega (arith, more.onward); inside = more.inside; uncut = more.uncut; parts_fit = omega (arith, more.parts_fit) }

pub step-returns-in-IfWord-clause-does : goal.step-returns-in-IfWord-clause-does
step-returns-in-IfWord-clause-does t c = search step_if

pub step-returns-in_default-mark-clause-does : goal.step-returns-in_default-mark-clause-does
step-returns-in_default-mark-clause-does t c = search mark_none

pub step-returns-in_default-clause-does : goal.step-returns-in_default-clause-does
step-returns-in_default-clause-does t c = search step_none

pub step-returns-in_err-tested-in-MaintainWord-clause-does : goal.step-returns-in_err-tested-in-MaintainWord-clause-does
step-returns-in_err-tested-in-MaintainWord-clause-does t c = maintain_stops _ _ _ _ _ _ c.next_token.ensures c.after.ensures _ _ _ c.in-Mark.is c.in-MaintainWord.is _ _ c.in_err-tested-in-MaintainWord.ensures.does c.from_residual.ensures.1

pub step-returns-in_ok-tested-in-MaintainWord-clause-does : goal.step-returns-in_ok-tested-in-MaintainWord-clause-does
step-returns-in_ok-tested-in-MaintainWord-clause-does t c = step_maintain _ _ _ _ _ _ c.next_token.ensures c.after.ensures _ _ _ c.in-Mark.is c.in-MaintainWord.is _ _ c.in_ok-tested-in-MaintainWord.ensures.does c.step.ensures.does

pub step-returns-in_err-inner-in-Opening-clause-does : goal.step-returns-in_err-inner-in-Opening-clause-does
step-returns-in_err-inner-in-Opening-clause-does t c = group_stops _ _ _ _ _ _ c.next_token.ensures c.after.ensures _ _ _ c.in-Mark.is c.in-Opening.is _ c.in_err-inner-in-Opening.ensures.does c.from_residual-in_err-inner-in-Opening.ensures.1

pub step-returns-in_ok-inner-in-Opening-clause-does : goal.step-returns-in_ok-inner-in-Opening-clause-does
step-returns-in_ok-inner-in-Opening-clause-does t c = step_group _ _ _ _ _ _ c.next_token.ensures c.after.ensures _ _ _ c.in-Mark.is c.in-Opening.is _ c.in_ok-inner-in-Opening.ensures.does c.expect.ensures.passes

pub step-step-requires : goal.step-step-requires
step-step-requires t c =
    let there : c.args.from.place < c.after.result = search mark_begun in
    let more = c.in_ok-tested-in-MaintainWord.ensures.moves in
    (omega (arith, more.onward, more.inside), room_moved _ _ _ _ (passed_room _ _ _ _ c.requires c.after.ensures) more)

pub step-step-requires-in-RepeatWord : goal.step-step-requires-in-RepeatWord
step-step-requires-in-RepeatWord t c =
    let there : c.args.from.place < c.after.result = search mark_begun in
    search rules

pub step-choice-requires : goal.step-choice-requires
step-choice-requires t c =
    let there : c.args.from.place < c.after.result = search mark_begun in
    search rules

pub step-body-requires : goal.step-body-requires
step-body-requires t c =
    let there : c.args.from.place < c.after.result = search mark_begun in
    search rules
