-- `parts_end` meets its contract. The measure is the parts that are left; the loop's invariant: the parts that are left end where all of them do, and so do the steps.
use native.Mathlib.Nat.{sub-zero}
use native.Mathlib.Omega.{arith}
use mathlib.Core.Path.{sym, ap, ◌∙◌}
use mathlib.Core.Logic.{inl, inr}
use Rattle.program_part.specs.declared.layout.Sizes.{Sizes}
use Rattle.program_walk.proofs.KeptDepth.{steps_bounded}
use Rattle.program_walk.proofs.Turns.{going_starts, going_ends, going_beyond, going_refused, going_bounded, going_enters, going_through, going_deep, going_inside, going_stuck, going_leaves, going_on}
use Rattle.program_walk.proofs.Walking.{more_left, all_gone, one_fewer}
use Rattle.program_walk.proofs.walk.+parts_end.Goals as goal
use Rattle.program_walk.proofs.walk.+parts_end.Goals.{then-inside-eq0, else-inside-eq0+else-depth-eq-MAX_DEPTH+else-e-eq0}

pub loop-init : goal.loop-init
loop-init t c = rw sub-zero (going_starts _ _ _ _ _ c.requires.outer_lt_max_depth c.requires.next)

pub returns-then-sizes-q-clause-value : goal.returns-then-sizes-q-clause-value
returns-then-sizes-q-clause-value t c =
    (going_beyond _ _ _ _ _ _ _ _ _ c.loop.invariant (more_left c.loop-test.true) _ c.read_sizes-sizes.ensures c.if-sizes-q.true).0

pub returns-then-sizes-q-clause-steps_after : goal.returns-then-sizes-q-clause-steps_after
returns-then-sizes-q-clause-steps_after t c =
    (going_beyond _ _ _ _ _ _ _ _ _ c.loop.invariant (more_left c.loop-test.true) _ c.read_sizes-sizes.ensures c.if-sizes-q.true).1

pub look-requires-clause-next : goal.look-requires-clause-next
look-requires-clause-next t c =
    let sizes = c.read_sizes-sizes.ensures in
    going_enters _ _ _ _ _ _ _ _ _ c.loop.invariant (more_left c.loop-test.true) _ sizes c.if-sizes-q.false _ (omega (arith, c.loop.invariant.depth_is))

pub take-requires-clause-next : goal.take-requires-clause-next
take-requires-clause-next t c =
    going_enters _ _ _ _ _ _ _ _ _ c.loop.invariant (more_left c.loop-test.true) _ c.read_sizes-sizes.ensures c.if-sizes-q.false _ (omega (arith, c.loop.invariant.depth_is))

pub take-requires-clause-steps_bound : goal.take-requires-clause-steps_bound
take-requires-clause-steps_bound t c =
    omega (arith, going_bounded _ _ _ _ _ _ _ _ _ c.loop.invariant (more_left c.loop-test.true) _ c.read_sizes-sizes.ensures c.if-sizes-q.false, c.type_inv.s 0)

pub returns-in_default-clause-value : goal.returns-in_default-clause-value
returns-in_default-clause-value t c =
    (going_refused _ _ _ _ _ _ _ _ _ c.loop.invariant (more_left c.loop-test.true) _ c.read_sizes-sizes.ensures c.if-sizes-q.false _ c.look.ensures c.in_default.is _ c.take.ensures).0

pub returns-in_default-clause-steps_after : goal.returns-in_default-clause-steps_after
returns-in_default-clause-steps_after t c =
    (going_refused _ _ _ _ _ _ _ _ _ c.loop.invariant (more_left c.loop-test.true) _ c.read_sizes-sizes.ensures c.if-sizes-q.false _ c.look.ensures c.in_default.is _ c.take.ensures).1

pub take-requires-then-inside-eq0-clause-next : goal.take-requires-then-inside-eq0-clause-next
take-requires-then-inside-eq0-clause-next t c =
    going_through _ _ _ _ _ _ _ _ _ c.loop.invariant (more_left c.loop-test.true) _ c.read_sizes-sizes.ensures c.if-sizes-q.false _ c.look.ensures _ c.in-Some.is _ (omega (arith, c.loop.invariant.depth_is)) (omega (arith, c.if-inside-eq0.true))

pub take-requires-then-inside-eq0-clause-steps_bound : goal.take-requires-then-inside-eq0-clause-steps_bound
take-requires-then-inside-eq0-clause-steps_bound t c =
    omega (arith, going_bounded _ _ _ _ _ _ _ _ _ c.loop.invariant (more_left c.loop-test.true) _ c.read_sizes-sizes.ensures c.if-sizes-q.false, c.type_inv.s 0)

pub take-requires-else-inside-eq0-clause-next : goal.take-requires-else-inside-eq0-clause-next
take-requires-else-inside-eq0-clause-next t c =
    going_enters _ _ _ _ _ _ _ _ _ c.loop.invariant (more_left c.loop-test.true) _ c.read_sizes-sizes.ensures c.if-sizes-q.false _ (omega (arith, c.loop.invariant.depth_is))

pub take-requires-else-inside-eq0-clause-steps_bound : goal.take-requires-else-inside-eq0-clause-steps_bound
take-requires-else-inside-eq0-clause-steps_bound t c =
    omega (arith, going_bounded _ _ _ _ _ _ _ _ _ c.loop.invariant (more_left c.loop-test.true) _ c.read_sizes-sizes.ensures c.if-sizes-q.false, c.type_inv.s 0)

pub returns-then-depth-eq-MAX_DEPTH-clause-value : goal.returns-then-depth-eq-MAX_DEPTH-clause-value
returns-then-depth-eq-MAX_DEPTH-clause-value t c =
    (going_deep _ _ _ _ _ _ _ _ _ c.loop.invariant (more_left c.loop-test.true) _ c.read_sizes-sizes.ensures c.if-sizes-q.false _ c.look.ensures _ c.in-Some.is _ (omega (arith, c.loop.invariant.depth_is)) (omega (arith, c.if-inside-eq0.false)) _ c.take-else-inside-eq0.ensures c.if-depth-eq-MAX_DEPTH.true).0

pub returns-then-depth-eq-MAX_DEPTH-clause-steps_after : goal.returns-then-depth-eq-MAX_DEPTH-clause-steps_after
returns-then-depth-eq-MAX_DEPTH-clause-steps_after t c =
    (going_deep _ _ _ _ _ _ _ _ _ c.loop.invariant (more_left c.loop-test.true) _ c.read_sizes-sizes.ensures c.if-sizes-q.false _ c.look.ensures _ c.in-Some.is _ (omega (arith, c.loop.invariant.depth_is)) (omega (arith, c.if-inside-eq0.false)) _ c.take-else-inside-eq0.ensures c.if-depth-eq-MAX_DEPTH.true).1

pub parts_end-e-requires : goal.parts_end-e-requires
parts_end-e-requires t c = (
  omega (arith, c.decreases, c.if-sizes-q.false, c.loop.invariant.ends.from, ap (λ (x : Sizes). x.parts) c.read_sizes-sizes.ensures),
  (c.requires.s_in_bounds, (omega (arith, c.loop.invariant.depth_is, c.loop.invariant.shallow, c.if-depth-eq-MAX_DEPTH.false), going_inside _ _ _ _ _ _ _ _ _ c.loop.invariant (more_left c.loop-test.true) _ c.read_sizes-sizes.ensures c.if-sizes-q.false _ c.look.ensures _ c.in-Some.is _ (omega (arith, c.loop.invariant.depth_is)) (omega (arith, c.if-inside-eq0.false)) _ c.take-else-inside-eq0.ensures)),
)

pub returns-then-e-eq0-clause-value : goal.returns-then-e-eq0-clause-value
returns-then-e-eq0-clause-value t c =
    (going_stuck _ _ _ _ _ _ _ _ _ c.loop.invariant (more_left c.loop-test.true) _ c.read_sizes-sizes.ensures c.if-sizes-q.false _ c.look.ensures _ c.in-Some.is _ (omega (arith, c.loop.invariant.depth_is)) (omega (arith, c.if-inside-eq0.false)) _ c.take-else-inside-eq0.ensures _ _ c.parts_end-e.ensures.value c.parts_end-e.ensures.steps_after c.if-e-eq0.true).0

pub returns-then-e-eq0-clause-steps_after : goal.returns-then-e-eq0-clause-steps_after
returns-then-e-eq0-clause-steps_after t c =
    (going_stuck _ _ _ _ _ _ _ _ _ c.loop.invariant (more_left c.loop-test.true) _ c.read_sizes-sizes.ensures c.if-sizes-q.false _ c.look.ensures _ c.in-Some.is _ (omega (arith, c.loop.invariant.depth_is)) (omega (arith, c.if-inside-eq0.false)) _ c.take-else-inside-eq0.ensures _ _ c.parts_end-e.ensures.value c.parts_end-e.ensures.steps_after c.if-e-eq0.true).1

pub take-requires-else-inside-eq0-2-clause-next : goal.take-requires-else-inside-eq0-2-clause-next
take-requires-else-inside-eq0-2-clause-next t c =
    let step = going_leaves _ _ _ _ _ _ _ _ _ c.loop.invariant (more_left c.loop-test.true) _ c.read_sizes-sizes.ensures c.if-sizes-q.false _ c.look.ensures _ c.in-Some.is _ (omega (arith, c.loop.invariant.depth_is)) (omega (arith, c.if-inside-eq0.false)) _ c.take-else-inside-eq0.ensures _ _ c.parts_end-e.ensures.value c.parts_end-e.ensures.steps_after c.if-e-eq0.false in
    step

pub take-requires-else-inside-eq0-2-clause-steps_bound : goal.take-requires-else-inside-eq0-2-clause-steps_bound
take-requires-else-inside-eq0-2-clause-steps_bound t c =
    let step = going_leaves _ _ _ _ _ _ _ _ _ c.loop.invariant (more_left c.loop-test.true) _ c.read_sizes-sizes.ensures c.if-sizes-q.false _ c.look.ensures _ c.in-Some.is _ (omega (arith, c.loop.invariant.depth_is)) (omega (arith, c.if-inside-eq0.false)) _ c.take-else-inside-eq0.ensures _ _ c.parts_end-e.ensures.value c.parts_end-e.ensures.steps_after c.if-e-eq0.false in
    omega (arith, steps_bounded _ _ _ _ step, c.type_inv.s 0)

pub loop-preserved : goal.loop-preserved
loop-preserved t c =
    rw (one_fewer _ _)
    (going_on _ _ _ _ _ _ _ _ _ c.loop.invariant (more_left c.loop-test.true) _ c.read_sizes-sizes.ensures c.if-sizes-q.false _ c.look.ensures _ c.in-Some.is _ (omega (arith, c.loop.invariant.depth_is)) _ _ _
    (elim c.if-inside-eq0.branch [
      | then-inside-eq0 w ↦ inl (omega (arith, w.if-inside-eq0.true), omega (arith, w.e-is), w.steps-is ∙ w.take-then-inside-eq0.ensures)
      | else-inside-eq0+else-depth-eq-MAX_DEPTH+else-e-eq0 w ↦ inr (_, _, omega (arith, w.if-inside-eq0.false), w.take-else-inside-eq0.ensures, w.e-is ∙ w.parts_end-e.ensures.value, w.parts_end-e.ensures.steps_after, (λ z. w.if-e-eq0.false (sym w.e-is ∙ z)), w.steps-is ∙ w.take-else-inside-eq0-2.ensures)
    ])
    (omega arith))

pub returns-clause-value : goal.returns-clause-value
returns-clause-value t c =
    (going_ends _ _ _ _ _ _ _ _ _ c.loop.invariant (all_gone c.loop-test.false)).0

pub returns-clause-steps_after : goal.returns-clause-steps_after
returns-clause-steps_after t c =
    (going_ends _ _ _ _ _ _ _ _ _ c.loop.invariant (all_gone c.loop-test.false)).1
