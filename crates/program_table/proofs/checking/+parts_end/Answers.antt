-- `parts_end` meets its contract, as that of `walk` does, with each end compared. The measure is the parts that are left; the loop's invariant: the parts that are left end where all of them do.
use native.Mathlib.Nat.{sub-zero}
use native.Mathlib.Omega.{arith}
use mathlib.Core.Path.{refl, sym, ◌∙◌}
use mathlib.Core.Logic.{inl, inr}
use Rattle.meaning.specs.declared.Form.TheVariants.{Table}
use Rattle.program_table.specs.Checking.{end_stored}
use Rattle.program_table.proofs.Ends.{end_same, end_differs}
use Rattle.program_walk.proofs.Walking.{no_level, walk_starts, walk_beyond, walk_refused, walk_stuck, walk_differs, walk_on, walk_ends, more_left, all_gone, one_fewer}
use Rattle.program_table.proofs.checking.+parts_end.Goals as goal
use Rattle.program_table.proofs.checking.+parts_end.Goals.{then-inside-gt0+else-depth-eq-MAX_DEPTH+else-e-eq0, else-inside-gt0}

pub loop-init : goal.loop-init
loop-init t c = rw sub-zero (walk_starts Table _ (end_stored _) _ _ _ _ (omega (arith, c.requires.outer_lt_max_depth)))

pub returns-then-sizes-q : goal.returns-then-sizes-q
returns-then-sizes-q t c = walk_beyond Table _ (end_stored _) _ _ _ _ _ c.loop.invariant (more_left c.loop-test.true) _ c.read_sizes-sizes.ensures c.if-sizes-q.true

pub returns-in_default : goal.returns-in_default
returns-in_default t c =
    walk_refused Table _ (end_stored _) _ _ _ _ _ c.loop.invariant (more_left c.loop-test.true) _ c.read_sizes-sizes.ensures c.if-sizes-q.false _ c.entry_at-part.ensures _ c.children_of.ensures c.in_default.is

pub returns-then-depth-eq-MAX_DEPTH : goal.returns-then-depth-eq-MAX_DEPTH
returns-then-depth-eq-MAX_DEPTH t c =
    walk_stuck Table _ (end_stored _) _ _ _ _ _ c.loop.invariant (more_left c.loop-test.true) _ c.read_sizes-sizes.ensures c.if-sizes-q.false _ c.entry_at-part.ensures _ c.children_of.ensures _ c.in-Some.is _ (inl (c.if-inside-gt0.true, no_level Table _ (end_stored _) _ _ _ (omega (arith, c.if-depth-eq-MAX_DEPTH.true)))) refl

pub returns-then-e-eq0 : goal.returns-then-e-eq0
returns-then-e-eq0 t c =
    walk_stuck Table _ (end_stored _) _ _ _ _ _ c.loop.invariant (more_left c.loop-test.true) _ c.read_sizes-sizes.ensures c.if-sizes-q.false _ c.entry_at-part.ensures _ c.children_of.ensures _ c.in-Some.is _ (inl (c.if-inside-gt0.true, c.parts_end-e.ensures)) c.if-e-eq0.true

pub returns-then-e-end_at : goal.returns-then-e-end_at
returns-then-e-end_at t c =
    walk_differs Table _ (end_stored _) _ _ _ _ _ c.loop.invariant (more_left c.loop-test.true) _ c.read_sizes-sizes.ensures c.if-sizes-q.false _ c.entry_at-part.ensures _ c.children_of.ensures _ c.in-Some.is _ (elim c.if-inside-gt0.branch [ then-inside-gt0+else-depth-eq-MAX_DEPTH+else-e-eq0 w ↦ inl (w.if-inside-gt0.true, w.e-is ∙ w.parts_end-e.ensures) | else-inside-gt0 w ↦ inr (w.if-inside-gt0.false, w.e-is) ]) (end_differs _ _ _ _ c.end_at.ensures c.if-e-end_at.true)

pub loop-preserved : goal.loop-preserved
loop-preserved t c =
    rw (one_fewer c.loop.counter c.args.count) (walk_on Table _ (end_stored _) _ _ _ _ _ c.loop.invariant (more_left c.loop-test.true) _ c.read_sizes-sizes.ensures c.if-sizes-q.false _ c.entry_at-part.ensures _ c.children_of.ensures _ c.in-Some.is _ (elim c.if-inside-gt0.branch [ then-inside-gt0+else-depth-eq-MAX_DEPTH+else-e-eq0 w ↦ inl (w.if-inside-gt0.true, w.e-is ∙ w.parts_end-e.ensures) | else-inside-gt0 w ↦ inr (w.if-inside-gt0.false, w.e-is) ]) (elim c.if-inside-gt0.branch [ then-inside-gt0+else-depth-eq-MAX_DEPTH+else-e-eq0 w ↦ λ z. w.if-e-eq0.false (sym w.e-is ∙ z) | else-inside-gt0 w ↦ λ z. omega (arith, w.e-is, z) ]) (end_same _ _ _ _ c.end_at.ensures c.if-e-end_at.false))

pub returns : goal.returns
returns t c = walk_ends Table _ (end_stored _) _ _ _ _ _ c.loop.invariant (all_gone c.loop-test.false)
