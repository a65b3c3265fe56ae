-- `rows_match` meets its contract: the rows before the one at hand are those implied, and the ones that are left decide; so do the bytes of a row.
use native.Mathlib.Omega.{arith}
use mathlib.Core.Path.{refl}
use Rattle.base.proofs.Loops.{all_step, all_fails, all_end}
use Rattle.program_table.proofs.RowChecks.{row_first, byte_agrees, byte_differs, rows_first, root_differs, rows_next, rows_differ}
use mathlib.Core.Path.{ap}
use mathlib.Core.Bool.{not}
use Rattle.program_table.proofs.checking.Rows.rows_match.Goals as goal

pub returns-then-not-root_matches : goal.returns-then-not-root_matches
returns-then-not-root_matches c = root_differs _ _ refl c.args.self.ending c.args.self.readable.there _ c.root_matches.ensures (ap not c.if-not-root_matches.true)

pub rows-init : goal.rows-init
rows-init c =
    (refl, (omega arith, rows_first _ _ c.parts-p-end.ensures c.args.self.ending c.args.self.readable.there _ c.root_matches.ensures (ap not c.if-not-root_matches.false)))

pub loop-j-init : goal.loop-j-init
loop-j-init c = (c.rows.invariant.0, row_first _ _)

pub loop-j-preserved : goal.loop-j-preserved
loop-j-preserved c =
    (c.loop-j.invariant.0, all_step _ _ _ _ c.loop-j-test.true (byte_agrees _ _ _ _ _ c.row_place-start.ensures c.implied.ensures c.if-implied-t.false) c.loop-j.invariant.1)

pub rows-preserved : goal.rows-preserved
rows-preserved c =
    (c.loop-j.invariant.0, (omega (arith, c.rows.invariant.1.0), rows_next _ _ c.parts-p-end.ensures _ c.rows.invariant.1.1 c.rows-test.true (all_end _ _ _ _ c.loop-j-test.false c.loop-j.invariant.1)))

pub returns-then-implied-t : goal.returns-then-implied-t
returns-then-implied-t c =
    rows_differ _ _ c.parts-p-end.ensures _ c.rows.invariant.1.1 c.rows-test.true
    (all_fails _ _ _ _ c.loop-j-test.true (byte_differs _ _ _ _ _ c.row_place-start.ensures c.implied.ensures c.if-implied-t.true) c.loop-j.invariant.1)
