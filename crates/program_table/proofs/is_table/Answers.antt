-- `is_table` meets its contract: bytes that pass each test are the table of the program that they hold.
use borrow.Author.Rules.{rules}
use Rattle.program_refusals.proofs.Refusals.{has_parts_lem}
use Rattle.program_table.proofs.TableChecks.{table_short, table_sized, table_long, ends_refused, ends_found, rows_decide}
use mathlib.Core.Path.{ap}
use mathlib.Core.Bool.{not}
use Rattle.program_table.proofs.is_table.Goals as goal

pub returns-then-table-lt-HEADER : goal.returns-then-table-lt-HEADER
returns-then-table-lt-HEADER c = search table_short

pub returns-then-not-sizes_allowed : goal.returns-then-not-sizes_allowed
returns-then-not-sizes_allowed c = search table_sized

pub returns-then-table-length_of : goal.returns-then-table-length_of
returns-then-table-length_of c = search table_long

pub returns-then-parts_end-parts : goal.returns-then-parts_end-parts
returns-then-parts_end-parts c =
    ends_refused _ _ _ _ c.if-table-lt-HEADER.false c.sizes_allowed.ensures (ap not c.if-not-sizes_allowed.false) c.parts.ensures c.length_of.ensures c.if-table-length_of.false _ _ c.parts_end.ensures c.parts-2.ensures c.if-parts_end-parts.true

pub invariant_of-rows_match-clause-readable : goal.invariant_of-rows_match-clause-readable
invariant_of-rows_match-clause-readable c =
    record { long = search rules; there = has_parts_lem _ _ c.sizes_allowed.ensures (ap not c.if-not-sizes_allowed.false) }

pub invariant_of-rows_match-clause-ending : goal.invariant_of-rows_match-clause-ending
invariant_of-rows_match-clause-ending c =
    ends_found _ _ _ _ c.if-table-lt-HEADER.false c.sizes_allowed.ensures (ap not c.if-not-sizes_allowed.false) c.parts.ensures c.length_of.ensures c.if-table-length_of.false _ _ c.parts_end.ensures c.parts-2.ensures c.if-parts_end-parts.false

pub returns : goal.returns
returns c =
    rows_decide _ _ _ _ c.if-table-lt-HEADER.false c.sizes_allowed.ensures (ap not c.if-not-sizes_allowed.false) c.parts.ensures c.length_of.ensures c.if-table-length_of.false _ _ c.parts_end.ensures c.parts-2.ensures c.if-parts_end-parts.false _ c.rows_match.ensures
