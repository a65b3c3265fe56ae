-- `is_one_tree` meets its contract: at each turn the entries that are left form the trees that remain exactly where all entries form one; each turn adds a number to those.
use borrow.Author.Rules.{rules}
use Rattle.program_refusals.proofs.Scans.{fills_next, fills_stops, fills_ends}
use Rattle.program_refusals.proofs.scan.Parts.is_one_tree.Goals as goal

pub returns-then-remaining-eq0 : goal.returns-then-remaining-eq0
returns-then-remaining-eq0 c = search fills_stops

pub loop-p-preserved : goal.loop-p-preserved
loop-p-preserved c = (search rules, search fills_next)

pub returns : goal.returns
returns c = search fills_ends
