-- `any_marked` meets its contract: it looks at the marks between the two.
use Rattle.std.proofs.Common.{rules, tests, ◌+◌, ◌-◌, take, drop}
use Rattle.std.proofs.lemmas.Iterator.{YieldsList-from_slice}
use Rattle.std.proofs.lemmas.Iterator.Search.{any_from_yields_List}
use Rattle.meaning.specs.Record.{marks_place, is_mark}
use Rattle.run_allowed.proofs.Markings.{marks_taken}
use Rattle.run_allowed.proofs.marks.any_marked.Goals as goal

pub returns : goal.returns
returns c =
    marks_taken c.args.r.bytes.now c.args.from c.args.to c.from.result c.from-2.result _ c.requires.order c.requires.inside c.from.ensures c.from-2.ensures
    (any_from_yields_List is_mark _ _ _ c.any.ensures.ran (YieldsList-from_slice (take (marks_place + c.from-2.result - (marks_place + c.from.result)) (drop (marks_place + c.from.result) c.args.r.bytes.now)) cc) (λ x b q k. search (rules, tests)))
