-- `read_pairs` meets its contract: at each turn what is left completes the bytes, their number and the verdict.
use mathlib.Core.Path.{◌∙◌, sym}
use Rattle.desk_parse.proofs.Counted.{reading_space, pair_missing, pair_refused, reading_pair, whole_read}
use Rattle.desk_parse.proofs.hexadecimal.read_pairs.Goals as goal

pub loop-rest-preserved-then-x-eq32 : goal.loop-rest-preserved-then-x-eq32
loop-rest-preserved-then-x-eq32 c = reading_space _ _ _ _ c.loop-rest.rest.now c.in-len1-up.len_at_least c.if-x-eq32.true c.loop-rest.invariant

pub returns-in_default-after-clause-value : goal.returns-in_default-after-clause-value
returns-in_default-after-clause-value c = (pair_missing _ _ _ _ _ c.in-len1-up.len_at_least c.in_default-after.len_below c.if-x-eq32.false c.loop-rest.invariant).0

pub returns-in_default-after-clause-bytes_after : goal.returns-in_default-after-clause-bytes_after
returns-in_default-after-clause-bytes_after c = (pair_missing _ _ _ _ _ c.in-len1-up.len_at_least c.in_default-after.len_below c.if-x-eq32.false c.loop-rest.invariant).1

pub returns-in_err-pair-clause-value : goal.returns-in_err-pair-clause-value
returns-in_err-pair-clause-value c = c.from_residual.ensures ∙ (pair_refused _ _ _ _ _ c.in-len1-up-after.len_at_least c.if-x-eq32.false c.loop-rest.invariant (sym c.pair.ensures ∙ c.in_err-pair.was)).0

pub returns-in_err-pair-clause-bytes_after : goal.returns-in_err-pair-clause-bytes_after
returns-in_err-pair-clause-bytes_after c = (pair_refused _ _ _ _ _ c.in-len1-up-after.len_at_least c.if-x-eq32.false c.loop-rest.invariant (sym c.pair.ensures ∙ c.in_err-pair.was)).1

pub loop-rest-preserved : goal.loop-rest-preserved
loop-rest-preserved c = reading_pair _ _ _ _ c.loop-rest.rest.now c.in-len1-up-after.len_at_least c.if-x-eq32.false c.loop-rest.invariant _ _ (sym c.pair.ensures ∙ c.in_ok-pair.was) c.put.ensures

pub returns-clause-value : goal.returns-clause-value
returns-clause-value c = (whole_read _ _ _ _ _ c.in_default.len_below c.loop-rest.invariant).0

pub returns-clause-bytes_after : goal.returns-clause-bytes_after
returns-clause-bytes_after c = (whole_read _ _ _ _ _ c.in_default.len_below c.loop-rest.invariant).1
