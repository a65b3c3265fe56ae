-- `all_zero` meets its contract: it looks at the bytes between the two places, at none where they are the wrong way round.
use Rattle.std.proofs.Common.{◌≤◌, length, arith, rules, tests}
use Rattle.meaning.specs.Record.{is_zero}
use Rattle.run_allowed.proofs.Places.{bytes_from_least}
use Rattle.run_allowed.proofs.values.all_zero.Goals as goal

pub returns : goal.returns
returns c =
    let long : c.args.to ≤ length c.args.r.bytes.now = omega (arith, c.requires, c.args.r.long) in
    bytes_from_least is_zero c.args.r.bytes.now c.args.from c.args.to _ _ c.min-from.ensures long (c.all_bytes.ensures is_zero (λ b x h. search (rules, tests)))
