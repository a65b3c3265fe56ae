-- `operands_allowed` meets its contract: a test of all parts in turn is one of all entries.
use Prim.Native.Nat.{ℕ}
use native.Mathlib.Omega.{arith}
use mathlib.Core.Path.{refl}
use borrow.Author.Rules.{rules}
use Rattle.std.proofs.lemmas.Iterator.{YieldsList-from_range}
use Rattle.std.proofs.lemmas.Iterator.Search.{all_from_yields_List}
use Rattle.meaning.specs.declared.Form.TheVariants.{File}
use Rattle.meaning.specs.Program.{variables, clocks, entry_at, entry_allowed}
use Rattle.program_refusals.proofs.Scans.{all_parts}
use Rattle.program_refusals.proofs.scan.Parts.operands_allowed.Goals as goal

pub returns : goal.returns
returns c =
    let allowed = entry_allowed (variables c.args.self.file.now) (clocks c.args.self.file.now) in
    let each = λ (p : ℕ). allowed (entry_at File c.args.self.file.now p) in
    all_parts File _ _ c.parts.ensures allowed _ (all_from_yields_List each _ _ _ c.all.ensures.ran (YieldsList-from_range 0 _ c.parts.result refl (omega arith)) (λ x b q k. search rules))
