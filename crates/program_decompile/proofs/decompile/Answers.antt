-- `decompile` meets its contract: one law of Decompiling for each answer.
use mathlib.Core.List.{List}
use Prim.Native.Nat.{ℕ}
use mathlib.Core.Path.{ap}
use denote.Ref.{Bor}
use Rattle.std.proofs.lemmas.Result.{err_from_is_err_and}
use Rattle.program_decompile.proofs.Decompiling.{decompile_refused, decompile_short, decompile_done}
use Rattle.program_decompile.proofs.decompile.Goals as goal

pub returns-in_err-checked : goal.returns-in_err-checked
returns-in_err-checked c =
    let p = err_from_is_err_and c.from_residual.result c.from_residual.ensures.1 in
    rw (p.1, p.2, c.in_err-checked.ensures.err.0) (decompile_refused _ _ c.in_err-checked.ensures.err.1)

pub returns-then-file-length_of : goal.returns-then-file-length_of
returns-then-file-length_of c =
    rw (ap (λ (b : Bor (List ℕ)). b.now) c.in_ok-checked.ensures.ok) at (decompile_short _ _ c.in_ok-checked.checked.checked _ _ c.parts.ensures c.length_of.ensures c.if-file-length_of.true)

pub returns : goal.returns
returns c =
    rw (ap (λ (b : Bor (List ℕ)). b.now) c.in_ok-checked.ensures.ok) at (decompile_done _ _ c.in_ok-checked.checked.checked _ _ c.parts.ensures c.length_of.ensures _ c.if-file-length_of.false c.write_file.ensures)
