-- `print_file` is safe: the program file and the words lie within their buffers.
use native.Mathlib.Omega.{arith}
use lib.ListN.{length-take}
use Rattle.desk_assembly.proofs.Assembles.{file_inside, words_inside}
use Rattle.assemble.proofs.print_file.Goals as goal

pub slice_bounds-file-end : goal.slice_bounds-file-end
slice_bounds-file-end c = file_inside _ _ _ _ _ _ c.assemble_text.ensures _ c.in-Ok.is

pub slice_bounds-print-end : goal.slice_bounds-print-end
slice_bounds-print-end c = simp length-take (omega (arith, file_inside _ _ _ _ _ _ c.assemble_text.ensures _ c.in-Ok.is))

pub slice_bounds-words-end : goal.slice_bounds-words-end
slice_bounds-words-end c = omega (arith, words_inside _ _ _ _ _ _ c.assemble_text.ensures _ c.in-Err.is)

pub slice_bounds-print_error-end : goal.slice_bounds-print_error-end
slice_bounds-print_error-end c = simp length-take (omega (arith, words_inside _ _ _ _ _ _ c.assemble_text.ensures _ c.in-Err.is))
