-- `write_file` meets its contract: the arrays begin where the sizes end.
use native.Mathlib.Omega.{arith}
use mathlib.Core.Path.{sym, ◌∙◌}
use lib.Seq.{length-take-le}
use Rattle.meaning.specs.Sizes.{header_length}
use Rattle.program_part.proofs.Places.{sizes_copied}
use Rattle.program_decompile.proofs.Decompiling.{sizes_there, file_written}
use Rattle.program_decompile.proofs.write_file.Goals as goal

pub slice_bounds-copy_from_slice-end-3 : goal.slice_bounds-copy_from_slice-end-3
slice_bounds-copy_from_slice-end-3 c = sym (length-take-le header_length c.args.table.bytes.now (sizes_there _ c.args.table.checked))

pub copy_from_slice-requires : goal.copy_from_slice-requires
copy_from_slice-requires c =
    length-take-le header_length c.args.file.now (omega (arith, c.requires))
    ∙ sym (length-take-le header_length c.args.table.bytes.now (sizes_there _ c.args.table.checked))

pub returns : goal.returns
returns c =
    let copied = sizes_copied c.args.file.now _ c.args.table.bytes.now (omega (arith, c.requires)) (sizes_there _ c.args.table.checked) c.copy_from_slice.ensures.after in
    file_written _ _ _ _ copied c.write_arrays.ensures
