-- `write_table` meets its contract: the rows follow the sizes.
use native.Mathlib.Omega.{arith}
use mathlib.Core.Path.{sym, ◌∙◌}
use Rattle.program_part.proofs.Places.{sizes_copied}
use Rattle.program_compile.proofs.Compiling.{file_tree, some_parts, sizes_long, table_written}
use Rattle.program_compile.proofs.write_table.Goals as goal

pub slice_bounds-copy_from_slice-end-3 : goal.slice_bounds-copy_from_slice-end-3
slice_bounds-copy_from_slice-end-3 c = sym (sizes_long c.args.file.now 0 (omega (arith, (file_tree _ c.requires.file_value).long)))

pub copy_from_slice-requires : goal.copy_from_slice-requires
copy_from_slice-requires c =
    sizes_long c.args.table.now 0 (omega (arith, c.requires.file_in_bounds, some_parts _ c.requires.file_value))
    ∙ sym (sizes_long c.args.file.now 0 (omega (arith, (file_tree _ c.requires.file_value).long)))

pub write_rows-requires-clause-one_tree : goal.write_rows-requires-clause-one_tree
write_rows-requires-clause-one_tree c = file_tree _ c.requires.file_value

pub returns : goal.returns
returns c =
    let copied = sizes_copied c.args.table.now _ c.args.file.now (omega (arith, c.requires.file_in_bounds)) (omega (arith, (file_tree _ c.requires.file_value).long)) c.copy_from_slice.ensures.after in
    table_written _ c.requires.file_value _ _ _ copied c.write_rows.ensures
