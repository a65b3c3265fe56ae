-- `write_listing` meets its contract: the text of the table where the file is compiled, else the line of its refusal.
use native.Mathlib.Omega.{arith}
use Rattle.meaning.specs.declared.Form.TheVariants.{Table}
use Rattle.meaning.specs.Sizes.{max_parts, length_of}
use Rattle.desk_format.proofs.Pages.{adds_same}
use Rattle.desk_listing.proofs.Listed.{list_long, listing_done, listing_told}
use Rattle.desk_listing.proofs.write_listing.Goals as goal

pub write_table_text-requires : goal.write_table_text-requires
write_table_text-requires c =
    let a = c.compile.ensures in
    omega (arith, list_long _ (length_of Table max_parts) (omega arith) _ a.result_value _ a.table_after c.in-Ok.is)

pub returns-in-Ok : goal.returns-in-Ok
returns-in-Ok c =
    let a = c.compile.ensures in
    adds_same (listing_done _ (length_of Table max_parts) (omega arith) _ a.result_value _ a.table_after c.in-Ok.is) c.write_table_text.ensures

pub returns-in-Err : goal.returns-in-Err
returns-in-Err c = adds_same (listing_told _ (length_of Table max_parts) (omega arith) _ c.compile.ensures.result_value _ c.in-Err.is) c.write_refusal.ensures
