-- `assemble_text` meets its contract: one law for each answer.
use Rattle.desk_assembly.proofs.Assembles.{place_inside, assembled_done, assembled_refused}
use Rattle.desk_assembly.proofs.assemble_text.Goals as goal

pub write_words-length-requires : goal.write_words-length-requires
write_words-length-requires c = search place_inside

pub returns-in-Ok : goal.returns-in-Ok
returns-in-Ok c = search assembled_done

pub returns-in-Err : goal.returns-in-Err
returns-in-Err c = search assembled_refused
