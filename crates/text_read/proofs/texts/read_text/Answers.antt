-- `read_text` meets its contract: one law for each return.
use Rattle.text_read.proofs.Whole.{header_inside, header_uncut, text_read_lem, no_header}
use Rattle.text_read.proofs.texts.read_text.Goals as goal

pub read_program-requires-clause-body_in_bounds : goal.read_program-requires-clause-body_in_bounds
read_program-requires-clause-body_in_bounds c = header_inside _ _ c.in_ok-header.ensures

pub read_program-requires-clause-body_value : goal.read_program-requires-clause-body_value
read_program-requires-clause-body_value c = header_uncut _ _ c.in_ok-header.ensures

pub returns-in_err-header : goal.returns-in_err-header
returns-in_err-header c = no_header _ _ c.in_err-header.ensures _ c.from_residual.ensures.1 _ _

pub returns : goal.returns
returns c = text_read_lem _ _ c.in_ok-header.ensures _ _ _ c.read_program.ensures
