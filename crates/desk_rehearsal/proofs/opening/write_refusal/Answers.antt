-- `write_refusal` meets its contract: the page has the refusal alone.
use borrow.Author.Rules.{rules}
use native.Mathlib.Omega.{arith}
use mathlib.Core.Path.{◌≡◌}
use lib.ListN.{length}
use Rattle.meaning.specs.Answers.{refusal_number}
use Rattle.desk_format.proofs.Pages.{page_length, page_written}
use Rattle.desk_answers.specs.Answers.{refused_text}
use Rattle.desk_rehearsal.proofs.Rooms.{refused_fits_page}
use Rattle.desk_rehearsal.proofs.opening.write_refusal.Goals as goal

pub returns-clause-written : goal.returns-clause-written
returns-clause-written c = page_written (search rules) c.new-page.ensures.length (search rules) (omega (arith, refused_fits_page (refusal_number c.args.why))) c.write_refused.ensures

pub returns-clause-upper_bound : goal.returns-clause-upper_bound
returns-clause-upper_bound c =
    let fits = refused_fits_page (refusal_number c.args.why) in
    let whole : c.write_refused.new.page.length ≡ length (refused_text (refusal_number c.args.why)) = page_length c.new-page.ensures.length (omega (arith, fits)) c.write_refused.ensures in
    omega (arith, whole, fits)
