-- `summarise` meets its contract: the page has the summary alone. The sizes of a table are bytes, so the summary fits.
use borrow.Author.Rules.{rules}
use native.Mathlib.Omega.{arith}
use mathlib.Core.Path.{◌≡◌}
use lib.ListN.{length}
use Rattle.desk_format.proofs.Pages.{page_length, page_written}
use Rattle.desk_transcript.specs.Transcript.{summary_text}
use Rattle.desk_transcript.proofs.Lengths.{summary_fits}
use Rattle.desk_rehearsal.proofs.summarise.Goals as goal

pub returns-clause-written : goal.returns-clause-written
returns-clause-written c =
    let sizes = c.type_inv.t in
    page_written (search rules) c.new-page.ensures.length (search rules) (omega (arith, summary_fits c.args.t.now c.args.r.now c.args.cycles (sizes 1).fits (sizes 2).fits)) c.write_summary.ensures

pub returns-clause-upper_bound : goal.returns-clause-upper_bound
returns-clause-upper_bound c =
    let sizes = c.type_inv.t in
    let fits = summary_fits c.args.t.now c.args.r.now c.args.cycles (sizes 1).fits (sizes 2).fits in
    let whole : c.write_summary.new.page.length ≡ length (summary_text c.args.t.now c.args.r.now c.args.cycles) = page_length c.new-page.ensures.length (omega (arith, fits)) c.write_summary.ensures in
    omega (arith, whole, fits)
