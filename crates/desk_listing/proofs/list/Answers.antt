-- `list` meets its contract: the page has the listing alone.
use borrow.Author.Rules.{rules}
use native.Mathlib.Omega.{arith}
use mathlib.Core.Path.{◌≡◌}
use lib.ListN.{length}
use Rattle.desk_format.proofs.Pages.{page_length, page_bytes}
use Rattle.desk_listing.specs.Listing.{listing}
use Rattle.desk_listing.proofs.Listed.{listing_fits}
use Rattle.desk_listing.proofs.list.Goals as goal

pub returns-clause-value : goal.returns-clause-value
returns-clause-value c = page_length c.new-page.ensures.length (omega (arith, listing_fits c.args.file.now)) c.write_listing.ensures

pub returns-clause-out_after : goal.returns-clause-out_after
returns-clause-out_after c = page_bytes (search rules) c.new-page.ensures.length (search rules) c.write_listing.ensures

pub returns-clause-upper_bound : goal.returns-clause-upper_bound
returns-clause-upper_bound c =
    let whole : c.write_listing.new.page.length ≡ length (listing c.args.file.now) = page_length c.new-page.ensures.length (omega (arith, listing_fits c.args.file.now)) c.write_listing.ensures in
    omega (arith, whole, listing_fits c.args.file.now)
