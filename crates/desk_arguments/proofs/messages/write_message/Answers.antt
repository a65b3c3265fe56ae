-- `write_message` meets its contract: the page has the message alone, which fits.
use borrow.Author.Rules.{rules}
use native.Mathlib.Omega.{arith}
use mathlib.Core.Path.{◌≡◌}
use lib.ListN.{length}
use Rattle.desk_format.proofs.Pages.{page_length, page_written}
use Rattle.desk_arguments.specs.Messages.{message_text}
use Rattle.desk_arguments.proofs.Said.{message_fits}
use Rattle.desk_arguments.proofs.messages.write_message.Goals as goal

pub returns-clause-written : goal.returns-clause-written
returns-clause-written c = page_written (search rules) c.new-page.ensures.length (search rules) (omega (arith, message_fits c.args.command c.args.request)) c.add_message.ensures

pub returns-clause-upper_bound : goal.returns-clause-upper_bound
returns-clause-upper_bound c =
    let fits = message_fits c.args.command c.args.request in
    let whole : c.add_message.new.page.length ≡ length (message_text c.args.command c.args.request) = page_length c.new-page.ensures.length (omega (arith, fits)) c.add_message.ensures in
    omega (arith, whole, fits)
