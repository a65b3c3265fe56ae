-- `write_words` meets its contract: the page has the words alone, which fit.
use borrow.Author.Rules.{rules}
use native.Mathlib.Omega.{arith}
use mathlib.Core.Path.{◌≡◌}
use lib.ListN.{length}
use Rattle.meaning.specs.Answers.{refusal_number}
use Rattle.desk_format.proofs.Pages.{page_length, page_written}
use Rattle.desk_texts.specs.Words.{refusal_text}
use Rattle.desk_texts.proofs.Saying.{words_fit}
use Rattle.desk_texts.proofs.words.write_words.Goals as goal

pub returns-clause-written : goal.returns-clause-written
returns-clause-written c = page_written (search rules) c.new-page.ensures.length (search rules) (omega (arith, words_fit (refusal_number c.args.why) c.args.text.now c.args.place)) c.add_words.ensures

pub returns-clause-upper_bound : goal.returns-clause-upper_bound
returns-clause-upper_bound c =
    let fits = words_fit (refusal_number c.args.why) c.args.text.now c.args.place in
    let whole : c.add_words.new.page.length ≡ length (refusal_text (refusal_number c.args.why) c.args.text.now c.args.place) = page_length c.new-page.ensures.length (omega (arith, fits)) c.add_words.ensures in
    omega (arith, whole, fits)
