-- `number` meets its contract: the last digit, after those of a tenth.
use Rattle.desk_format.proofs.Pages.{number_one, number_more}
use Rattle.desk_format.proofs.page.Page.+number.Goals as goal

pub returns-then-n-lt10 : goal.returns-then-n-lt10
returns-then-n-lt10 t c = number_one c.if-n-lt10.true c.glyph.ensures c.byte.ensures

pub returns : goal.returns
returns t c = number_more c.if-n-lt10.false c.ranges.n.fits c.glyph-2.ensures c.number.ensures c.byte-2.ensures
