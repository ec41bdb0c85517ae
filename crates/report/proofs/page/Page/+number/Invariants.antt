-- The measure is the number, which a division by 10 makes smaller.
use Rattle.report.proofs.page.Page.+number.Given as goal

abbrev pub decreases-number : goal.decreases-number
decreases-number l = l.v
