-- One byte more each time.
use borrow.Author.Rules.{rules}
use Rattle.report.proofs.Pages.{nothing_put, next_byte}
use Rattle.report.proofs.page.Page.text.Goals as goal

pub loop-b-init : goal.loop-b-init
loop-b-init c = nothing_put _

pub loop-b-preserved : goal.loop-b-preserved
loop-b-preserved c = next_byte _ c.loop-b.invariant (search rules) c.put.ensures
