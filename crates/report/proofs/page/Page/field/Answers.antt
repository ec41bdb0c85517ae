-- A space, and the number behind it.
use Rattle.report.proofs.Pages.{both_put}
use Rattle.report.proofs.page.Page.field.Goals as goal

pub returns : goal.returns
returns c = both_put c.put.ensures c.number.ensures
