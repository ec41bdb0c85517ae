-- The lines are few enough to have room, so that they stand at the start of the buffer.
use mathlib.Core.Path.{◌∙◌}
use borrow.Author.Rules.{rules}
use Rattle.report.proofs.Pages.{from_start}
use Rattle.report.proofs.lines.report.Goals as goal

pub returns : goal.returns
returns c =
    let told = from_start c.new-page.ensures c.lines.ensures (search rules) in
    record { size = c.len.ensures ∙ told.0; bytes = told.1.0; front = rw c.len.ensures told.1.1 }
