-- Its lines, one behind the other.
use native.Mathlib.Omega.{arith}
use Rattle.report.proofs.Pages.{both_put, put_as}
use Rattle.report.proofs.LineParts.{bounded}
use Rattle.report.proofs.lines.robust_lines.Goals as goal

pub returns : goal.returns
returns c =
    let cut = c.args.cut in
    let front = both_put c.number_line.ensures c.text_line.ensures in
    let parts = both_put (both_put front c.put_lines.ensures) c.number_line-2.ensures in
    put_as _ _ parts (bounded _ _ _ _ _ cut.few_threads cut.few_stretches) (omega arith)
