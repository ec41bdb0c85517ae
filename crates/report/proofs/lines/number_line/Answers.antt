-- The text, the number and a newline, one behind the other.
use native.Mathlib.Omega.{arith}
use Rattle.report.proofs.Pages.{both_put, put_as}
use Rattle.report.proofs.LineParts.{one_number}
use Rattle.report.proofs.lines.number_line.Goals as goal

pub returns : goal.returns
returns c =
    let parts = both_put (both_put c.text.ensures c.field.ensures) c.put.ensures in
    put_as _ _ parts (one_number _ _) (omega arith)
