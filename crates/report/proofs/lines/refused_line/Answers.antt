-- The word, the two numbers and a newline, one behind the other.
use native.Mathlib.Omega.{arith}
use Rattle.report.specs.Lines.{refused_line}
use Rattle.report.proofs.Pages.{both_put, put_as}
use Rattle.report.proofs.LineParts.{two_numbers}
use Rattle.report.proofs.lines.refused_line.Goals as goal

pub returns : goal.returns
unfolding refused_line
returns c =
    let front = both_put (both_put c.text.ensures c.field.ensures) c.field-2.ensures in
    put_as _ _ (both_put front c.put.ensures) (two_numbers _ _ _) (omega arith)
