-- The word, the stretch's number, the counts and a newline, one behind the other.
use native.Mathlib.Omega.{arith}
use Rattle.report.specs.Lines.{cut_line}
use Rattle.report.proofs.Pages.{both_put, put_as}
use Rattle.report.proofs.LineParts.{number_and_more}
use Rattle.report.proofs.lines.Cut.put_line.Goals as goal

pub returns : goal.returns
unfolding cut_line
returns c =
    let front = both_put (both_put c.text.ensures c.field.ensures) c.put_counts.ensures in
    put_as _ _ (both_put front c.put.ensures) (number_and_more _ _ _) (omega arith)
