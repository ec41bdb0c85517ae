-- The text, and a newline behind it.
use native.Mathlib.Omega.{arith}
use Rattle.report.proofs.Pages.{both_put, put_as}
use Rattle.report.proofs.LineParts.{text_alone}
use Rattle.report.proofs.lines.text_line.Goals as goal

pub returns : goal.returns
returns c = put_as _ _ (both_put c.text.ensures c.put.ensures) (text_alone _) (omega arith)
