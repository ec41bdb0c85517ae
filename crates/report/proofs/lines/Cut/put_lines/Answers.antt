-- One line more each time; of 7 stretches at most there are at most 7 lines.
use native.Mathlib.Omega.{arith}
use Rattle.report.proofs.Pages.{both_put, put_as}
use Rattle.report.proofs.LineParts.{no_cut_lines, next_cut_line}
use Rattle.report.proofs.lines.Cut.put_lines.Goals as goal

pub loop-j-init : goal.loop-j-init
loop-j-init c = no_cut_lines _ _ _

pub loop-j-preserved : goal.loop-j-preserved
loop-j-preserved c =
    let more = both_put c.loop-j.invariant c.put_line.ensures in
    put_as _ _ more (next_cut_line _ _ _) (omega arith)
