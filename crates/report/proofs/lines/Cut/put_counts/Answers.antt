-- One count more each time.
use native.Mathlib.Omega.{arith}
use Rattle.report.proofs.Pages.{both_put, put_as}
use Rattle.report.proofs.LineParts.{no_counts, next_count}
use Rattle.report.proofs.lines.Cut.put_counts.Goals as goal

pub loop-t-init : goal.loop-t-init
loop-t-init c = no_counts _ _ _

pub loop-t-preserved : goal.loop-t-preserved
loop-t-preserved c =
    let more = both_put c.loop-t.invariant (rw c.count.ensures at c.field.ensures) in
    put_as _ _ more (next_count _ _ _) (omega arith)
