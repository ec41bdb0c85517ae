-- The cut that the report shows is bounded as the definition bounds it.
use native.Mathlib.Omega.{arith}
use Rattle.report.proofs.Pages.{put_as}
use Rattle.report.proofs.LineParts.{bounded_once}
use Rattle.report.proofs.lines.lines.Goals as goal

pub returns-in-Ok-Robust : goal.returns-in-Ok-Robust
returns-in-Ok-Robust c =
    let arm = c.in-Ok-Robust in
    let cut = c.new-cut.ensures in
    let robust = rw arm.is at arm.field-0-is in
    rw (arm.is, robust)
    (put_as _ _ c.robust_lines.ensures (bounded_once _ _ _ _ cut.counts cut.threads cut.finished) (omega arith))
