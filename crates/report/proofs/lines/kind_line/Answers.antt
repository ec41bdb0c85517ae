-- Each kind has its text.
use native.Mathlib.Omega.{arith}
use mathlib.Core.Path.{refl}
use Rattle.report.proofs.Pages.{put_as}
use Rattle.report.proofs.lines.kind_line.Goals as goal

pub returns-in-Contradiction : goal.returns-in-Contradiction
returns-in-Contradiction c = rw c.in-Contradiction.is (put_as _ _ c.text_line.ensures refl (omega arith))

pub returns-in-Flush : goal.returns-in-Flush
returns-in-Flush c = rw c.in-Flush.is (put_as _ _ c.text_line-in-Flush.ensures refl (omega arith))

pub returns-in-Impossible : goal.returns-in-Impossible
returns-in-Impossible c = rw c.in-Impossible.is (put_as _ _ c.text_line-in-Impossible.ensures refl (omega arith))
