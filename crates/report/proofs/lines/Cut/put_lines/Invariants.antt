-- The invariant: the lines of the first j stretches are put.
use Prim.Native.Nat.{◌*◌}
use Rattle.report.specs.Lines.{cut_lines}
use Rattle.report.specs.Page.{Puts}
use Rattle.report.proofs.lines.Cut.put_lines.Given as goal

abbrev pub invariant-loop-j : goal.invariant-loop-j
invariant-loop-j l = Puts l.initial.page (cut_lines l.self.counts.now l.self.threads l.j) (58 * l.j) l.page
