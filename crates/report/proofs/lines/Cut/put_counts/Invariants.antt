-- The invariant: the counts of the first t threads are put.
use Prim.Native.Nat.{◌+◌, ◌*◌}
use Rattle.report.specs.Lines.{spaced, counts_of}
use Rattle.report.specs.Page.{Puts}
use Rattle.report.proofs.lines.Cut.put_counts.Given as goal

abbrev pub invariant-loop-t : goal.invariant-loop-t
invariant-loop-t l = Puts l.initial.page (spaced (counts_of l.self.counts.now l.t (l.j + 1))) (6 * l.t) l.page
