-- The invariant: the records before `at` can be read, and their crashes are counted, up to 7. The measure: the bytes
-- left.
use Prim.Native.Nat.{◌≤◌, ◌-◌}
use lib.ListN.{length}
use Rattle.report.proofs.Extents.{Counted}
use Rattle.report.proofs.shape.finished_in.Given as goal

abbrev pub invariant-loop-read : goal.invariant-loop-read
invariant-loop-read l = (l.finished ≤ 7) × Counted l.trace l.at l.finished

abbrev pub decreases-loop-read : goal.decreases-loop-read
decreases-loop-read l = length l.trace - l.at
