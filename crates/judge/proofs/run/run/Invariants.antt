-- Between two records the cut buffer is as lent, and the run has come to the record at the cursor's position. Less is
-- left after each round of the loop.
use mathlib.Core.Path.{◌≡◌}
use Prim.Native.Nat.{◌-◌}
use lib.ListN.{length}
use Rattle.area.specs.Cells.{event_at}
use Rattle.judge.specs.Runs.{Reached}
use Rattle.judge.proofs.run.run.Given as goal

abbrev pub invariant-loop-next : goal.invariant-loop-next
invariant-loop-next l = record {
  as_lent : l.cut ≡ l.initial.cut;
  reached : Reached l.trace l.b (event_at l.t.row) l.t l.tables l.marks l.work;
}

abbrev pub decreases-loop-next : goal.decreases-loop-next
decreases-loop-next l = length l.trace - l.t.at
