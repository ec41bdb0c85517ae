-- Invariant: the records that are left, looked at from here, give what all of them give from the start.
use Prim.Native.Nat.{◌-◌}
use Rattle.windows.specs.Finding.{looked_from}
use Rattle.windows.proofs.Looking.{Left}
use Rattle.windows.proofs.records.look.Given as goal

abbrev pub invariant-loop-e : goal.invariant-loop-e
invariant-loop-e l =
    Left l.trace l.work l.p l.q
    (looked_from l.trace l.work l.p l.q (l.q - l.initial.e) l.initial.e l.initial.at l.initial.found) l.e l.at l.found
