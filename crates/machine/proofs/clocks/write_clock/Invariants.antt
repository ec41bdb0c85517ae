-- Invariant: the first u columns are the thread's.
use mathlib.Core.Path.{◌≡◌}
use Rattle.machine.specs.Effects.{clocked}
use Rattle.machine.proofs.clocks.write_clock.Given as goal

abbrev pub invariant-loop-u : goal.invariant-loop-u
invariant-loop-u l = l.work ≡ clocked l.u l.tables l.t l.row l.initial.work
