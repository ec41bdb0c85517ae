-- Invariant: the first t threads are done.
use mathlib.Core.Path.{◌≡◌}
use Rattle.machine.specs.Effects.{finished}
use Rattle.machine.proofs.effects.finish.Given as goal

abbrev pub invariant-loop-t : goal.invariant-loop-t
invariant-loop-t l = l.tables ≡ finished l.t l.initial.tables l.j
