-- The invariant: `at` is where record i starts.
use mathlib.Core.Path.{◌≡◌}
use Rattle.record.specs.Parts.{start}
use Rattle.record.proofs.parts.place_of.Given as goal

abbrev pub invariant-loop-i : goal.invariant-loop-i
invariant-loop-i l = l.at ≡ start l.trace l.i
