-- Invariant: the first u numbers are joined, and none is added.
use Rattle.std.proofs.Common.{◌≡◌, length}
use Rattle.area.specs.Cells.{joined}
use Rattle.area.proofs.join.Given as goal

abbrev pub invariant-loop-u : goal.invariant-loop-u
invariant-loop-u l = record {
  size : length l.numbers ≡ length l.initial.numbers;
  is_so : l.numbers ≡ joined l.u l.work l.s l.to l.initial.numbers;
}
