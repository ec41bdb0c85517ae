-- Invariant: the numbers before this one are summed, and each is a two-byte number.
use Rattle.std.proofs.Common.{◌≡◌, ◌*◌, ◌≤◌}
use Rattle.area.specs.Cells.{total}
use Rattle.area.proofs.total.Given as goal

abbrev pub invariant-loop-x : goal.invariant-loop-x
invariant-loop-x l = record { is_so : l.sum ≡ total l.x-index l.numbers l.from; few : l.sum ≤ 65535 * l.x-index }
