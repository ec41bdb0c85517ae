-- Invariant: the walk from here over the turns that are left is the whole walk, and what was found or is found from
-- here on is what the whole walk finds.
use Rattle.std.proofs.Common.{◌-◌}
use Rattle.marks.specs.Marking.{walked}
use Rattle.marks.specs.Testing.{walk_hits}
use Rattle.marks.proofs.Loops.{Left}
use Rattle.marks.proofs.cells.Marks.walk.Given as goal

abbrev pub invariant-loop-n : goal.invariant-loop-n
invariant-loop-n l =
    Left l.rows l.stop (walked 2048 l.rows l.initial.self l.initial.p l.stop)
    (walk_hits 2048 l.rows l.initial.self.cut l.initial.p l.stop) (2048 - l.n) l.self l.p l.hit
