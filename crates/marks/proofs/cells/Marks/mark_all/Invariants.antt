-- Invariant: the loads from here on, over the turns that are left, leave what all of them leave.
use Rattle.std.proofs.Common.{◌-◌}
use Rattle.marks.specs.Judged.{all_held}
use Rattle.marks.proofs.Loops.{Next}
use Rattle.marks.proofs.cells.Marks.mark_all.Given as goal

abbrev pub invariant-loop-n : goal.invariant-loop-n
invariant-loop-n l = Next l.rows (all_held 2048 l.rows l.initial.self l.initial.k) (2048 - l.n) l.self l.k
