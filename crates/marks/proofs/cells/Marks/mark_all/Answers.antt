-- The loads end at the link 0, or where no turn is left; else one load more is marked.
use Rattle.std.proofs.Common.{◌≡◌, ◌+◌, ◌-◌, arith}
use Rattle.marks.proofs.Loops.{all_end, all_more, all_out}
use Rattle.marks.proofs.cells.Marks.mark_all.Goals as goal

pub returns-then-k-eq0 : goal.returns-then-k-eq0
returns-then-k-eq0 c = all_end _ _ _ _ _ c.loop-n.invariant c.if-k-eq0.true

pub loop-n-preserved : goal.loop-n-preserved
loop-n-preserved c =
    let turn = c.loop-n in
    let one_less : 2048 - (turn.n + 1) ≡ 2048 - turn.n - 1 = omega arith in
    rw one_less
    (all_more _ _ _ _ _ _ _ turn.invariant (omega arith) c.if-k-eq0.false c.mark_held.ensures c.get-k.ensures)

pub returns-after-loop-n : goal.returns-after-loop-n
returns-after-loop-n c = all_out _ _ _ _ _ c.loop-n.invariant (omega arith)
