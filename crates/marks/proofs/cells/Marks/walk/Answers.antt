-- The walk ends at the end of the chain, at `stop`, or where no turn is left; else one store more is marked.
use Rattle.std.proofs.Common.{◌≡◌, ◌+◌, ◌-◌, refl, arith}
use Rattle.marks.proofs.Loops.{walk_end, walk_more, walk_none}
use Rattle.marks.proofs.cells.Marks.walk.Goals as goal

pub returns-then-p-eq0 : goal.returns-then-p-eq0
returns-then-p-eq0 c =
    let told = walk_end _ _ _ _ _ _ _ _ c.loop-n.invariant c.then-p-eq0.either in
    record { value = told.0; marks_after = told.1 }

pub loop-n-preserved : goal.loop-n-preserved
loop-n-preserved c =
    let turn = c.loop-n in
    let one_less : 2048 - (turn.n + 1) ≡ 2048 - turn.n - 1 = omega arith in
    rw one_less
    (walk_more _ _ _ _ _ _ _ turn.hit _ _ _ _ turn.invariant (omega arith) c.if-p-eq0.false c.if-p-stop.false
    c.mark-hit.ensures.marks_after c.get-next.ensures c.mark-hit.ensures.value refl)

pub returns-after-loop-n : goal.returns-after-loop-n
returns-after-loop-n c =
    let told = walk_none _ _ _ _ _ _ _ _ c.loop-n.invariant (omega arith) in
    record { value = told.0; marks_after = told.1 }
