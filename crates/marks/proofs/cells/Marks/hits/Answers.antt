-- All eight threads are looked at.
use Rattle.std.proofs.Common.{◌≡◌, arith}
use Rattle.marks.specs.Testing.{hits}
use Rattle.marks.proofs.cells.Marks.hits.Goals as goal

pub returns : goal.returns
unfolding hits
returns c =
    let end : c.loop-t.t ≡ 8 = omega arith in
    rw (end, c.thread-at.ensures.0) at c.loop-t.invariant
