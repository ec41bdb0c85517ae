-- Each record that is read moves on and is counted; at one that cannot be read the count is the whole.
use mathlib.Core.Path.{sym}
use native.Mathlib.Omega.{arith}
use Rattle.report.proofs.Extents.{none_counted, moves_on, one_more, at_unread}
use Rattle.report.proofs.shape.finished_in.Goals as goal

pub loop-read-init : goal.loop-read-init
loop-read-init c = (omega arith, none_counted _)

pub loop-read-smaller : goal.loop-read-smaller
loop-read-smaller c = omega (arith, moves_on _ c.loop-read.invariant.1 (sym c.in-Ok.ensures))

pub loop-read-preserved : goal.loop-read-preserved
loop-read-preserved c =
    let counted = one_more _ c.loop-read.invariant.1 (sym c.in-Ok.ensures) in
    let count_is = rw c.kind_of.ensures at c.crashed-finished.ensures in
    (omega arith, rw count_is counted)

pub returns : goal.returns
returns c = at_unread _ c.loop-read.invariant.1 (sym c.in_default.ensures)
