-- Behind the tests of the place and of the queue: the load rule; then the load's effect is followed by the store's.
use Rattle.std.proofs.lemmas.Result.{err_from_is_err_and}
use Rattle.machine.specs.Twin.{state_of, world}
use Rattle.machine.proofs.RuleLaws.{number_not_0, locked_refused, locked_passes}
use Rattle.machine.proofs.state.Machine.locked.Goals as goal

pub returns-in_err-r : goal.returns-in_err-r
returns-in_err-r c =
    let args = c.args in
    let w = world (state_of args.self) args.tables.now args.work.now in
    let place = c.in_ok-t.ensures in
    let none = rw c.thread_of.ensures at c.if-thread_of-ne0.false in
    let same = err_from_is_err_and c.from_residual-in_err-r.result c.from_residual-in_err-r.ensures.1 in
    rw (same.1, same.2, ← place.2, ← place.3)
    (locked_refused w _ _ args.s (rw (place.2, place.3) place.0) none _ c.in_err-r.ensures
    (number_not_0 c.in_err-r.field-0.0))

pub returns : goal.returns
returns c =
    let place = c.in_ok-t.ensures in
    let none = rw c.thread_of.ensures at c.if-thread_of-ne0.false in
    rw (← place.2, ← place.3)
    (locked_passes c.args.self _ _ _ _ _ (rw (place.2, place.3) place.0) none c.in_ok-r.r _ _ c.in_ok-r.ensures _ _
    c.exchange.ensures.tables_after c.exchange.ensures.work_after)
