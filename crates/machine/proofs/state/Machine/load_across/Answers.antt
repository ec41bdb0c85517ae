-- A crossing load that counts is held by nothing; behind one that does not, what is held is as defined.
use Rattle.std.proofs.Common.{rules}
use Rattle.std.specs.Prelude.{Ok}
use Rattle.machine.proofs.RuleLaws.{at_once, aside}
use Rattle.machine.proofs.state.Machine.load_across.Goals as goal

pub returns-then-step : goal.returns-then-step
returns-then-step c =
    let args = c.args in
    at_once args.self args.tables.now args.work.now args.t args.x args.s (search rules) (Ok c.in_ok-step.step) _ _
    c.in_ok-step.ensures c.if-step.true

pub returns : goal.returns
returns c =
    let args = c.args in
    aside args.self args.tables.now args.work.now args.t args.x args.s (search rules) (Ok c.in_ok-step.step) _ _
    c.in_ok-step.ensures c.if-step.false _ _
    c.set_aside.ensures.tables_after c.set_aside.ensures.work_after
