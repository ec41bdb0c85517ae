-- The load rule's cases, behind the tests of the place.
use mathlib.Core.Path.{◌∙◌}
use Rattle.machine.specs.Twin.{state_of, world}
use Rattle.machine.proofs.RuleLaws.{load_waits, load_memory_is}
use Rattle.machine.proofs.state.Machine.load.Goals as goal

pub returns-in-Some : goal.returns-in-Some
returns-in-Some c =
    let args = c.args in
    let w = world (state_of args.self) args.tables.now args.work.now in
    let place = c.in_ok-t.ensures in
    let waits = c.in-Some.ensures in
    rw (← place.2, ← place.3)
    (c.load_only.ensures ∙ load_waits w _ _ args.s (rw (place.2, place.3) place.0) _ waits.0 waits.1)

pub returns : goal.returns
returns c =
    let args = c.args in
    let w = world (state_of args.self) args.tables.now args.work.now in
    let place = c.in_ok-t.ensures in
    rw (← place.2, ← place.3)
    (c.load_memory.ensures ∙ load_memory_is w _ _ args.s (rw (place.2, place.3) place.0) c.in_default.ensures)
