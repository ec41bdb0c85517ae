-- The output afterwards, by whether the numbers name an event.
use Rattle.std.proofs.Common.{sym, ◌∙◌}
use Rattle.cabi.proofs.Naming.{unnamed, written_as}
use Rattle.cabi.proofs.records.write.Goals as goal

pub returns-in_err-event-clause-output_after : goal.returns-in_err-event-clause-output_after
returns-in_err-event-clause-output_after c =
    (unnamed c.args.numbers _ (sym c.event_named.ensures ∙ c.in_err-event.ensures.ok_part)).1

pub returns-clause-output_after : goal.returns-clause-output_after
returns-clause-output_after c =
    let named_is = sym c.event_named.ensures ∙ c.in_ok-event.ensures.ok_part in
    c.write.ensures.bytes ∙ (written_as c.args.numbers _ _ named_is).1
