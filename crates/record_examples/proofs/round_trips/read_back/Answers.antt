-- What writing answers says whether there is an event to read back.
use mathlib.Core.Path.{ap, ◌∙◌}
use Rattle.record.specs.Reading.{read_first}
use Rattle.record_examples.proofs.Typed.{two_byte_fields}
use Rattle.record_examples.proofs.RoundTrips.{back_read}
use Rattle.record_examples.proofs.round_trips.read_back.Goals as goal

pub returns-clause-answer : goal.returns-clause-answer
returns-clause-answer c =
    let wrote = c.in_ok-write.ensures in
    let small = two_byte_fields c.args.e _ c.well_formed.0 in
    c.read_first.ensures ∙ (ap read_first wrote.bytes ∙ back_read _ _ _ small wrote.answer)
