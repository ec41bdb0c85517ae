-- What reading and writing answer says how far the record came.
use mathlib.Core.Path.{refl}
use Rattle.record_examples.proofs.RoundTrips.{again_unread}
use Rattle.record_examples.proofs.round_trips.write_again.Goals as goal

pub returns-in_err-read-clause-bytes : goal.returns-in_err-read-clause-bytes
returns-in_err-read-clause-bytes c = (again_unread _ _ _ _ refl c.in_err-read.ensures).1
