-- What has a size has a length and a kind, and ends within the trace.
use mathlib.Core.Path.{refl}
use Rattle.record.proofs.Starts.{size_of_rest}
use Rattle.record.proofs.parts.size_inside.Goals as goal

pub returns-clause-within : goal.returns-clause-within
returns-clause-within c =
    rw c.unwrap_or.ensures (size_of_rest _ c.args.at _ refl _ c.requires c.frame_of.ensures).1
