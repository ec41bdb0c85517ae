-- Behind a record that cannot be framed none starts later.
use mathlib.Core.Path.{sym, ◌∙◌}
use Rattle.record.proofs.Starts.{place_stays}
use Rattle.record.proofs.parts.place_of.Goals as goal

pub returns-then-n-eq0-clause-value : goal.returns-then-n-eq0-clause-value
returns-then-n-eq0-clause-value c =
    let loop = c.loop-i in
    let none = sym c.size_inside-n.ensures.value ∙ c.if-n-eq0.true in
    place_stays _ loop.i c.args.e loop.at loop.auto.i-end loop.invariant none
