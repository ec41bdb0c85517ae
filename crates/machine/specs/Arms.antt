-- The code's match on the kind of an event, with ranges for flushes, fences and skips: what each kind chooses.
use Rattle.std.specs.Prelude.{ℕ, eqb}
use Rattle.record.specs.Tests.{◌gives◌else◌}
use Rattle.model.specs.Rules.{within}

unfoldable pub by_kind : {A : Type 0} → ℕ → A → A → A → A → A → A → A → A → A → A → A → A → A → A
by_kind k issue commit load flush fence crash skip locked signal wait opening closing other =
    eqb k 2 gives issue else
    eqb k 3 gives commit else
    eqb k 4 gives load else
    within 5 6 k gives flush else
    within 7 8 k gives fence else
    eqb k 9 gives crash else
    within 10 11 k gives skip else
    eqb k 12 gives locked else
    eqb k 13 gives signal else
    eqb k 14 gives wait else
    eqb k 15 gives opening else
    eqb k 16 gives closing else
    other
