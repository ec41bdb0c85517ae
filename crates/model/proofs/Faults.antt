-- A broken answer's kind goes by two tests (`fault_of`), and only a flush fault has more than its name: so what carries
-- kinds over is known by what it makes of a flush fault.
use mathlib.Core.Path.{◌≡◌}
use mathlib.Core.Bool.{Bool, true, false}
use Rattle.record.specs.Tests.{◌gives◌else◌}
use Rattle.model.specs.Answers.{Fault, contradiction, impossible}

pub by_kind :
    (f g : Fault → Fault) → f contradiction ≡ g contradiction → f impossible ≡ g impossible
    → (same one_line : Bool) (x y : Fault) → f x ≡ g y
    → f (same gives contradiction else one_line gives impossible else x)
    ≡ g (same gives contradiction else one_line gives impossible else y)
by_kind f g contradictions impossibles true one_line x y flushes = contradictions
by_kind f g contradictions impossibles false true x y flushes = impossibles
by_kind f g contradictions impossibles false false x y flushes = flushes
