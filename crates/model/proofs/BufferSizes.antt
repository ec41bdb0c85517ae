-- The sizes of the lent buffers: document 01's examples of refusals 14 and 15, "Order: 14, 15", and the sizes that
-- pass, whatever the trace. Computed.
use Prim.Native.Nat.{ℕ}
use mathlib.Core.Path.{◌≡◌, refl}
use mathlib.Core.List.{List, [], ◌∷◌}
use Rattle.model.specs.Reading.{reading_of}
use Rattle.model.specs.Answers.{refused}
use Rattle.model.specs.Judge.{reading_answer, judge_of}

-- a work area of 32,767 numbers; cut buffers of 55 and 57; both wrong; both right
pub refusals_14_and_15 :
    (bytes : List ℕ)
    → judge_of bytes 32767 56 ∷ judge_of bytes 32768 55 ∷ judge_of bytes 32768 57 ∷ judge_of bytes 32767 55
    ∷ judge_of bytes 32768 56 ∷ []
    ≡ refused 14 0 ∷ refused 15 0 ∷ refused 15 0 ∷ refused 14 0 ∷ reading_answer bytes (reading_of bytes) ∷ []
unfolding judge_of
refusals_14_and_15 bytes = refl
