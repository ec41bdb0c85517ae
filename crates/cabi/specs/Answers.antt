-- Answers as two-byte numbers in a lent array: its layout, which gorbuzte.h gives names to.
use Rattle.std.specs.Prelude.{ℕ, ◌+◌, ◌%◌, List, [], ◌∷◌, ◌++◌, replicate}
use Rattle.model.specs.Windows.{Places, none, between}
use Rattle.model.specs.Answers.{Fault, contradiction, flush, impossible, Answer, robust, broken, Standing}
use Rattle.model.specs.Answers.{before, after, same, neither}
use Rattle.model.specs.Answers as answers

-- a window: its first and its last place, 0 and 0 for none
abbrev pub window_numbers : Places → List ℕ
window_numbers none = 0 ∷ 0 ∷ []
window_numbers (between first last) = first ∷ last ∷ []

-- windows, one thread after the other
abbrev pub windows_numbers : List Places → List ℕ
windows_numbers [] = []
windows_numbers (w ∷ ws) = window_numbers w ++ windows_numbers ws

-- a kind that has no windows, by its number: the primary thread and the windows are 0
abbrev pub bare_numbers : ℕ → List ℕ
bare_numbers kind = kind ∷ replicate 17 0

-- a fault: 1 contradiction, 2 flush or 3 impossible; the primary thread + 1, where 0 comes after 65,535; the windows
abbrev pub fault_numbers : Fault → List ℕ
fault_numbers contradiction = bare_numbers 1
fault_numbers (flush primary windows) = 2 ∷ (primary + 1) % 65536 ∷ windows_numbers windows
fault_numbers impossible = bare_numbers 3

-- a broken answer: events, load, missing, observed, then the fault's numbers
abbrev pub broken_numbers : ℕ → ℕ → ℕ → ℕ → List ℕ → List ℕ
broken_numbers events load missing observed fault = 0 ∷ 0 ∷ 2 ∷ events ∷ 0 ∷ load ∷ missing ∷ observed ∷ fault

-- a verdict: the refusal's number or 0, its event; 0 refused, 1 robust or 2 broken; events, share; load, missing,
-- observed, and the fault's numbers. What an answer does not have is 0
abbrev pub verdict_numbers : Answer → List ℕ
verdict_numbers (answers.refused number event) = number ∷ event ∷ replicate 24 0
verdict_numbers (robust events share) = 0 ∷ 0 ∷ 1 ∷ events ∷ share ∷ replicate 21 0
verdict_numbers (broken events load missing observed fault) =
    broken_numbers events load missing observed (fault_numbers fault)

-- how two stores stand: the refusal's number or 0, its event; 1 before, 2 after, 3 same, 4 neither
abbrev pub standing_numbers : Standing → List ℕ
standing_numbers (answers.refused number event) = number ∷ event ∷ 0 ∷ []
standing_numbers before = 0 ∷ 0 ∷ 1 ∷ []
standing_numbers after = 0 ∷ 0 ∷ 2 ∷ []
standing_numbers same = 0 ∷ 0 ∷ 3 ∷ []
standing_numbers neither = 0 ∷ 0 ∷ 4 ∷ []
