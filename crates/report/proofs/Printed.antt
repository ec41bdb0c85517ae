-- Document 01, "The program `verdict`": what cases 1 and 2 print in whole, and the line of a refusal, computed by the
-- definitions from the answers of cases 1, 2 and 8. The kind of case 1 is that of document 02, job 5; on two cache
-- lines it would be flush, and print so.
use mathlib.Core.Path.{◌≡◌, refl}
use mathlib.Core.List.{List, [], ◌∷◌}
use Prim.Native.Nat.{ℕ}
use Rattle.model.specs.Windows.{Places}
use Rattle.model.specs.Answers.{refused, robust, broken, flush, impossible, tabulate}
use Rattle.report.specs.Decimal.{digits_within, digits}
use Rattle.report.specs.Lines.{ascii, spaced, line, count_at, cut_line, cut_lines}
use Rattle.report.specs.Lines.{refused_line, robust_lines, broken_lines, lines_of}

pub case_1_prints :
    lines_of (broken 11 11 5 7 impossible) 1 1 []
    ≡ ascii "events 11\nverdict broken\nload 11\nmissing 5\nobserved 7\nkind impossible\n"
unfolding broken_lines line spaced digits digits_within
case_1_prints = refl

-- whatever windows the answer has: "The program's lines are as before." (document 02, job 1)
pub case_1_on_two_lines_prints :
    (primary : ℕ) (windows : List Places)
    → lines_of (broken 11 11 5 7 (flush primary windows)) 1 1 []
    ≡ ascii "events 11\nverdict broken\nload 11\nmissing 5\nobserved 7\nkind flush\n"
unfolding broken_lines line spaced digits digits_within
case_1_on_two_lines_prints primary windows = refl

pub case_2_prints : lines_of (robust 7 50) 2 1 (0 ∷ 1 ∷ []) ≡ ascii "events 7\nverdict robust\ncut 1 0 1\nshare 50\n"
unfolding robust_lines cut_lines cut_line count_at tabulate line spaced digits digits_within
case_2_prints = refl

pub case_8_prints : lines_of (refused 9 3) 1 1 [] ≡ ascii "refused 9 3\n"
unfolding refused_line line spaced digits digits_within
case_8_prints = refl
