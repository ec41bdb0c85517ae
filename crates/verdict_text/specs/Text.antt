-- What the program `verdict` prints for its input: document 01, "The program `verdict`".
use Rattle.std.specs.Prelude.{ℕ, List, length, replicate, ltb}
use Rattle.record.specs.Tests.{◌gives◌else◌}
use Rattle.model.specs.Judge.{judge_of, cut_after}
use Rattle.report.specs.Lines.{refused_line, lines_of}
use Rattle.report.specs.Extent.{threads_of, finished_of}

-- "over 65,535 bytes it prints `refused 13 0`"; else the lines of the answer, with a work area of 32,768 numbers and a
-- cut buffer of 56
unfoldable pub text_of : List ℕ → List ℕ
text_of input =
    ltb 65535 (length input) gives refused_line 13 0 else
    lines_of (judge_of input 32768 56) (threads_of input) (finished_of input) (cut_after input 32768 (replicate 56 0))
