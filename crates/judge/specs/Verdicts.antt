-- The verdict at the end of a run, and the cut buffer: the run's refusal, the evidence of the load that broke the
-- trace and where a flush may go, or the least choice.
use Rattle.std.specs.Prelude.{ℕ, ◌-◌, min, ◌&&◌, List, eqb, Result, Ok, Err, Option, Some, None, is_none}
use Rattle.record.specs.Tests.{◌gives◌else◌}
use Rattle.model.specs.Answers.{percent}
use Rattle.model.specs.declared.Kind.{Kind}
use Rattle.model.specs.declared.Kind.TheVariants.{Contradiction, Flush, Impossible}
use Rattle.model.specs.declared.Verdict.{Verdict}
use Rattle.model.specs.declared.Verdict.TheVariants.{Robust, Broken}
use Rattle.model.specs.declared.Refusal.{Refusal}
use Rattle.area.specs.Cells.{one_line_w}
use Rattle.machine.specs.Tables.{committed_in}
use Rattle.marks.specs.declared.cells.Marks.{Marks}
use Rattle.marks.specs.Marks.{broken_at}
use Rattle.marks.specs.Ending.{copied, stores_in}
use Rattle.windows.specs.Finding.{windows_by}
use Rattle.judge.specs.declared.loads.Evidence.{Evidence}
use Rattle.judge.specs.declared.stop.Stop.{Stop}
use Rattle.judge.specs.Judging.{evidence_at}
use Rattle.judge.specs.Runs.{number_of}

-- two stores that are equal are on one line
abbrev pub kind_by : List ℕ → List ℕ → ℕ → ℕ → Kind
kind_by bytes work missing observed =
    one_line_w work missing observed gives (eqb missing observed gives Contradiction else Impossible) else
    Flush (windows_by bytes work missing observed)

abbrev pub broken_by : List ℕ → List ℕ → ℕ → Evidence → Verdict
broken_by bytes work events f =
    Broken events f.load f.missing f.observed (kind_by bytes work f.missing f.observed)

abbrev pub share_by : List ℕ → List ℕ → ℕ
share_by least tables = min (percent (stores_in least) (committed_in tables)) 65535

-- of an accepted trace, by the load that breaks it
abbrev pub verdict_by : List ℕ → ℕ → List ℕ → Marks → List ℕ → Option ℕ → Verdict
verdict_by bytes events tables m work None = Robust events (share_by m.cut tables)
verdict_by bytes events tables m work (Some load) = broken_by bytes work events (evidence_at work m load)

-- of a run that ended so before this event: number 1 where no record was left
abbrev pub verdict_after : List ℕ → Stop → ℕ → List ℕ → Marks → List ℕ → Result Verdict Refusal
verdict_after bytes stop event tables m work =
    let events = event - 1 in
    eqb (number_of stop) 1 gives Ok (verdict_by bytes events tables m work (broken_at m)) else
    Err (record { number = number_of stop; event = event })

abbrev pub cut_from : Stop → Marks → List ℕ → List ℕ
cut_from stop m cut = (eqb (number_of stop) 1 && is_none (broken_at m)) gives copied 56 m.cut cut else cut
