-- Its lines, one behind the other.
use native.Mathlib.Omega.{arith}
use mathlib.Core.Path.{refl}
use Rattle.report.specs.Lines.{broken_lines}
use Rattle.report.proofs.Pages.{both_put, put_as}
use Rattle.report.proofs.lines.broken_lines.Goals as goal

pub returns : goal.returns
unfolding broken_lines
returns c =
    let front = both_put c.number_line.ensures c.text_line.ensures in
    let loaded = both_put front c.number_line-2.ensures in
    let missed = both_put loaded c.number_line-3.ensures in
    let seen = both_put missed c.number_line-4.ensures in
    put_as _ _ (both_put seen c.kind_line.ensures) refl (omega arith)
