-- `judge_record` meets its contract: the laws of proofs/Records.antt, for a later record that cannot be read, that is
-- turned away, and that passes.
use mathlib.Core.Path.{sym, ap, ◌∙◌}
use Rattle.std.proofs.lemmas.Result.{err_from_is_err_and}
use Rattle.record.specs.Answers.{number_of, numbered}
use Rattle.area.specs.Cells.{event_at}
use Rattle.model.specs.Reading.{events}
use Rattle.judge.proofs.Records.{scanned_unread, scanned_forbidden, scanned_passes}
use Rattle.judge.proofs.run.judge_record.Goals as goal

pub returns-in_default : goal.returns-in_default
returns-in_default c =
    let args = c.args in
    rw c.later-refusal.ensures
    (scanned_unread args.trace.now args.b (event_at args.t.row) args.t args.tables.now args.marks.now
    args.work.now c.requires (number_of c.unwrap_err.result)
    (sym (ap numbered c.unwrap_err.ensures) ∙ c.scan_at-scanned.ensures))

pub returns-in_err-s : goal.returns-in_err-s
returns-in_err-s c =
    let args = c.args in
    let p = err_from_is_err_and c.from_residual.result c.from_residual.ensures.1 in
    rw (p.1, p.2)
    (scanned_forbidden args.trace.now args.b (event_at args.t.row) args.t args.tables.now args.marks.now
    args.work.now c.requires c.in-Ok.e c.in-Ok.ensures _ _ c.in_err-s.field-0.0 c.in_err-s.ensures _ _ _)

pub returns : goal.returns
returns c =
    let args = c.args in
    scanned_passes args.trace.now args.b (event_at args.t.row) args.t args.tables.now args.marks.now
    args.work.now c.requires c.in-Ok.e c.in-Ok.ensures _ _ c.in_ok-s.s c.in_ok-s.ensures
    _ (c.judge_event.ensures (events args.trace.now))
