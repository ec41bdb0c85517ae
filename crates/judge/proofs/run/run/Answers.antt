-- `run` meets its contract: each round of the loop takes the run on by a record, and less is left after it; where a
-- record ends the run, what is answered is what the definitions say (proofs/Endings.antt).
use native.Mathlib.Omega.{arith}
use Rattle.area.specs.Cells.{event_at}
use Rattle.judge.proofs.Records.{reached_here, less_left}
use Rattle.judge.proofs.Endings.{stopped_with_cut, stopped_answers}
use Rattle.judge.proofs.run.run.Goals as goal

pub loop-next-smaller : goal.loop-next-smaller
loop-next-smaller c =
    let here = c.loop-next in
    less_left c.args.trace.now c.in-Ok.b (event_at here.t.row) here.t here.tables here.marks here.work
    here.invariant.reached c.in-Ok-judge_record.next _ _ _ c.in-Ok-judge_record.ensures

pub loop-next-preserved : goal.loop-next-preserved
loop-next-preserved c = record {
  as_lent = c.loop-next.invariant.as_lent;
  reached = reached_here c.args.trace.now c.in-Ok.b _ c.in-Ok-judge_record.next _ _ _ c.in-Ok-judge_record.ensures;
}

pub returns-clause-answers_as_defined : goal.returns-clause-answers_as_defined
returns-clause-answers_as_defined c =
    rw (c.verdict.ensures.value, c.event_at-event.ensures)
    (stopped_answers c.args.trace.now c.in-Ok.b _ _ _ _ _ c.in-Err-judge_record.ensures
    c.args.cut.now (omega arith))

pub returns-clause-cut_after : goal.returns-clause-cut_after
returns-clause-cut_after c =
    rw (c.verdict.ensures.cut_after, c.loop-next.invariant.as_lent)
    (stopped_with_cut c.args.trace.now c.in-Ok.b _ _ _ _ _ c.in-Err-judge_record.ensures
    c.args.cut.now (omega arith)).1
