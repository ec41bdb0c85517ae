-- The event of a load that breaks the trace is recorded.
use Rattle.std.proofs.Common.{refl, sym, ◌∙◌}
use Rattle.marks.proofs.Loops.{judged_breaks}
use Rattle.marks.proofs.cells.Marks.judge_load.Goals as goal

pub returns-then-breaks : goal.returns-then-breaks
returns-then-breaks c =
    let loaded = rw c.of.ensures at c.load-breaks.ensures in
    rw c.note.ensures
    (judged_breaks _ c.args.self.now _ _ _ _ _ c.repeats.ensures c.if-repeats.false
    (sym c.is_some.ensures ∙ c.if-is_some.false) _ _ _ (loaded.value, loaded.marks_after) refl c.if-breaks.true _
    c.event_at.ensures)
