-- Judging the loads of a run as they come: what is known where an event is judged. And the evidence of the load that
-- breaks the trace, as a total function.
use Rattle.std.specs.Prelude.{ℕ, suc, ◌≡◌, Bool, true, List}
use Rattle.record.specs.declared.events.Event.{Event}
use Rattle.model.specs.Trace.{kind, thread, close?}
use Rattle.model.specs.Machine.{held, counting}
use Rattle.model.specs.Rules.{Accepted}
use Rattle.area.specs.Cells.{up}
use Rattle.area.specs.Rows.{HeldLinked, Rows}
use Rattle.machine.specs.Tables.{held_in}
use Rattle.machine.specs.Sim.{some?, Chains}
use Rattle.marks.specs.declared.cells.Marks.{Marks}
use Rattle.marks.specs.Testing.{missing_by, observed_by}
use Rattle.judge.specs.declared.loads.Evidence.{Evidence}

-- The machine has taken the step of event n, which passes and has kind k; `counts` says whether loads count as of it.
-- `tables` and `work` are the machine's tables and the work area then: the chains of the locations, the rows of the
-- stores, and at a close those of the loads that its thread holds.
pub record Stepped (ev : ℕ → Event) (n k : ℕ) (counts : Bool) (tables work : List ℕ) : Type 0 where
  pub accepted : Accepted ev (suc n)
  pub kind_is : kind ev n ≡ k
  pub counts_is : some? (counting ev n) ≡ counts
  pub chains : Chains ev (suc n) tables work
  pub rows : Rows ev (suc n) work
  pub held_are : close? ev n ≡ true → HeldLinked ev work (held_in tables (thread ev n)) (held ev n (thread ev n))

-- the evidence of event `load`, by the rows and the marks as that load or a later event leaves them
abbrev pub evidence_at : List ℕ → Marks → ℕ → Evidence
evidence_at work m load =
    let missing = missing_by work m (up load) in
    record { load = load; missing = missing; observed = observed_by work m.flags (up load) missing }
