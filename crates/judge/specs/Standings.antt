-- How two stores stand after a run: its refusal, 16 for a number that is no store, or what their rows say.
use Rattle.std.specs.Prelude.{ℕ, List, ◌&&◌, Result, Ok, Err}
use Rattle.record.specs.Tests.{◌gives◌else◌}
use Rattle.model.specs.declared.Order.{Order}
use Rattle.model.specs.declared.Refusal.{Refusal}
use Rattle.model.specs.declared.Verdict.{Verdict}
use Rattle.model.specs.declared.Verdict.TheVariants.{Robust, Broken}
use Rattle.machine.specs.Orders.{store_w, order_w}

-- of a trace with so many events after its begin
abbrev pub stand_by : ℕ → List ℕ → ℕ → ℕ → Result Order Refusal
stand_by events work p q =
    (store_w work events p && store_w work events q) gives Ok (order_w work p q) else
    Err (record { number = 16; event = 0 })

-- after the run that answered this
abbrev pub standing_after : Result Verdict Refusal → List ℕ → ℕ → ℕ → Result Order Refusal
standing_after (Ok (Robust events share)) work p q = stand_by events work p q
standing_after (Ok (Broken events load missing observed kind)) work p q = stand_by events work p q
standing_after (Err r) work p q = Err r
