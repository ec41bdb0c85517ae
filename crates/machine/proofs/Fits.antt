-- What a step asks of its caller holds under `Sim`: rows begin at the multiples of 16, so that a row which begins
-- before number 32,768 ends there or before.
use Prim.Native.Nat.{ℕ}
use native.Mathlib.Omega.{arith}
use mathlib.Core.List.{List}
use lib.ListN.{length}
use Rattle.record.specs.declared.events.Event.{Event}
use Rattle.machine.specs.declared.state.Machine.{Machine}
use Rattle.machine.specs.Twin.{world, state_of}
use Rattle.machine.specs.Turning.{Fits}
use Rattle.machine.specs.Sim.{Sim}

pub sim_fits :
    (ev : ℕ → Event) (n : ℕ) (m : Machine) (tables l : List ℕ) → Sim ev n (world (state_of m) tables l)
    → Fits m (length l)
sim_fits ev n m tables l sim =
    let numbers = sim.numbers in
    let limits = sim.limits in
    record {
      few_threads = omega arith;
      few_locations = omega arith;
      room = sim.rows.room;
      inside = λ before. omega arith;
    }
