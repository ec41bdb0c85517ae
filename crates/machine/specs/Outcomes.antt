-- What the code's functions give for an event: the rule that turns it away first, or its effect. What a step leaves is
-- the state that it hands back, the machine's tables and the work area.
use Rattle.std.specs.Prelude.{ℕ, ◌+◌, Bool, false, List, Result, Ok, Err, eqb, set}
use Rattle.record.specs.declared.events.Fields.{Fields}
use Rattle.record.specs.Tests.{◌gives◌else◌}
use Rattle.machine.specs.declared.forbidden.Forbidden.{Forbidden}
use Rattle.machine.specs.declared.state.Step.{Step}
use Rattle.machine.specs.Arms.{by_kind}
use Rattle.machine.specs.Forbidden.{turned_by}
use Rattle.machine.specs.declared.state.Machine.{Machine}
use Rattle.machine.specs.Tables.{source_cell}
use Rattle.machine.specs.Twin.{State, World, state_of, world, thread_at, region_at, last_w, here_w, admits_w}
use Rattle.machine.specs.Turning.{commit_rule, load_rule, locked_rule, fence_on, crash_rule, switch_by, signal_rule}
use Rattle.machine.specs.Turning.{wait_rule, open_rule, close_rule, close_counts, on_thread, on_place, on_new}
use Rattle.machine.specs.Turning.{at_once_w, counted_w}
use Rattle.machine.specs.Effects.{issue_w, commit_w, pass_with, pass_w, meet_w, cross_w, load_w, locked_w, crash_w}
use Rattle.machine.specs.Effects.{skip_w, signal_w}
use Rattle.machine.specs.Effects.{open_w, close_w}

pub record Outcome : Type 0 where
  pub refusal : ℕ
  pub counted : Bool
  pub after : World

-- loads count as of an event that led to r
abbrev pub counted_by : Result Step Forbidden → Bool
counted_by (Ok s) = s.counted
counted_by (Err e) = false

-- the state after an event that led to r: one that passes is followed by the next row
abbrev pub state_after : Machine → Result Step Forbidden → State
state_after m (Ok s) =
    record {
      row = s.machine.row + 16;
      stretch = s.machine.stretch;
      version = s.machine.version;
      threads = s.machine.threads;
      locations = s.machine.locations;
    }
state_after m (Err e) = state_of m

abbrev pub outcome : Machine → Result Step Forbidden → List ℕ → List ℕ → Outcome
outcome m r tables l =
    record { refusal = turned_by r; counted = counted_by r; after = world (state_after m r) tables l }

-- the rule of number k turns the event away, and all is as it was
abbrev pub turned : ℕ → World → Outcome
turned k w = record { refusal = k; counted = false; after = w }

-- it does if k is not 0; else the event leads to another world
unfoldable pub by_rule : ℕ → World → Bool → World → Outcome
by_rule k w counted after =
    eqb k 0 gives record { refusal = 0; counted = counted; after = after } else turned k w

-- ---- by kind

abbrev pub issue_o : World → ℕ → ℕ → Outcome
issue_o w t x = by_rule (on_place w.state t x 0) w false (issue_w w t x)

abbrev pub commit_o : World → ℕ → Outcome
commit_o w t = by_rule (on_thread w.state t (commit_rule w t)) w false (commit_w w t)

-- a load that may have one source only
abbrev pub only_o : World → ℕ → ℕ → ℕ → Outcome
only_o w t s only = by_rule (eqb s only gives 0 else 9) w false (meet_w w t s)

-- a crossing load, before it is held
abbrev pub plain_o : World → ℕ → ℕ → ℕ → Outcome
plain_o w t x s =
    by_rule (admits_w w x s gives 0 else 9) w (at_once_w w t) (pass_with w (set w.tables (source_cell x) s))

-- a crossing load
abbrev pub across_o : World → ℕ → ℕ → ℕ → Outcome
across_o w t x s =
    by_rule (admits_w w x s gives 0 else 9) w (at_once_w w t) (cross_w w t x s)

-- a load where no store waits
abbrev pub memory_o : World → ℕ → ℕ → ℕ → Outcome
memory_o w t x s = here_w w x gives only_o w t s (last_w w x) else across_o w t x s

abbrev pub load_o : World → ℕ → ℕ → ℕ → Outcome
load_o w t x s = by_rule (on_place w.state t x (load_rule w t x s)) w (counted_w w t x) (load_w w t x s)

abbrev pub locked_o : World → ℕ → ℕ → ℕ → Outcome
locked_o w t x s = by_rule (on_place w.state t x (locked_rule w t x s)) w (counted_w w t x) (locked_w w t x s)

abbrev pub flush_o : World → ℕ → ℕ → Outcome
flush_o w t x = by_rule (on_place w.state t x 0) w false (pass_w w)

abbrev pub fence_on_o : World → Bool → ℕ → Outcome
fence_on_o w sfence t = by_rule (on_thread w.state t (fence_on sfence (thread_at w t))) w false (pass_w w)

abbrev pub fence_o : World → ℕ → ℕ → Outcome
fence_o w kind t = fence_on_o w (eqb kind 7) t

abbrev pub crash_o : World → Outcome
crash_o w = by_rule (crash_rule w.state) w false (crash_w w)

abbrev pub switch_o : World → Bool → ℕ → Outcome
switch_o w on t =
    by_rule (on_thread w.state t (switch_by on (thread_at w t).skip)) w false (skip_w w t on)

abbrev pub skip_o : World → ℕ → ℕ → Outcome
skip_o w kind t = switch_o w (eqb kind 10) t

abbrev pub signal_o : World → ℕ → Outcome
signal_o w t = by_rule (on_thread w.state t (signal_rule w t)) w false (signal_w w t)

abbrev pub wait_o : World → ℕ → ℕ → Outcome
wait_o w t s = by_rule (on_thread w.state t (wait_rule w s)) w false (meet_w w t s)

abbrev pub open_o : World → ℕ → Outcome
open_o w t = by_rule (on_new w.state (on_thread w.state t (open_rule w t))) w false (open_w w t)

abbrev pub close_o : World → ℕ → ℕ → Outcome
close_o w t o =
    by_rule (on_new w.state (on_thread w.state t (close_rule w t o))) w (close_counts o (region_at w t).newest)
    (close_w w t)

-- a later event: a begin, and what is no kind, is turned away by 5
unfoldable pub step_o : World → ℕ → Fields → Outcome
step_o w k f =
    let t = f.thread in
    let x = f.location in
    by_kind k
    (issue_o w t x)
    (commit_o w t)
    (load_o w t x f.source)
    (flush_o w t x)
    (fence_o w k t)
    (crash_o w)
    (skip_o w k t)
    (locked_o w t x f.source)
    (signal_o w t)
    (wait_o w t f.source)
    (open_o w t)
    (close_o w t f.outcome)
    (turned 5 w)
