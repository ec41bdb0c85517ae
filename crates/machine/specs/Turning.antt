-- What turns an event away, and which loads count, read off the machine's state and tables. 0: it passes.
use Rattle.std.specs.Prelude.{ℕ, ◌+◌, ◌≤◌, ◌<◌, Bool, false, ◌&&◌, ◌||◌, not, eqb, leb, ltb}
use Rattle.record.specs.declared.events.Event.{Event}
use Rattle.record.specs.declared.events.Fields.{Fields}
use Rattle.record.specs.Tests.{◌gives◌else◌}
use Rattle.record.specs.Events.{kind_of}
use Rattle.record.specs.Fields.{fields_of}
use Rattle.machine.specs.declared.threads.Thread.{Thread}
use Rattle.machine.specs.declared.state.Machine.{Machine}
use Rattle.machine.specs.Arms.{by_kind}
use Rattle.machine.specs.Twin.{State, World, thread_at, region_at, crossing_w, fits_w, signalled_w}

-- what a step asks of its caller: the begin's numbers are in range, and the machine's row is where a row begins, or
-- behind the last row of the work area, which has `size` numbers
pub record Fits (m : Machine) (size : ℕ) : Type 0 where
  pub few_threads : m.threads ≤ 8
  pub few_locations : m.locations ≤ 256
  pub room : 32768 ≤ size
  pub inside : m.row < 32768 → m.row + 16 ≤ 32768

-- ---- the kinds' own rules

-- the queue is empty
abbrev pub empty : Thread → Bool
empty own = eqb own.issued own.committed

abbrev pub load_rule : World → ℕ → ℕ → ℕ → ℕ
load_rule w t x s = fits_w w t x s gives 0 else 9

abbrev pub commit_rule : World → ℕ → ℕ
commit_rule w t = empty (thread_at w t) gives 10 else 0

-- of a locked operation: no store may wait, which its thread's oldest store says, as it does in the load rule, which
-- decides then
abbrev pub locked_rule : World → ℕ → ℕ → ℕ → ℕ
locked_rule w t x s = eqb (thread_at w t).oldest 0 gives load_rule w t x s else 11

-- of a fence: an mfence, which is no sfence, needs an empty queue
abbrev pub fence_on : Bool → Thread → ℕ
fence_on sfence own = sfence gives 0 else empty own gives 0 else 11

-- so of kind 7 or 8, an mfence
abbrev pub fence_by : ℕ → Thread → ℕ
fence_by kind own = fence_on (eqb kind 7) own

abbrev pub fence_rule : World → ℕ → ℕ → ℕ
fence_rule w kind t = fence_by kind (thread_at w t)

-- of a signal: no store may wait, which its thread's oldest store says too
abbrev pub signal_rule : World → ℕ → ℕ
signal_rule w t = eqb (thread_at w t).oldest 0 gives 0 else 11

-- of a wait for s
abbrev pub wait_rule : World → ℕ → ℕ
wait_rule w s = signalled_w w s gives 0 else 18

abbrev pub crash_rule : State → ℕ
crash_rule st = leb 32768 st.row gives 13 else eqb st.stretch 8 gives 13 else 0

-- of a skip on or off by a thread that is in a skip or not
abbrev pub switch_by : Bool → Bool → ℕ
switch_by on skip = on gives (skip gives 12 else 0) else (skip gives 0 else 12)

-- so of kind 10, on, or 11
abbrev pub skip_by : ℕ → Bool → ℕ
skip_by kind skip = switch_by (eqb kind 10) skip

abbrev pub skip_rule : World → ℕ → ℕ → ℕ
skip_rule w kind t = skip_by kind (thread_at w t).skip

-- of an open
abbrev pub open_rule : World → ℕ → ℕ
open_rule w t = (region_at w t).opened gives 12 else 0

-- of a close with outcome o, by a thread that is open or not
abbrev pub close_by : ℕ → Bool → ℕ
close_by o opened = ltb 1 o gives 19 else opened gives 0 else 12

abbrev pub close_rule : World → ℕ → ℕ → ℕ
close_rule w t o = close_by o (region_at w t).opened

-- loads count as of it: its outcome is 1, and something is held
abbrev pub close_counts : ℕ → ℕ → Bool
close_counts o newest = eqb o 1 && not (eqb newest 0)

-- ---- the rules that kinds share, of the event whose row begins at `row`

abbrev pub thread_fits : ℕ → ℕ → ℕ → Bool
thread_fits threads row t = leb 32768 row gives false else ltb t threads

abbrev pub place_fits : ℕ → ℕ → ℕ → ℕ → ℕ → Bool
place_fits threads locations row t x = thread_fits threads row t gives ltb x locations else false

-- the first of the rules that is broken, where one is
abbrev pub place_refusal : ℕ → ℕ → ℕ → ℕ
place_refusal threads row t = leb 32768 row gives 13 else leb threads t gives 7 else 8

-- with the number r of a later rule
abbrev pub on_thread : State → ℕ → ℕ → ℕ
on_thread st t r =
    thread_fits st.threads st.row t gives r else place_refusal st.threads st.row t

abbrev pub on_place : State → ℕ → ℕ → ℕ → ℕ
on_place st t x r =
    place_fits st.threads st.locations st.row t x gives r else place_refusal st.threads st.row t

-- of a kind that version 2 admits
abbrev pub on_new : State → ℕ → ℕ
on_new st r = ltb st.version 2 gives 3 else r

-- ---- the answers

-- by the kind
unfoldable pub refusal_k : World → ℕ → Fields → ℕ
refusal_k w k f =
    let st = w.state in
    let t = f.thread in
    let x = f.location in
    by_kind k
    (on_place st t x 0)
    (on_thread st t (commit_rule w t))
    (on_place st t x (load_rule w t x f.source))
    (on_place st t x 0)
    (on_thread st t (fence_rule w k t))
    (crash_rule st)
    (on_thread st t (skip_rule w k t))
    (on_place st t x (locked_rule w t x f.source))
    (on_thread st t (signal_rule w t))
    (on_thread st t (wait_rule w f.source))
    (on_new st (on_thread st t (open_rule w t)))
    (on_new st (on_thread st t (close_rule w t f.outcome)))
    5

-- what turns the next event away, after the first
abbrev pub refusal_w : World → Event → ℕ
refusal_w w e = refusal_k w (kind_of e) (fields_of e)

-- what turns a begin away
unfoldable pub begin_rule : ℕ → ℕ → ℕ → ℕ
begin_rule version threads locations =
    ltb version 1 gives 6 else
    ltb 2 version gives 6 else
    ltb threads 1 gives 6 else
    ltb 8 threads gives 6 else
    ltb locations 1 gives 6 else (ltb 256 locations gives 6 else 0)

-- what turns the first event away
unfoldable pub begin_k : ℕ → Fields → ℕ
begin_k k f = eqb k 1 gives begin_rule f.version f.threads f.locations else 1

abbrev pub begin_refusal : Event → ℕ
begin_refusal e = begin_k (kind_of e) (fields_of e)

-- a crossing load of thread t counts as of itself, or is held
abbrev pub at_once_w : World → ℕ → Bool
at_once_w w t = not (thread_at w t).skip && not (region_at w t).opened

abbrev pub holds_w : World → ℕ → Bool
holds_w w t = not (thread_at w t).skip && (region_at w t).opened

-- a load by thread t at location x counts as of itself
abbrev pub counted_w : World → ℕ → ℕ → Bool
counted_w w t x = crossing_w w t x && at_once_w w t

-- loads count as of the event: a close, or a load, of kind 4 or 12
unfoldable pub counts_k : World → ℕ → Fields → Bool
counts_k w k f =
    eqb k 16 gives close_counts f.outcome (region_at w f.thread).newest else
    ((eqb k 4 || eqb k 12) && counted_w w f.thread f.location)

abbrev pub counts_w : World → Event → Bool
counts_w w e = counts_k w (kind_of e) (fields_of e)
