-- What an event that passes does to the machine's tables and to the work area, as total functions. `row` is where the
-- event's own row begins.
use Rattle.std.specs.Prelude.{ℕ, zero, suc, ◌+◌, ◌%◌, Bool, ◌&&◌, not, List, eqb, get_or, set}
use Rattle.record.specs.declared.events.Event.{Event}
use Rattle.record.specs.declared.events.Fields.{Fields}
use Rattle.record.specs.Tests.{◌gives◌else◌}
use Rattle.record.specs.Events.{kind_of}
use Rattle.record.specs.Fields.{fields_of}
use Rattle.area.specs.Cells.{get_row, put_row, event_at, no_store, joined, up}
use Rattle.machine.specs.Tables.{thread_cell, last_cell, source_cell, commits_cell, newest_cell, stretch_cell}
use Rattle.machine.specs.Threads.{issued_t, committed_t, skipped_t, crashed_t, thread_of, of_thread}
use Rattle.machine.specs.Threads.{put_issued, put_committed, put_skip, restarted}
use Rattle.machine.specs.Regions.{began_r, held_r, ended_r, crashed_r, region_of, put_region, put_held}
use Rattle.machine.specs.Twin.{World, world, thread_at, region_at, ticked, crashed, crossing_w}
use Rattle.machine.specs.Arms.{by_kind}
use Rattle.machine.specs.Turning.{holds_w}

-- ---- clocks

-- the first k numbers of the row become what thread t has seen
unfoldable pub clocked : ℕ → List ℕ → ℕ → ℕ → List ℕ → List ℕ
clocked zero tables t row l = l
clocked (suc u) tables t row l = set (clocked u tables t row l) (row + u) (of_thread tables t u)

-- a clock: what thread t has seen, with c for t itself
unfoldable pub with_clock : List ℕ → ℕ → ℕ → ℕ → List ℕ → List ℕ
with_clock tables t row c l = set (clocked 8 tables t row l) (row + t) c

-- a store's row: its clock; its thread, location and stretch; that it is no signal; and no next store
unfoldable pub with_store : List ℕ → ℕ → ℕ → ℕ → ℕ → ℕ → List ℕ → List ℕ
with_store tables t row c x j l =
    let with_thread = set (with_clock tables t row c l) (row + 8) t in
    let with_location = set with_thread (row + 9) x in
    set (set (set with_location (row + 10) j) (row + 11) 0) (row + 12) 0

-- ---- the steps

-- after an issue of thread t at location x in stretch j
unfoldable pub issued_tables : List ℕ → ℕ → ℕ → ℕ → List ℕ
issued_tables tables row t x =
    set (put_issued tables t (issued_t (thread_of tables t) (event_at row))) (newest_cell x t) (event_at row)

unfoldable pub issued_work : List ℕ → List ℕ → ℕ → ℕ → ℕ → ℕ → List ℕ
issued_work tables l row t x j =
    let old = thread_of tables t in
    with_store tables t row (up old.issued) x j (put_row l old.newest 12 (event_at row))

unfoldable pub issue_w : World → ℕ → ℕ → World
issue_w w t x =
    let st = w.state in
    world (ticked st) (issued_tables w.tables st.row t x)
    (issued_work w.tables w.work st.row t x st.stretch)

-- store p heads the chain of location x, by a commit in stretch j
abbrev pub headed : List ℕ → ℕ → ℕ → ℕ → List ℕ
headed tables p x j = set (set tables (last_cell x) p) (stretch_cell x) j

-- the location of the oldest store of thread t
abbrev pub oldest_place : List ℕ → List ℕ → ℕ → ℕ
oldest_place tables l t = get_row l (thread_of tables t).oldest 9 % 256

-- after a commit of thread t in stretch j: its oldest store heads its location's chain
unfoldable pub committed_tables : List ℕ → List ℕ → ℕ → ℕ → List ℕ
committed_tables tables l t j =
    let old = thread_of tables t in
    let x = oldest_place tables l t in
    put_committed (headed tables old.oldest x j) t (committed_t old (get_row l old.oldest 12))

unfoldable pub committed_work : List ℕ → List ℕ → ℕ → ℕ → List ℕ
committed_work tables l row t =
    let p = (thread_of tables t).oldest in
    let link = get_or tables (last_cell (oldest_place tables l t)) 0 in
    put_row (put_row (no_store l row) p 14 link) p 13 row

unfoldable pub commit_w : World → ℕ → World
commit_w w t =
    let st = w.state in
    world (ticked st) (committed_tables w.tables w.work t st.stretch)
    (committed_work w.tables w.work st.row t)

-- after a signal of thread t in stretch j: its row has the clock that a store issued in its place would have, that
-- store itself not counted
unfoldable pub signalled_work : List ℕ → List ℕ → ℕ → ℕ → ℕ → List ℕ
signalled_work tables l row t j =
    set (set (with_clock tables t row (thread_of tables t).issued l) (row + 10) 0) (row + 11) j

unfoldable pub signal_w : World → ℕ → World
signal_w w t =
    let st = w.state in
    world (ticked st) w.tables (signalled_work w.tables w.work st.row t st.stretch)

-- an event that has no effect but that it is no store and no signal, with other tables
abbrev pub pass_with : World → List ℕ → World
pass_with w tables = world (ticked w.state) tables (no_store w.work w.state.row)

unfoldable pub pass_w : World → World
pass_w w = pass_with w w.tables

-- event s, a store that is loaded from or a signal that is waited for, brings its clock to thread t
unfoldable pub meet_w : World → ℕ → ℕ → World
meet_w w t s = pass_with w (joined 8 w.work s (thread_cell t 0) w.tables)

-- after a crossing load of thread t, which is open, at location x from s: it is held
unfoldable pub held_tables : List ℕ → ℕ → ℕ → List ℕ
held_tables tables row t = put_held tables t (held_r (region_of tables t) (event_at row))

unfoldable pub held_work : List ℕ → List ℕ → ℕ → ℕ → ℕ → ℕ → List ℕ
held_work tables l row t x s =
    let with_source = set (set l (row + 9) x) (row + 13) s in
    set (set with_source (row + 14) (get_or tables (last_cell x) 0)) (row + 15) (region_of tables t).newest

-- a crossing load that does not count and led to that refusal: it is held if it passed and its thread is in no skip
unfoldable pub aside_tables : List ℕ → ℕ → ℕ → ℕ → List ℕ
aside_tables tables row t refusal =
    (eqb refusal 0 && not (thread_of tables t).skip) gives held_tables tables row t else tables

unfoldable pub aside_work : List ℕ → List ℕ → ℕ → ℕ → ℕ → ℕ → ℕ → List ℕ
aside_work tables l row t x s refusal =
    (eqb refusal 0 && not (thread_of tables t).skip) gives held_work tables l row t x s else l

-- a crossing load by thread t at location x from s, which is noted; it is held if the thread is open and in no skip
unfoldable pub cross_w : World → ℕ → ℕ → ℕ → World
cross_w w t x s =
    let st = w.state in
    let noted = set w.tables (source_cell x) s in
    let l = no_store w.work st.row in
    holds_w w t gives
    world (ticked st) (held_tables noted st.row t) (held_work noted l st.row t x s) else
    world (ticked st) noted l

-- a load by thread t at location x from s: a crossing load brings no clock
unfoldable pub load_w : World → ℕ → ℕ → ℕ → World
load_w w t x s = crossing_w w t x gives cross_w w t x s else meet_w w t s

-- after an issue of thread t at location x in stretch j, and the commit of that store alone
unfoldable pub exchanged_tables : List ℕ → ℕ → ℕ → ℕ → ℕ → List ℕ
exchanged_tables tables row t x j =
    let issued = issued_tables tables row t x in
    put_committed (headed issued (event_at row) x j) t (committed_t (thread_of issued t) 0)

unfoldable pub exchanged_work : List ℕ → List ℕ → ℕ → ℕ → ℕ → ℕ → ℕ → List ℕ
exchanged_work tables l row t x s j =
    let with_source = set (issued_work tables l row t x j) (row + 13) s in
    set with_source (row + 14) (get_or (issued_tables tables row t x) (last_cell x) 0)

-- a locked operation by thread t at location x from s: its load, then its issue and its commit
unfoldable pub locked_w : World → ℕ → ℕ → ℕ → World
locked_w w t x s =
    let st = w.state in
    let loaded = load_w w t x s in
    world (ticked st) (exchanged_tables loaded.tables st.row t x st.stretch)
    (exchanged_work loaded.tables loaded.work st.row t x s st.stretch)

-- stretch j is finished: the commits of thread t are noted, and the thread starts afresh
unfoldable pub finished_thread : List ℕ → ℕ → ℕ → List ℕ
finished_thread tables j t =
    let old = thread_of tables t in
    let restart = restarted (set tables (commits_cell j t) old.committed) t (crashed_t old) in
    put_held restart t (crashed_r (region_of tables t))

-- so of threads 0 to k - 1
unfoldable pub finished : ℕ → List ℕ → ℕ → List ℕ
finished zero tables j = tables
finished (suc t) tables j = finished_thread (finished t tables j) j t

unfoldable pub crash_w : World → World
crash_w w =
    let st = w.state in
    world (crashed st) (finished 8 w.tables st.stretch) (no_store w.work st.row)

unfoldable pub skip_w : World → ℕ → Bool → World
skip_w w t on = pass_with w (put_skip w.tables t (skipped_t (thread_at w t) on))

-- thread t opens, and closes
unfoldable pub open_w : World → ℕ → World
open_w w t = pass_with w (put_region w.tables t (began_r (region_at w t)))

unfoldable pub close_w : World → ℕ → World
close_w w t = pass_with w (put_region w.tables t (ended_r (region_at w t)))

-- ---- the effect

-- by the kind
unfoldable pub step_k : World → ℕ → Fields → World
step_k w k f =
    let t = f.thread in
    by_kind k
    (issue_w w t f.location)
    (commit_w w t)
    (load_w w t f.location f.source)
    (pass_w w)
    (pass_w w)
    (crash_w w)
    (skip_w w t (eqb k 10))
    (locked_w w t f.location f.source)
    (signal_w w t)
    (meet_w w t f.source)
    (open_w w t)
    (close_w w t)
    w

-- the effect of an event that passes
abbrev pub step_w : World → Event → World
step_w w e = step_k w (kind_of e) (fields_of e)
