-- Document 02, job 4, "Work handed over through ordinary memory": a session for each thing that a signal passes on or
-- not, that a wait hands over to or not, that turns either away, or that they do to a window. The definitions give
-- their bytes the answers that follow from documents 01 and 02, and the cut buffers. Shown together as one list, by
-- computation. Made by tools/oracle/proof_file.py.
use mathlib.Core.Path.{◌≡◌, refl, sym, ap, ◌∙◌}
use mathlib.Core.List.{List, [], ◌∷◌, map}
use Prim.Native.Nat.{ℕ}
use Rattle.record.specs.declared.events.Event.{Event}
use Rattle.record.specs.declared.events.Event.TheVariants.{Begin, Issue, Commit, Load, Sfence, Crash}
use Rattle.record.specs.declared.events.Event.TheVariants.{SkipOn, Signal, Wait}
use Rattle.record.specs.Events.{record_of}
use Rattle.record.specs.Table.{row_of}
use Rattle.model.specs.Search.{some, any, last, first, first_from, most}
use Rattle.model.specs.Trace.{stretch, count}
use Rattle.model.specs.Machine.{committed, commit_of, waiting, current, source_fits, switched}
use Rattle.model.specs.Machine.{countable, held, counting}
use Rattle.model.specs.Rules.{answer, rules}
use Rattle.model.specs.Choice.{finished}
use Rattle.model.specs.Clocks.{seen, clock, vc}
use Rattle.model.specs.Verdict.{forbids?, observes?, forbidden?, observed?, pair?, missing?, bad?, closure}
use Rattle.model.specs.Verdict.{load_of, missing_of, observed_of, ruling_of}
use Rattle.model.specs.Windows.{none, between, behind, last_covered, window_of}
use Rattle.model.specs.Answers.{refused, robust, broken, flush}
use Rattle.model.specs.Answers.{tabulate, cut_of, sum, share_of, fault_of}
use Rattle.model.specs.Reading.{encode}
use Rattle.model.proofs.Encoding.{reading_events}
use Rattle.model.proofs.Sessions.{lent, zeros, padded, Outcome, outcome_of, outcome_of_events, outcome_all}

-- the bytes
pub sessions : List (List ℕ)
sessions =
    -- 1 is issued before the signal 3, and 5 after the wait for it: 1 happens before 5, with no load between them
    (8 ∷ 0 ∷ 1 ∷ 0 ∷ 1 ∷ 0 ∷ 2 ∷ 0 ∷ 9 ∷ 0 ∷ 6 ∷ 0 ∷ 2 ∷ 0 ∷ 0 ∷ 0 ∷ 0 ∷ 0 ∷ 4 ∷ 0 ∷ 3 ∷ 0 ∷ 0 ∷ 0
    ∷ 4 ∷ 0 ∷ 13 ∷ 0 ∷ 0 ∷ 0 ∷ 6 ∷ 0 ∷ 14 ∷ 0 ∷ 1 ∷ 0 ∷ 3 ∷ 0 ∷ 6 ∷ 0 ∷ 2 ∷ 0 ∷ 1 ∷ 0 ∷ 8 ∷ 0
    ∷ 4 ∷ 0 ∷ 3 ∷ 0 ∷ 1 ∷ 0 ∷ 2 ∷ 0 ∷ 9 ∷ 0 ∷ 8 ∷ 0 ∷ 4 ∷ 0 ∷ 0 ∷ 0 ∷ 0 ∷ 0 ∷ 0 ∷ 0
    ∷ 8 ∷ 0 ∷ 4 ∷ 0 ∷ 0 ∷ 0 ∷ 8 ∷ 0 ∷ 5 ∷ 0 ∷ []) ∷
    -- the same without the wait: a signal alone orders nothing
    (8 ∷ 0 ∷ 1 ∷ 0 ∷ 1 ∷ 0 ∷ 2 ∷ 0 ∷ 9 ∷ 0 ∷ 6 ∷ 0 ∷ 2 ∷ 0 ∷ 0 ∷ 0 ∷ 0 ∷ 0 ∷ 4 ∷ 0 ∷ 3 ∷ 0 ∷ 0 ∷ 0
    ∷ 4 ∷ 0 ∷ 13 ∷ 0 ∷ 0 ∷ 0 ∷ 6 ∷ 0 ∷ 2 ∷ 0 ∷ 1 ∷ 0 ∷ 8 ∷ 0 ∷ 4 ∷ 0 ∷ 3 ∷ 0 ∷ 1 ∷ 0
    ∷ 2 ∷ 0 ∷ 9 ∷ 0 ∷ 8 ∷ 0 ∷ 4 ∷ 0 ∷ 0 ∷ 0 ∷ 0 ∷ 0 ∷ 0 ∷ 0
    ∷ 8 ∷ 0 ∷ 4 ∷ 0 ∷ 0 ∷ 0 ∷ 8 ∷ 0 ∷ 4 ∷ 0 ∷ []) ∷
    -- a signal is turned away while a store of its thread waits
    (8 ∷ 0 ∷ 1 ∷ 0 ∷ 1 ∷ 0 ∷ 1 ∷ 0 ∷ 2 ∷ 0 ∷ 6 ∷ 0 ∷ 2 ∷ 0 ∷ 0 ∷ 0 ∷ 0 ∷ 0 ∷ 4 ∷ 0 ∷ 13 ∷ 0 ∷ 0 ∷ 0
    ∷ []) ∷
    -- a wait for an issue
    (8 ∷ 0 ∷ 1 ∷ 0 ∷ 1 ∷ 0 ∷ 2 ∷ 0 ∷ 2 ∷ 0 ∷ 6 ∷ 0 ∷ 2 ∷ 0 ∷ 0 ∷ 0 ∷ 0 ∷ 0 ∷ 4 ∷ 0 ∷ 3 ∷ 0 ∷ 0 ∷ 0
    ∷ 6 ∷ 0 ∷ 14 ∷ 0 ∷ 1 ∷ 0 ∷ 1 ∷ 0 ∷ []) ∷
    -- a wait for a signal of an earlier stretch
    (8 ∷ 0 ∷ 1 ∷ 0 ∷ 1 ∷ 0 ∷ 2 ∷ 0 ∷ 2 ∷ 0 ∷ 4 ∷ 0 ∷ 13 ∷ 0 ∷ 0 ∷ 0 ∷ 2 ∷ 0 ∷ 9 ∷ 0
    ∷ 6 ∷ 0 ∷ 14 ∷ 0 ∷ 1 ∷ 0 ∷ 1 ∷ 0 ∷ []) ∷
    -- a wait for 0
    (8 ∷ 0 ∷ 1 ∷ 0 ∷ 1 ∷ 0 ∷ 2 ∷ 0 ∷ 2 ∷ 0 ∷ 4 ∷ 0 ∷ 13 ∷ 0 ∷ 0 ∷ 0 ∷ 6 ∷ 0 ∷ 14 ∷ 0 ∷ 1 ∷ 0 ∷ 0 ∷ 0
    ∷ []) ∷
    -- a wait for itself
    (8 ∷ 0 ∷ 1 ∷ 0 ∷ 1 ∷ 0 ∷ 2 ∷ 0 ∷ 2 ∷ 0 ∷ 4 ∷ 0 ∷ 13 ∷ 0 ∷ 0 ∷ 0 ∷ 6 ∷ 0 ∷ 14 ∷ 0 ∷ 1 ∷ 0 ∷ 2 ∷ 0
    ∷ []) ∷
    -- a wait for a later signal
    (8 ∷ 0 ∷ 1 ∷ 0 ∷ 1 ∷ 0 ∷ 2 ∷ 0 ∷ 2 ∷ 0 ∷ 6 ∷ 0 ∷ 14 ∷ 0 ∷ 1 ∷ 0 ∷ 2 ∷ 0 ∷ 4 ∷ 0 ∷ 13 ∷ 0 ∷ 0 ∷ 0
    ∷ []) ∷
    -- no such thread goes before a source that is no signal
    (8 ∷ 0 ∷ 1 ∷ 0 ∷ 1 ∷ 0 ∷ 1 ∷ 0 ∷ 2 ∷ 0 ∷ 4 ∷ 0 ∷ 13 ∷ 0 ∷ 0 ∷ 0 ∷ 6 ∷ 0 ∷ 14 ∷ 0 ∷ 1 ∷ 0 ∷ 2 ∷ 0
    ∷ []) ∷
    -- a thread that waits behind its signal hands on what it had at the signal: 3 does not pass 1 on
    (8 ∷ 0 ∷ 1 ∷ 0 ∷ 1 ∷ 0 ∷ 3 ∷ 0 ∷ 9 ∷ 0 ∷ 6 ∷ 0 ∷ 2 ∷ 0 ∷ 0 ∷ 0 ∷ 0 ∷ 0 ∷ 4 ∷ 0 ∷ 3 ∷ 0 ∷ 0 ∷ 0
    ∷ 4 ∷ 0 ∷ 13 ∷ 0 ∷ 1 ∷ 0 ∷ 4 ∷ 0 ∷ 13 ∷ 0 ∷ 0 ∷ 0 ∷ 6 ∷ 0 ∷ 14 ∷ 0 ∷ 1 ∷ 0 ∷ 4 ∷ 0
    ∷ 6 ∷ 0 ∷ 14 ∷ 0 ∷ 2 ∷ 0 ∷ 3 ∷ 0 ∷ 6 ∷ 0 ∷ 2 ∷ 0 ∷ 2 ∷ 0 ∷ 8 ∷ 0 ∷ 4 ∷ 0 ∷ 3 ∷ 0 ∷ 2 ∷ 0
    ∷ 2 ∷ 0 ∷ 9 ∷ 0 ∷ 8 ∷ 0 ∷ 4 ∷ 0 ∷ 0 ∷ 0 ∷ 0 ∷ 0 ∷ 0 ∷ 0
    ∷ 8 ∷ 0 ∷ 4 ∷ 0 ∷ 0 ∷ 0 ∷ 8 ∷ 0 ∷ 7 ∷ 0 ∷ []) ∷
    -- a wait for a signal of its own thread passes, and hands nothing over to another thread
    (8 ∷ 0 ∷ 1 ∷ 0 ∷ 1 ∷ 0 ∷ 2 ∷ 0 ∷ 9 ∷ 0 ∷ 6 ∷ 0 ∷ 2 ∷ 0 ∷ 0 ∷ 0 ∷ 0 ∷ 0 ∷ 4 ∷ 0 ∷ 3 ∷ 0 ∷ 0 ∷ 0
    ∷ 4 ∷ 0 ∷ 13 ∷ 0 ∷ 0 ∷ 0 ∷ 6 ∷ 0 ∷ 14 ∷ 0 ∷ 0 ∷ 0 ∷ 3 ∷ 0 ∷ 6 ∷ 0 ∷ 2 ∷ 0 ∷ 1 ∷ 0 ∷ 8 ∷ 0
    ∷ 4 ∷ 0 ∷ 3 ∷ 0 ∷ 1 ∷ 0 ∷ 2 ∷ 0 ∷ 9 ∷ 0 ∷ 8 ∷ 0 ∷ 4 ∷ 0 ∷ 0 ∷ 0 ∷ 0 ∷ 0 ∷ 0 ∷ 0
    ∷ 8 ∷ 0 ∷ 4 ∷ 0 ∷ 0 ∷ 0 ∷ 8 ∷ 0 ∷ 5 ∷ 0 ∷ []) ∷
    -- a wait needs no empty queue; 4, issued before it and committed after it, may be in without 1, and 6 may not
    (8 ∷ 0 ∷ 1 ∷ 0 ∷ 1 ∷ 0 ∷ 2 ∷ 0 ∷ 9 ∷ 0 ∷ 6 ∷ 0 ∷ 2 ∷ 0 ∷ 0 ∷ 0 ∷ 0 ∷ 0 ∷ 4 ∷ 0 ∷ 3 ∷ 0 ∷ 0 ∷ 0
    ∷ 4 ∷ 0 ∷ 13 ∷ 0 ∷ 0 ∷ 0 ∷ 6 ∷ 0 ∷ 2 ∷ 0 ∷ 1 ∷ 0 ∷ 1 ∷ 0 ∷ 6 ∷ 0 ∷ 14 ∷ 0 ∷ 1 ∷ 0 ∷ 3 ∷ 0
    ∷ 6 ∷ 0 ∷ 2 ∷ 0 ∷ 1 ∷ 0 ∷ 8 ∷ 0 ∷ 4 ∷ 0 ∷ 3 ∷ 0 ∷ 1 ∷ 0 ∷ 4 ∷ 0 ∷ 3 ∷ 0 ∷ 1 ∷ 0
    ∷ 2 ∷ 0 ∷ 9 ∷ 0 ∷ 8 ∷ 0 ∷ 4 ∷ 0 ∷ 0 ∷ 0 ∷ 0 ∷ 0 ∷ 0 ∷ 0
    ∷ 8 ∷ 0 ∷ 4 ∷ 0 ∷ 0 ∷ 0 ∷ 1 ∷ 0 ∷ 4 ∷ 0 ∷ 8 ∷ 0 ∷ 4 ∷ 0 ∷ 0 ∷ 0 ∷ 8 ∷ 0 ∷ 6 ∷ 0 ∷ []) ∷
    -- the signal 3 hands 1 over; 4, issued after it, is not handed over: the wait names 3, and not the later signal 6
    (8 ∷ 0 ∷ 1 ∷ 0 ∷ 1 ∷ 0 ∷ 2 ∷ 0 ∷ 9 ∷ 0 ∷ 6 ∷ 0 ∷ 2 ∷ 0 ∷ 0 ∷ 0 ∷ 1 ∷ 0 ∷ 4 ∷ 0 ∷ 3 ∷ 0 ∷ 0 ∷ 0
    ∷ 4 ∷ 0 ∷ 13 ∷ 0 ∷ 0 ∷ 0 ∷ 6 ∷ 0 ∷ 2 ∷ 0 ∷ 0 ∷ 0 ∷ 0 ∷ 0 ∷ 4 ∷ 0 ∷ 3 ∷ 0 ∷ 0 ∷ 0
    ∷ 4 ∷ 0 ∷ 13 ∷ 0 ∷ 0 ∷ 0 ∷ 6 ∷ 0 ∷ 14 ∷ 0 ∷ 1 ∷ 0 ∷ 3 ∷ 0 ∷ 6 ∷ 0 ∷ 2 ∷ 0 ∷ 1 ∷ 0 ∷ 8 ∷ 0
    ∷ 4 ∷ 0 ∷ 3 ∷ 0 ∷ 1 ∷ 0 ∷ 2 ∷ 0 ∷ 9 ∷ 0 ∷ 8 ∷ 0 ∷ 4 ∷ 0 ∷ 0 ∷ 0 ∷ 0 ∷ 0 ∷ 0 ∷ 0
    ∷ 8 ∷ 0 ∷ 4 ∷ 0 ∷ 0 ∷ 0 ∷ 8 ∷ 0 ∷ 8 ∷ 0 ∷ []) ∷
    -- a signal passes on what came by a load; its thread, which stores nothing, has no last place
    (8 ∷ 0 ∷ 1 ∷ 0 ∷ 1 ∷ 0 ∷ 3 ∷ 0 ∷ 9 ∷ 0 ∷ 6 ∷ 0 ∷ 2 ∷ 0 ∷ 0 ∷ 0 ∷ 0 ∷ 0 ∷ 4 ∷ 0 ∷ 3 ∷ 0 ∷ 0 ∷ 0
    ∷ 8 ∷ 0 ∷ 4 ∷ 0 ∷ 1 ∷ 0 ∷ 0 ∷ 0 ∷ 1 ∷ 0 ∷ 4 ∷ 0 ∷ 13 ∷ 0 ∷ 1 ∷ 0
    ∷ 6 ∷ 0 ∷ 14 ∷ 0 ∷ 2 ∷ 0 ∷ 4 ∷ 0 ∷ 6 ∷ 0 ∷ 2 ∷ 0 ∷ 2 ∷ 0 ∷ 8 ∷ 0 ∷ 4 ∷ 0 ∷ 3 ∷ 0 ∷ 2 ∷ 0
    ∷ 2 ∷ 0 ∷ 9 ∷ 0 ∷ 8 ∷ 0 ∷ 4 ∷ 0 ∷ 0 ∷ 0 ∷ 0 ∷ 0 ∷ 0 ∷ 0
    ∷ 8 ∷ 0 ∷ 4 ∷ 0 ∷ 0 ∷ 0 ∷ 8 ∷ 0 ∷ 6 ∷ 0 ∷ []) ∷
    -- a signal passes on what came by an earlier wait, which stands in a skip: a chain over three threads
    (8 ∷ 0 ∷ 1 ∷ 0 ∷ 1 ∷ 0 ∷ 3 ∷ 0 ∷ 9 ∷ 0 ∷ 6 ∷ 0 ∷ 2 ∷ 0 ∷ 0 ∷ 0 ∷ 0 ∷ 0 ∷ 4 ∷ 0 ∷ 3 ∷ 0 ∷ 0 ∷ 0
    ∷ 4 ∷ 0 ∷ 13 ∷ 0 ∷ 0 ∷ 0 ∷ 4 ∷ 0 ∷ 10 ∷ 0 ∷ 1 ∷ 0 ∷ 6 ∷ 0 ∷ 14 ∷ 0 ∷ 1 ∷ 0 ∷ 3 ∷ 0
    ∷ 4 ∷ 0 ∷ 13 ∷ 0 ∷ 1 ∷ 0 ∷ 6 ∷ 0 ∷ 14 ∷ 0 ∷ 2 ∷ 0 ∷ 6 ∷ 0 ∷ 6 ∷ 0 ∷ 2 ∷ 0 ∷ 2 ∷ 0 ∷ 8 ∷ 0
    ∷ 4 ∷ 0 ∷ 3 ∷ 0 ∷ 2 ∷ 0 ∷ 2 ∷ 0 ∷ 9 ∷ 0 ∷ 8 ∷ 0 ∷ 4 ∷ 0 ∷ 0 ∷ 0 ∷ 0 ∷ 0 ∷ 0 ∷ 0
    ∷ 8 ∷ 0 ∷ 4 ∷ 0 ∷ 0 ∷ 0 ∷ 8 ∷ 0 ∷ 8 ∷ 0 ∷ []) ∷
    -- two waits for one signal: it hands over to both threads, and 5 does not happen before 8
    (8 ∷ 0 ∷ 1 ∷ 0 ∷ 1 ∷ 0 ∷ 3 ∷ 0 ∷ 9 ∷ 0 ∷ 6 ∷ 0 ∷ 2 ∷ 0 ∷ 0 ∷ 0 ∷ 0 ∷ 0 ∷ 4 ∷ 0 ∷ 3 ∷ 0 ∷ 0 ∷ 0
    ∷ 4 ∷ 0 ∷ 13 ∷ 0 ∷ 0 ∷ 0 ∷ 6 ∷ 0 ∷ 14 ∷ 0 ∷ 1 ∷ 0 ∷ 3 ∷ 0 ∷ 6 ∷ 0 ∷ 2 ∷ 0 ∷ 1 ∷ 0 ∷ 1 ∷ 0
    ∷ 4 ∷ 0 ∷ 3 ∷ 0 ∷ 1 ∷ 0 ∷ 6 ∷ 0 ∷ 14 ∷ 0 ∷ 2 ∷ 0 ∷ 3 ∷ 0 ∷ 6 ∷ 0 ∷ 2 ∷ 0 ∷ 2 ∷ 0 ∷ 8 ∷ 0
    ∷ 4 ∷ 0 ∷ 3 ∷ 0 ∷ 2 ∷ 0 ∷ 2 ∷ 0 ∷ 9 ∷ 0 ∷ 8 ∷ 0 ∷ 4 ∷ 0 ∷ 0 ∷ 0 ∷ 0 ∷ 0 ∷ 0 ∷ 0
    ∷ 8 ∷ 0 ∷ 4 ∷ 0 ∷ 0 ∷ 0 ∷ 8 ∷ 0 ∷ 8 ∷ 0 ∷ []) ∷
    -- of two waits the second one's signal passes 2 on; it is earlier than the load from 2, and the first place is 8
    (8 ∷ 0 ∷ 1 ∷ 0 ∷ 1 ∷ 0 ∷ 2 ∷ 0 ∷ 9 ∷ 0 ∷ 4 ∷ 0 ∷ 13 ∷ 0 ∷ 0 ∷ 0 ∷ 6 ∷ 0 ∷ 2 ∷ 0 ∷ 0 ∷ 0 ∷ 0 ∷ 0
    ∷ 4 ∷ 0 ∷ 3 ∷ 0 ∷ 0 ∷ 0 ∷ 4 ∷ 0 ∷ 13 ∷ 0 ∷ 0 ∷ 0 ∷ 6 ∷ 0 ∷ 14 ∷ 0 ∷ 1 ∷ 0 ∷ 1 ∷ 0
    ∷ 4 ∷ 0 ∷ 7 ∷ 0 ∷ 1 ∷ 0 ∷ 6 ∷ 0 ∷ 14 ∷ 0 ∷ 1 ∷ 0 ∷ 4 ∷ 0
    ∷ 8 ∷ 0 ∷ 4 ∷ 0 ∷ 1 ∷ 0 ∷ 0 ∷ 0 ∷ 2 ∷ 0 ∷ 6 ∷ 0 ∷ 2 ∷ 0 ∷ 1 ∷ 0 ∷ 8 ∷ 0
    ∷ 4 ∷ 0 ∷ 3 ∷ 0 ∷ 1 ∷ 0 ∷ 2 ∷ 0 ∷ 9 ∷ 0 ∷ 8 ∷ 0 ∷ 4 ∷ 0 ∷ 0 ∷ 0 ∷ 0 ∷ 0 ∷ 0 ∷ 0
    ∷ 8 ∷ 0 ∷ 4 ∷ 0 ∷ 0 ∷ 0 ∷ 8 ∷ 0 ∷ 9 ∷ 0 ∷ []) ∷
    -- the load from 1 is earlier than the wait that hands it over: the first place is one past the load
    (8 ∷ 0 ∷ 1 ∷ 0 ∷ 1 ∷ 0 ∷ 2 ∷ 0 ∷ 9 ∷ 0 ∷ 6 ∷ 0 ∷ 2 ∷ 0 ∷ 0 ∷ 0 ∷ 0 ∷ 0 ∷ 4 ∷ 0 ∷ 3 ∷ 0 ∷ 0 ∷ 0
    ∷ 4 ∷ 0 ∷ 13 ∷ 0 ∷ 0 ∷ 0 ∷ 8 ∷ 0 ∷ 4 ∷ 0 ∷ 1 ∷ 0 ∷ 0 ∷ 0 ∷ 1 ∷ 0
    ∷ 6 ∷ 0 ∷ 14 ∷ 0 ∷ 1 ∷ 0 ∷ 3 ∷ 0 ∷ 6 ∷ 0 ∷ 2 ∷ 0 ∷ 1 ∷ 0 ∷ 8 ∷ 0 ∷ 4 ∷ 0 ∷ 3 ∷ 0 ∷ 1 ∷ 0
    ∷ 2 ∷ 0 ∷ 9 ∷ 0 ∷ 8 ∷ 0 ∷ 4 ∷ 0 ∷ 0 ∷ 0 ∷ 0 ∷ 0 ∷ 0 ∷ 0
    ∷ 8 ∷ 0 ∷ 4 ∷ 0 ∷ 0 ∷ 0 ∷ 8 ∷ 0 ∷ 6 ∷ 0 ∷ []) ∷
    -- a second hand-over brings 5 before 10, and a wait for the own signal 3 behind it adds nothing: both have windows
    (8 ∷ 0 ∷ 1 ∷ 0 ∷ 1 ∷ 0 ∷ 2 ∷ 0 ∷ 9 ∷ 0 ∷ 6 ∷ 0 ∷ 2 ∷ 0 ∷ 0 ∷ 0 ∷ 0 ∷ 0 ∷ 4 ∷ 0 ∷ 3 ∷ 0 ∷ 0 ∷ 0
    ∷ 4 ∷ 0 ∷ 13 ∷ 0 ∷ 0 ∷ 0 ∷ 6 ∷ 0 ∷ 14 ∷ 0 ∷ 1 ∷ 0 ∷ 3 ∷ 0 ∷ 6 ∷ 0 ∷ 2 ∷ 0 ∷ 1 ∷ 0 ∷ 1 ∷ 0
    ∷ 4 ∷ 0 ∷ 3 ∷ 0 ∷ 1 ∷ 0 ∷ 4 ∷ 0 ∷ 13 ∷ 0 ∷ 1 ∷ 0 ∷ 6 ∷ 0 ∷ 14 ∷ 0 ∷ 0 ∷ 0 ∷ 7 ∷ 0
    ∷ 6 ∷ 0 ∷ 14 ∷ 0 ∷ 0 ∷ 0 ∷ 3 ∷ 0 ∷ 6 ∷ 0 ∷ 2 ∷ 0 ∷ 0 ∷ 0 ∷ 8 ∷ 0 ∷ 4 ∷ 0 ∷ 3 ∷ 0 ∷ 0 ∷ 0
    ∷ 2 ∷ 0 ∷ 9 ∷ 0 ∷ 8 ∷ 0 ∷ 4 ∷ 0 ∷ 0 ∷ 0 ∷ 0 ∷ 0 ∷ 0 ∷ 0
    ∷ 8 ∷ 0 ∷ 4 ∷ 0 ∷ 0 ∷ 0 ∷ 8 ∷ 0 ∷ 10 ∷ 0 ∷ []) ∷
    -- a hand-over in stretch 2: the signal 6 passes 4 on, and nothing of stretch 1
    (8 ∷ 0 ∷ 1 ∷ 0 ∷ 1 ∷ 0 ∷ 2 ∷ 0 ∷ 9 ∷ 0 ∷ 6 ∷ 0 ∷ 2 ∷ 0 ∷ 0 ∷ 0 ∷ 0 ∷ 0 ∷ 4 ∷ 0 ∷ 3 ∷ 0 ∷ 0 ∷ 0
    ∷ 2 ∷ 0 ∷ 9 ∷ 0 ∷ 6 ∷ 0 ∷ 2 ∷ 0 ∷ 0 ∷ 0 ∷ 1 ∷ 0 ∷ 4 ∷ 0 ∷ 3 ∷ 0 ∷ 0 ∷ 0
    ∷ 4 ∷ 0 ∷ 13 ∷ 0 ∷ 0 ∷ 0 ∷ 6 ∷ 0 ∷ 14 ∷ 0 ∷ 1 ∷ 0 ∷ 6 ∷ 0 ∷ 6 ∷ 0 ∷ 2 ∷ 0 ∷ 1 ∷ 0 ∷ 8 ∷ 0
    ∷ 4 ∷ 0 ∷ 3 ∷ 0 ∷ 1 ∷ 0 ∷ 2 ∷ 0 ∷ 9 ∷ 0 ∷ 8 ∷ 0 ∷ 4 ∷ 0 ∷ 0 ∷ 0 ∷ 0 ∷ 0 ∷ 0 ∷ 0
    ∷ 8 ∷ 0 ∷ 4 ∷ 0 ∷ 0 ∷ 0 ∷ 8 ∷ 0 ∷ 8 ∷ 0 ∷ []) ∷
    []

-- the events that they are the records of
traces : List (List Event)
traces =
    -- 1 is issued before the signal 3, and 5 after the wait for it: 1 happens before 5, with no load between them
    (Begin 1 2 9 ∷ Issue 0 0 ∷ Commit 0 ∷ Signal 0 ∷ Wait 1 3 ∷ Issue 1 8 ∷ Commit 1 ∷ Crash ∷ Load 0 0 0
    ∷ Load 0 8 5 ∷ []) ∷
    -- the same without the wait: a signal alone orders nothing
    (Begin 1 2 9 ∷ Issue 0 0 ∷ Commit 0 ∷ Signal 0 ∷ Issue 1 8 ∷ Commit 1 ∷ Crash ∷ Load 0 0 0 ∷ Load 0 8 4
    ∷ []) ∷
    -- a signal is turned away while a store of its thread waits
    (Begin 1 1 2 ∷ Issue 0 0 ∷ Signal 0 ∷ []) ∷
    -- a wait for an issue
    (Begin 1 2 2 ∷ Issue 0 0 ∷ Commit 0 ∷ Wait 1 1 ∷ []) ∷
    -- a wait for a signal of an earlier stretch
    (Begin 1 2 2 ∷ Signal 0 ∷ Crash ∷ Wait 1 1 ∷ []) ∷
    -- a wait for 0
    (Begin 1 2 2 ∷ Signal 0 ∷ Wait 1 0 ∷ []) ∷
    -- a wait for itself
    (Begin 1 2 2 ∷ Signal 0 ∷ Wait 1 2 ∷ []) ∷
    -- a wait for a later signal
    (Begin 1 2 2 ∷ Wait 1 2 ∷ Signal 0 ∷ []) ∷
    -- no such thread goes before a source that is no signal
    (Begin 1 1 2 ∷ Signal 0 ∷ Wait 1 2 ∷ []) ∷
    -- a thread that waits behind its signal hands on what it had at the signal: 3 does not pass 1 on
    (Begin 1 3 9 ∷ Issue 0 0 ∷ Commit 0 ∷ Signal 1 ∷ Signal 0 ∷ Wait 1 4 ∷ Wait 2 3 ∷ Issue 2 8 ∷ Commit 2
    ∷ Crash ∷ Load 0 0 0 ∷ Load 0 8 7 ∷ []) ∷
    -- a wait for a signal of its own thread passes, and hands nothing over to another thread
    (Begin 1 2 9 ∷ Issue 0 0 ∷ Commit 0 ∷ Signal 0 ∷ Wait 0 3 ∷ Issue 1 8 ∷ Commit 1 ∷ Crash ∷ Load 0 0 0
    ∷ Load 0 8 5 ∷ []) ∷
    -- a wait needs no empty queue; 4, issued before it and committed after it, may be in without 1, and 6 may not
    (Begin 1 2 9 ∷ Issue 0 0 ∷ Commit 0 ∷ Signal 0 ∷ Issue 1 1 ∷ Wait 1 3 ∷ Issue 1 8 ∷ Commit 1 ∷ Commit 1
    ∷ Crash ∷ Load 0 0 0 ∷ Load 0 1 4 ∷ Load 0 8 6 ∷ []) ∷
    -- the signal 3 hands 1 over; 4, issued after it, is not handed over: the wait names 3, and not the later signal 6
    (Begin 1 2 9 ∷ Issue 0 1 ∷ Commit 0 ∷ Signal 0 ∷ Issue 0 0 ∷ Commit 0 ∷ Signal 0 ∷ Wait 1 3 ∷ Issue 1 8
    ∷ Commit 1 ∷ Crash ∷ Load 0 0 0 ∷ Load 0 8 8 ∷ []) ∷
    -- a signal passes on what came by a load; its thread, which stores nothing, has no last place
    (Begin 1 3 9 ∷ Issue 0 0 ∷ Commit 0 ∷ Load 1 0 1 ∷ Signal 1 ∷ Wait 2 4 ∷ Issue 2 8 ∷ Commit 2 ∷ Crash
    ∷ Load 0 0 0 ∷ Load 0 8 6 ∷ []) ∷
    -- a signal passes on what came by an earlier wait, which stands in a skip: a chain over three threads
    (Begin 1 3 9 ∷ Issue 0 0 ∷ Commit 0 ∷ Signal 0 ∷ SkipOn 1 ∷ Wait 1 3 ∷ Signal 1 ∷ Wait 2 6 ∷ Issue 2 8
    ∷ Commit 2 ∷ Crash ∷ Load 0 0 0 ∷ Load 0 8 8 ∷ []) ∷
    -- two waits for one signal: it hands over to both threads, and 5 does not happen before 8
    (Begin 1 3 9 ∷ Issue 0 0 ∷ Commit 0 ∷ Signal 0 ∷ Wait 1 3 ∷ Issue 1 1 ∷ Commit 1 ∷ Wait 2 3 ∷ Issue 2 8
    ∷ Commit 2 ∷ Crash ∷ Load 0 0 0 ∷ Load 0 8 8 ∷ []) ∷
    -- of two waits the second one's signal passes 2 on; it is earlier than the load from 2, and the first place is 8
    (Begin 1 2 9 ∷ Signal 0 ∷ Issue 0 0 ∷ Commit 0 ∷ Signal 0 ∷ Wait 1 1 ∷ Sfence 1 ∷ Wait 1 4 ∷ Load 1 0 2
    ∷ Issue 1 8 ∷ Commit 1 ∷ Crash ∷ Load 0 0 0 ∷ Load 0 8 9 ∷ []) ∷
    -- the load from 1 is earlier than the wait that hands it over: the first place is one past the load
    (Begin 1 2 9 ∷ Issue 0 0 ∷ Commit 0 ∷ Signal 0 ∷ Load 1 0 1 ∷ Wait 1 3 ∷ Issue 1 8 ∷ Commit 1 ∷ Crash
    ∷ Load 0 0 0 ∷ Load 0 8 6 ∷ []) ∷
    -- a second hand-over brings 5 before 10, and a wait for the own signal 3 behind it adds nothing: both have windows
    (Begin 1 2 9 ∷ Issue 0 0 ∷ Commit 0 ∷ Signal 0 ∷ Wait 1 3 ∷ Issue 1 1 ∷ Commit 1 ∷ Signal 1 ∷ Wait 0 7
    ∷ Wait 0 3 ∷ Issue 0 8 ∷ Commit 0 ∷ Crash ∷ Load 0 0 0 ∷ Load 0 8 10 ∷ []) ∷
    -- a hand-over in stretch 2: the signal 6 passes 4 on, and nothing of stretch 1
    (Begin 1 2 9 ∷ Issue 0 0 ∷ Commit 0 ∷ Crash ∷ Issue 0 1 ∷ Commit 0 ∷ Signal 0 ∷ Wait 1 6 ∷ Issue 1 8
    ∷ Commit 1 ∷ Crash ∷ Load 0 0 0 ∷ Load 0 8 8 ∷ []) ∷
    []

-- the answers, and the cut buffers afterwards
pub answers : List Outcome
answers =
    -- 1 is issued before the signal 3, and 5 after the wait for it: 1 happens before 5, with no load between them
    (record { answer = broken 9 9 1 5 (flush 0 (padded (none ∷ between 5 5 ∷ []))); cut = lent }) ∷
    -- the same without the wait: a signal alone orders nothing
    (record { answer = robust 8 50; cut = 0 ∷ 1 ∷ zeros 54 }) ∷
    -- a signal is turned away while a store of its thread waits
    (record { answer = refused 11 2; cut = lent }) ∷
    -- a wait for an issue
    (record { answer = refused 18 3; cut = lent }) ∷
    -- a wait for a signal of an earlier stretch
    (record { answer = refused 18 3; cut = lent }) ∷
    -- a wait for 0
    (record { answer = refused 18 2; cut = lent }) ∷
    -- a wait for itself
    (record { answer = refused 18 2; cut = lent }) ∷
    -- a wait for a later signal
    (record { answer = refused 18 1; cut = lent }) ∷
    -- no such thread goes before a source that is no signal
    (record { answer = refused 7 2; cut = lent }) ∷
    -- a thread that waits behind its signal hands on what it had at the signal: 3 does not pass 1 on
    (record { answer = robust 11 50; cut = 0 ∷ 0 ∷ 1 ∷ zeros 53 }) ∷
    -- a wait for a signal of its own thread passes, and hands nothing over to another thread
    (record { answer = robust 9 50; cut = 0 ∷ 1 ∷ zeros 54 }) ∷
    -- a wait needs no empty queue; 4, issued before it and committed after it, may be in without 1, and 6 may not
    (record { answer = broken 12 12 1 6 (flush 0 (padded (none ∷ between 6 6 ∷ []))); cut = lent }) ∷
    -- the signal 3 hands 1 over; 4, issued after it, is not handed over: the wait names 3, and not the later signal 6
    (record { answer = robust 12 66; cut = 1 ∷ 1 ∷ zeros 54 }) ∷
    -- a signal passes on what came by a load; its thread, which stores nothing, has no last place
    (record { answer = broken 10 10 1 6 (flush 0 (padded (none ∷ none ∷ between 6 6 ∷ []))); cut = lent }) ∷
    -- a signal passes on what came by an earlier wait, which stands in a skip: a chain over three threads
    (record { answer = broken 12 12 1 8 (flush 0 (padded (none ∷ none ∷ between 8 8 ∷ []))); cut = lent }) ∷
    -- two waits for one signal: it hands over to both threads, and 5 does not happen before 8
    (record { answer = broken 12 12 1 8 (flush 0 (padded (none ∷ none ∷ between 8 8 ∷ []))); cut = lent }) ∷
    -- of two waits the second one's signal passes 2 on; it is earlier than the load from 2, and the first place is 8
    (record { answer = broken 13 13 2 9 (flush 0 (padded (none ∷ between 8 9 ∷ []))); cut = lent }) ∷
    -- the load from 1 is earlier than the wait that hands it over: the first place is one past the load
    (record { answer = broken 10 10 1 6 (flush 0 (padded (none ∷ between 5 6 ∷ []))); cut = lent }) ∷
    -- a second hand-over brings 5 before 10, and a wait for the own signal 3 behind it adds nothing: both have windows
    (record { answer = broken 14 14 1 10 (flush 0 (padded (between 2 10 ∷ between 5 5 ∷ []))); cut = lent }) ∷
    -- a hand-over in stretch 2: the signal 6 passes 4 on, and nothing of stretch 1
    (record { answer = robust 12 66; cut = 0 ∷ 0 ∷ 0 ∷ 0 ∷ 0 ∷ 0 ∷ 0 ∷ 0 ∷ 1 ∷ 1 ∷ zeros 46 }) ∷
    []

encoded : map encode traces ≡ sessions
unfolding traces sessions encode record_of row_of
encoded = refl

computed : map outcome_of_events traces ≡ answers
unfolding traces answers reading_events some last first first_from most stretch count committed commit_of waiting current
    source_fits switched countable held counting any answer rules finished seen clock vc forbids? observes? forbidden?
    observed? pair? missing? bad? closure load_of missing_of observed_of ruling_of behind last_covered window_of fault_of
    tabulate cut_of sum share_of row_of
computed = refl

pub handed_as_worked : map outcome_of sessions ≡ answers
unfolding traces
handed_as_worked = ap (map outcome_of) (sym encoded) ∙ (outcome_all traces refl ∙ computed)
