-- Document 02, job 2, "Locked operations in one record": a session for each thing that the load, the issue and the
-- commit of such a record do, that turns it away, or that it does to a window. The definitions give their bytes the
-- answers that follow from documents 01 and 02, and the cut buffers. Shown together as one list, by computation. Made
-- by tools/oracle/proof_file.py.
use mathlib.Core.Path.{◌≡◌, refl, sym, ap, ◌∙◌}
use mathlib.Core.List.{List, [], ◌∷◌, map}
use Prim.Native.Nat.{ℕ}
use Rattle.record.specs.declared.events.Event.{Event}
use Rattle.record.specs.declared.events.Event.TheVariants.{Begin, Issue, Commit, Load, Mfence, Crash}
use Rattle.record.specs.declared.events.Event.TheVariants.{SkipOn, Locked}
use Rattle.record.specs.Events.{record_of}
use Rattle.record.specs.Table.{row_of}
use Rattle.model.specs.Search.{some, any, last, first, first_from, most}
use Rattle.model.specs.Trace.{stretch, count}
use Rattle.model.specs.Machine.{committed, commit_of, waiting, current, source_fits, switched}
use Rattle.model.specs.Machine.{countable, held, counting}
use Rattle.model.specs.Rules.{answer, rules}
use Rattle.model.specs.Choice.{finished}
use Rattle.model.specs.Clocks.{seen, clock, vc}
use Rattle.model.specs.Verdict.{forbids?, observes?, forbidden?, observed?, pair?, missing?, bad?, closure}
use Rattle.model.specs.Verdict.{load_of, missing_of, observed_of, ruling_of}
use Rattle.model.specs.Windows.{none, between, behind, last_covered, window_of}
use Rattle.model.specs.Answers.{refused, robust, broken, flush}
use Rattle.model.specs.Answers.{tabulate, cut_of, sum, share_of, fault_of}
use Rattle.model.specs.Reading.{encode}
use Rattle.model.proofs.Encoding.{reading_events}
use Rattle.model.proofs.Sessions.{lent, zeros, padded, Outcome, outcome_of, outcome_of_events, outcome_all}

-- the bytes
pub sessions : List (List ℕ)
sessions =
    -- a locked operation's store, 3, is committed behind its source, so a load from 1 forbids it
    (8 ∷ 0 ∷ 1 ∷ 0 ∷ 1 ∷ 0 ∷ 2 ∷ 0 ∷ 2 ∷ 0 ∷ 6 ∷ 0 ∷ 2 ∷ 0 ∷ 0 ∷ 0 ∷ 0 ∷ 0 ∷ 4 ∷ 0 ∷ 3 ∷ 0 ∷ 0 ∷ 0
    ∷ 8 ∷ 0 ∷ 12 ∷ 0 ∷ 1 ∷ 0 ∷ 0 ∷ 0 ∷ 1 ∷ 0 ∷ 2 ∷ 0 ∷ 9 ∷ 0
    ∷ 8 ∷ 0 ∷ 4 ∷ 0 ∷ 0 ∷ 0 ∷ 0 ∷ 0 ∷ 1 ∷ 0 ∷ []) ∷
    -- a locked operation's source happens before its store: with 3 observed, 1 is in too
    (8 ∷ 0 ∷ 1 ∷ 0 ∷ 1 ∷ 0 ∷ 2 ∷ 0 ∷ 2 ∷ 0 ∷ 6 ∷ 0 ∷ 2 ∷ 0 ∷ 0 ∷ 0 ∷ 0 ∷ 0 ∷ 4 ∷ 0 ∷ 3 ∷ 0 ∷ 0 ∷ 0
    ∷ 8 ∷ 0 ∷ 12 ∷ 0 ∷ 1 ∷ 0 ∷ 0 ∷ 0 ∷ 1 ∷ 0 ∷ 2 ∷ 0 ∷ 9 ∷ 0
    ∷ 8 ∷ 0 ∷ 4 ∷ 0 ∷ 0 ∷ 0 ∷ 0 ∷ 0 ∷ 3 ∷ 0 ∷ []) ∷
    -- observed's own load first brings missing to its thread: no window there, only in thread 0, in front of 3
    (8 ∷ 0 ∷ 1 ∷ 0 ∷ 1 ∷ 0 ∷ 2 ∷ 0 ∷ 9 ∷ 0 ∷ 6 ∷ 0 ∷ 2 ∷ 0 ∷ 0 ∷ 0 ∷ 0 ∷ 0 ∷ 4 ∷ 0 ∷ 3 ∷ 0 ∷ 0 ∷ 0
    ∷ 6 ∷ 0 ∷ 2 ∷ 0 ∷ 0 ∷ 0 ∷ 8 ∷ 0 ∷ 4 ∷ 0 ∷ 3 ∷ 0 ∷ 0 ∷ 0
    ∷ 8 ∷ 0 ∷ 12 ∷ 0 ∷ 1 ∷ 0 ∷ 8 ∷ 0 ∷ 3 ∷ 0 ∷ 2 ∷ 0 ∷ 9 ∷ 0
    ∷ 8 ∷ 0 ∷ 4 ∷ 0 ∷ 0 ∷ 0 ∷ 0 ∷ 0 ∷ 0 ∷ 0 ∷ 8 ∷ 0 ∷ 4 ∷ 0 ∷ 0 ∷ 0 ∷ 8 ∷ 0 ∷ 5 ∷ 0 ∷ []) ∷
    -- the same as three records: observed is 6 and the load 10; a flush may stand between the load and the issue
    (8 ∷ 0 ∷ 1 ∷ 0 ∷ 1 ∷ 0 ∷ 2 ∷ 0 ∷ 9 ∷ 0 ∷ 6 ∷ 0 ∷ 2 ∷ 0 ∷ 0 ∷ 0 ∷ 0 ∷ 0 ∷ 4 ∷ 0 ∷ 3 ∷ 0 ∷ 0 ∷ 0
    ∷ 6 ∷ 0 ∷ 2 ∷ 0 ∷ 0 ∷ 0 ∷ 8 ∷ 0 ∷ 4 ∷ 0 ∷ 3 ∷ 0 ∷ 0 ∷ 0
    ∷ 8 ∷ 0 ∷ 4 ∷ 0 ∷ 1 ∷ 0 ∷ 8 ∷ 0 ∷ 3 ∷ 0 ∷ 6 ∷ 0 ∷ 2 ∷ 0 ∷ 1 ∷ 0 ∷ 8 ∷ 0
    ∷ 4 ∷ 0 ∷ 3 ∷ 0 ∷ 1 ∷ 0 ∷ 2 ∷ 0 ∷ 9 ∷ 0 ∷ 8 ∷ 0 ∷ 4 ∷ 0 ∷ 0 ∷ 0 ∷ 0 ∷ 0 ∷ 0 ∷ 0
    ∷ 8 ∷ 0 ∷ 4 ∷ 0 ∷ 0 ∷ 0 ∷ 8 ∷ 0 ∷ 6 ∷ 0 ∷ []) ∷
    -- locked operation: no such thread goes before no such location
    (8 ∷ 0 ∷ 1 ∷ 0 ∷ 1 ∷ 0 ∷ 1 ∷ 0 ∷ 2 ∷ 0 ∷ 8 ∷ 0 ∷ 12 ∷ 0 ∷ 1 ∷ 0 ∷ 2 ∷ 0 ∷ 5 ∷ 0 ∷ []) ∷
    -- locked operation: no such location goes before the waiting store
    (8 ∷ 0 ∷ 1 ∷ 0 ∷ 1 ∷ 0 ∷ 1 ∷ 0 ∷ 2 ∷ 0 ∷ 6 ∷ 0 ∷ 2 ∷ 0 ∷ 0 ∷ 0 ∷ 0 ∷ 0
    ∷ 8 ∷ 0 ∷ 12 ∷ 0 ∷ 0 ∷ 0 ∷ 2 ∷ 0 ∷ 5 ∷ 0 ∷ []) ∷
    -- locked operation: the waiting store goes before the wrong source
    (8 ∷ 0 ∷ 1 ∷ 0 ∷ 1 ∷ 0 ∷ 1 ∷ 0 ∷ 2 ∷ 0 ∷ 6 ∷ 0 ∷ 2 ∷ 0 ∷ 0 ∷ 0 ∷ 0 ∷ 0
    ∷ 8 ∷ 0 ∷ 12 ∷ 0 ∷ 0 ∷ 0 ∷ 0 ∷ 0 ∷ 5 ∷ 0 ∷ []) ∷
    -- locked operation: a store that waits at another location turns it away too
    (8 ∷ 0 ∷ 1 ∷ 0 ∷ 1 ∷ 0 ∷ 1 ∷ 0 ∷ 2 ∷ 0 ∷ 6 ∷ 0 ∷ 2 ∷ 0 ∷ 0 ∷ 0 ∷ 0 ∷ 0
    ∷ 8 ∷ 0 ∷ 12 ∷ 0 ∷ 0 ∷ 0 ∷ 1 ∷ 0 ∷ 0 ∷ 0 ∷ []) ∷
    -- locked operation: it is not its own source, since it loads before it issues
    (8 ∷ 0 ∷ 1 ∷ 0 ∷ 1 ∷ 0 ∷ 1 ∷ 0 ∷ 2 ∷ 0 ∷ 8 ∷ 0 ∷ 12 ∷ 0 ∷ 0 ∷ 0 ∷ 0 ∷ 0 ∷ 1 ∷ 0 ∷ []) ∷
    -- locked operation: its store does not wait, so a commit right behind it has an empty queue
    (8 ∷ 0 ∷ 1 ∷ 0 ∷ 1 ∷ 0 ∷ 1 ∷ 0 ∷ 2 ∷ 0 ∷ 8 ∷ 0 ∷ 12 ∷ 0 ∷ 0 ∷ 0 ∷ 0 ∷ 0 ∷ 0 ∷ 0
    ∷ 4 ∷ 0 ∷ 3 ∷ 0 ∷ 0 ∷ 0 ∷ []) ∷
    -- locked operation: an mfence behind it passes; a load by another thread that reads past its store does not
    (8 ∷ 0 ∷ 1 ∷ 0 ∷ 1 ∷ 0 ∷ 2 ∷ 0 ∷ 2 ∷ 0 ∷ 6 ∷ 0 ∷ 2 ∷ 0 ∷ 0 ∷ 0 ∷ 0 ∷ 0 ∷ 4 ∷ 0 ∷ 3 ∷ 0 ∷ 0 ∷ 0
    ∷ 8 ∷ 0 ∷ 12 ∷ 0 ∷ 1 ∷ 0 ∷ 0 ∷ 0 ∷ 1 ∷ 0 ∷ 4 ∷ 0 ∷ 8 ∷ 0 ∷ 1 ∷ 0
    ∷ 8 ∷ 0 ∷ 4 ∷ 0 ∷ 0 ∷ 0 ∷ 0 ∷ 0 ∷ 1 ∷ 0 ∷ []) ∷
    -- locked operation: nor does a load of its own thread that reads past its store
    (8 ∷ 0 ∷ 1 ∷ 0 ∷ 1 ∷ 0 ∷ 1 ∷ 0 ∷ 2 ∷ 0 ∷ 8 ∷ 0 ∷ 12 ∷ 0 ∷ 0 ∷ 0 ∷ 0 ∷ 0 ∷ 0 ∷ 0
    ∷ 8 ∷ 0 ∷ 4 ∷ 0 ∷ 0 ∷ 0 ∷ 0 ∷ 0 ∷ 0 ∷ 0 ∷ []) ∷
    -- a crossing locked operation counts: it reads past 1, which happens before the observed 3, and is the load
    (8 ∷ 0 ∷ 1 ∷ 0 ∷ 1 ∷ 0 ∷ 2 ∷ 0 ∷ 9 ∷ 0 ∷ 6 ∷ 0 ∷ 2 ∷ 0 ∷ 0 ∷ 0 ∷ 0 ∷ 0 ∷ 4 ∷ 0 ∷ 3 ∷ 0 ∷ 0 ∷ 0
    ∷ 6 ∷ 0 ∷ 2 ∷ 0 ∷ 0 ∷ 0 ∷ 8 ∷ 0 ∷ 4 ∷ 0 ∷ 3 ∷ 0 ∷ 0 ∷ 0 ∷ 2 ∷ 0 ∷ 9 ∷ 0
    ∷ 8 ∷ 0 ∷ 4 ∷ 0 ∷ 0 ∷ 0 ∷ 8 ∷ 0 ∷ 3 ∷ 0 ∷ 8 ∷ 0 ∷ 12 ∷ 0 ∷ 1 ∷ 0 ∷ 0 ∷ 0 ∷ 0 ∷ 0 ∷ []) ∷
    -- a locked operation in a skip: its load does not count; its store stands and is observed after the next crash
    (8 ∷ 0 ∷ 1 ∷ 0 ∷ 1 ∷ 0 ∷ 2 ∷ 0 ∷ 9 ∷ 0 ∷ 6 ∷ 0 ∷ 2 ∷ 0 ∷ 0 ∷ 0 ∷ 0 ∷ 0 ∷ 4 ∷ 0 ∷ 3 ∷ 0 ∷ 0 ∷ 0
    ∷ 6 ∷ 0 ∷ 2 ∷ 0 ∷ 0 ∷ 0 ∷ 8 ∷ 0 ∷ 4 ∷ 0 ∷ 3 ∷ 0 ∷ 0 ∷ 0 ∷ 2 ∷ 0 ∷ 9 ∷ 0
    ∷ 8 ∷ 0 ∷ 4 ∷ 0 ∷ 0 ∷ 0 ∷ 8 ∷ 0 ∷ 3 ∷ 0 ∷ 4 ∷ 0 ∷ 10 ∷ 0 ∷ 1 ∷ 0
    ∷ 8 ∷ 0 ∷ 12 ∷ 0 ∷ 1 ∷ 0 ∷ 0 ∷ 0 ∷ 0 ∷ 0 ∷ 2 ∷ 0 ∷ 9 ∷ 0
    ∷ 8 ∷ 0 ∷ 4 ∷ 0 ∷ 0 ∷ 0 ∷ 0 ∷ 0 ∷ 8 ∷ 0 ∷ []) ∷
    -- compare-and-swaps of three threads: each happens before the next
    (8 ∷ 0 ∷ 1 ∷ 0 ∷ 1 ∷ 0 ∷ 3 ∷ 0 ∷ 2 ∷ 0 ∷ 8 ∷ 0 ∷ 12 ∷ 0 ∷ 0 ∷ 0 ∷ 0 ∷ 0 ∷ 0 ∷ 0
    ∷ 8 ∷ 0 ∷ 12 ∷ 0 ∷ 1 ∷ 0 ∷ 0 ∷ 0 ∷ 1 ∷ 0 ∷ 8 ∷ 0 ∷ 12 ∷ 0 ∷ 2 ∷ 0 ∷ 0 ∷ 0 ∷ 2 ∷ 0
    ∷ 2 ∷ 0 ∷ 9 ∷ 0 ∷ 8 ∷ 0 ∷ 4 ∷ 0 ∷ 0 ∷ 0 ∷ 0 ∷ 0 ∷ 3 ∷ 0 ∷ []) ∷
    -- the same, thread 1's as three records: its store is 3, which the next one names as its source; that one is 5
    (8 ∷ 0 ∷ 1 ∷ 0 ∷ 1 ∷ 0 ∷ 3 ∷ 0 ∷ 2 ∷ 0 ∷ 8 ∷ 0 ∷ 12 ∷ 0 ∷ 0 ∷ 0 ∷ 0 ∷ 0 ∷ 0 ∷ 0
    ∷ 8 ∷ 0 ∷ 4 ∷ 0 ∷ 1 ∷ 0 ∷ 0 ∷ 0 ∷ 1 ∷ 0 ∷ 6 ∷ 0 ∷ 2 ∷ 0 ∷ 1 ∷ 0 ∷ 0 ∷ 0
    ∷ 4 ∷ 0 ∷ 3 ∷ 0 ∷ 1 ∷ 0 ∷ 8 ∷ 0 ∷ 12 ∷ 0 ∷ 2 ∷ 0 ∷ 0 ∷ 0 ∷ 3 ∷ 0 ∷ 2 ∷ 0 ∷ 9 ∷ 0
    ∷ 8 ∷ 0 ∷ 4 ∷ 0 ∷ 0 ∷ 0 ∷ 0 ∷ 0 ∷ 5 ∷ 0 ∷ []) ∷
    -- the locked operations 5 and 6 themselves bring missing to their threads: only thread 0 has a window
    (8 ∷ 0 ∷ 1 ∷ 0 ∷ 1 ∷ 0 ∷ 3 ∷ 0 ∷ 9 ∷ 0 ∷ 6 ∷ 0 ∷ 2 ∷ 0 ∷ 0 ∷ 0 ∷ 0 ∷ 0 ∷ 4 ∷ 0 ∷ 3 ∷ 0 ∷ 0 ∷ 0
    ∷ 6 ∷ 0 ∷ 2 ∷ 0 ∷ 0 ∷ 0 ∷ 8 ∷ 0 ∷ 4 ∷ 0 ∷ 3 ∷ 0 ∷ 0 ∷ 0
    ∷ 8 ∷ 0 ∷ 12 ∷ 0 ∷ 1 ∷ 0 ∷ 8 ∷ 0 ∷ 3 ∷ 0 ∷ 8 ∷ 0 ∷ 12 ∷ 0 ∷ 2 ∷ 0 ∷ 8 ∷ 0 ∷ 5 ∷ 0
    ∷ 2 ∷ 0 ∷ 9 ∷ 0 ∷ 8 ∷ 0 ∷ 4 ∷ 0 ∷ 0 ∷ 0 ∷ 0 ∷ 0 ∷ 0 ∷ 0
    ∷ 8 ∷ 0 ∷ 4 ∷ 0 ∷ 0 ∷ 0 ∷ 8 ∷ 0 ∷ 6 ∷ 0 ∷ []) ∷
    -- an earlier load brought missing to the observed locked operation's thread: that thread has a window
    (8 ∷ 0 ∷ 1 ∷ 0 ∷ 1 ∷ 0 ∷ 2 ∷ 0 ∷ 9 ∷ 0 ∷ 6 ∷ 0 ∷ 2 ∷ 0 ∷ 0 ∷ 0 ∷ 0 ∷ 0 ∷ 4 ∷ 0 ∷ 3 ∷ 0 ∷ 0 ∷ 0
    ∷ 6 ∷ 0 ∷ 2 ∷ 0 ∷ 0 ∷ 0 ∷ 8 ∷ 0 ∷ 4 ∷ 0 ∷ 3 ∷ 0 ∷ 0 ∷ 0
    ∷ 8 ∷ 0 ∷ 4 ∷ 0 ∷ 1 ∷ 0 ∷ 0 ∷ 0 ∷ 1 ∷ 0 ∷ 8 ∷ 0 ∷ 12 ∷ 0 ∷ 1 ∷ 0 ∷ 8 ∷ 0 ∷ 3 ∷ 0
    ∷ 2 ∷ 0 ∷ 9 ∷ 0 ∷ 8 ∷ 0 ∷ 4 ∷ 0 ∷ 0 ∷ 0 ∷ 0 ∷ 0 ∷ 0 ∷ 0
    ∷ 8 ∷ 0 ∷ 4 ∷ 0 ∷ 0 ∷ 0 ∷ 8 ∷ 0 ∷ 6 ∷ 0 ∷ []) ∷
    -- the locked operation observed is of missing's own thread, where the first place is missing + 1
    (8 ∷ 0 ∷ 1 ∷ 0 ∷ 1 ∷ 0 ∷ 1 ∷ 0 ∷ 9 ∷ 0 ∷ 6 ∷ 0 ∷ 2 ∷ 0 ∷ 0 ∷ 0 ∷ 0 ∷ 0 ∷ 4 ∷ 0 ∷ 3 ∷ 0 ∷ 0 ∷ 0
    ∷ 6 ∷ 0 ∷ 2 ∷ 0 ∷ 0 ∷ 0 ∷ 8 ∷ 0 ∷ 4 ∷ 0 ∷ 3 ∷ 0 ∷ 0 ∷ 0
    ∷ 8 ∷ 0 ∷ 12 ∷ 0 ∷ 0 ∷ 0 ∷ 8 ∷ 0 ∷ 3 ∷ 0 ∷ 2 ∷ 0 ∷ 9 ∷ 0
    ∷ 8 ∷ 0 ∷ 4 ∷ 0 ∷ 0 ∷ 0 ∷ 0 ∷ 0 ∷ 0 ∷ 0 ∷ 8 ∷ 0 ∷ 4 ∷ 0 ∷ 0 ∷ 0 ∷ 8 ∷ 0 ∷ 5 ∷ 0 ∷ []) ∷
    -- a locked operation is missing, one brings it, and observed is a later store of that thread: a window behind it
    (8 ∷ 0 ∷ 1 ∷ 0 ∷ 1 ∷ 0 ∷ 2 ∷ 0 ∷ 9 ∷ 0 ∷ 8 ∷ 0 ∷ 12 ∷ 0 ∷ 0 ∷ 0 ∷ 0 ∷ 0 ∷ 0 ∷ 0
    ∷ 8 ∷ 0 ∷ 12 ∷ 0 ∷ 1 ∷ 0 ∷ 0 ∷ 0 ∷ 1 ∷ 0 ∷ 6 ∷ 0 ∷ 2 ∷ 0 ∷ 1 ∷ 0 ∷ 8 ∷ 0
    ∷ 4 ∷ 0 ∷ 3 ∷ 0 ∷ 1 ∷ 0 ∷ 2 ∷ 0 ∷ 9 ∷ 0 ∷ 8 ∷ 0 ∷ 4 ∷ 0 ∷ 0 ∷ 0 ∷ 0 ∷ 0 ∷ 0 ∷ 0
    ∷ 8 ∷ 0 ∷ 4 ∷ 0 ∷ 0 ∷ 0 ∷ 8 ∷ 0 ∷ 3 ∷ 0 ∷ []) ∷
    []

-- the events that they are the records of
traces : List (List Event)
traces =
    -- a locked operation's store, 3, is committed behind its source, so a load from 1 forbids it
    (Begin 1 2 2 ∷ Issue 0 0 ∷ Commit 0 ∷ Locked 1 0 1 ∷ Crash ∷ Load 0 0 1 ∷ []) ∷
    -- a locked operation's source happens before its store: with 3 observed, 1 is in too
    (Begin 1 2 2 ∷ Issue 0 0 ∷ Commit 0 ∷ Locked 1 0 1 ∷ Crash ∷ Load 0 0 3 ∷ []) ∷
    -- observed's own load first brings missing to its thread: no window there, only in thread 0, in front of 3
    (Begin 1 2 9 ∷ Issue 0 0 ∷ Commit 0 ∷ Issue 0 8 ∷ Commit 0 ∷ Locked 1 8 3 ∷ Crash ∷ Load 0 0 0 ∷ Load 0 8 5
    ∷ []) ∷
    -- the same as three records: observed is 6 and the load 10; a flush may stand between the load and the issue
    (Begin 1 2 9 ∷ Issue 0 0 ∷ Commit 0 ∷ Issue 0 8 ∷ Commit 0 ∷ Load 1 8 3 ∷ Issue 1 8 ∷ Commit 1 ∷ Crash
    ∷ Load 0 0 0 ∷ Load 0 8 6 ∷ []) ∷
    -- locked operation: no such thread goes before no such location
    (Begin 1 1 2 ∷ Locked 1 2 5 ∷ []) ∷
    -- locked operation: no such location goes before the waiting store
    (Begin 1 1 2 ∷ Issue 0 0 ∷ Locked 0 2 5 ∷ []) ∷
    -- locked operation: the waiting store goes before the wrong source
    (Begin 1 1 2 ∷ Issue 0 0 ∷ Locked 0 0 5 ∷ []) ∷
    -- locked operation: a store that waits at another location turns it away too
    (Begin 1 1 2 ∷ Issue 0 0 ∷ Locked 0 1 0 ∷ []) ∷
    -- locked operation: it is not its own source, since it loads before it issues
    (Begin 1 1 2 ∷ Locked 0 0 1 ∷ []) ∷
    -- locked operation: its store does not wait, so a commit right behind it has an empty queue
    (Begin 1 1 2 ∷ Locked 0 0 0 ∷ Commit 0 ∷ []) ∷
    -- locked operation: an mfence behind it passes; a load by another thread that reads past its store does not
    (Begin 1 2 2 ∷ Issue 0 0 ∷ Commit 0 ∷ Locked 1 0 1 ∷ Mfence 1 ∷ Load 0 0 1 ∷ []) ∷
    -- locked operation: nor does a load of its own thread that reads past its store
    (Begin 1 1 2 ∷ Locked 0 0 0 ∷ Load 0 0 0 ∷ []) ∷
    -- a crossing locked operation counts: it reads past 1, which happens before the observed 3, and is the load
    (Begin 1 2 9 ∷ Issue 0 0 ∷ Commit 0 ∷ Issue 0 8 ∷ Commit 0 ∷ Crash ∷ Load 0 8 3 ∷ Locked 1 0 0 ∷ []) ∷
    -- a locked operation in a skip: its load does not count; its store stands and is observed after the next crash
    (Begin 1 2 9 ∷ Issue 0 0 ∷ Commit 0 ∷ Issue 0 8 ∷ Commit 0 ∷ Crash ∷ Load 0 8 3 ∷ SkipOn 1 ∷ Locked 1 0 0
    ∷ Crash ∷ Load 0 0 8 ∷ []) ∷
    -- compare-and-swaps of three threads: each happens before the next
    (Begin 1 3 2 ∷ Locked 0 0 0 ∷ Locked 1 0 1 ∷ Locked 2 0 2 ∷ Crash ∷ Load 0 0 3 ∷ []) ∷
    -- the same, thread 1's as three records: its store is 3, which the next one names as its source; that one is 5
    (Begin 1 3 2 ∷ Locked 0 0 0 ∷ Load 1 0 1 ∷ Issue 1 0 ∷ Commit 1 ∷ Locked 2 0 3 ∷ Crash ∷ Load 0 0 5 ∷ []) ∷
    -- the locked operations 5 and 6 themselves bring missing to their threads: only thread 0 has a window
    (Begin 1 3 9 ∷ Issue 0 0 ∷ Commit 0 ∷ Issue 0 8 ∷ Commit 0 ∷ Locked 1 8 3 ∷ Locked 2 8 5 ∷ Crash
    ∷ Load 0 0 0 ∷ Load 0 8 6 ∷ []) ∷
    -- an earlier load brought missing to the observed locked operation's thread: that thread has a window
    (Begin 1 2 9 ∷ Issue 0 0 ∷ Commit 0 ∷ Issue 0 8 ∷ Commit 0 ∷ Load 1 0 1 ∷ Locked 1 8 3 ∷ Crash ∷ Load 0 0 0
    ∷ Load 0 8 6 ∷ []) ∷
    -- the locked operation observed is of missing's own thread, where the first place is missing + 1
    (Begin 1 1 9 ∷ Issue 0 0 ∷ Commit 0 ∷ Issue 0 8 ∷ Commit 0 ∷ Locked 0 8 3 ∷ Crash ∷ Load 0 0 0 ∷ Load 0 8 5
    ∷ []) ∷
    -- a locked operation is missing, one brings it, and observed is a later store of that thread: a window behind it
    (Begin 1 2 9 ∷ Locked 0 0 0 ∷ Locked 1 0 1 ∷ Issue 1 8 ∷ Commit 1 ∷ Crash ∷ Load 0 0 0 ∷ Load 0 8 3 ∷ []) ∷
    []

-- the answers, and the cut buffers afterwards
pub answers : List Outcome
answers =
    -- a locked operation's store, 3, is committed behind its source, so a load from 1 forbids it
    (record { answer = robust 5 50; cut = 1 ∷ zeros 55 }) ∷
    -- a locked operation's source happens before its store: with 3 observed, 1 is in too
    (record { answer = robust 5 100; cut = 1 ∷ 1 ∷ zeros 54 }) ∷
    -- observed's own load first brings missing to its thread: no window there, only in thread 0, in front of 3
    (record { answer = broken 8 8 1 5 (flush 0 (padded (between 2 3 ∷ []))); cut = lent }) ∷
    -- the same as three records: observed is 6 and the load 10; a flush may stand between the load and the issue
    (record { answer = broken 10 10 1 6 (flush 0 (padded (between 2 3 ∷ between 6 6 ∷ []))); cut = lent }) ∷
    -- locked operation: no such thread goes before no such location
    (record { answer = refused 7 1; cut = lent }) ∷
    -- locked operation: no such location goes before the waiting store
    (record { answer = refused 8 2; cut = lent }) ∷
    -- locked operation: the waiting store goes before the wrong source
    (record { answer = refused 11 2; cut = lent }) ∷
    -- locked operation: a store that waits at another location turns it away too
    (record { answer = refused 11 2; cut = lent }) ∷
    -- locked operation: it is not its own source, since it loads before it issues
    (record { answer = refused 9 1; cut = lent }) ∷
    -- locked operation: its store does not wait, so a commit right behind it has an empty queue
    (record { answer = refused 10 2; cut = lent }) ∷
    -- locked operation: an mfence behind it passes; a load by another thread that reads past its store does not
    (record { answer = refused 9 5; cut = lent }) ∷
    -- locked operation: nor does a load of its own thread that reads past its store
    (record { answer = refused 9 2; cut = lent }) ∷
    -- a crossing locked operation counts: it reads past 1, which happens before the observed 3, and is the load
    (record { answer = broken 7 7 1 3 (flush 0 (padded (between 2 3 ∷ []))); cut = lent }) ∷
    -- a locked operation in a skip: its load does not count; its store stands and is observed after the next crash
    (record { answer = robust 10 100; cut = 2 ∷ 0 ∷ 0 ∷ 0 ∷ 0 ∷ 0 ∷ 0 ∷ 0 ∷ 0 ∷ 1 ∷ zeros 46 }) ∷
    -- compare-and-swaps of three threads: each happens before the next
    (record { answer = robust 5 100; cut = 1 ∷ 1 ∷ 1 ∷ zeros 53 }) ∷
    -- the same, thread 1's as three records: its store is 3, which the next one names as its source; that one is 5
    (record { answer = robust 7 100; cut = 1 ∷ 1 ∷ 1 ∷ zeros 53 }) ∷
    -- the locked operations 5 and 6 themselves bring missing to their threads: only thread 0 has a window
    (record { answer = broken 9 9 1 6 (flush 0 (padded (between 2 3 ∷ []))); cut = lent }) ∷
    -- an earlier load brought missing to the observed locked operation's thread: that thread has a window
    (record { answer = broken 9 9 1 6 (flush 0 (padded (between 2 3 ∷ between 6 6 ∷ []))); cut = lent }) ∷
    -- the locked operation observed is of missing's own thread, where the first place is missing + 1
    (record { answer = broken 8 8 1 5 (flush 0 (padded (between 2 5 ∷ []))); cut = lent }) ∷
    -- a locked operation is missing, one brings it, and observed is a later store of that thread: a window behind it
    (record { answer = broken 7 7 1 3 (flush 0 (padded (none ∷ between 3 3 ∷ []))); cut = lent }) ∷
    []

encoded : map encode traces ≡ sessions
unfolding traces sessions encode record_of row_of
encoded = refl

computed : map outcome_of_events traces ≡ answers
unfolding traces answers reading_events some last first first_from most stretch count committed commit_of waiting current
    source_fits switched countable held counting any answer rules finished seen clock vc forbids? observes? forbidden?
    observed? pair? missing? bad? closure load_of missing_of observed_of ruling_of behind last_covered window_of fault_of
    tabulate cut_of sum share_of row_of
computed = refl

pub locked_as_worked : map outcome_of sessions ≡ answers
unfolding traces
locked_as_worked = ap (map outcome_of) (sym encoded) ∙ (outcome_all traces refl ∙ computed)
