-- Document 01, "Errors the trade has made": a session for each that has no case of its own, and for rules that no case
-- needs. The definitions give their bytes the answers that follow from documents 01 and 02, and the cut buffers. Shown
-- together as one list, by computation. Made by tools/oracle/proof_file.py.
use mathlib.Core.Path.{◌≡◌, refl, sym, ap, ◌∙◌}
use mathlib.Core.List.{List, [], ◌∷◌, map}
use Prim.Native.Nat.{ℕ}
use Rattle.record.specs.declared.events.Event.{Event}
use Rattle.record.specs.declared.events.Event.TheVariants.{Begin, Issue, Commit, Load, Crash, SkipOn}
use Rattle.record.specs.Events.{record_of}
use Rattle.record.specs.Table.{row_of}
use Rattle.model.specs.Search.{some, any, last, first, first_from, most}
use Rattle.model.specs.Trace.{stretch, count}
use Rattle.model.specs.Machine.{committed, commit_of, waiting, current, source_fits, switched}
use Rattle.model.specs.Machine.{countable, held, counting}
use Rattle.model.specs.Rules.{answer, rules}
use Rattle.model.specs.Choice.{finished}
use Rattle.model.specs.Clocks.{seen, clock, vc}
use Rattle.model.specs.Verdict.{forbids?, observes?, forbidden?, observed?, pair?, missing?, bad?, closure}
use Rattle.model.specs.Verdict.{load_of, missing_of, observed_of, ruling_of}
use Rattle.model.specs.Windows.{none, between, behind, last_covered, window_of}
use Rattle.model.specs.Answers.{robust, broken, contradiction, impossible, flush}
use Rattle.model.specs.Answers.{tabulate, cut_of, sum, share_of, fault_of}
use Rattle.model.specs.Reading.{encode}
use Rattle.model.proofs.Encoding.{reading_events}
use Rattle.model.proofs.Sessions.{lent, zeros, padded, Outcome, outcome_of, outcome_of_events, outcome_all}

-- the bytes
pub sessions : List (List ℕ)
sessions =
    -- stretches in between forgotten
    (8 ∷ 0 ∷ 1 ∷ 0 ∷ 1 ∷ 0 ∷ 1 ∷ 0 ∷ 2 ∷ 0 ∷ 6 ∷ 0 ∷ 2 ∷ 0 ∷ 0 ∷ 0 ∷ 0 ∷ 0 ∷ 4 ∷ 0 ∷ 3 ∷ 0 ∷ 0 ∷ 0
    ∷ 2 ∷ 0 ∷ 9 ∷ 0 ∷ 6 ∷ 0 ∷ 2 ∷ 0 ∷ 0 ∷ 0 ∷ 0 ∷ 0 ∷ 4 ∷ 0 ∷ 3 ∷ 0 ∷ 0 ∷ 0 ∷ 2 ∷ 0 ∷ 9 ∷ 0
    ∷ 8 ∷ 0 ∷ 4 ∷ 0 ∷ 0 ∷ 0 ∷ 0 ∷ 0 ∷ 1 ∷ 0 ∷ 8 ∷ 0 ∷ 4 ∷ 0 ∷ 0 ∷ 0 ∷ 0 ∷ 0 ∷ 4 ∷ 0 ∷ []) ∷
    -- clocks kept over a crash, same thread
    (8 ∷ 0 ∷ 1 ∷ 0 ∷ 1 ∷ 0 ∷ 1 ∷ 0 ∷ 2 ∷ 0 ∷ 6 ∷ 0 ∷ 2 ∷ 0 ∷ 0 ∷ 0 ∷ 0 ∷ 0 ∷ 4 ∷ 0 ∷ 3 ∷ 0 ∷ 0 ∷ 0
    ∷ 2 ∷ 0 ∷ 9 ∷ 0 ∷ 6 ∷ 0 ∷ 2 ∷ 0 ∷ 0 ∷ 0 ∷ 1 ∷ 0 ∷ 4 ∷ 0 ∷ 3 ∷ 0 ∷ 0 ∷ 0 ∷ 2 ∷ 0 ∷ 9 ∷ 0
    ∷ 8 ∷ 0 ∷ 4 ∷ 0 ∷ 0 ∷ 0 ∷ 0 ∷ 0 ∷ 0 ∷ 0 ∷ 8 ∷ 0 ∷ 4 ∷ 0 ∷ 0 ∷ 0 ∷ 1 ∷ 0 ∷ 4 ∷ 0 ∷ []) ∷
    -- clocks kept over a crash, by a load
    (8 ∷ 0 ∷ 1 ∷ 0 ∷ 1 ∷ 0 ∷ 2 ∷ 0 ∷ 2 ∷ 0 ∷ 6 ∷ 0 ∷ 2 ∷ 0 ∷ 0 ∷ 0 ∷ 0 ∷ 0 ∷ 4 ∷ 0 ∷ 3 ∷ 0 ∷ 0 ∷ 0
    ∷ 2 ∷ 0 ∷ 9 ∷ 0 ∷ 4 ∷ 0 ∷ 10 ∷ 0 ∷ 1 ∷ 0 ∷ 8 ∷ 0 ∷ 4 ∷ 0 ∷ 1 ∷ 0 ∷ 0 ∷ 0 ∷ 1 ∷ 0
    ∷ 6 ∷ 0 ∷ 2 ∷ 0 ∷ 1 ∷ 0 ∷ 1 ∷ 0 ∷ 4 ∷ 0 ∷ 3 ∷ 0 ∷ 1 ∷ 0 ∷ 2 ∷ 0 ∷ 9 ∷ 0
    ∷ 8 ∷ 0 ∷ 4 ∷ 0 ∷ 0 ∷ 0 ∷ 0 ∷ 0 ∷ 0 ∷ 0 ∷ 8 ∷ 0 ∷ 4 ∷ 0 ∷ 0 ∷ 0 ∷ 1 ∷ 0 ∷ 6 ∷ 0 ∷ []) ∷
    -- clocks kept over a crash, of a load before it
    (8 ∷ 0 ∷ 1 ∷ 0 ∷ 1 ∷ 0 ∷ 2 ∷ 0 ∷ 2 ∷ 0 ∷ 6 ∷ 0 ∷ 2 ∷ 0 ∷ 0 ∷ 0 ∷ 0 ∷ 0 ∷ 4 ∷ 0 ∷ 3 ∷ 0 ∷ 0 ∷ 0
    ∷ 8 ∷ 0 ∷ 4 ∷ 0 ∷ 1 ∷ 0 ∷ 0 ∷ 0 ∷ 1 ∷ 0 ∷ 2 ∷ 0 ∷ 9 ∷ 0 ∷ 6 ∷ 0 ∷ 2 ∷ 0 ∷ 1 ∷ 0 ∷ 1 ∷ 0
    ∷ 4 ∷ 0 ∷ 3 ∷ 0 ∷ 1 ∷ 0 ∷ 6 ∷ 0 ∷ 2 ∷ 0 ∷ 0 ∷ 0 ∷ 0 ∷ 0 ∷ 4 ∷ 0 ∷ 3 ∷ 0 ∷ 0 ∷ 0
    ∷ 2 ∷ 0 ∷ 9 ∷ 0 ∷ 8 ∷ 0 ∷ 4 ∷ 0 ∷ 0 ∷ 0 ∷ 1 ∷ 0 ∷ 5 ∷ 0
    ∷ 8 ∷ 0 ∷ 4 ∷ 0 ∷ 0 ∷ 0 ∷ 0 ∷ 0 ∷ 1 ∷ 0 ∷ []) ∷
    -- a read of source 0 taken as free
    (8 ∷ 0 ∷ 1 ∷ 0 ∷ 1 ∷ 0 ∷ 1 ∷ 0 ∷ 2 ∷ 0 ∷ 6 ∷ 0 ∷ 2 ∷ 0 ∷ 0 ∷ 0 ∷ 0 ∷ 0 ∷ 4 ∷ 0 ∷ 3 ∷ 0 ∷ 0 ∷ 0
    ∷ 6 ∷ 0 ∷ 2 ∷ 0 ∷ 0 ∷ 0 ∷ 1 ∷ 0 ∷ 4 ∷ 0 ∷ 3 ∷ 0 ∷ 0 ∷ 0 ∷ 2 ∷ 0 ∷ 9 ∷ 0
    ∷ 8 ∷ 0 ∷ 4 ∷ 0 ∷ 0 ∷ 0 ∷ 0 ∷ 0 ∷ 0 ∷ 0 ∷ 8 ∷ 0 ∷ 4 ∷ 0 ∷ 0 ∷ 0 ∷ 1 ∷ 0 ∷ 3 ∷ 0 ∷ []) ∷
    -- loads in a skip still order
    (8 ∷ 0 ∷ 1 ∷ 0 ∷ 1 ∷ 0 ∷ 2 ∷ 0 ∷ 2 ∷ 0 ∷ 6 ∷ 0 ∷ 2 ∷ 0 ∷ 0 ∷ 0 ∷ 0 ∷ 0 ∷ 4 ∷ 0 ∷ 3 ∷ 0 ∷ 0 ∷ 0
    ∷ 4 ∷ 0 ∷ 10 ∷ 0 ∷ 1 ∷ 0 ∷ 8 ∷ 0 ∷ 4 ∷ 0 ∷ 1 ∷ 0 ∷ 0 ∷ 0 ∷ 1 ∷ 0
    ∷ 6 ∷ 0 ∷ 2 ∷ 0 ∷ 1 ∷ 0 ∷ 1 ∷ 0 ∷ 4 ∷ 0 ∷ 3 ∷ 0 ∷ 1 ∷ 0 ∷ 2 ∷ 0 ∷ 9 ∷ 0
    ∷ 8 ∷ 0 ∷ 4 ∷ 0 ∷ 0 ∷ 0 ∷ 0 ∷ 0 ∷ 0 ∷ 0 ∷ 8 ∷ 0 ∷ 4 ∷ 0 ∷ 0 ∷ 0 ∷ 1 ∷ 0 ∷ 5 ∷ 0 ∷ []) ∷
    -- a chain over three threads
    (8 ∷ 0 ∷ 1 ∷ 0 ∷ 1 ∷ 0 ∷ 3 ∷ 0 ∷ 17 ∷ 0 ∷ 6 ∷ 0 ∷ 2 ∷ 0 ∷ 0 ∷ 0 ∷ 0 ∷ 0 ∷ 4 ∷ 0 ∷ 3 ∷ 0 ∷ 0 ∷ 0
    ∷ 8 ∷ 0 ∷ 4 ∷ 0 ∷ 1 ∷ 0 ∷ 0 ∷ 0 ∷ 1 ∷ 0 ∷ 6 ∷ 0 ∷ 2 ∷ 0 ∷ 1 ∷ 0 ∷ 8 ∷ 0
    ∷ 4 ∷ 0 ∷ 3 ∷ 0 ∷ 1 ∷ 0 ∷ 8 ∷ 0 ∷ 4 ∷ 0 ∷ 2 ∷ 0 ∷ 8 ∷ 0 ∷ 4 ∷ 0
    ∷ 6 ∷ 0 ∷ 2 ∷ 0 ∷ 2 ∷ 0 ∷ 16 ∷ 0 ∷ 4 ∷ 0 ∷ 3 ∷ 0 ∷ 2 ∷ 0 ∷ 2 ∷ 0 ∷ 9 ∷ 0
    ∷ 8 ∷ 0 ∷ 4 ∷ 0 ∷ 0 ∷ 0 ∷ 0 ∷ 0 ∷ 0 ∷ 0 ∷ 8 ∷ 0 ∷ 4 ∷ 0 ∷ 0 ∷ 0 ∷ 16 ∷ 0 ∷ 7 ∷ 0 ∷ []) ∷
    -- a waiting store stays out of the share
    (8 ∷ 0 ∷ 1 ∷ 0 ∷ 1 ∷ 0 ∷ 1 ∷ 0 ∷ 2 ∷ 0 ∷ 6 ∷ 0 ∷ 2 ∷ 0 ∷ 0 ∷ 0 ∷ 0 ∷ 0 ∷ 4 ∷ 0 ∷ 3 ∷ 0 ∷ 0 ∷ 0
    ∷ 6 ∷ 0 ∷ 2 ∷ 0 ∷ 0 ∷ 0 ∷ 1 ∷ 0 ∷ 2 ∷ 0 ∷ 9 ∷ 0 ∷ 8 ∷ 0 ∷ 4 ∷ 0 ∷ 0 ∷ 0 ∷ 0 ∷ 0 ∷ 1 ∷ 0
    ∷ 6 ∷ 0 ∷ 2 ∷ 0 ∷ 0 ∷ 0 ∷ 1 ∷ 0 ∷ 4 ∷ 0 ∷ 3 ∷ 0 ∷ 0 ∷ 0 ∷ []) ∷
    -- share is rounded down
    (8 ∷ 0 ∷ 1 ∷ 0 ∷ 1 ∷ 0 ∷ 1 ∷ 0 ∷ 2 ∷ 0 ∷ 6 ∷ 0 ∷ 2 ∷ 0 ∷ 0 ∷ 0 ∷ 0 ∷ 0 ∷ 4 ∷ 0 ∷ 3 ∷ 0 ∷ 0 ∷ 0
    ∷ 6 ∷ 0 ∷ 2 ∷ 0 ∷ 0 ∷ 0 ∷ 0 ∷ 0 ∷ 4 ∷ 0 ∷ 3 ∷ 0 ∷ 0 ∷ 0 ∷ 6 ∷ 0 ∷ 2 ∷ 0 ∷ 0 ∷ 0 ∷ 0 ∷ 0
    ∷ 4 ∷ 0 ∷ 3 ∷ 0 ∷ 0 ∷ 0 ∷ 2 ∷ 0 ∷ 9 ∷ 0 ∷ 8 ∷ 0 ∷ 4 ∷ 0 ∷ 0 ∷ 0 ∷ 0 ∷ 0 ∷ 3 ∷ 0 ∷ []) ∷
    -- smallest missing goes before smallest observed
    (8 ∷ 0 ∷ 1 ∷ 0 ∷ 1 ∷ 0 ∷ 2 ∷ 0 ∷ 17 ∷ 0 ∷ 6 ∷ 0 ∷ 2 ∷ 0 ∷ 0 ∷ 0 ∷ 0 ∷ 0 ∷ 4 ∷ 0 ∷ 3 ∷ 0 ∷ 0 ∷ 0
    ∷ 6 ∷ 0 ∷ 2 ∷ 0 ∷ 1 ∷ 0 ∷ 0 ∷ 0 ∷ 4 ∷ 0 ∷ 3 ∷ 0 ∷ 1 ∷ 0 ∷ 6 ∷ 0 ∷ 2 ∷ 0 ∷ 1 ∷ 0 ∷ 8 ∷ 0
    ∷ 4 ∷ 0 ∷ 3 ∷ 0 ∷ 1 ∷ 0 ∷ 6 ∷ 0 ∷ 2 ∷ 0 ∷ 0 ∷ 0 ∷ 16 ∷ 0 ∷ 4 ∷ 0 ∷ 3 ∷ 0 ∷ 0 ∷ 0
    ∷ 2 ∷ 0 ∷ 9 ∷ 0 ∷ 8 ∷ 0 ∷ 4 ∷ 0 ∷ 0 ∷ 0 ∷ 8 ∷ 0 ∷ 5 ∷ 0
    ∷ 8 ∷ 0 ∷ 4 ∷ 0 ∷ 0 ∷ 0 ∷ 16 ∷ 0 ∷ 7 ∷ 0 ∷ 8 ∷ 0 ∷ 4 ∷ 0 ∷ 0 ∷ 0 ∷ 0 ∷ 0 ∷ 0 ∷ 0 ∷ []) ∷
    -- every load before the issue orders
    (8 ∷ 0 ∷ 1 ∷ 0 ∷ 1 ∷ 0 ∷ 3 ∷ 0 ∷ 17 ∷ 0 ∷ 6 ∷ 0 ∷ 2 ∷ 0 ∷ 0 ∷ 0 ∷ 0 ∷ 0 ∷ 4 ∷ 0 ∷ 3 ∷ 0 ∷ 0 ∷ 0
    ∷ 6 ∷ 0 ∷ 2 ∷ 0 ∷ 1 ∷ 0 ∷ 8 ∷ 0 ∷ 4 ∷ 0 ∷ 3 ∷ 0 ∷ 1 ∷ 0
    ∷ 8 ∷ 0 ∷ 4 ∷ 0 ∷ 2 ∷ 0 ∷ 0 ∷ 0 ∷ 1 ∷ 0 ∷ 8 ∷ 0 ∷ 4 ∷ 0 ∷ 2 ∷ 0 ∷ 8 ∷ 0 ∷ 3 ∷ 0
    ∷ 6 ∷ 0 ∷ 2 ∷ 0 ∷ 2 ∷ 0 ∷ 16 ∷ 0 ∷ 4 ∷ 0 ∷ 3 ∷ 0 ∷ 2 ∷ 0 ∷ 2 ∷ 0 ∷ 9 ∷ 0
    ∷ 8 ∷ 0 ∷ 4 ∷ 0 ∷ 0 ∷ 0 ∷ 0 ∷ 0 ∷ 0 ∷ 0 ∷ 8 ∷ 0 ∷ 4 ∷ 0 ∷ 0 ∷ 0 ∷ 16 ∷ 0 ∷ 7 ∷ 0 ∷ []) ∷
    -- a skip is a matter of its own thread
    (8 ∷ 0 ∷ 1 ∷ 0 ∷ 1 ∷ 0 ∷ 2 ∷ 0 ∷ 2 ∷ 0 ∷ 6 ∷ 0 ∷ 2 ∷ 0 ∷ 0 ∷ 0 ∷ 0 ∷ 0 ∷ 4 ∷ 0 ∷ 3 ∷ 0 ∷ 0 ∷ 0
    ∷ 2 ∷ 0 ∷ 9 ∷ 0 ∷ 4 ∷ 0 ∷ 10 ∷ 0 ∷ 1 ∷ 0 ∷ 8 ∷ 0 ∷ 4 ∷ 0 ∷ 0 ∷ 0 ∷ 0 ∷ 0 ∷ 1 ∷ 0
    ∷ 8 ∷ 0 ∷ 4 ∷ 0 ∷ 0 ∷ 0 ∷ 0 ∷ 0 ∷ 0 ∷ 0 ∷ []) ∷
    -- a dropped store in between changes nothing
    (8 ∷ 0 ∷ 1 ∷ 0 ∷ 1 ∷ 0 ∷ 1 ∷ 0 ∷ 2 ∷ 0 ∷ 6 ∷ 0 ∷ 2 ∷ 0 ∷ 0 ∷ 0 ∷ 0 ∷ 0 ∷ 4 ∷ 0 ∷ 3 ∷ 0 ∷ 0 ∷ 0
    ∷ 2 ∷ 0 ∷ 9 ∷ 0 ∷ 6 ∷ 0 ∷ 2 ∷ 0 ∷ 0 ∷ 0 ∷ 0 ∷ 0 ∷ 2 ∷ 0 ∷ 9 ∷ 0
    ∷ 8 ∷ 0 ∷ 4 ∷ 0 ∷ 0 ∷ 0 ∷ 0 ∷ 0 ∷ 1 ∷ 0 ∷ []) ∷
    -- another's waiting store leaves the load crossing
    (8 ∷ 0 ∷ 1 ∷ 0 ∷ 1 ∷ 0 ∷ 2 ∷ 0 ∷ 2 ∷ 0 ∷ 6 ∷ 0 ∷ 2 ∷ 0 ∷ 0 ∷ 0 ∷ 0 ∷ 0 ∷ 4 ∷ 0 ∷ 3 ∷ 0 ∷ 0 ∷ 0
    ∷ 2 ∷ 0 ∷ 9 ∷ 0 ∷ 6 ∷ 0 ∷ 2 ∷ 0 ∷ 1 ∷ 0 ∷ 0 ∷ 0 ∷ 8 ∷ 0 ∷ 4 ∷ 0 ∷ 0 ∷ 0 ∷ 0 ∷ 0 ∷ 1 ∷ 0 ∷ []) ∷
    -- an own waiting store does not
    (8 ∷ 0 ∷ 1 ∷ 0 ∷ 1 ∷ 0 ∷ 2 ∷ 0 ∷ 2 ∷ 0 ∷ 6 ∷ 0 ∷ 2 ∷ 0 ∷ 0 ∷ 0 ∷ 0 ∷ 0 ∷ 4 ∷ 0 ∷ 3 ∷ 0 ∷ 0 ∷ 0
    ∷ 2 ∷ 0 ∷ 9 ∷ 0 ∷ 6 ∷ 0 ∷ 2 ∷ 0 ∷ 1 ∷ 0 ∷ 0 ∷ 0 ∷ 8 ∷ 0 ∷ 4 ∷ 0 ∷ 1 ∷ 0 ∷ 0 ∷ 0 ∷ 4 ∷ 0
    ∷ 8 ∷ 0 ∷ 4 ∷ 0 ∷ 0 ∷ 0 ∷ 0 ∷ 0 ∷ 0 ∷ 0 ∷ []) ∷
    -- a load of the first stretch forbids nothing
    (8 ∷ 0 ∷ 1 ∷ 0 ∷ 1 ∷ 0 ∷ 1 ∷ 0 ∷ 2 ∷ 0 ∷ 8 ∷ 0 ∷ 4 ∷ 0 ∷ 0 ∷ 0 ∷ 0 ∷ 0 ∷ 0 ∷ 0
    ∷ 6 ∷ 0 ∷ 2 ∷ 0 ∷ 0 ∷ 0 ∷ 0 ∷ 0 ∷ 4 ∷ 0 ∷ 3 ∷ 0 ∷ 0 ∷ 0 ∷ 2 ∷ 0 ∷ 9 ∷ 0
    ∷ 8 ∷ 0 ∷ 4 ∷ 0 ∷ 0 ∷ 0 ∷ 0 ∷ 0 ∷ 2 ∷ 0 ∷ []) ∷
    []

-- the events that they are the records of
traces : List (List Event)
traces =
    -- stretches in between forgotten
    (Begin 1 1 2 ∷ Issue 0 0 ∷ Commit 0 ∷ Crash ∷ Issue 0 0 ∷ Commit 0 ∷ Crash ∷ Load 0 0 1 ∷ Load 0 0 4 ∷ []) ∷
    -- clocks kept over a crash, same thread
    (Begin 1 1 2 ∷ Issue 0 0 ∷ Commit 0 ∷ Crash ∷ Issue 0 1 ∷ Commit 0 ∷ Crash ∷ Load 0 0 0 ∷ Load 0 1 4 ∷ []) ∷
    -- clocks kept over a crash, by a load
    (Begin 1 2 2 ∷ Issue 0 0 ∷ Commit 0 ∷ Crash ∷ SkipOn 1 ∷ Load 1 0 1 ∷ Issue 1 1 ∷ Commit 1 ∷ Crash
    ∷ Load 0 0 0 ∷ Load 0 1 6 ∷ []) ∷
    -- clocks kept over a crash, of a load before it
    (Begin 1 2 2 ∷ Issue 0 0 ∷ Commit 0 ∷ Load 1 0 1 ∷ Crash ∷ Issue 1 1 ∷ Commit 1 ∷ Issue 0 0 ∷ Commit 0
    ∷ Crash ∷ Load 0 1 5 ∷ Load 0 0 1 ∷ []) ∷
    -- a read of source 0 taken as free
    (Begin 1 1 2 ∷ Issue 0 0 ∷ Commit 0 ∷ Issue 0 1 ∷ Commit 0 ∷ Crash ∷ Load 0 0 0 ∷ Load 0 1 3 ∷ []) ∷
    -- loads in a skip still order
    (Begin 1 2 2 ∷ Issue 0 0 ∷ Commit 0 ∷ SkipOn 1 ∷ Load 1 0 1 ∷ Issue 1 1 ∷ Commit 1 ∷ Crash ∷ Load 0 0 0
    ∷ Load 0 1 5 ∷ []) ∷
    -- a chain over three threads
    (Begin 1 3 17 ∷ Issue 0 0 ∷ Commit 0 ∷ Load 1 0 1 ∷ Issue 1 8 ∷ Commit 1 ∷ Load 2 8 4 ∷ Issue 2 16
    ∷ Commit 2 ∷ Crash ∷ Load 0 0 0 ∷ Load 0 16 7 ∷ []) ∷
    -- a waiting store stays out of the share
    (Begin 1 1 2 ∷ Issue 0 0 ∷ Commit 0 ∷ Issue 0 1 ∷ Crash ∷ Load 0 0 1 ∷ Issue 0 1 ∷ Commit 0 ∷ []) ∷
    -- share is rounded down
    (Begin 1 1 2 ∷ Issue 0 0 ∷ Commit 0 ∷ Issue 0 0 ∷ Commit 0 ∷ Issue 0 0 ∷ Commit 0 ∷ Crash ∷ Load 0 0 3 ∷ []) ∷
    -- smallest missing goes before smallest observed
    (Begin 1 2 17 ∷ Issue 0 0 ∷ Commit 0 ∷ Issue 1 0 ∷ Commit 1 ∷ Issue 1 8 ∷ Commit 1 ∷ Issue 0 16 ∷ Commit 0
    ∷ Crash ∷ Load 0 8 5 ∷ Load 0 16 7 ∷ Load 0 0 0 ∷ []) ∷
    -- every load before the issue orders
    (Begin 1 3 17 ∷ Issue 0 0 ∷ Commit 0 ∷ Issue 1 8 ∷ Commit 1 ∷ Load 2 0 1 ∷ Load 2 8 3 ∷ Issue 2 16
    ∷ Commit 2 ∷ Crash ∷ Load 0 0 0 ∷ Load 0 16 7 ∷ []) ∷
    -- a skip is a matter of its own thread
    (Begin 1 2 2 ∷ Issue 0 0 ∷ Commit 0 ∷ Crash ∷ SkipOn 1 ∷ Load 0 0 1 ∷ Load 0 0 0 ∷ []) ∷
    -- a dropped store in between changes nothing
    (Begin 1 1 2 ∷ Issue 0 0 ∷ Commit 0 ∷ Crash ∷ Issue 0 0 ∷ Crash ∷ Load 0 0 1 ∷ []) ∷
    -- another's waiting store leaves the load crossing
    (Begin 1 2 2 ∷ Issue 0 0 ∷ Commit 0 ∷ Crash ∷ Issue 1 0 ∷ Load 0 0 1 ∷ []) ∷
    -- an own waiting store does not
    (Begin 1 2 2 ∷ Issue 0 0 ∷ Commit 0 ∷ Crash ∷ Issue 1 0 ∷ Load 1 0 4 ∷ Load 0 0 0 ∷ []) ∷
    -- a load of the first stretch forbids nothing
    (Begin 1 1 2 ∷ Load 0 0 0 ∷ Issue 0 0 ∷ Commit 0 ∷ Crash ∷ Load 0 0 2 ∷ []) ∷
    []

-- the answers, and the cut buffers afterwards
pub answers : List Outcome
answers =
    -- stretches in between forgotten
    (record { answer = broken 8 8 4 4 contradiction; cut = lent }) ∷
    -- clocks kept over a crash, same thread
    (record { answer = robust 8 50; cut = 0 ∷ 0 ∷ 0 ∷ 0 ∷ 0 ∷ 0 ∷ 0 ∷ 0 ∷ 1 ∷ zeros 47 }) ∷
    -- clocks kept over a crash, by a load
    (record { answer = robust 10 50; cut = 0 ∷ 0 ∷ 0 ∷ 0 ∷ 0 ∷ 0 ∷ 0 ∷ 0 ∷ 0 ∷ 1 ∷ zeros 46 }) ∷
    -- clocks kept over a crash, of a load before it
    (record { answer = robust 11 66; cut = 1 ∷ 0 ∷ 0 ∷ 0 ∷ 0 ∷ 0 ∷ 0 ∷ 0 ∷ 0 ∷ 1 ∷ zeros 46 }) ∷
    -- a read of source 0 taken as free
    (record { answer = broken 7 7 1 3 impossible; cut = lent }) ∷
    -- loads in a skip still order
    (record { answer = broken 9 9 1 5 impossible; cut = lent }) ∷
    -- a chain over three threads
    (record { answer = broken 11 11 1 7 (flush 0 (padded (none ∷ between 4 4 ∷ between 7 7 ∷ []))); cut = lent }) ∷
    -- a waiting store stays out of the share
    (record { answer = robust 7 100; cut = 1 ∷ zeros 55 }) ∷
    -- share is rounded down
    (record { answer = robust 8 66; cut = 2 ∷ zeros 55 }) ∷
    -- smallest missing goes before smallest observed
    (record { answer = broken 12 12 1 7 (flush 0 (padded (between 2 7 ∷ []))); cut = lent }) ∷
    -- every load before the issue orders
    (record { answer = broken 11 11 1 7 (flush 0 (padded (none ∷ none ∷ between 6 7 ∷ []))); cut = lent }) ∷
    -- a skip is a matter of its own thread
    (record { answer = broken 6 6 1 1 contradiction; cut = lent }) ∷
    -- a dropped store in between changes nothing
    (record { answer = robust 6 100; cut = 1 ∷ zeros 55 }) ∷
    -- another's waiting store leaves the load crossing
    (record { answer = robust 5 100; cut = 1 ∷ zeros 55 }) ∷
    -- an own waiting store does not
    (record { answer = robust 6 0; cut = zeros 56 }) ∷
    -- a load of the first stretch forbids nothing
    (record { answer = robust 5 100; cut = 1 ∷ zeros 55 }) ∷
    []

encoded : map encode traces ≡ sessions
unfolding traces sessions encode record_of row_of
encoded = refl

computed : map outcome_of_events traces ≡ answers
unfolding traces answers reading_events some last first first_from most stretch count committed commit_of waiting current
    source_fits switched countable held counting any answer rules finished seen clock vc forbids? observes? forbidden?
    observed? pair? missing? bad? closure load_of missing_of observed_of ruling_of behind last_covered window_of fault_of
    tabulate cut_of sum share_of row_of
computed = refl

pub errors_of_the_trade : map outcome_of sessions ≡ answers
unfolding traces
errors_of_the_trade = ap (map outcome_of) (sym encoded) ∙ (outcome_all traces refl ∙ computed)
