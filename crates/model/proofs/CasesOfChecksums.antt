-- Document 02, job 7, "Loads under a checksum": a session for each thing that holds a load or not, that counts or drops
-- the held ones, that a held load does, or that turns an open or a close away. The definitions give their bytes the
-- answers that follow from documents 01 and 02, and the cut buffers. A second list has bytes of which some are no
-- records, or have no begin in front. Each list is shown together, by computation. Made by tools/oracle/proof_file.py.
use mathlib.Core.Path.{◌≡◌, refl, sym, ap, ◌∙◌}
use mathlib.Core.List.{List, [], ◌∷◌, map}
use Prim.Native.Nat.{ℕ}
use Rattle.record.specs.declared.events.Event.{Event}
use Rattle.record.specs.declared.events.Event.TheVariants.{Begin, Issue, Commit, Load, Crash, SkipOn}
use Rattle.record.specs.declared.events.Event.TheVariants.{SkipOff, Locked, Signal, Wait, Open, Close}
use Rattle.record.specs.Events.{record_of}
use Rattle.record.specs.Table.{row_of}
use Rattle.model.specs.Search.{some, any, last, first, first_from, most}
use Rattle.model.specs.Trace.{stretch, count}
use Rattle.model.specs.Machine.{committed, commit_of, waiting, current, source_fits, switched}
use Rattle.model.specs.Machine.{countable, held, counting}
use Rattle.model.specs.Rules.{answer, rules}
use Rattle.model.specs.Choice.{finished}
use Rattle.model.specs.Clocks.{seen, clock, vc}
use Rattle.model.specs.Verdict.{forbids?, observes?, forbidden?, observed?, pair?, missing?, bad?, closure}
use Rattle.model.specs.Verdict.{load_of, missing_of, observed_of, ruling_of}
use Rattle.model.specs.Windows.{none, between, behind, last_covered, window_of}
use Rattle.model.specs.Answers.{refused, robust, broken, contradiction, impossible, flush}
use Rattle.model.specs.Answers.{tabulate, cut_of, sum, share_of, fault_of}
use Rattle.model.specs.Reading.{encode}
use Rattle.model.proofs.Encoding.{reading_events}
use Rattle.model.proofs.Sessions.{lent, zeros, padded, Outcome, outcome_of, outcome_of_events, outcome_all}
use Rattle.record.specs.Reading.{read_at, read_first, read_framed, frame}
use Rattle.record.specs.Parts.{start, size_at}
use Rattle.record.specs.Fields.{event_of}
use Rattle.record.specs.Versions.{later_refusal}
use Rattle.model.specs.Reading.{events, record_at, stop, reading_of}
use Rattle.model.specs.Judge.{judge_of, cut_after}

-- the bytes
pub sessions : List (List ℕ)
sessions =
    -- outcome 1 counts both held loads as of the close: 5 observes 1 and 6 forbids it, so 7 is the load
    (8 ∷ 0 ∷ 1 ∷ 0 ∷ 2 ∷ 0 ∷ 1 ∷ 0 ∷ 2 ∷ 0 ∷ 6 ∷ 0 ∷ 2 ∷ 0 ∷ 0 ∷ 0 ∷ 0 ∷ 0 ∷ 4 ∷ 0 ∷ 3 ∷ 0 ∷ 0 ∷ 0
    ∷ 2 ∷ 0 ∷ 9 ∷ 0 ∷ 4 ∷ 0 ∷ 15 ∷ 0 ∷ 0 ∷ 0 ∷ 8 ∷ 0 ∷ 4 ∷ 0 ∷ 0 ∷ 0 ∷ 0 ∷ 0 ∷ 1 ∷ 0
    ∷ 8 ∷ 0 ∷ 4 ∷ 0 ∷ 0 ∷ 0 ∷ 0 ∷ 0 ∷ 0 ∷ 0 ∷ 6 ∷ 0 ∷ 16 ∷ 0 ∷ 0 ∷ 0 ∷ 1 ∷ 0 ∷ []) ∷
    -- outcome 0 drops them: nothing is counted, and the least choice has nothing in
    (8 ∷ 0 ∷ 1 ∷ 0 ∷ 2 ∷ 0 ∷ 1 ∷ 0 ∷ 2 ∷ 0 ∷ 6 ∷ 0 ∷ 2 ∷ 0 ∷ 0 ∷ 0 ∷ 0 ∷ 0 ∷ 4 ∷ 0 ∷ 3 ∷ 0 ∷ 0 ∷ 0
    ∷ 2 ∷ 0 ∷ 9 ∷ 0 ∷ 4 ∷ 0 ∷ 15 ∷ 0 ∷ 0 ∷ 0 ∷ 8 ∷ 0 ∷ 4 ∷ 0 ∷ 0 ∷ 0 ∷ 0 ∷ 0 ∷ 1 ∷ 0
    ∷ 8 ∷ 0 ∷ 4 ∷ 0 ∷ 0 ∷ 0 ∷ 0 ∷ 0 ∷ 0 ∷ 0 ∷ 6 ∷ 0 ∷ 16 ∷ 0 ∷ 0 ∷ 0 ∷ 0 ∷ 0 ∷ []) ∷
    -- the trace's end drops them
    (8 ∷ 0 ∷ 1 ∷ 0 ∷ 2 ∷ 0 ∷ 1 ∷ 0 ∷ 2 ∷ 0 ∷ 6 ∷ 0 ∷ 2 ∷ 0 ∷ 0 ∷ 0 ∷ 0 ∷ 0 ∷ 4 ∷ 0 ∷ 3 ∷ 0 ∷ 0 ∷ 0
    ∷ 2 ∷ 0 ∷ 9 ∷ 0 ∷ 4 ∷ 0 ∷ 15 ∷ 0 ∷ 0 ∷ 0 ∷ 8 ∷ 0 ∷ 4 ∷ 0 ∷ 0 ∷ 0 ∷ 0 ∷ 0 ∷ 1 ∷ 0
    ∷ 8 ∷ 0 ∷ 4 ∷ 0 ∷ 0 ∷ 0 ∷ 0 ∷ 0 ∷ 0 ∷ 0 ∷ []) ∷
    -- 5 is held and 6, of a thread that is not open, counts at once: the pair is there as of the close, and not of 6
    (8 ∷ 0 ∷ 1 ∷ 0 ∷ 2 ∷ 0 ∷ 2 ∷ 0 ∷ 2 ∷ 0 ∷ 6 ∷ 0 ∷ 2 ∷ 0 ∷ 0 ∷ 0 ∷ 0 ∷ 0 ∷ 4 ∷ 0 ∷ 3 ∷ 0 ∷ 0 ∷ 0
    ∷ 2 ∷ 0 ∷ 9 ∷ 0 ∷ 4 ∷ 0 ∷ 15 ∷ 0 ∷ 0 ∷ 0 ∷ 8 ∷ 0 ∷ 4 ∷ 0 ∷ 0 ∷ 0 ∷ 0 ∷ 0 ∷ 0 ∷ 0
    ∷ 8 ∷ 0 ∷ 4 ∷ 0 ∷ 1 ∷ 0 ∷ 0 ∷ 0 ∷ 1 ∷ 0 ∷ 6 ∷ 0 ∷ 16 ∷ 0 ∷ 0 ∷ 0 ∷ 1 ∷ 0 ∷ []) ∷
    -- 6 and 7, of threads that are not open, break the trace by themselves, ahead of the close that counts 5
    (8 ∷ 0 ∷ 1 ∷ 0 ∷ 2 ∷ 0 ∷ 3 ∷ 0 ∷ 2 ∷ 0 ∷ 6 ∷ 0 ∷ 2 ∷ 0 ∷ 0 ∷ 0 ∷ 0 ∷ 0 ∷ 4 ∷ 0 ∷ 3 ∷ 0 ∷ 0 ∷ 0
    ∷ 2 ∷ 0 ∷ 9 ∷ 0 ∷ 4 ∷ 0 ∷ 15 ∷ 0 ∷ 0 ∷ 0 ∷ 8 ∷ 0 ∷ 4 ∷ 0 ∷ 0 ∷ 0 ∷ 0 ∷ 0 ∷ 1 ∷ 0
    ∷ 8 ∷ 0 ∷ 4 ∷ 0 ∷ 1 ∷ 0 ∷ 0 ∷ 0 ∷ 0 ∷ 0 ∷ 8 ∷ 0 ∷ 4 ∷ 0 ∷ 2 ∷ 0 ∷ 0 ∷ 0 ∷ 1 ∷ 0
    ∷ 6 ∷ 0 ∷ 16 ∷ 0 ∷ 0 ∷ 0 ∷ 1 ∷ 0 ∷ []) ∷
    -- case 2 in a region: one choice explains both held loads, and it is the cut
    (8 ∷ 0 ∷ 1 ∷ 0 ∷ 2 ∷ 0 ∷ 2 ∷ 0 ∷ 2 ∷ 0 ∷ 6 ∷ 0 ∷ 2 ∷ 0 ∷ 0 ∷ 0 ∷ 0 ∷ 0 ∷ 4 ∷ 0 ∷ 3 ∷ 0 ∷ 0 ∷ 0
    ∷ 6 ∷ 0 ∷ 2 ∷ 0 ∷ 1 ∷ 0 ∷ 1 ∷ 0 ∷ 4 ∷ 0 ∷ 3 ∷ 0 ∷ 1 ∷ 0 ∷ 2 ∷ 0 ∷ 9 ∷ 0
    ∷ 4 ∷ 0 ∷ 15 ∷ 0 ∷ 0 ∷ 0 ∷ 8 ∷ 0 ∷ 4 ∷ 0 ∷ 0 ∷ 0 ∷ 0 ∷ 0 ∷ 0 ∷ 0
    ∷ 8 ∷ 0 ∷ 4 ∷ 0 ∷ 0 ∷ 0 ∷ 1 ∷ 0 ∷ 3 ∷ 0 ∷ 6 ∷ 0 ∷ 16 ∷ 0 ∷ 0 ∷ 0 ∷ 1 ∷ 0 ∷ []) ∷
    -- three held loads of one location: 8, from 1, forbids 3, which 7 and 9 observe
    (8 ∷ 0 ∷ 1 ∷ 0 ∷ 2 ∷ 0 ∷ 1 ∷ 0 ∷ 2 ∷ 0 ∷ 6 ∷ 0 ∷ 2 ∷ 0 ∷ 0 ∷ 0 ∷ 0 ∷ 0 ∷ 4 ∷ 0 ∷ 3 ∷ 0 ∷ 0 ∷ 0
    ∷ 6 ∷ 0 ∷ 2 ∷ 0 ∷ 0 ∷ 0 ∷ 0 ∷ 0 ∷ 4 ∷ 0 ∷ 3 ∷ 0 ∷ 0 ∷ 0 ∷ 2 ∷ 0 ∷ 9 ∷ 0
    ∷ 4 ∷ 0 ∷ 15 ∷ 0 ∷ 0 ∷ 0 ∷ 8 ∷ 0 ∷ 4 ∷ 0 ∷ 0 ∷ 0 ∷ 0 ∷ 0 ∷ 3 ∷ 0
    ∷ 8 ∷ 0 ∷ 4 ∷ 0 ∷ 0 ∷ 0 ∷ 0 ∷ 0 ∷ 1 ∷ 0 ∷ 8 ∷ 0 ∷ 4 ∷ 0 ∷ 0 ∷ 0 ∷ 0 ∷ 0 ∷ 3 ∷ 0
    ∷ 6 ∷ 0 ∷ 16 ∷ 0 ∷ 0 ∷ 0 ∷ 1 ∷ 0 ∷ []) ∷
    -- all are counted before a pair is looked for: 7 and 8 alone have the pair 3, 3, but with 9 there is 1, 3
    (8 ∷ 0 ∷ 1 ∷ 0 ∷ 2 ∷ 0 ∷ 1 ∷ 0 ∷ 9 ∷ 0 ∷ 6 ∷ 0 ∷ 2 ∷ 0 ∷ 0 ∷ 0 ∷ 0 ∷ 0 ∷ 4 ∷ 0 ∷ 3 ∷ 0 ∷ 0 ∷ 0
    ∷ 6 ∷ 0 ∷ 2 ∷ 0 ∷ 0 ∷ 0 ∷ 8 ∷ 0 ∷ 4 ∷ 0 ∷ 3 ∷ 0 ∷ 0 ∷ 0 ∷ 2 ∷ 0 ∷ 9 ∷ 0
    ∷ 4 ∷ 0 ∷ 15 ∷ 0 ∷ 0 ∷ 0 ∷ 8 ∷ 0 ∷ 4 ∷ 0 ∷ 0 ∷ 0 ∷ 8 ∷ 0 ∷ 3 ∷ 0
    ∷ 8 ∷ 0 ∷ 4 ∷ 0 ∷ 0 ∷ 0 ∷ 8 ∷ 0 ∷ 0 ∷ 0 ∷ 8 ∷ 0 ∷ 4 ∷ 0 ∷ 0 ∷ 0 ∷ 0 ∷ 0 ∷ 0 ∷ 0
    ∷ 6 ∷ 0 ∷ 16 ∷ 0 ∷ 0 ∷ 0 ∷ 1 ∷ 0 ∷ []) ∷
    -- the same loads the other way round: 8 and 9 alone have the pair 3, 3, but with 7 there is 1, 3
    (8 ∷ 0 ∷ 1 ∷ 0 ∷ 2 ∷ 0 ∷ 1 ∷ 0 ∷ 9 ∷ 0 ∷ 6 ∷ 0 ∷ 2 ∷ 0 ∷ 0 ∷ 0 ∷ 0 ∷ 0 ∷ 4 ∷ 0 ∷ 3 ∷ 0 ∷ 0 ∷ 0
    ∷ 6 ∷ 0 ∷ 2 ∷ 0 ∷ 0 ∷ 0 ∷ 8 ∷ 0 ∷ 4 ∷ 0 ∷ 3 ∷ 0 ∷ 0 ∷ 0 ∷ 2 ∷ 0 ∷ 9 ∷ 0
    ∷ 4 ∷ 0 ∷ 15 ∷ 0 ∷ 0 ∷ 0 ∷ 8 ∷ 0 ∷ 4 ∷ 0 ∷ 0 ∷ 0 ∷ 0 ∷ 0 ∷ 0 ∷ 0
    ∷ 8 ∷ 0 ∷ 4 ∷ 0 ∷ 0 ∷ 0 ∷ 8 ∷ 0 ∷ 0 ∷ 0 ∷ 8 ∷ 0 ∷ 4 ∷ 0 ∷ 0 ∷ 0 ∷ 8 ∷ 0 ∷ 3 ∷ 0
    ∷ 6 ∷ 0 ∷ 16 ∷ 0 ∷ 0 ∷ 0 ∷ 1 ∷ 0 ∷ []) ∷
    -- a flush fault found at a close has windows: thread 1 loaded 1 before it issued 4
    (8 ∷ 0 ∷ 1 ∷ 0 ∷ 2 ∷ 0 ∷ 2 ∷ 0 ∷ 9 ∷ 0 ∷ 6 ∷ 0 ∷ 2 ∷ 0 ∷ 0 ∷ 0 ∷ 0 ∷ 0 ∷ 4 ∷ 0 ∷ 3 ∷ 0 ∷ 0 ∷ 0
    ∷ 8 ∷ 0 ∷ 4 ∷ 0 ∷ 1 ∷ 0 ∷ 0 ∷ 0 ∷ 1 ∷ 0 ∷ 6 ∷ 0 ∷ 2 ∷ 0 ∷ 1 ∷ 0 ∷ 8 ∷ 0
    ∷ 4 ∷ 0 ∷ 3 ∷ 0 ∷ 1 ∷ 0 ∷ 2 ∷ 0 ∷ 9 ∷ 0 ∷ 4 ∷ 0 ∷ 15 ∷ 0 ∷ 0 ∷ 0
    ∷ 8 ∷ 0 ∷ 4 ∷ 0 ∷ 0 ∷ 0 ∷ 0 ∷ 0 ∷ 0 ∷ 0 ∷ 8 ∷ 0 ∷ 4 ∷ 0 ∷ 0 ∷ 0 ∷ 8 ∷ 0 ∷ 4 ∷ 0
    ∷ 6 ∷ 0 ∷ 16 ∷ 0 ∷ 0 ∷ 0 ∷ 1 ∷ 0 ∷ []) ∷
    -- a pair on one line found at a close is impossible
    (8 ∷ 0 ∷ 1 ∷ 0 ∷ 2 ∷ 0 ∷ 1 ∷ 0 ∷ 2 ∷ 0 ∷ 6 ∷ 0 ∷ 2 ∷ 0 ∷ 0 ∷ 0 ∷ 0 ∷ 0 ∷ 4 ∷ 0 ∷ 3 ∷ 0 ∷ 0 ∷ 0
    ∷ 6 ∷ 0 ∷ 2 ∷ 0 ∷ 0 ∷ 0 ∷ 1 ∷ 0 ∷ 4 ∷ 0 ∷ 3 ∷ 0 ∷ 0 ∷ 0 ∷ 2 ∷ 0 ∷ 9 ∷ 0
    ∷ 4 ∷ 0 ∷ 15 ∷ 0 ∷ 0 ∷ 0 ∷ 8 ∷ 0 ∷ 4 ∷ 0 ∷ 0 ∷ 0 ∷ 0 ∷ 0 ∷ 0 ∷ 0
    ∷ 8 ∷ 0 ∷ 4 ∷ 0 ∷ 0 ∷ 0 ∷ 1 ∷ 0 ∷ 3 ∷ 0 ∷ 6 ∷ 0 ∷ 16 ∷ 0 ∷ 0 ∷ 0 ∷ 1 ∷ 0 ∷ []) ∷
    -- two finished stretches: the held load 8, from 1, forbids 4 of the second one, which 9 observes
    (8 ∷ 0 ∷ 1 ∷ 0 ∷ 2 ∷ 0 ∷ 1 ∷ 0 ∷ 2 ∷ 0 ∷ 6 ∷ 0 ∷ 2 ∷ 0 ∷ 0 ∷ 0 ∷ 0 ∷ 0 ∷ 4 ∷ 0 ∷ 3 ∷ 0 ∷ 0 ∷ 0
    ∷ 2 ∷ 0 ∷ 9 ∷ 0 ∷ 6 ∷ 0 ∷ 2 ∷ 0 ∷ 0 ∷ 0 ∷ 0 ∷ 0 ∷ 4 ∷ 0 ∷ 3 ∷ 0 ∷ 0 ∷ 0 ∷ 2 ∷ 0 ∷ 9 ∷ 0
    ∷ 4 ∷ 0 ∷ 15 ∷ 0 ∷ 0 ∷ 0 ∷ 8 ∷ 0 ∷ 4 ∷ 0 ∷ 0 ∷ 0 ∷ 0 ∷ 0 ∷ 1 ∷ 0
    ∷ 8 ∷ 0 ∷ 4 ∷ 0 ∷ 0 ∷ 0 ∷ 0 ∷ 0 ∷ 4 ∷ 0 ∷ 6 ∷ 0 ∷ 16 ∷ 0 ∷ 0 ∷ 0 ∷ 1 ∷ 0 ∷ []) ∷
    -- a load before the open counts at once: 6 is held, and the close is the load
    (8 ∷ 0 ∷ 1 ∷ 0 ∷ 2 ∷ 0 ∷ 1 ∷ 0 ∷ 2 ∷ 0 ∷ 6 ∷ 0 ∷ 2 ∷ 0 ∷ 0 ∷ 0 ∷ 0 ∷ 0 ∷ 4 ∷ 0 ∷ 3 ∷ 0 ∷ 0 ∷ 0
    ∷ 2 ∷ 0 ∷ 9 ∷ 0 ∷ 8 ∷ 0 ∷ 4 ∷ 0 ∷ 0 ∷ 0 ∷ 0 ∷ 0 ∷ 1 ∷ 0 ∷ 4 ∷ 0 ∷ 15 ∷ 0 ∷ 0 ∷ 0
    ∷ 8 ∷ 0 ∷ 4 ∷ 0 ∷ 0 ∷ 0 ∷ 0 ∷ 0 ∷ 0 ∷ 0 ∷ 6 ∷ 0 ∷ 16 ∷ 0 ∷ 0 ∷ 0 ∷ 1 ∷ 0 ∷ []) ∷
    -- a load behind the close counts at once: it is the load
    (8 ∷ 0 ∷ 1 ∷ 0 ∷ 2 ∷ 0 ∷ 1 ∷ 0 ∷ 2 ∷ 0 ∷ 6 ∷ 0 ∷ 2 ∷ 0 ∷ 0 ∷ 0 ∷ 0 ∷ 0 ∷ 4 ∷ 0 ∷ 3 ∷ 0 ∷ 0 ∷ 0
    ∷ 2 ∷ 0 ∷ 9 ∷ 0 ∷ 4 ∷ 0 ∷ 15 ∷ 0 ∷ 0 ∷ 0 ∷ 8 ∷ 0 ∷ 4 ∷ 0 ∷ 0 ∷ 0 ∷ 0 ∷ 0 ∷ 1 ∷ 0
    ∷ 6 ∷ 0 ∷ 16 ∷ 0 ∷ 0 ∷ 0 ∷ 1 ∷ 0 ∷ 8 ∷ 0 ∷ 4 ∷ 0 ∷ 0 ∷ 0 ∷ 0 ∷ 0 ∷ 0 ∷ 0 ∷ []) ∷
    -- a close with nothing held counts nothing: 7 is the load, and neither the close before it nor the one behind it
    (8 ∷ 0 ∷ 1 ∷ 0 ∷ 2 ∷ 0 ∷ 1 ∷ 0 ∷ 2 ∷ 0 ∷ 6 ∷ 0 ∷ 2 ∷ 0 ∷ 0 ∷ 0 ∷ 0 ∷ 0 ∷ 4 ∷ 0 ∷ 3 ∷ 0 ∷ 0 ∷ 0
    ∷ 2 ∷ 0 ∷ 9 ∷ 0 ∷ 8 ∷ 0 ∷ 4 ∷ 0 ∷ 0 ∷ 0 ∷ 0 ∷ 0 ∷ 1 ∷ 0 ∷ 4 ∷ 0 ∷ 15 ∷ 0 ∷ 0 ∷ 0
    ∷ 6 ∷ 0 ∷ 16 ∷ 0 ∷ 0 ∷ 0 ∷ 1 ∷ 0 ∷ 8 ∷ 0 ∷ 4 ∷ 0 ∷ 0 ∷ 0 ∷ 0 ∷ 0 ∷ 0 ∷ 0
    ∷ 4 ∷ 0 ∷ 15 ∷ 0 ∷ 0 ∷ 0 ∷ 6 ∷ 0 ∷ 16 ∷ 0 ∷ 0 ∷ 0 ∷ 1 ∷ 0 ∷ []) ∷
    -- an open and a close alone count nothing
    (8 ∷ 0 ∷ 1 ∷ 0 ∷ 2 ∷ 0 ∷ 1 ∷ 0 ∷ 2 ∷ 0 ∷ 4 ∷ 0 ∷ 15 ∷ 0 ∷ 0 ∷ 0 ∷ 6 ∷ 0 ∷ 16 ∷ 0 ∷ 0 ∷ 0 ∷ 1 ∷ 0
    ∷ []) ∷
    -- a load in a skip is never held: the skip ends before the close, which counts 8 and not 6
    (8 ∷ 0 ∷ 1 ∷ 0 ∷ 2 ∷ 0 ∷ 1 ∷ 0 ∷ 2 ∷ 0 ∷ 6 ∷ 0 ∷ 2 ∷ 0 ∷ 0 ∷ 0 ∷ 0 ∷ 0 ∷ 4 ∷ 0 ∷ 3 ∷ 0 ∷ 0 ∷ 0
    ∷ 2 ∷ 0 ∷ 9 ∷ 0 ∷ 4 ∷ 0 ∷ 15 ∷ 0 ∷ 0 ∷ 0 ∷ 4 ∷ 0 ∷ 10 ∷ 0 ∷ 0 ∷ 0
    ∷ 8 ∷ 0 ∷ 4 ∷ 0 ∷ 0 ∷ 0 ∷ 0 ∷ 0 ∷ 0 ∷ 0 ∷ 4 ∷ 0 ∷ 11 ∷ 0 ∷ 0 ∷ 0
    ∷ 8 ∷ 0 ∷ 4 ∷ 0 ∷ 0 ∷ 0 ∷ 0 ∷ 0 ∷ 1 ∷ 0 ∷ 6 ∷ 0 ∷ 16 ∷ 0 ∷ 0 ∷ 0 ∷ 1 ∷ 0 ∷ []) ∷
    -- a skip that is on when the region is opened: 6 is in it, and is not held; 8 is
    (8 ∷ 0 ∷ 1 ∷ 0 ∷ 2 ∷ 0 ∷ 1 ∷ 0 ∷ 2 ∷ 0 ∷ 6 ∷ 0 ∷ 2 ∷ 0 ∷ 0 ∷ 0 ∷ 0 ∷ 0 ∷ 4 ∷ 0 ∷ 3 ∷ 0 ∷ 0 ∷ 0
    ∷ 2 ∷ 0 ∷ 9 ∷ 0 ∷ 4 ∷ 0 ∷ 10 ∷ 0 ∷ 0 ∷ 0 ∷ 4 ∷ 0 ∷ 15 ∷ 0 ∷ 0 ∷ 0
    ∷ 8 ∷ 0 ∷ 4 ∷ 0 ∷ 0 ∷ 0 ∷ 0 ∷ 0 ∷ 0 ∷ 0 ∷ 4 ∷ 0 ∷ 11 ∷ 0 ∷ 0 ∷ 0
    ∷ 8 ∷ 0 ∷ 4 ∷ 0 ∷ 0 ∷ 0 ∷ 0 ∷ 0 ∷ 1 ∷ 0 ∷ 6 ∷ 0 ∷ 16 ∷ 0 ∷ 0 ∷ 0 ∷ 1 ∷ 0 ∷ []) ∷
    -- a skip that is turned on behind the held loads 5 and 6 leaves them held, and the close in it counts them
    (8 ∷ 0 ∷ 1 ∷ 0 ∷ 2 ∷ 0 ∷ 1 ∷ 0 ∷ 2 ∷ 0 ∷ 6 ∷ 0 ∷ 2 ∷ 0 ∷ 0 ∷ 0 ∷ 0 ∷ 0 ∷ 4 ∷ 0 ∷ 3 ∷ 0 ∷ 0 ∷ 0
    ∷ 2 ∷ 0 ∷ 9 ∷ 0 ∷ 4 ∷ 0 ∷ 15 ∷ 0 ∷ 0 ∷ 0 ∷ 8 ∷ 0 ∷ 4 ∷ 0 ∷ 0 ∷ 0 ∷ 0 ∷ 0 ∷ 1 ∷ 0
    ∷ 8 ∷ 0 ∷ 4 ∷ 0 ∷ 0 ∷ 0 ∷ 0 ∷ 0 ∷ 0 ∷ 0 ∷ 4 ∷ 0 ∷ 10 ∷ 0 ∷ 0 ∷ 0
    ∷ 6 ∷ 0 ∷ 16 ∷ 0 ∷ 0 ∷ 0 ∷ 1 ∷ 0 ∷ []) ∷
    -- two regions: the first one's load, 5, is dropped, the second one's, 8, counts
    (8 ∷ 0 ∷ 1 ∷ 0 ∷ 2 ∷ 0 ∷ 1 ∷ 0 ∷ 2 ∷ 0 ∷ 6 ∷ 0 ∷ 2 ∷ 0 ∷ 0 ∷ 0 ∷ 0 ∷ 0 ∷ 4 ∷ 0 ∷ 3 ∷ 0 ∷ 0 ∷ 0
    ∷ 2 ∷ 0 ∷ 9 ∷ 0 ∷ 4 ∷ 0 ∷ 15 ∷ 0 ∷ 0 ∷ 0 ∷ 8 ∷ 0 ∷ 4 ∷ 0 ∷ 0 ∷ 0 ∷ 0 ∷ 0 ∷ 0 ∷ 0
    ∷ 6 ∷ 0 ∷ 16 ∷ 0 ∷ 0 ∷ 0 ∷ 0 ∷ 0 ∷ 4 ∷ 0 ∷ 15 ∷ 0 ∷ 0 ∷ 0
    ∷ 8 ∷ 0 ∷ 4 ∷ 0 ∷ 0 ∷ 0 ∷ 0 ∷ 0 ∷ 1 ∷ 0 ∷ 6 ∷ 0 ∷ 16 ∷ 0 ∷ 0 ∷ 0 ∷ 1 ∷ 0 ∷ []) ∷
    -- a load of a dropped region does not come back at the next close, which has nothing held: 6 would forbid 1
    (8 ∷ 0 ∷ 1 ∷ 0 ∷ 2 ∷ 0 ∷ 2 ∷ 0 ∷ 2 ∷ 0 ∷ 6 ∷ 0 ∷ 2 ∷ 0 ∷ 0 ∷ 0 ∷ 0 ∷ 0 ∷ 4 ∷ 0 ∷ 3 ∷ 0 ∷ 0 ∷ 0
    ∷ 2 ∷ 0 ∷ 9 ∷ 0 ∷ 8 ∷ 0 ∷ 4 ∷ 0 ∷ 1 ∷ 0 ∷ 0 ∷ 0 ∷ 1 ∷ 0 ∷ 4 ∷ 0 ∷ 15 ∷ 0 ∷ 0 ∷ 0
    ∷ 8 ∷ 0 ∷ 4 ∷ 0 ∷ 0 ∷ 0 ∷ 0 ∷ 0 ∷ 0 ∷ 0 ∷ 6 ∷ 0 ∷ 16 ∷ 0 ∷ 0 ∷ 0 ∷ 0 ∷ 0
    ∷ 4 ∷ 0 ∷ 15 ∷ 0 ∷ 0 ∷ 0 ∷ 6 ∷ 0 ∷ 16 ∷ 0 ∷ 0 ∷ 0 ∷ 1 ∷ 0 ∷ []) ∷
    -- two regions with outcome 1: 5 counts as of 6, 8 as of 9, and 9 is the load
    (8 ∷ 0 ∷ 1 ∷ 0 ∷ 2 ∷ 0 ∷ 1 ∷ 0 ∷ 2 ∷ 0 ∷ 6 ∷ 0 ∷ 2 ∷ 0 ∷ 0 ∷ 0 ∷ 0 ∷ 0 ∷ 4 ∷ 0 ∷ 3 ∷ 0 ∷ 0 ∷ 0
    ∷ 2 ∷ 0 ∷ 9 ∷ 0 ∷ 4 ∷ 0 ∷ 15 ∷ 0 ∷ 0 ∷ 0 ∷ 8 ∷ 0 ∷ 4 ∷ 0 ∷ 0 ∷ 0 ∷ 0 ∷ 0 ∷ 0 ∷ 0
    ∷ 6 ∷ 0 ∷ 16 ∷ 0 ∷ 0 ∷ 0 ∷ 1 ∷ 0 ∷ 4 ∷ 0 ∷ 15 ∷ 0 ∷ 0 ∷ 0
    ∷ 8 ∷ 0 ∷ 4 ∷ 0 ∷ 0 ∷ 0 ∷ 0 ∷ 0 ∷ 1 ∷ 0 ∷ 6 ∷ 0 ∷ 16 ∷ 0 ∷ 0 ∷ 0 ∷ 1 ∷ 0 ∷ []) ∷
    -- two threads open at once: the close of thread 1 counts 7 only, that of thread 0 counts 6
    (8 ∷ 0 ∷ 1 ∷ 0 ∷ 2 ∷ 0 ∷ 2 ∷ 0 ∷ 2 ∷ 0 ∷ 6 ∷ 0 ∷ 2 ∷ 0 ∷ 0 ∷ 0 ∷ 0 ∷ 0 ∷ 4 ∷ 0 ∷ 3 ∷ 0 ∷ 0 ∷ 0
    ∷ 2 ∷ 0 ∷ 9 ∷ 0 ∷ 4 ∷ 0 ∷ 15 ∷ 0 ∷ 0 ∷ 0 ∷ 4 ∷ 0 ∷ 15 ∷ 0 ∷ 1 ∷ 0
    ∷ 8 ∷ 0 ∷ 4 ∷ 0 ∷ 0 ∷ 0 ∷ 0 ∷ 0 ∷ 0 ∷ 0 ∷ 8 ∷ 0 ∷ 4 ∷ 0 ∷ 1 ∷ 0 ∷ 0 ∷ 0 ∷ 1 ∷ 0
    ∷ 6 ∷ 0 ∷ 16 ∷ 0 ∷ 1 ∷ 0 ∷ 1 ∷ 0 ∷ 6 ∷ 0 ∷ 16 ∷ 0 ∷ 0 ∷ 0 ∷ 1 ∷ 0 ∷ []) ∷
    -- the same, and the close of thread 0 drops its own load 6, but not 7, which was counted before
    (8 ∷ 0 ∷ 1 ∷ 0 ∷ 2 ∷ 0 ∷ 2 ∷ 0 ∷ 2 ∷ 0 ∷ 6 ∷ 0 ∷ 2 ∷ 0 ∷ 0 ∷ 0 ∷ 0 ∷ 0 ∷ 4 ∷ 0 ∷ 3 ∷ 0 ∷ 0 ∷ 0
    ∷ 2 ∷ 0 ∷ 9 ∷ 0 ∷ 4 ∷ 0 ∷ 15 ∷ 0 ∷ 0 ∷ 0 ∷ 4 ∷ 0 ∷ 15 ∷ 0 ∷ 1 ∷ 0
    ∷ 8 ∷ 0 ∷ 4 ∷ 0 ∷ 0 ∷ 0 ∷ 0 ∷ 0 ∷ 0 ∷ 0 ∷ 8 ∷ 0 ∷ 4 ∷ 0 ∷ 1 ∷ 0 ∷ 0 ∷ 0 ∷ 1 ∷ 0
    ∷ 6 ∷ 0 ∷ 16 ∷ 0 ∷ 1 ∷ 0 ∷ 1 ∷ 0 ∷ 6 ∷ 0 ∷ 16 ∷ 0 ∷ 0 ∷ 0 ∷ 0 ∷ 0 ∷ []) ∷
    -- a crash ends the open state, so the close behind it is turned away
    (8 ∷ 0 ∷ 1 ∷ 0 ∷ 2 ∷ 0 ∷ 1 ∷ 0 ∷ 2 ∷ 0 ∷ 6 ∷ 0 ∷ 2 ∷ 0 ∷ 0 ∷ 0 ∷ 0 ∷ 0 ∷ 4 ∷ 0 ∷ 3 ∷ 0 ∷ 0 ∷ 0
    ∷ 2 ∷ 0 ∷ 9 ∷ 0 ∷ 4 ∷ 0 ∷ 15 ∷ 0 ∷ 0 ∷ 0 ∷ 8 ∷ 0 ∷ 4 ∷ 0 ∷ 0 ∷ 0 ∷ 0 ∷ 0 ∷ 1 ∷ 0
    ∷ 8 ∷ 0 ∷ 4 ∷ 0 ∷ 0 ∷ 0 ∷ 0 ∷ 0 ∷ 0 ∷ 0 ∷ 2 ∷ 0 ∷ 9 ∷ 0 ∷ 6 ∷ 0 ∷ 16 ∷ 0 ∷ 0 ∷ 0 ∷ 1 ∷ 0 ∷ []) ∷
    -- a crash drops the held load 5; the thread may open again, and the close counts 8 only
    (8 ∷ 0 ∷ 1 ∷ 0 ∷ 2 ∷ 0 ∷ 1 ∷ 0 ∷ 2 ∷ 0 ∷ 6 ∷ 0 ∷ 2 ∷ 0 ∷ 0 ∷ 0 ∷ 0 ∷ 0 ∷ 4 ∷ 0 ∷ 3 ∷ 0 ∷ 0 ∷ 0
    ∷ 2 ∷ 0 ∷ 9 ∷ 0 ∷ 4 ∷ 0 ∷ 15 ∷ 0 ∷ 0 ∷ 0 ∷ 8 ∷ 0 ∷ 4 ∷ 0 ∷ 0 ∷ 0 ∷ 0 ∷ 0 ∷ 1 ∷ 0
    ∷ 2 ∷ 0 ∷ 9 ∷ 0 ∷ 4 ∷ 0 ∷ 15 ∷ 0 ∷ 0 ∷ 0 ∷ 8 ∷ 0 ∷ 4 ∷ 0 ∷ 0 ∷ 0 ∷ 0 ∷ 0 ∷ 0 ∷ 0
    ∷ 6 ∷ 0 ∷ 16 ∷ 0 ∷ 0 ∷ 0 ∷ 1 ∷ 0 ∷ []) ∷
    -- a crash ends the open state of every thread: thread 1 opens again, and thread 0 has nothing to close
    (8 ∷ 0 ∷ 1 ∷ 0 ∷ 2 ∷ 0 ∷ 2 ∷ 0 ∷ 2 ∷ 0 ∷ 4 ∷ 0 ∷ 15 ∷ 0 ∷ 0 ∷ 0 ∷ 4 ∷ 0 ∷ 15 ∷ 0 ∷ 1 ∷ 0
    ∷ 2 ∷ 0 ∷ 9 ∷ 0 ∷ 4 ∷ 0 ∷ 15 ∷ 0 ∷ 1 ∷ 0 ∷ 6 ∷ 0 ∷ 16 ∷ 0 ∷ 0 ∷ 0 ∷ 0 ∷ 0 ∷ []) ∷
    -- what was counted stays counted over a crash: 5 observes 1, and 8, behind the crash, forbids it
    (8 ∷ 0 ∷ 1 ∷ 0 ∷ 2 ∷ 0 ∷ 1 ∷ 0 ∷ 2 ∷ 0 ∷ 6 ∷ 0 ∷ 2 ∷ 0 ∷ 0 ∷ 0 ∷ 0 ∷ 0 ∷ 4 ∷ 0 ∷ 3 ∷ 0 ∷ 0 ∷ 0
    ∷ 2 ∷ 0 ∷ 9 ∷ 0 ∷ 4 ∷ 0 ∷ 15 ∷ 0 ∷ 0 ∷ 0 ∷ 8 ∷ 0 ∷ 4 ∷ 0 ∷ 0 ∷ 0 ∷ 0 ∷ 0 ∷ 1 ∷ 0
    ∷ 6 ∷ 0 ∷ 16 ∷ 0 ∷ 0 ∷ 0 ∷ 1 ∷ 0 ∷ 2 ∷ 0 ∷ 9 ∷ 0 ∷ 8 ∷ 0 ∷ 4 ∷ 0 ∷ 0 ∷ 0 ∷ 0 ∷ 0 ∷ 0 ∷ 0 ∷ []) ∷
    -- 6 is committed at the held load's location before the close: 5 forbids stores of earlier stretches only
    (8 ∷ 0 ∷ 1 ∷ 0 ∷ 2 ∷ 0 ∷ 1 ∷ 0 ∷ 2 ∷ 0 ∷ 6 ∷ 0 ∷ 2 ∷ 0 ∷ 0 ∷ 0 ∷ 0 ∷ 0 ∷ 4 ∷ 0 ∷ 3 ∷ 0 ∷ 0 ∷ 0
    ∷ 2 ∷ 0 ∷ 9 ∷ 0 ∷ 4 ∷ 0 ∷ 15 ∷ 0 ∷ 0 ∷ 0 ∷ 8 ∷ 0 ∷ 4 ∷ 0 ∷ 0 ∷ 0 ∷ 0 ∷ 0 ∷ 1 ∷ 0
    ∷ 6 ∷ 0 ∷ 2 ∷ 0 ∷ 0 ∷ 0 ∷ 0 ∷ 0 ∷ 4 ∷ 0 ∷ 3 ∷ 0 ∷ 0 ∷ 0 ∷ 6 ∷ 0 ∷ 16 ∷ 0 ∷ 0 ∷ 0 ∷ 1 ∷ 0
    ∷ 2 ∷ 0 ∷ 9 ∷ 0 ∷ 8 ∷ 0 ∷ 4 ∷ 0 ∷ 0 ∷ 0 ∷ 0 ∷ 0 ∷ 6 ∷ 0 ∷ []) ∷
    -- the same with source 0 and another thread's store: 5 forbids 1, and not 6
    (8 ∷ 0 ∷ 1 ∷ 0 ∷ 2 ∷ 0 ∷ 2 ∷ 0 ∷ 2 ∷ 0 ∷ 6 ∷ 0 ∷ 2 ∷ 0 ∷ 0 ∷ 0 ∷ 0 ∷ 0 ∷ 4 ∷ 0 ∷ 3 ∷ 0 ∷ 0 ∷ 0
    ∷ 2 ∷ 0 ∷ 9 ∷ 0 ∷ 4 ∷ 0 ∷ 15 ∷ 0 ∷ 0 ∷ 0 ∷ 8 ∷ 0 ∷ 4 ∷ 0 ∷ 0 ∷ 0 ∷ 0 ∷ 0 ∷ 0 ∷ 0
    ∷ 6 ∷ 0 ∷ 2 ∷ 0 ∷ 1 ∷ 0 ∷ 0 ∷ 0 ∷ 4 ∷ 0 ∷ 3 ∷ 0 ∷ 1 ∷ 0 ∷ 6 ∷ 0 ∷ 16 ∷ 0 ∷ 0 ∷ 0 ∷ 1 ∷ 0
    ∷ 2 ∷ 0 ∷ 9 ∷ 0 ∷ 8 ∷ 0 ∷ 4 ∷ 0 ∷ 0 ∷ 0 ∷ 0 ∷ 0 ∷ 6 ∷ 0 ∷ []) ∷
    -- a load in a region that is not crossing is not held: the close has nothing to observe, and 7 forbids 1
    (8 ∷ 0 ∷ 1 ∷ 0 ∷ 2 ∷ 0 ∷ 1 ∷ 0 ∷ 2 ∷ 0 ∷ 6 ∷ 0 ∷ 2 ∷ 0 ∷ 0 ∷ 0 ∷ 0 ∷ 0 ∷ 4 ∷ 0 ∷ 3 ∷ 0 ∷ 0 ∷ 0
    ∷ 4 ∷ 0 ∷ 15 ∷ 0 ∷ 0 ∷ 0 ∷ 8 ∷ 0 ∷ 4 ∷ 0 ∷ 0 ∷ 0 ∷ 0 ∷ 0 ∷ 1 ∷ 0
    ∷ 6 ∷ 0 ∷ 16 ∷ 0 ∷ 0 ∷ 0 ∷ 1 ∷ 0 ∷ 2 ∷ 0 ∷ 9 ∷ 0 ∷ 8 ∷ 0 ∷ 4 ∷ 0 ∷ 0 ∷ 0 ∷ 0 ∷ 0 ∷ 0 ∷ 0 ∷ []) ∷
    -- but it orders stores as ever, though the outcome is 0: 1 happens before 6, and the first place is one past it
    (8 ∷ 0 ∷ 1 ∷ 0 ∷ 2 ∷ 0 ∷ 2 ∷ 0 ∷ 9 ∷ 0 ∷ 6 ∷ 0 ∷ 2 ∷ 0 ∷ 0 ∷ 0 ∷ 0 ∷ 0 ∷ 4 ∷ 0 ∷ 3 ∷ 0 ∷ 0 ∷ 0
    ∷ 4 ∷ 0 ∷ 15 ∷ 0 ∷ 1 ∷ 0 ∷ 8 ∷ 0 ∷ 4 ∷ 0 ∷ 1 ∷ 0 ∷ 0 ∷ 0 ∷ 1 ∷ 0
    ∷ 6 ∷ 0 ∷ 16 ∷ 0 ∷ 1 ∷ 0 ∷ 0 ∷ 0 ∷ 6 ∷ 0 ∷ 2 ∷ 0 ∷ 1 ∷ 0 ∷ 8 ∷ 0 ∷ 4 ∷ 0 ∷ 3 ∷ 0 ∷ 1 ∷ 0
    ∷ 2 ∷ 0 ∷ 9 ∷ 0 ∷ 8 ∷ 0 ∷ 4 ∷ 0 ∷ 0 ∷ 0 ∷ 0 ∷ 0 ∷ 0 ∷ 0
    ∷ 8 ∷ 0 ∷ 4 ∷ 0 ∷ 0 ∷ 0 ∷ 8 ∷ 0 ∷ 6 ∷ 0 ∷ []) ∷
    -- a locked operation's crossing load is held, and dropped by outcome 0; its store 5 stands, and 8 forbids it
    (8 ∷ 0 ∷ 1 ∷ 0 ∷ 2 ∷ 0 ∷ 1 ∷ 0 ∷ 2 ∷ 0 ∷ 6 ∷ 0 ∷ 2 ∷ 0 ∷ 0 ∷ 0 ∷ 0 ∷ 0 ∷ 4 ∷ 0 ∷ 3 ∷ 0 ∷ 0 ∷ 0
    ∷ 2 ∷ 0 ∷ 9 ∷ 0 ∷ 4 ∷ 0 ∷ 15 ∷ 0 ∷ 0 ∷ 0 ∷ 8 ∷ 0 ∷ 12 ∷ 0 ∷ 0 ∷ 0 ∷ 0 ∷ 0 ∷ 0 ∷ 0
    ∷ 6 ∷ 0 ∷ 16 ∷ 0 ∷ 0 ∷ 0 ∷ 0 ∷ 0 ∷ 2 ∷ 0 ∷ 9 ∷ 0 ∷ 8 ∷ 0 ∷ 4 ∷ 0 ∷ 0 ∷ 0 ∷ 0 ∷ 0 ∷ 1 ∷ 0 ∷ []) ∷
    -- a locked operation's held load counts as of the close: it forbids 1, which 4 observes, and not its own store
    (8 ∷ 0 ∷ 1 ∷ 0 ∷ 2 ∷ 0 ∷ 2 ∷ 0 ∷ 2 ∷ 0 ∷ 6 ∷ 0 ∷ 2 ∷ 0 ∷ 0 ∷ 0 ∷ 0 ∷ 0 ∷ 4 ∷ 0 ∷ 3 ∷ 0 ∷ 0 ∷ 0
    ∷ 2 ∷ 0 ∷ 9 ∷ 0 ∷ 8 ∷ 0 ∷ 4 ∷ 0 ∷ 1 ∷ 0 ∷ 0 ∷ 0 ∷ 1 ∷ 0 ∷ 4 ∷ 0 ∷ 15 ∷ 0 ∷ 0 ∷ 0
    ∷ 8 ∷ 0 ∷ 12 ∷ 0 ∷ 0 ∷ 0 ∷ 0 ∷ 0 ∷ 0 ∷ 0 ∷ 6 ∷ 0 ∷ 16 ∷ 0 ∷ 0 ∷ 0 ∷ 1 ∷ 0 ∷ []) ∷
    -- a locked operation's load in a skip, 8, is not held, or it would forbid 1; the close counts 10; its store stands
    (8 ∷ 0 ∷ 1 ∷ 0 ∷ 2 ∷ 0 ∷ 1 ∷ 0 ∷ 2 ∷ 0 ∷ 6 ∷ 0 ∷ 2 ∷ 0 ∷ 0 ∷ 0 ∷ 0 ∷ 0 ∷ 4 ∷ 0 ∷ 3 ∷ 0 ∷ 0 ∷ 0
    ∷ 6 ∷ 0 ∷ 2 ∷ 0 ∷ 0 ∷ 0 ∷ 1 ∷ 0 ∷ 4 ∷ 0 ∷ 3 ∷ 0 ∷ 0 ∷ 0 ∷ 2 ∷ 0 ∷ 9 ∷ 0
    ∷ 4 ∷ 0 ∷ 15 ∷ 0 ∷ 0 ∷ 0 ∷ 4 ∷ 0 ∷ 10 ∷ 0 ∷ 0 ∷ 0 ∷ 8 ∷ 0 ∷ 12 ∷ 0 ∷ 0 ∷ 0 ∷ 0 ∷ 0 ∷ 0 ∷ 0
    ∷ 4 ∷ 0 ∷ 11 ∷ 0 ∷ 0 ∷ 0 ∷ 8 ∷ 0 ∷ 4 ∷ 0 ∷ 0 ∷ 0 ∷ 1 ∷ 0 ∷ 3 ∷ 0
    ∷ 6 ∷ 0 ∷ 16 ∷ 0 ∷ 0 ∷ 0 ∷ 1 ∷ 0 ∷ 2 ∷ 0 ∷ 9 ∷ 0 ∷ 8 ∷ 0 ∷ 4 ∷ 0 ∷ 0 ∷ 0 ∷ 0 ∷ 0 ∷ 8 ∷ 0 ∷ []) ∷
    -- the store of a locked operation orders, though the outcome is 0: 2 happens before 4
    (8 ∷ 0 ∷ 1 ∷ 0 ∷ 2 ∷ 0 ∷ 1 ∷ 0 ∷ 9 ∷ 0 ∷ 4 ∷ 0 ∷ 15 ∷ 0 ∷ 0 ∷ 0
    ∷ 8 ∷ 0 ∷ 12 ∷ 0 ∷ 0 ∷ 0 ∷ 0 ∷ 0 ∷ 0 ∷ 0 ∷ 6 ∷ 0 ∷ 16 ∷ 0 ∷ 0 ∷ 0 ∷ 0 ∷ 0
    ∷ 6 ∷ 0 ∷ 2 ∷ 0 ∷ 0 ∷ 0 ∷ 8 ∷ 0 ∷ 4 ∷ 0 ∷ 3 ∷ 0 ∷ 0 ∷ 0 ∷ 2 ∷ 0 ∷ 9 ∷ 0
    ∷ 8 ∷ 0 ∷ 4 ∷ 0 ∷ 0 ∷ 0 ∷ 8 ∷ 0 ∷ 4 ∷ 0 ∷ 8 ∷ 0 ∷ 4 ∷ 0 ∷ 0 ∷ 0 ∷ 0 ∷ 0 ∷ 0 ∷ 0 ∷ []) ∷
    -- a signal and a wait in regions hand over as ever; the crash ends the second region
    (8 ∷ 0 ∷ 1 ∷ 0 ∷ 2 ∷ 0 ∷ 2 ∷ 0 ∷ 9 ∷ 0 ∷ 6 ∷ 0 ∷ 2 ∷ 0 ∷ 0 ∷ 0 ∷ 0 ∷ 0 ∷ 4 ∷ 0 ∷ 3 ∷ 0 ∷ 0 ∷ 0
    ∷ 4 ∷ 0 ∷ 15 ∷ 0 ∷ 0 ∷ 0 ∷ 4 ∷ 0 ∷ 13 ∷ 0 ∷ 0 ∷ 0 ∷ 6 ∷ 0 ∷ 16 ∷ 0 ∷ 0 ∷ 0 ∷ 0 ∷ 0
    ∷ 4 ∷ 0 ∷ 15 ∷ 0 ∷ 1 ∷ 0 ∷ 6 ∷ 0 ∷ 14 ∷ 0 ∷ 1 ∷ 0 ∷ 4 ∷ 0 ∷ 6 ∷ 0 ∷ 2 ∷ 0 ∷ 1 ∷ 0 ∷ 8 ∷ 0
    ∷ 4 ∷ 0 ∷ 3 ∷ 0 ∷ 1 ∷ 0 ∷ 2 ∷ 0 ∷ 9 ∷ 0 ∷ 8 ∷ 0 ∷ 4 ∷ 0 ∷ 0 ∷ 0 ∷ 0 ∷ 0 ∷ 0 ∷ 0
    ∷ 8 ∷ 0 ∷ 4 ∷ 0 ∷ 0 ∷ 0 ∷ 8 ∷ 0 ∷ 8 ∷ 0 ∷ []) ∷
    -- version 2 passes
    (8 ∷ 0 ∷ 1 ∷ 0 ∷ 2 ∷ 0 ∷ 1 ∷ 0 ∷ 2 ∷ 0 ∷ []) ∷
    -- version 3 is out of range
    (8 ∷ 0 ∷ 1 ∷ 0 ∷ 3 ∷ 0 ∷ 1 ∷ 0 ∷ 2 ∷ 0 ∷ []) ∷
    -- version 258, whose low byte is 2, is out of range
    (8 ∷ 0 ∷ 1 ∷ 0 ∷ 2 ∷ 1 ∷ 1 ∷ 0 ∷ 2 ∷ 0 ∷ []) ∷
    -- case 10 in version 2, without the new kinds: skips are as in version 1
    (8 ∷ 0 ∷ 1 ∷ 0 ∷ 2 ∷ 0 ∷ 1 ∷ 0 ∷ 2 ∷ 0 ∷ 6 ∷ 0 ∷ 2 ∷ 0 ∷ 0 ∷ 0 ∷ 0 ∷ 0 ∷ 4 ∷ 0 ∷ 3 ∷ 0 ∷ 0 ∷ 0
    ∷ 6 ∷ 0 ∷ 2 ∷ 0 ∷ 0 ∷ 0 ∷ 1 ∷ 0 ∷ 4 ∷ 0 ∷ 3 ∷ 0 ∷ 0 ∷ 0 ∷ 6 ∷ 0 ∷ 2 ∷ 0 ∷ 0 ∷ 0 ∷ 0 ∷ 0
    ∷ 4 ∷ 0 ∷ 3 ∷ 0 ∷ 0 ∷ 0 ∷ 6 ∷ 0 ∷ 2 ∷ 0 ∷ 0 ∷ 0 ∷ 1 ∷ 0 ∷ 4 ∷ 0 ∷ 3 ∷ 0 ∷ 0 ∷ 0
    ∷ 2 ∷ 0 ∷ 9 ∷ 0 ∷ 8 ∷ 0 ∷ 4 ∷ 0 ∷ 0 ∷ 0 ∷ 0 ∷ 0 ∷ 1 ∷ 0 ∷ 4 ∷ 0 ∷ 10 ∷ 0 ∷ 0 ∷ 0
    ∷ 8 ∷ 0 ∷ 4 ∷ 0 ∷ 0 ∷ 0 ∷ 1 ∷ 0 ∷ 7 ∷ 0 ∷ []) ∷
    -- a later begin in version 2
    (8 ∷ 0 ∷ 1 ∷ 0 ∷ 2 ∷ 0 ∷ 1 ∷ 0 ∷ 2 ∷ 0 ∷ 8 ∷ 0 ∷ 1 ∷ 0 ∷ 2 ∷ 0 ∷ 1 ∷ 0 ∷ 2 ∷ 0 ∷ []) ∷
    -- an open in version 1 is of an unknown kind
    (8 ∷ 0 ∷ 1 ∷ 0 ∷ 1 ∷ 0 ∷ 1 ∷ 0 ∷ 2 ∷ 0 ∷ 4 ∷ 0 ∷ 15 ∷ 0 ∷ 0 ∷ 0 ∷ []) ∷
    -- a close in version 1 too; that goes before its thread, its outcome and there being nothing open
    (8 ∷ 0 ∷ 1 ∷ 0 ∷ 1 ∷ 0 ∷ 1 ∷ 0 ∷ 2 ∷ 0 ∷ 6 ∷ 0 ∷ 16 ∷ 0 ∷ 1 ∷ 0 ∷ 2 ∷ 0 ∷ []) ∷
    -- an open in version 1 behind a trace that is broken: a refusal outranks it
    (8 ∷ 0 ∷ 1 ∷ 0 ∷ 1 ∷ 0 ∷ 1 ∷ 0 ∷ 2 ∷ 0 ∷ 6 ∷ 0 ∷ 2 ∷ 0 ∷ 0 ∷ 0 ∷ 0 ∷ 0 ∷ 4 ∷ 0 ∷ 3 ∷ 0 ∷ 0 ∷ 0
    ∷ 2 ∷ 0 ∷ 9 ∷ 0 ∷ 8 ∷ 0 ∷ 4 ∷ 0 ∷ 0 ∷ 0 ∷ 0 ∷ 0 ∷ 1 ∷ 0
    ∷ 8 ∷ 0 ∷ 4 ∷ 0 ∷ 0 ∷ 0 ∷ 0 ∷ 0 ∷ 0 ∷ 0 ∷ 4 ∷ 0 ∷ 15 ∷ 0 ∷ 0 ∷ 0 ∷ []) ∷
    -- an open when open
    (8 ∷ 0 ∷ 1 ∷ 0 ∷ 2 ∷ 0 ∷ 1 ∷ 0 ∷ 2 ∷ 0 ∷ 4 ∷ 0 ∷ 15 ∷ 0 ∷ 0 ∷ 0 ∷ 4 ∷ 0 ∷ 15 ∷ 0 ∷ 0 ∷ 0 ∷ []) ∷
    -- a close when nothing is open
    (8 ∷ 0 ∷ 1 ∷ 0 ∷ 2 ∷ 0 ∷ 1 ∷ 0 ∷ 2 ∷ 0 ∷ 6 ∷ 0 ∷ 16 ∷ 0 ∷ 0 ∷ 0 ∷ 1 ∷ 0 ∷ []) ∷
    -- a close behind a close
    (8 ∷ 0 ∷ 1 ∷ 0 ∷ 2 ∷ 0 ∷ 1 ∷ 0 ∷ 2 ∷ 0 ∷ 4 ∷ 0 ∷ 15 ∷ 0 ∷ 0 ∷ 0 ∷ 6 ∷ 0 ∷ 16 ∷ 0 ∷ 0 ∷ 0 ∷ 1 ∷ 0
    ∷ 6 ∷ 0 ∷ 16 ∷ 0 ∷ 0 ∷ 0 ∷ 0 ∷ 0 ∷ []) ∷
    -- a close of another thread than the open's
    (8 ∷ 0 ∷ 1 ∷ 0 ∷ 2 ∷ 0 ∷ 2 ∷ 0 ∷ 2 ∷ 0 ∷ 4 ∷ 0 ∷ 15 ∷ 0 ∷ 0 ∷ 0 ∷ 6 ∷ 0 ∷ 16 ∷ 0 ∷ 1 ∷ 0 ∷ 0 ∷ 0
    ∷ []) ∷
    -- a skip is no open state
    (8 ∷ 0 ∷ 1 ∷ 0 ∷ 2 ∷ 0 ∷ 1 ∷ 0 ∷ 2 ∷ 0 ∷ 4 ∷ 0 ∷ 10 ∷ 0 ∷ 0 ∷ 0 ∷ 6 ∷ 0 ∷ 16 ∷ 0 ∷ 0 ∷ 0 ∷ 0 ∷ 0
    ∷ []) ∷
    -- an open state is no skip
    (8 ∷ 0 ∷ 1 ∷ 0 ∷ 2 ∷ 0 ∷ 1 ∷ 0 ∷ 2 ∷ 0 ∷ 4 ∷ 0 ∷ 15 ∷ 0 ∷ 0 ∷ 0 ∷ 4 ∷ 0 ∷ 11 ∷ 0 ∷ 0 ∷ 0 ∷ []) ∷
    -- outcome 2 goes before there being nothing open
    (8 ∷ 0 ∷ 1 ∷ 0 ∷ 2 ∷ 0 ∷ 1 ∷ 0 ∷ 2 ∷ 0 ∷ 6 ∷ 0 ∷ 16 ∷ 0 ∷ 0 ∷ 0 ∷ 2 ∷ 0 ∷ []) ∷
    -- outcome 2 when open
    (8 ∷ 0 ∷ 1 ∷ 0 ∷ 2 ∷ 0 ∷ 1 ∷ 0 ∷ 2 ∷ 0 ∷ 4 ∷ 0 ∷ 15 ∷ 0 ∷ 0 ∷ 0 ∷ 6 ∷ 0 ∷ 16 ∷ 0 ∷ 0 ∷ 0 ∷ 2 ∷ 0
    ∷ []) ∷
    -- outcome 257, whose low byte is 1
    (8 ∷ 0 ∷ 1 ∷ 0 ∷ 2 ∷ 0 ∷ 1 ∷ 0 ∷ 2 ∷ 0 ∷ 4 ∷ 0 ∷ 15 ∷ 0 ∷ 0 ∷ 0 ∷ 6 ∷ 0 ∷ 16 ∷ 0 ∷ 0 ∷ 0 ∷ 1 ∷ 1
    ∷ []) ∷
    -- outcome 65,535
    (8 ∷ 0 ∷ 1 ∷ 0 ∷ 2 ∷ 0 ∷ 1 ∷ 0 ∷ 2 ∷ 0 ∷ 4 ∷ 0 ∷ 15 ∷ 0 ∷ 0 ∷ 0
    ∷ 6 ∷ 0 ∷ 16 ∷ 0 ∷ 0 ∷ 0 ∷ 255 ∷ 255 ∷ []) ∷
    -- close: no such thread goes before another outcome
    (8 ∷ 0 ∷ 1 ∷ 0 ∷ 2 ∷ 0 ∷ 1 ∷ 0 ∷ 2 ∷ 0 ∷ 6 ∷ 0 ∷ 16 ∷ 0 ∷ 1 ∷ 0 ∷ 2 ∷ 0 ∷ []) ∷
    -- open: no such thread
    (8 ∷ 0 ∷ 1 ∷ 0 ∷ 2 ∷ 0 ∷ 1 ∷ 0 ∷ 2 ∷ 0 ∷ 4 ∷ 0 ∷ 15 ∷ 0 ∷ 0 ∷ 0 ∷ 4 ∷ 0 ∷ 15 ∷ 0 ∷ 1 ∷ 0 ∷ []) ∷
    -- a load that will be held is checked
    (8 ∷ 0 ∷ 1 ∷ 0 ∷ 2 ∷ 0 ∷ 1 ∷ 0 ∷ 2 ∷ 0 ∷ 4 ∷ 0 ∷ 15 ∷ 0 ∷ 0 ∷ 0
    ∷ 8 ∷ 0 ∷ 4 ∷ 0 ∷ 0 ∷ 0 ∷ 0 ∷ 0 ∷ 1 ∷ 0 ∷ 6 ∷ 0 ∷ 16 ∷ 0 ∷ 0 ∷ 0 ∷ 0 ∷ 0 ∷ []) ∷
    -- a refusal outranks a trace that is broken at a close
    (8 ∷ 0 ∷ 1 ∷ 0 ∷ 2 ∷ 0 ∷ 1 ∷ 0 ∷ 2 ∷ 0 ∷ 6 ∷ 0 ∷ 2 ∷ 0 ∷ 0 ∷ 0 ∷ 0 ∷ 0 ∷ 4 ∷ 0 ∷ 3 ∷ 0 ∷ 0 ∷ 0
    ∷ 2 ∷ 0 ∷ 9 ∷ 0 ∷ 4 ∷ 0 ∷ 15 ∷ 0 ∷ 0 ∷ 0 ∷ 8 ∷ 0 ∷ 4 ∷ 0 ∷ 0 ∷ 0 ∷ 0 ∷ 0 ∷ 1 ∷ 0
    ∷ 8 ∷ 0 ∷ 4 ∷ 0 ∷ 0 ∷ 0 ∷ 0 ∷ 0 ∷ 0 ∷ 0 ∷ 6 ∷ 0 ∷ 16 ∷ 0 ∷ 0 ∷ 0 ∷ 1 ∷ 0
    ∷ 4 ∷ 0 ∷ 3 ∷ 0 ∷ 0 ∷ 0 ∷ []) ∷
    []

-- the events that they are the records of
traces : List (List Event)
traces =
    -- outcome 1 counts both held loads as of the close: 5 observes 1 and 6 forbids it, so 7 is the load
    (Begin 2 1 2 ∷ Issue 0 0 ∷ Commit 0 ∷ Crash ∷ Open 0 ∷ Load 0 0 1 ∷ Load 0 0 0 ∷ Close 0 1 ∷ []) ∷
    -- outcome 0 drops them: nothing is counted, and the least choice has nothing in
    (Begin 2 1 2 ∷ Issue 0 0 ∷ Commit 0 ∷ Crash ∷ Open 0 ∷ Load 0 0 1 ∷ Load 0 0 0 ∷ Close 0 0 ∷ []) ∷
    -- the trace's end drops them
    (Begin 2 1 2 ∷ Issue 0 0 ∷ Commit 0 ∷ Crash ∷ Open 0 ∷ Load 0 0 1 ∷ Load 0 0 0 ∷ []) ∷
    -- 5 is held and 6, of a thread that is not open, counts at once: the pair is there as of the close, and not of 6
    (Begin 2 2 2 ∷ Issue 0 0 ∷ Commit 0 ∷ Crash ∷ Open 0 ∷ Load 0 0 0 ∷ Load 1 0 1 ∷ Close 0 1 ∷ []) ∷
    -- 6 and 7, of threads that are not open, break the trace by themselves, ahead of the close that counts 5
    (Begin 2 3 2 ∷ Issue 0 0 ∷ Commit 0 ∷ Crash ∷ Open 0 ∷ Load 0 0 1 ∷ Load 1 0 0 ∷ Load 2 0 1 ∷ Close 0 1
    ∷ []) ∷
    -- case 2 in a region: one choice explains both held loads, and it is the cut
    (Begin 2 2 2 ∷ Issue 0 0 ∷ Commit 0 ∷ Issue 1 1 ∷ Commit 1 ∷ Crash ∷ Open 0 ∷ Load 0 0 0 ∷ Load 0 1 3
    ∷ Close 0 1 ∷ []) ∷
    -- three held loads of one location: 8, from 1, forbids 3, which 7 and 9 observe
    (Begin 2 1 2 ∷ Issue 0 0 ∷ Commit 0 ∷ Issue 0 0 ∷ Commit 0 ∷ Crash ∷ Open 0 ∷ Load 0 0 3 ∷ Load 0 0 1
    ∷ Load 0 0 3 ∷ Close 0 1 ∷ []) ∷
    -- all are counted before a pair is looked for: 7 and 8 alone have the pair 3, 3, but with 9 there is 1, 3
    (Begin 2 1 9 ∷ Issue 0 0 ∷ Commit 0 ∷ Issue 0 8 ∷ Commit 0 ∷ Crash ∷ Open 0 ∷ Load 0 8 3 ∷ Load 0 8 0
    ∷ Load 0 0 0 ∷ Close 0 1 ∷ []) ∷
    -- the same loads the other way round: 8 and 9 alone have the pair 3, 3, but with 7 there is 1, 3
    (Begin 2 1 9 ∷ Issue 0 0 ∷ Commit 0 ∷ Issue 0 8 ∷ Commit 0 ∷ Crash ∷ Open 0 ∷ Load 0 0 0 ∷ Load 0 8 0
    ∷ Load 0 8 3 ∷ Close 0 1 ∷ []) ∷
    -- a flush fault found at a close has windows: thread 1 loaded 1 before it issued 4
    (Begin 2 2 9 ∷ Issue 0 0 ∷ Commit 0 ∷ Load 1 0 1 ∷ Issue 1 8 ∷ Commit 1 ∷ Crash ∷ Open 0 ∷ Load 0 0 0
    ∷ Load 0 8 4 ∷ Close 0 1 ∷ []) ∷
    -- a pair on one line found at a close is impossible
    (Begin 2 1 2 ∷ Issue 0 0 ∷ Commit 0 ∷ Issue 0 1 ∷ Commit 0 ∷ Crash ∷ Open 0 ∷ Load 0 0 0 ∷ Load 0 1 3
    ∷ Close 0 1 ∷ []) ∷
    -- two finished stretches: the held load 8, from 1, forbids 4 of the second one, which 9 observes
    (Begin 2 1 2 ∷ Issue 0 0 ∷ Commit 0 ∷ Crash ∷ Issue 0 0 ∷ Commit 0 ∷ Crash ∷ Open 0 ∷ Load 0 0 1
    ∷ Load 0 0 4 ∷ Close 0 1 ∷ []) ∷
    -- a load before the open counts at once: 6 is held, and the close is the load
    (Begin 2 1 2 ∷ Issue 0 0 ∷ Commit 0 ∷ Crash ∷ Load 0 0 1 ∷ Open 0 ∷ Load 0 0 0 ∷ Close 0 1 ∷ []) ∷
    -- a load behind the close counts at once: it is the load
    (Begin 2 1 2 ∷ Issue 0 0 ∷ Commit 0 ∷ Crash ∷ Open 0 ∷ Load 0 0 1 ∷ Close 0 1 ∷ Load 0 0 0 ∷ []) ∷
    -- a close with nothing held counts nothing: 7 is the load, and neither the close before it nor the one behind it
    (Begin 2 1 2 ∷ Issue 0 0 ∷ Commit 0 ∷ Crash ∷ Load 0 0 1 ∷ Open 0 ∷ Close 0 1 ∷ Load 0 0 0 ∷ Open 0
    ∷ Close 0 1 ∷ []) ∷
    -- an open and a close alone count nothing
    (Begin 2 1 2 ∷ Open 0 ∷ Close 0 1 ∷ []) ∷
    -- a load in a skip is never held: the skip ends before the close, which counts 8 and not 6
    (Begin 2 1 2 ∷ Issue 0 0 ∷ Commit 0 ∷ Crash ∷ Open 0 ∷ SkipOn 0 ∷ Load 0 0 0 ∷ SkipOff 0 ∷ Load 0 0 1
    ∷ Close 0 1 ∷ []) ∷
    -- a skip that is on when the region is opened: 6 is in it, and is not held; 8 is
    (Begin 2 1 2 ∷ Issue 0 0 ∷ Commit 0 ∷ Crash ∷ SkipOn 0 ∷ Open 0 ∷ Load 0 0 0 ∷ SkipOff 0 ∷ Load 0 0 1
    ∷ Close 0 1 ∷ []) ∷
    -- a skip that is turned on behind the held loads 5 and 6 leaves them held, and the close in it counts them
    (Begin 2 1 2 ∷ Issue 0 0 ∷ Commit 0 ∷ Crash ∷ Open 0 ∷ Load 0 0 1 ∷ Load 0 0 0 ∷ SkipOn 0 ∷ Close 0 1 ∷ []) ∷
    -- two regions: the first one's load, 5, is dropped, the second one's, 8, counts
    (Begin 2 1 2 ∷ Issue 0 0 ∷ Commit 0 ∷ Crash ∷ Open 0 ∷ Load 0 0 0 ∷ Close 0 0 ∷ Open 0 ∷ Load 0 0 1
    ∷ Close 0 1 ∷ []) ∷
    -- a load of a dropped region does not come back at the next close, which has nothing held: 6 would forbid 1
    (Begin 2 2 2 ∷ Issue 0 0 ∷ Commit 0 ∷ Crash ∷ Load 1 0 1 ∷ Open 0 ∷ Load 0 0 0 ∷ Close 0 0 ∷ Open 0
    ∷ Close 0 1 ∷ []) ∷
    -- two regions with outcome 1: 5 counts as of 6, 8 as of 9, and 9 is the load
    (Begin 2 1 2 ∷ Issue 0 0 ∷ Commit 0 ∷ Crash ∷ Open 0 ∷ Load 0 0 0 ∷ Close 0 1 ∷ Open 0 ∷ Load 0 0 1
    ∷ Close 0 1 ∷ []) ∷
    -- two threads open at once: the close of thread 1 counts 7 only, that of thread 0 counts 6
    (Begin 2 2 2 ∷ Issue 0 0 ∷ Commit 0 ∷ Crash ∷ Open 0 ∷ Open 1 ∷ Load 0 0 0 ∷ Load 1 0 1 ∷ Close 1 1
    ∷ Close 0 1 ∷ []) ∷
    -- the same, and the close of thread 0 drops its own load 6, but not 7, which was counted before
    (Begin 2 2 2 ∷ Issue 0 0 ∷ Commit 0 ∷ Crash ∷ Open 0 ∷ Open 1 ∷ Load 0 0 0 ∷ Load 1 0 1 ∷ Close 1 1
    ∷ Close 0 0 ∷ []) ∷
    -- a crash ends the open state, so the close behind it is turned away
    (Begin 2 1 2 ∷ Issue 0 0 ∷ Commit 0 ∷ Crash ∷ Open 0 ∷ Load 0 0 1 ∷ Load 0 0 0 ∷ Crash ∷ Close 0 1 ∷ []) ∷
    -- a crash drops the held load 5; the thread may open again, and the close counts 8 only
    (Begin 2 1 2 ∷ Issue 0 0 ∷ Commit 0 ∷ Crash ∷ Open 0 ∷ Load 0 0 1 ∷ Crash ∷ Open 0 ∷ Load 0 0 0 ∷ Close 0 1
    ∷ []) ∷
    -- a crash ends the open state of every thread: thread 1 opens again, and thread 0 has nothing to close
    (Begin 2 2 2 ∷ Open 0 ∷ Open 1 ∷ Crash ∷ Open 1 ∷ Close 0 0 ∷ []) ∷
    -- what was counted stays counted over a crash: 5 observes 1, and 8, behind the crash, forbids it
    (Begin 2 1 2 ∷ Issue 0 0 ∷ Commit 0 ∷ Crash ∷ Open 0 ∷ Load 0 0 1 ∷ Close 0 1 ∷ Crash ∷ Load 0 0 0 ∷ []) ∷
    -- 6 is committed at the held load's location before the close: 5 forbids stores of earlier stretches only
    (Begin 2 1 2 ∷ Issue 0 0 ∷ Commit 0 ∷ Crash ∷ Open 0 ∷ Load 0 0 1 ∷ Issue 0 0 ∷ Commit 0 ∷ Close 0 1
    ∷ Crash ∷ Load 0 0 6 ∷ []) ∷
    -- the same with source 0 and another thread's store: 5 forbids 1, and not 6
    (Begin 2 2 2 ∷ Issue 0 0 ∷ Commit 0 ∷ Crash ∷ Open 0 ∷ Load 0 0 0 ∷ Issue 1 0 ∷ Commit 1 ∷ Close 0 1
    ∷ Crash ∷ Load 0 0 6 ∷ []) ∷
    -- a load in a region that is not crossing is not held: the close has nothing to observe, and 7 forbids 1
    (Begin 2 1 2 ∷ Issue 0 0 ∷ Commit 0 ∷ Open 0 ∷ Load 0 0 1 ∷ Close 0 1 ∷ Crash ∷ Load 0 0 0 ∷ []) ∷
    -- but it orders stores as ever, though the outcome is 0: 1 happens before 6, and the first place is one past it
    (Begin 2 2 9 ∷ Issue 0 0 ∷ Commit 0 ∷ Open 1 ∷ Load 1 0 1 ∷ Close 1 0 ∷ Issue 1 8 ∷ Commit 1 ∷ Crash
    ∷ Load 0 0 0 ∷ Load 0 8 6 ∷ []) ∷
    -- a locked operation's crossing load is held, and dropped by outcome 0; its store 5 stands, and 8 forbids it
    (Begin 2 1 2 ∷ Issue 0 0 ∷ Commit 0 ∷ Crash ∷ Open 0 ∷ Locked 0 0 0 ∷ Close 0 0 ∷ Crash ∷ Load 0 0 1 ∷ []) ∷
    -- a locked operation's held load counts as of the close: it forbids 1, which 4 observes, and not its own store
    (Begin 2 2 2 ∷ Issue 0 0 ∷ Commit 0 ∷ Crash ∷ Load 1 0 1 ∷ Open 0 ∷ Locked 0 0 0 ∷ Close 0 1 ∷ []) ∷
    -- a locked operation's load in a skip, 8, is not held, or it would forbid 1; the close counts 10; its store stands
    (Begin 2 1 2 ∷ Issue 0 0 ∷ Commit 0 ∷ Issue 0 1 ∷ Commit 0 ∷ Crash ∷ Open 0 ∷ SkipOn 0 ∷ Locked 0 0 0
    ∷ SkipOff 0 ∷ Load 0 1 3 ∷ Close 0 1 ∷ Crash ∷ Load 0 0 8 ∷ []) ∷
    -- the store of a locked operation orders, though the outcome is 0: 2 happens before 4
    (Begin 2 1 9 ∷ Open 0 ∷ Locked 0 0 0 ∷ Close 0 0 ∷ Issue 0 8 ∷ Commit 0 ∷ Crash ∷ Load 0 8 4 ∷ Load 0 0 0
    ∷ []) ∷
    -- a signal and a wait in regions hand over as ever; the crash ends the second region
    (Begin 2 2 9 ∷ Issue 0 0 ∷ Commit 0 ∷ Open 0 ∷ Signal 0 ∷ Close 0 0 ∷ Open 1 ∷ Wait 1 4 ∷ Issue 1 8
    ∷ Commit 1 ∷ Crash ∷ Load 0 0 0 ∷ Load 0 8 8 ∷ []) ∷
    -- version 2 passes
    (Begin 2 1 2 ∷ []) ∷
    -- version 3 is out of range
    (Begin 3 1 2 ∷ []) ∷
    -- version 258, whose low byte is 2, is out of range
    (Begin 258 1 2 ∷ []) ∷
    -- case 10 in version 2, without the new kinds: skips are as in version 1
    (Begin 2 1 2 ∷ Issue 0 0 ∷ Commit 0 ∷ Issue 0 1 ∷ Commit 0 ∷ Issue 0 0 ∷ Commit 0 ∷ Issue 0 1 ∷ Commit 0
    ∷ Crash ∷ Load 0 0 1 ∷ SkipOn 0 ∷ Load 0 1 7 ∷ []) ∷
    -- a later begin in version 2
    (Begin 2 1 2 ∷ Begin 2 1 2 ∷ []) ∷
    -- an open in version 1 is of an unknown kind
    (Begin 1 1 2 ∷ Open 0 ∷ []) ∷
    -- a close in version 1 too; that goes before its thread, its outcome and there being nothing open
    (Begin 1 1 2 ∷ Close 1 2 ∷ []) ∷
    -- an open in version 1 behind a trace that is broken: a refusal outranks it
    (Begin 1 1 2 ∷ Issue 0 0 ∷ Commit 0 ∷ Crash ∷ Load 0 0 1 ∷ Load 0 0 0 ∷ Open 0 ∷ []) ∷
    -- an open when open
    (Begin 2 1 2 ∷ Open 0 ∷ Open 0 ∷ []) ∷
    -- a close when nothing is open
    (Begin 2 1 2 ∷ Close 0 1 ∷ []) ∷
    -- a close behind a close
    (Begin 2 1 2 ∷ Open 0 ∷ Close 0 1 ∷ Close 0 0 ∷ []) ∷
    -- a close of another thread than the open's
    (Begin 2 2 2 ∷ Open 0 ∷ Close 1 0 ∷ []) ∷
    -- a skip is no open state
    (Begin 2 1 2 ∷ SkipOn 0 ∷ Close 0 0 ∷ []) ∷
    -- an open state is no skip
    (Begin 2 1 2 ∷ Open 0 ∷ SkipOff 0 ∷ []) ∷
    -- outcome 2 goes before there being nothing open
    (Begin 2 1 2 ∷ Close 0 2 ∷ []) ∷
    -- outcome 2 when open
    (Begin 2 1 2 ∷ Open 0 ∷ Close 0 2 ∷ []) ∷
    -- outcome 257, whose low byte is 1
    (Begin 2 1 2 ∷ Open 0 ∷ Close 0 257 ∷ []) ∷
    -- outcome 65,535
    (Begin 2 1 2 ∷ Open 0 ∷ Close 0 65535 ∷ []) ∷
    -- close: no such thread goes before another outcome
    (Begin 2 1 2 ∷ Close 1 2 ∷ []) ∷
    -- open: no such thread
    (Begin 2 1 2 ∷ Open 0 ∷ Open 1 ∷ []) ∷
    -- a load that will be held is checked
    (Begin 2 1 2 ∷ Open 0 ∷ Load 0 0 1 ∷ Close 0 0 ∷ []) ∷
    -- a refusal outranks a trace that is broken at a close
    (Begin 2 1 2 ∷ Issue 0 0 ∷ Commit 0 ∷ Crash ∷ Open 0 ∷ Load 0 0 1 ∷ Load 0 0 0 ∷ Close 0 1 ∷ Commit 0 ∷ []) ∷
    []

-- the answers, and the cut buffers afterwards
pub answers : List Outcome
answers =
    -- outcome 1 counts both held loads as of the close: 5 observes 1 and 6 forbids it, so 7 is the load
    (record { answer = broken 7 7 1 1 contradiction; cut = lent }) ∷
    -- outcome 0 drops them: nothing is counted, and the least choice has nothing in
    (record { answer = robust 7 0; cut = zeros 56 }) ∷
    -- the trace's end drops them
    (record { answer = robust 6 0; cut = zeros 56 }) ∷
    -- 5 is held and 6, of a thread that is not open, counts at once: the pair is there as of the close, and not of 6
    (record { answer = broken 7 7 1 1 contradiction; cut = lent }) ∷
    -- 6 and 7, of threads that are not open, break the trace by themselves, ahead of the close that counts 5
    (record { answer = broken 8 7 1 1 contradiction; cut = lent }) ∷
    -- case 2 in a region: one choice explains both held loads, and it is the cut
    (record { answer = robust 9 50; cut = 0 ∷ 1 ∷ zeros 54 }) ∷
    -- three held loads of one location: 8, from 1, forbids 3, which 7 and 9 observe
    (record { answer = broken 10 10 3 3 contradiction; cut = lent }) ∷
    -- all are counted before a pair is looked for: 7 and 8 alone have the pair 3, 3, but with 9 there is 1, 3
    (record { answer = broken 10 10 1 3 (flush 0 (padded (between 2 3 ∷ []))); cut = lent }) ∷
    -- the same loads the other way round: 8 and 9 alone have the pair 3, 3, but with 7 there is 1, 3
    (record { answer = broken 10 10 1 3 (flush 0 (padded (between 2 3 ∷ []))); cut = lent }) ∷
    -- a flush fault found at a close has windows: thread 1 loaded 1 before it issued 4
    (record { answer = broken 10 10 1 4 (flush 0 (padded (none ∷ between 4 4 ∷ []))); cut = lent }) ∷
    -- a pair on one line found at a close is impossible
    (record { answer = broken 9 9 1 3 impossible; cut = lent }) ∷
    -- two finished stretches: the held load 8, from 1, forbids 4 of the second one, which 9 observes
    (record { answer = broken 10 10 4 4 contradiction; cut = lent }) ∷
    -- a load before the open counts at once: 6 is held, and the close is the load
    (record { answer = broken 7 7 1 1 contradiction; cut = lent }) ∷
    -- a load behind the close counts at once: it is the load
    (record { answer = broken 7 7 1 1 contradiction; cut = lent }) ∷
    -- a close with nothing held counts nothing: 7 is the load, and neither the close before it nor the one behind it
    (record { answer = broken 9 7 1 1 contradiction; cut = lent }) ∷
    -- an open and a close alone count nothing
    (record { answer = robust 2 100; cut = zeros 56 }) ∷
    -- a load in a skip is never held: the skip ends before the close, which counts 8 and not 6
    (record { answer = robust 9 100; cut = 1 ∷ zeros 55 }) ∷
    -- a skip that is on when the region is opened: 6 is in it, and is not held; 8 is
    (record { answer = robust 9 100; cut = 1 ∷ zeros 55 }) ∷
    -- a skip that is turned on behind the held loads 5 and 6 leaves them held, and the close in it counts them
    (record { answer = broken 8 8 1 1 contradiction; cut = lent }) ∷
    -- two regions: the first one's load, 5, is dropped, the second one's, 8, counts
    (record { answer = robust 9 100; cut = 1 ∷ zeros 55 }) ∷
    -- a load of a dropped region does not come back at the next close, which has nothing held: 6 would forbid 1
    (record { answer = robust 9 100; cut = 1 ∷ zeros 55 }) ∷
    -- two regions with outcome 1: 5 counts as of 6, 8 as of 9, and 9 is the load
    (record { answer = broken 9 9 1 1 contradiction; cut = lent }) ∷
    -- two threads open at once: the close of thread 1 counts 7 only, that of thread 0 counts 6
    (record { answer = broken 9 9 1 1 contradiction; cut = lent }) ∷
    -- the same, and the close of thread 0 drops its own load 6, but not 7, which was counted before
    (record { answer = robust 9 100; cut = 1 ∷ zeros 55 }) ∷
    -- a crash ends the open state, so the close behind it is turned away
    (record { answer = refused 12 8; cut = lent }) ∷
    -- a crash drops the held load 5; the thread may open again, and the close counts 8 only
    (record { answer = robust 9 0; cut = zeros 56 }) ∷
    -- a crash ends the open state of every thread: thread 1 opens again, and thread 0 has nothing to close
    (record { answer = refused 12 5; cut = lent }) ∷
    -- what was counted stays counted over a crash: 5 observes 1, and 8, behind the crash, forbids it
    (record { answer = broken 8 8 1 1 contradiction; cut = lent }) ∷
    -- 6 is committed at the held load's location before the close: 5 forbids stores of earlier stretches only
    (record { answer = robust 10 100; cut = 1 ∷ 0 ∷ 0 ∷ 0 ∷ 0 ∷ 0 ∷ 0 ∷ 0 ∷ 1 ∷ zeros 47 }) ∷
    -- the same with source 0 and another thread's store: 5 forbids 1, and not 6
    (record { answer = robust 10 50; cut = 0 ∷ 0 ∷ 0 ∷ 0 ∷ 0 ∷ 0 ∷ 0 ∷ 0 ∷ 0 ∷ 1 ∷ zeros 46 }) ∷
    -- a load in a region that is not crossing is not held: the close has nothing to observe, and 7 forbids 1
    (record { answer = robust 7 0; cut = zeros 56 }) ∷
    -- but it orders stores as ever, though the outcome is 0: 1 happens before 6, and the first place is one past it
    (record { answer = broken 10 10 1 6 (flush 0 (padded (none ∷ between 5 6 ∷ []))); cut = lent }) ∷
    -- a locked operation's crossing load is held, and dropped by outcome 0; its store 5 stands, and 8 forbids it
    (record { answer = robust 8 50; cut = 1 ∷ zeros 55 }) ∷
    -- a locked operation's held load counts as of the close: it forbids 1, which 4 observes, and not its own store
    (record { answer = broken 7 7 1 1 contradiction; cut = lent }) ∷
    -- a locked operation's load in a skip, 8, is not held, or it would forbid 1; the close counts 10; its store stands
    (record { answer = robust 13 100; cut = 2 ∷ 0 ∷ 0 ∷ 0 ∷ 0 ∷ 0 ∷ 0 ∷ 0 ∷ 1 ∷ zeros 47 }) ∷
    -- the store of a locked operation orders, though the outcome is 0: 2 happens before 4
    (record { answer = broken 8 8 2 4 (flush 0 (padded (between 3 4 ∷ []))); cut = lent }) ∷
    -- a signal and a wait in regions hand over as ever; the crash ends the second region
    (record { answer = broken 12 12 1 8 (flush 0 (padded (none ∷ between 8 8 ∷ []))); cut = lent }) ∷
    -- version 2 passes
    (record { answer = robust 0 100; cut = zeros 56 }) ∷
    -- version 3 is out of range
    (record { answer = refused 6 0; cut = lent }) ∷
    -- version 258, whose low byte is 2, is out of range
    (record { answer = refused 6 0; cut = lent }) ∷
    -- case 10 in version 2, without the new kinds: skips are as in version 1
    (record { answer = robust 12 25; cut = 1 ∷ zeros 55 }) ∷
    -- a later begin in version 2
    (record { answer = refused 5 1; cut = lent }) ∷
    -- an open in version 1 is of an unknown kind
    (record { answer = refused 3 1; cut = lent }) ∷
    -- a close in version 1 too; that goes before its thread, its outcome and there being nothing open
    (record { answer = refused 3 1; cut = lent }) ∷
    -- an open in version 1 behind a trace that is broken: a refusal outranks it
    (record { answer = refused 3 6; cut = lent }) ∷
    -- an open when open
    (record { answer = refused 12 2; cut = lent }) ∷
    -- a close when nothing is open
    (record { answer = refused 12 1; cut = lent }) ∷
    -- a close behind a close
    (record { answer = refused 12 3; cut = lent }) ∷
    -- a close of another thread than the open's
    (record { answer = refused 12 2; cut = lent }) ∷
    -- a skip is no open state
    (record { answer = refused 12 2; cut = lent }) ∷
    -- an open state is no skip
    (record { answer = refused 12 2; cut = lent }) ∷
    -- outcome 2 goes before there being nothing open
    (record { answer = refused 19 1; cut = lent }) ∷
    -- outcome 2 when open
    (record { answer = refused 19 2; cut = lent }) ∷
    -- outcome 257, whose low byte is 1
    (record { answer = refused 19 2; cut = lent }) ∷
    -- outcome 65,535
    (record { answer = refused 19 2; cut = lent }) ∷
    -- close: no such thread goes before another outcome
    (record { answer = refused 7 1; cut = lent }) ∷
    -- open: no such thread
    (record { answer = refused 7 2; cut = lent }) ∷
    -- a load that will be held is checked
    (record { answer = refused 9 2; cut = lent }) ∷
    -- a refusal outranks a trace that is broken at a close
    (record { answer = refused 10 8; cut = lent }) ∷
    []

encoded : map encode traces ≡ sessions
unfolding traces sessions encode record_of row_of
encoded = refl

computed : map outcome_of_events traces ≡ answers
unfolding traces answers reading_events some last first first_from most stretch count committed commit_of waiting current
    source_fits switched countable held counting any answer rules finished seen clock vc forbids? observes? forbidden?
    observed? pair? missing? bad? closure load_of missing_of observed_of ruling_of behind last_covered window_of fault_of
    tabulate cut_of sum share_of row_of
computed = refl

pub checksums_as_worked : map outcome_of sessions ≡ answers
unfolding traces
checksums_as_worked = ap (map outcome_of) (sym encoded) ∙ (outcome_all traces refl ∙ computed)

-- the bytes
pub bytes : List (List ℕ)
bytes =
    -- an open of length 2 in version 1: the unknown kind goes before the wrong length
    (8 ∷ 0 ∷ 1 ∷ 0 ∷ 1 ∷ 0 ∷ 1 ∷ 0 ∷ 2 ∷ 0 ∷ 2 ∷ 0 ∷ 15 ∷ 0 ∷ []) ∷
    -- a close of length 4 in version 1: likewise
    (8 ∷ 0 ∷ 1 ∷ 0 ∷ 1 ∷ 0 ∷ 1 ∷ 0 ∷ 2 ∷ 0 ∷ 4 ∷ 0 ∷ 16 ∷ 0 ∷ 0 ∷ 0 ∷ []) ∷
    -- an open of length 2 in version 2: the kind is known and its length wrong
    (8 ∷ 0 ∷ 1 ∷ 0 ∷ 2 ∷ 0 ∷ 1 ∷ 0 ∷ 2 ∷ 0 ∷ 2 ∷ 0 ∷ 15 ∷ 0 ∷ []) ∷
    -- an open with the length of a close in version 2
    (8 ∷ 0 ∷ 1 ∷ 0 ∷ 2 ∷ 0 ∷ 1 ∷ 0 ∷ 2 ∷ 0 ∷ 6 ∷ 0 ∷ 15 ∷ 0 ∷ 0 ∷ 0 ∷ 0 ∷ 0 ∷ []) ∷
    -- a close with the length of an open in version 2
    (8 ∷ 0 ∷ 1 ∷ 0 ∷ 2 ∷ 0 ∷ 1 ∷ 0 ∷ 2 ∷ 0 ∷ 4 ∷ 0 ∷ 16 ∷ 0 ∷ 0 ∷ 0 ∷ []) ∷
    -- a close with the length of a load in version 2
    (8 ∷ 0 ∷ 1 ∷ 0 ∷ 2 ∷ 0 ∷ 1 ∷ 0 ∷ 2 ∷ 0 ∷ 8 ∷ 0 ∷ 16 ∷ 0 ∷ 0 ∷ 0 ∷ 1 ∷ 0 ∷ 0 ∷ 0 ∷ []) ∷
    -- bytes that end inside an open in version 1: that goes before the unknown kind
    (8 ∷ 0 ∷ 1 ∷ 0 ∷ 1 ∷ 0 ∷ 1 ∷ 0 ∷ 2 ∷ 0 ∷ 4 ∷ 0 ∷ 15 ∷ 0 ∷ 0 ∷ []) ∷
    -- bytes that end inside a close in version 2
    (8 ∷ 0 ∷ 1 ∷ 0 ∷ 2 ∷ 0 ∷ 1 ∷ 0 ∷ 2 ∷ 0 ∷ 6 ∷ 0 ∷ 16 ∷ 0 ∷ 0 ∷ 0 ∷ 1 ∷ []) ∷
    -- a length of 1 before an open's kind in version 1: under 2, which goes before the unknown kind
    (8 ∷ 0 ∷ 1 ∷ 0 ∷ 1 ∷ 0 ∷ 1 ∷ 0 ∷ 2 ∷ 0 ∷ 1 ∷ 0 ∷ 15 ∷ 0 ∷ []) ∷
    -- kind 17 in version 2 is unknown
    (8 ∷ 0 ∷ 1 ∷ 0 ∷ 2 ∷ 0 ∷ 1 ∷ 0 ∷ 2 ∷ 0 ∷ 4 ∷ 0 ∷ 17 ∷ 0 ∷ 0 ∷ 0 ∷ []) ∷
    -- kind 256 + 15 in version 2 is unknown
    (8 ∷ 0 ∷ 1 ∷ 0 ∷ 2 ∷ 0 ∷ 1 ∷ 0 ∷ 2 ∷ 0 ∷ 4 ∷ 0 ∷ 15 ∷ 1 ∷ 0 ∷ 0 ∷ []) ∷
    -- an open first: its kind is known there, and it is no begin
    (4 ∷ 0 ∷ 15 ∷ 0 ∷ 0 ∷ 0 ∷ 8 ∷ 0 ∷ 1 ∷ 0 ∷ 2 ∷ 0 ∷ 1 ∷ 0 ∷ 2 ∷ 0 ∷ []) ∷
    -- a close first: that there is no begin goes before its outcome and there being nothing open
    (6 ∷ 0 ∷ 16 ∷ 0 ∷ 0 ∷ 0 ∷ 2 ∷ 0 ∷ []) ∷
    -- an open of length 2 first: its kind is known there, and its length wrong
    (2 ∷ 0 ∷ 15 ∷ 0 ∷ []) ∷
    -- a close of length 4 first: likewise, though a begin of version 1 stands behind it
    (4 ∷ 0 ∷ 16 ∷ 0 ∷ 0 ∷ 0 ∷ 8 ∷ 0 ∷ 1 ∷ 0 ∷ 1 ∷ 0 ∷ 1 ∷ 0 ∷ 2 ∷ 0 ∷ []) ∷
    -- bytes that end inside an open that is first
    (4 ∷ 0 ∷ 15 ∷ 0 ∷ 0 ∷ []) ∷
    -- an open of length 2 behind a begin of version 3: the begin is turned away
    (8 ∷ 0 ∷ 1 ∷ 0 ∷ 3 ∷ 0 ∷ 1 ∷ 0 ∷ 2 ∷ 0 ∷ 2 ∷ 0 ∷ 15 ∷ 0 ∷ []) ∷
    []

-- the answers, and the cut buffers afterwards
pub outcomes : List Outcome
outcomes =
    -- an open of length 2 in version 1: the unknown kind goes before the wrong length
    (record { answer = refused 3 1; cut = lent }) ∷
    -- a close of length 4 in version 1: likewise
    (record { answer = refused 3 1; cut = lent }) ∷
    -- an open of length 2 in version 2: the kind is known and its length wrong
    (record { answer = refused 4 1; cut = lent }) ∷
    -- an open with the length of a close in version 2
    (record { answer = refused 4 1; cut = lent }) ∷
    -- a close with the length of an open in version 2
    (record { answer = refused 4 1; cut = lent }) ∷
    -- a close with the length of a load in version 2
    (record { answer = refused 4 1; cut = lent }) ∷
    -- bytes that end inside an open in version 1: that goes before the unknown kind
    (record { answer = refused 2 1; cut = lent }) ∷
    -- bytes that end inside a close in version 2
    (record { answer = refused 2 1; cut = lent }) ∷
    -- a length of 1 before an open's kind in version 1: under 2, which goes before the unknown kind
    (record { answer = refused 4 1; cut = lent }) ∷
    -- kind 17 in version 2 is unknown
    (record { answer = refused 3 1; cut = lent }) ∷
    -- kind 256 + 15 in version 2 is unknown
    (record { answer = refused 3 1; cut = lent }) ∷
    -- an open first: its kind is known there, and it is no begin
    (record { answer = refused 1 0; cut = lent }) ∷
    -- a close first: that there is no begin goes before its outcome and there being nothing open
    (record { answer = refused 1 0; cut = lent }) ∷
    -- an open of length 2 first: its kind is known there, and its length wrong
    (record { answer = refused 4 0; cut = lent }) ∷
    -- a close of length 4 first: likewise, though a begin of version 1 stands behind it
    (record { answer = refused 4 0; cut = lent }) ∷
    -- bytes that end inside an open that is first
    (record { answer = refused 2 0; cut = lent }) ∷
    -- an open of length 2 behind a begin of version 3: the begin is turned away
    (record { answer = refused 6 0; cut = lent }) ∷
    []

pub checksum_bytes_as_worked : map outcome_of bytes ≡ outcomes
unfolding bytes outcomes judge_of cut_after reading_of stop record_at events some any first first_from most answer rules
    read_at read_first read_framed frame start size_at row_of event_of later_refusal stretch count countable held counting
    finished forbidden? observed? pair? missing? bad? closure ruling_of tabulate cut_of sum share_of
checksum_bytes_as_worked = refl
