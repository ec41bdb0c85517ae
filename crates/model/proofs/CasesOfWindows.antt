-- Document 02, job 1, "Where the flush may go": a session for each thing that moves a place or takes a window away. The
-- definitions give their bytes the answers that follow from document 02, and the cut buffers. Shown together as one
-- list, by computation. Made by tools/oracle/proof_file.py.
use mathlib.Core.Path.{◌≡◌, refl, sym, ap, ◌∙◌}
use mathlib.Core.List.{List, [], ◌∷◌, map}
use Prim.Native.Nat.{ℕ}
use Rattle.record.specs.declared.events.Event.{Event}
use Rattle.record.specs.declared.events.Event.TheVariants.{Begin, Issue, Commit, Load, Clflush, Clwb}
use Rattle.record.specs.declared.events.Event.TheVariants.{Sfence, Crash, SkipOn, SkipOff}
use Rattle.record.specs.Events.{record_of}
use Rattle.record.specs.Table.{row_of}
use Rattle.model.specs.Search.{some, any, last, first, first_from, most}
use Rattle.model.specs.Trace.{stretch, count}
use Rattle.model.specs.Machine.{committed, commit_of, waiting, current, source_fits, switched}
use Rattle.model.specs.Machine.{countable, held, counting}
use Rattle.model.specs.Rules.{answer, rules}
use Rattle.model.specs.Choice.{finished}
use Rattle.model.specs.Clocks.{seen, clock, vc}
use Rattle.model.specs.Verdict.{forbids?, observes?, forbidden?, observed?, pair?, missing?, bad?, closure}
use Rattle.model.specs.Verdict.{load_of, missing_of, observed_of, ruling_of}
use Rattle.model.specs.Windows.{none, between, behind, last_covered, window_of}
use Rattle.model.specs.Answers.{refused, robust, broken, contradiction, flush}
use Rattle.model.specs.Answers.{tabulate, cut_of, sum, share_of, fault_of}
use Rattle.model.specs.Reading.{encode}
use Rattle.model.proofs.Encoding.{reading_events}
use Rattle.model.proofs.Sessions.{lent, zeros, padded, Outcome, outcome_of, outcome_of_events, outcome_all}

-- the bytes
pub sessions : List (List ℕ)
sessions =
    -- the thread that loaded the missing store has a window, the primary one, with no later store, has none
    (8 ∷ 0 ∷ 1 ∷ 0 ∷ 1 ∷ 0 ∷ 2 ∷ 0 ∷ 9 ∷ 0 ∷ 6 ∷ 0 ∷ 2 ∷ 0 ∷ 0 ∷ 0 ∷ 0 ∷ 0 ∷ 4 ∷ 0 ∷ 3 ∷ 0 ∷ 0 ∷ 0
    ∷ 8 ∷ 0 ∷ 4 ∷ 0 ∷ 1 ∷ 0 ∷ 0 ∷ 0 ∷ 1 ∷ 0 ∷ 6 ∷ 0 ∷ 2 ∷ 0 ∷ 1 ∷ 0 ∷ 8 ∷ 0
    ∷ 4 ∷ 0 ∷ 3 ∷ 0 ∷ 1 ∷ 0 ∷ 2 ∷ 0 ∷ 9 ∷ 0 ∷ 8 ∷ 0 ∷ 4 ∷ 0 ∷ 0 ∷ 0 ∷ 0 ∷ 0 ∷ 0 ∷ 0
    ∷ 8 ∷ 0 ∷ 4 ∷ 0 ∷ 0 ∷ 0 ∷ 8 ∷ 0 ∷ 4 ∷ 0 ∷ []) ∷
    -- case 1 on two lines: both stores in one thread, the window goes from missing + 1 to observed
    (8 ∷ 0 ∷ 1 ∷ 0 ∷ 1 ∷ 0 ∷ 1 ∷ 0 ∷ 9 ∷ 0 ∷ 6 ∷ 0 ∷ 2 ∷ 0 ∷ 0 ∷ 0 ∷ 0 ∷ 0 ∷ 4 ∷ 0 ∷ 3 ∷ 0 ∷ 0 ∷ 0
    ∷ 6 ∷ 0 ∷ 2 ∷ 0 ∷ 0 ∷ 0 ∷ 8 ∷ 0 ∷ 4 ∷ 0 ∷ 3 ∷ 0 ∷ 0 ∷ 0 ∷ 6 ∷ 0 ∷ 2 ∷ 0 ∷ 0 ∷ 0 ∷ 0 ∷ 0
    ∷ 4 ∷ 0 ∷ 3 ∷ 0 ∷ 0 ∷ 0 ∷ 6 ∷ 0 ∷ 2 ∷ 0 ∷ 0 ∷ 0 ∷ 8 ∷ 0 ∷ 4 ∷ 0 ∷ 3 ∷ 0 ∷ 0 ∷ 0
    ∷ 2 ∷ 0 ∷ 9 ∷ 0 ∷ 8 ∷ 0 ∷ 4 ∷ 0 ∷ 0 ∷ 0 ∷ 0 ∷ 0 ∷ 1 ∷ 0
    ∷ 8 ∷ 0 ∷ 4 ∷ 0 ∷ 0 ∷ 0 ∷ 8 ∷ 0 ∷ 7 ∷ 0 ∷ []) ∷
    -- case 4 on two lines: a store of the same thread in a later stretch moves no place
    (8 ∷ 0 ∷ 1 ∷ 0 ∷ 1 ∷ 0 ∷ 1 ∷ 0 ∷ 9 ∷ 0 ∷ 6 ∷ 0 ∷ 2 ∷ 0 ∷ 0 ∷ 0 ∷ 0 ∷ 0 ∷ 4 ∷ 0 ∷ 3 ∷ 0 ∷ 0 ∷ 0
    ∷ 6 ∷ 0 ∷ 2 ∷ 0 ∷ 0 ∷ 0 ∷ 8 ∷ 0 ∷ 4 ∷ 0 ∷ 3 ∷ 0 ∷ 0 ∷ 0 ∷ 2 ∷ 0 ∷ 9 ∷ 0
    ∷ 8 ∷ 0 ∷ 4 ∷ 0 ∷ 0 ∷ 0 ∷ 0 ∷ 0 ∷ 0 ∷ 0 ∷ 6 ∷ 0 ∷ 2 ∷ 0 ∷ 0 ∷ 0 ∷ 8 ∷ 0
    ∷ 4 ∷ 0 ∷ 3 ∷ 0 ∷ 0 ∷ 0 ∷ 2 ∷ 0 ∷ 9 ∷ 0 ∷ 8 ∷ 0 ∷ 4 ∷ 0 ∷ 0 ∷ 0 ∷ 8 ∷ 0 ∷ 3 ∷ 0 ∷ []) ∷
    -- the first place is behind the issue of the missing store, though it is in front of its commit
    (8 ∷ 0 ∷ 1 ∷ 0 ∷ 1 ∷ 0 ∷ 1 ∷ 0 ∷ 9 ∷ 0 ∷ 6 ∷ 0 ∷ 2 ∷ 0 ∷ 0 ∷ 0 ∷ 0 ∷ 0
    ∷ 6 ∷ 0 ∷ 2 ∷ 0 ∷ 0 ∷ 0 ∷ 8 ∷ 0 ∷ 4 ∷ 0 ∷ 3 ∷ 0 ∷ 0 ∷ 0 ∷ 4 ∷ 0 ∷ 3 ∷ 0 ∷ 0 ∷ 0
    ∷ 2 ∷ 0 ∷ 9 ∷ 0 ∷ 8 ∷ 0 ∷ 4 ∷ 0 ∷ 0 ∷ 0 ∷ 0 ∷ 0 ∷ 0 ∷ 0
    ∷ 8 ∷ 0 ∷ 4 ∷ 0 ∷ 0 ∷ 0 ∷ 8 ∷ 0 ∷ 2 ∷ 0 ∷ []) ∷
    -- a contradiction has no windows, though the missing store happens before an observed one too
    (8 ∷ 0 ∷ 1 ∷ 0 ∷ 1 ∷ 0 ∷ 2 ∷ 0 ∷ 9 ∷ 0 ∷ 6 ∷ 0 ∷ 2 ∷ 0 ∷ 0 ∷ 0 ∷ 0 ∷ 0 ∷ 4 ∷ 0 ∷ 3 ∷ 0 ∷ 0 ∷ 0
    ∷ 8 ∷ 0 ∷ 4 ∷ 0 ∷ 1 ∷ 0 ∷ 0 ∷ 0 ∷ 1 ∷ 0 ∷ 6 ∷ 0 ∷ 2 ∷ 0 ∷ 1 ∷ 0 ∷ 8 ∷ 0
    ∷ 4 ∷ 0 ∷ 3 ∷ 0 ∷ 1 ∷ 0 ∷ 2 ∷ 0 ∷ 9 ∷ 0 ∷ 8 ∷ 0 ∷ 4 ∷ 0 ∷ 0 ∷ 0 ∷ 0 ∷ 0 ∷ 1 ∷ 0
    ∷ 8 ∷ 0 ∷ 4 ∷ 0 ∷ 0 ∷ 0 ∷ 8 ∷ 0 ∷ 4 ∷ 0 ∷ 8 ∷ 0 ∷ 4 ∷ 0 ∷ 0 ∷ 0 ∷ 0 ∷ 0 ∷ 0 ∷ 0 ∷ []) ∷
    -- a robust trace has no windows
    (8 ∷ 0 ∷ 1 ∷ 0 ∷ 1 ∷ 0 ∷ 2 ∷ 0 ∷ 9 ∷ 0 ∷ 6 ∷ 0 ∷ 2 ∷ 0 ∷ 0 ∷ 0 ∷ 0 ∷ 0 ∷ 4 ∷ 0 ∷ 3 ∷ 0 ∷ 0 ∷ 0
    ∷ 8 ∷ 0 ∷ 4 ∷ 0 ∷ 1 ∷ 0 ∷ 0 ∷ 0 ∷ 1 ∷ 0 ∷ 6 ∷ 0 ∷ 2 ∷ 0 ∷ 1 ∷ 0 ∷ 8 ∷ 0
    ∷ 4 ∷ 0 ∷ 3 ∷ 0 ∷ 1 ∷ 0 ∷ 2 ∷ 0 ∷ 9 ∷ 0 ∷ 8 ∷ 0 ∷ 4 ∷ 0 ∷ 0 ∷ 0 ∷ 0 ∷ 0 ∷ 1 ∷ 0
    ∷ 8 ∷ 0 ∷ 4 ∷ 0 ∷ 0 ∷ 0 ∷ 8 ∷ 0 ∷ 4 ∷ 0 ∷ []) ∷
    -- a refused trace has no windows, though it was broken before
    (8 ∷ 0 ∷ 1 ∷ 0 ∷ 1 ∷ 0 ∷ 2 ∷ 0 ∷ 9 ∷ 0 ∷ 6 ∷ 0 ∷ 2 ∷ 0 ∷ 0 ∷ 0 ∷ 0 ∷ 0 ∷ 4 ∷ 0 ∷ 3 ∷ 0 ∷ 0 ∷ 0
    ∷ 8 ∷ 0 ∷ 4 ∷ 0 ∷ 1 ∷ 0 ∷ 0 ∷ 0 ∷ 1 ∷ 0 ∷ 6 ∷ 0 ∷ 2 ∷ 0 ∷ 1 ∷ 0 ∷ 8 ∷ 0
    ∷ 4 ∷ 0 ∷ 3 ∷ 0 ∷ 1 ∷ 0 ∷ 2 ∷ 0 ∷ 9 ∷ 0 ∷ 8 ∷ 0 ∷ 4 ∷ 0 ∷ 0 ∷ 0 ∷ 0 ∷ 0 ∷ 0 ∷ 0
    ∷ 8 ∷ 0 ∷ 4 ∷ 0 ∷ 0 ∷ 0 ∷ 8 ∷ 0 ∷ 4 ∷ 0 ∷ 4 ∷ 0 ∷ 3 ∷ 0 ∷ 0 ∷ 0 ∷ []) ∷
    -- every thread of a chain has a window: the missing store comes to it, and what it stores goes on to observed
    (8 ∷ 0 ∷ 1 ∷ 0 ∷ 1 ∷ 0 ∷ 4 ∷ 0 ∷ 17 ∷ 0 ∷ 6 ∷ 0 ∷ 2 ∷ 0 ∷ 0 ∷ 0 ∷ 0 ∷ 0 ∷ 4 ∷ 0 ∷ 3 ∷ 0 ∷ 0 ∷ 0
    ∷ 8 ∷ 0 ∷ 4 ∷ 0 ∷ 1 ∷ 0 ∷ 0 ∷ 0 ∷ 1 ∷ 0 ∷ 6 ∷ 0 ∷ 2 ∷ 0 ∷ 1 ∷ 0 ∷ 8 ∷ 0
    ∷ 4 ∷ 0 ∷ 3 ∷ 0 ∷ 1 ∷ 0 ∷ 8 ∷ 0 ∷ 4 ∷ 0 ∷ 2 ∷ 0 ∷ 8 ∷ 0 ∷ 4 ∷ 0
    ∷ 6 ∷ 0 ∷ 2 ∷ 0 ∷ 2 ∷ 0 ∷ 9 ∷ 0 ∷ 4 ∷ 0 ∷ 3 ∷ 0 ∷ 2 ∷ 0
    ∷ 8 ∷ 0 ∷ 4 ∷ 0 ∷ 3 ∷ 0 ∷ 9 ∷ 0 ∷ 7 ∷ 0 ∷ 6 ∷ 0 ∷ 2 ∷ 0 ∷ 3 ∷ 0 ∷ 16 ∷ 0
    ∷ 4 ∷ 0 ∷ 3 ∷ 0 ∷ 3 ∷ 0 ∷ 2 ∷ 0 ∷ 9 ∷ 0 ∷ 8 ∷ 0 ∷ 4 ∷ 0 ∷ 0 ∷ 0 ∷ 0 ∷ 0 ∷ 0 ∷ 0
    ∷ 8 ∷ 0 ∷ 4 ∷ 0 ∷ 0 ∷ 0 ∷ 16 ∷ 0 ∷ 10 ∷ 0 ∷ []) ∷
    -- thread 2 loads the missing store, but no store of it happens before observed: no last place
    (8 ∷ 0 ∷ 1 ∷ 0 ∷ 1 ∷ 0 ∷ 3 ∷ 0 ∷ 9 ∷ 0 ∷ 6 ∷ 0 ∷ 2 ∷ 0 ∷ 0 ∷ 0 ∷ 0 ∷ 0 ∷ 4 ∷ 0 ∷ 3 ∷ 0 ∷ 0 ∷ 0
    ∷ 8 ∷ 0 ∷ 4 ∷ 0 ∷ 2 ∷ 0 ∷ 0 ∷ 0 ∷ 1 ∷ 0 ∷ 6 ∷ 0 ∷ 2 ∷ 0 ∷ 2 ∷ 0 ∷ 1 ∷ 0
    ∷ 4 ∷ 0 ∷ 3 ∷ 0 ∷ 2 ∷ 0 ∷ 8 ∷ 0 ∷ 4 ∷ 0 ∷ 1 ∷ 0 ∷ 0 ∷ 0 ∷ 1 ∷ 0
    ∷ 6 ∷ 0 ∷ 2 ∷ 0 ∷ 1 ∷ 0 ∷ 8 ∷ 0 ∷ 4 ∷ 0 ∷ 3 ∷ 0 ∷ 1 ∷ 0 ∷ 2 ∷ 0 ∷ 9 ∷ 0
    ∷ 8 ∷ 0 ∷ 4 ∷ 0 ∷ 0 ∷ 0 ∷ 0 ∷ 0 ∷ 0 ∷ 0 ∷ 8 ∷ 0 ∷ 4 ∷ 0 ∷ 0 ∷ 0 ∷ 8 ∷ 0 ∷ 7 ∷ 0 ∷ []) ∷
    -- a store of thread 2 happens before observed, but the missing store never comes to it: no first place
    (8 ∷ 0 ∷ 1 ∷ 0 ∷ 1 ∷ 0 ∷ 3 ∷ 0 ∷ 9 ∷ 0 ∷ 6 ∷ 0 ∷ 2 ∷ 0 ∷ 0 ∷ 0 ∷ 0 ∷ 0 ∷ 4 ∷ 0 ∷ 3 ∷ 0 ∷ 0 ∷ 0
    ∷ 6 ∷ 0 ∷ 2 ∷ 0 ∷ 2 ∷ 0 ∷ 1 ∷ 0 ∷ 4 ∷ 0 ∷ 3 ∷ 0 ∷ 2 ∷ 0
    ∷ 8 ∷ 0 ∷ 4 ∷ 0 ∷ 1 ∷ 0 ∷ 0 ∷ 0 ∷ 1 ∷ 0 ∷ 8 ∷ 0 ∷ 4 ∷ 0 ∷ 1 ∷ 0 ∷ 1 ∷ 0 ∷ 3 ∷ 0
    ∷ 6 ∷ 0 ∷ 2 ∷ 0 ∷ 1 ∷ 0 ∷ 8 ∷ 0 ∷ 4 ∷ 0 ∷ 3 ∷ 0 ∷ 1 ∷ 0 ∷ 2 ∷ 0 ∷ 9 ∷ 0
    ∷ 8 ∷ 0 ∷ 4 ∷ 0 ∷ 0 ∷ 0 ∷ 0 ∷ 0 ∷ 0 ∷ 0 ∷ 8 ∷ 0 ∷ 4 ∷ 0 ∷ 0 ∷ 0 ∷ 8 ∷ 0 ∷ 7 ∷ 0 ∷ []) ∷
    -- the missing store comes to thread 2 behind its last store that happens before observed: out of order
    (8 ∷ 0 ∷ 1 ∷ 0 ∷ 1 ∷ 0 ∷ 3 ∷ 0 ∷ 9 ∷ 0 ∷ 6 ∷ 0 ∷ 2 ∷ 0 ∷ 0 ∷ 0 ∷ 0 ∷ 0 ∷ 4 ∷ 0 ∷ 3 ∷ 0 ∷ 0 ∷ 0
    ∷ 6 ∷ 0 ∷ 2 ∷ 0 ∷ 2 ∷ 0 ∷ 1 ∷ 0 ∷ 4 ∷ 0 ∷ 3 ∷ 0 ∷ 2 ∷ 0
    ∷ 8 ∷ 0 ∷ 4 ∷ 0 ∷ 2 ∷ 0 ∷ 0 ∷ 0 ∷ 1 ∷ 0 ∷ 6 ∷ 0 ∷ 2 ∷ 0 ∷ 2 ∷ 0 ∷ 2 ∷ 0
    ∷ 4 ∷ 0 ∷ 3 ∷ 0 ∷ 2 ∷ 0 ∷ 8 ∷ 0 ∷ 4 ∷ 0 ∷ 1 ∷ 0 ∷ 1 ∷ 0 ∷ 3 ∷ 0
    ∷ 8 ∷ 0 ∷ 4 ∷ 0 ∷ 1 ∷ 0 ∷ 0 ∷ 0 ∷ 1 ∷ 0 ∷ 6 ∷ 0 ∷ 2 ∷ 0 ∷ 1 ∷ 0 ∷ 8 ∷ 0
    ∷ 4 ∷ 0 ∷ 3 ∷ 0 ∷ 1 ∷ 0 ∷ 2 ∷ 0 ∷ 9 ∷ 0 ∷ 8 ∷ 0 ∷ 4 ∷ 0 ∷ 0 ∷ 0 ∷ 0 ∷ 0 ∷ 0 ∷ 0
    ∷ 8 ∷ 0 ∷ 4 ∷ 0 ∷ 0 ∷ 0 ∷ 8 ∷ 0 ∷ 10 ∷ 0 ∷ []) ∷
    -- a load from a store that happens before the missing one does not bring it
    (8 ∷ 0 ∷ 1 ∷ 0 ∷ 1 ∷ 0 ∷ 2 ∷ 0 ∷ 9 ∷ 0 ∷ 6 ∷ 0 ∷ 2 ∷ 0 ∷ 0 ∷ 0 ∷ 1 ∷ 0 ∷ 4 ∷ 0 ∷ 3 ∷ 0 ∷ 0 ∷ 0
    ∷ 8 ∷ 0 ∷ 4 ∷ 0 ∷ 1 ∷ 0 ∷ 1 ∷ 0 ∷ 1 ∷ 0 ∷ 6 ∷ 0 ∷ 2 ∷ 0 ∷ 0 ∷ 0 ∷ 0 ∷ 0
    ∷ 4 ∷ 0 ∷ 3 ∷ 0 ∷ 0 ∷ 0 ∷ 8 ∷ 0 ∷ 4 ∷ 0 ∷ 1 ∷ 0 ∷ 0 ∷ 0 ∷ 4 ∷ 0
    ∷ 6 ∷ 0 ∷ 2 ∷ 0 ∷ 1 ∷ 0 ∷ 8 ∷ 0 ∷ 4 ∷ 0 ∷ 3 ∷ 0 ∷ 1 ∷ 0 ∷ 2 ∷ 0 ∷ 9 ∷ 0
    ∷ 8 ∷ 0 ∷ 4 ∷ 0 ∷ 0 ∷ 0 ∷ 0 ∷ 0 ∷ 0 ∷ 0 ∷ 8 ∷ 0 ∷ 4 ∷ 0 ∷ 0 ∷ 0 ∷ 8 ∷ 0 ∷ 7 ∷ 0 ∷ []) ∷
    -- a load from a later store of the missing store's thread brings it, and that store is the primary's last place
    (8 ∷ 0 ∷ 1 ∷ 0 ∷ 1 ∷ 0 ∷ 2 ∷ 0 ∷ 9 ∷ 0 ∷ 6 ∷ 0 ∷ 2 ∷ 0 ∷ 0 ∷ 0 ∷ 0 ∷ 0 ∷ 4 ∷ 0 ∷ 3 ∷ 0 ∷ 0 ∷ 0
    ∷ 6 ∷ 0 ∷ 2 ∷ 0 ∷ 0 ∷ 0 ∷ 1 ∷ 0 ∷ 4 ∷ 0 ∷ 3 ∷ 0 ∷ 0 ∷ 0
    ∷ 8 ∷ 0 ∷ 4 ∷ 0 ∷ 1 ∷ 0 ∷ 1 ∷ 0 ∷ 3 ∷ 0 ∷ 4 ∷ 0 ∷ 7 ∷ 0 ∷ 1 ∷ 0
    ∷ 6 ∷ 0 ∷ 2 ∷ 0 ∷ 1 ∷ 0 ∷ 8 ∷ 0 ∷ 4 ∷ 0 ∷ 3 ∷ 0 ∷ 1 ∷ 0 ∷ 2 ∷ 0 ∷ 9 ∷ 0
    ∷ 8 ∷ 0 ∷ 4 ∷ 0 ∷ 0 ∷ 0 ∷ 0 ∷ 0 ∷ 0 ∷ 0 ∷ 8 ∷ 0 ∷ 4 ∷ 0 ∷ 0 ∷ 0 ∷ 8 ∷ 0 ∷ 7 ∷ 0 ∷ []) ∷
    -- a later store of the primary thread that does not happen before observed gives it no window
    (8 ∷ 0 ∷ 1 ∷ 0 ∷ 1 ∷ 0 ∷ 2 ∷ 0 ∷ 9 ∷ 0 ∷ 6 ∷ 0 ∷ 2 ∷ 0 ∷ 0 ∷ 0 ∷ 0 ∷ 0 ∷ 4 ∷ 0 ∷ 3 ∷ 0 ∷ 0 ∷ 0
    ∷ 8 ∷ 0 ∷ 4 ∷ 0 ∷ 1 ∷ 0 ∷ 0 ∷ 0 ∷ 1 ∷ 0 ∷ 6 ∷ 0 ∷ 2 ∷ 0 ∷ 0 ∷ 0 ∷ 1 ∷ 0
    ∷ 4 ∷ 0 ∷ 3 ∷ 0 ∷ 0 ∷ 0 ∷ 6 ∷ 0 ∷ 2 ∷ 0 ∷ 1 ∷ 0 ∷ 8 ∷ 0 ∷ 4 ∷ 0 ∷ 3 ∷ 0 ∷ 1 ∷ 0
    ∷ 2 ∷ 0 ∷ 9 ∷ 0 ∷ 8 ∷ 0 ∷ 4 ∷ 0 ∷ 0 ∷ 0 ∷ 0 ∷ 0 ∷ 0 ∷ 0
    ∷ 8 ∷ 0 ∷ 4 ∷ 0 ∷ 0 ∷ 0 ∷ 8 ∷ 0 ∷ 6 ∷ 0 ∷ []) ∷
    -- of two loads from the missing store the first one counts
    (8 ∷ 0 ∷ 1 ∷ 0 ∷ 1 ∷ 0 ∷ 2 ∷ 0 ∷ 9 ∷ 0 ∷ 6 ∷ 0 ∷ 2 ∷ 0 ∷ 0 ∷ 0 ∷ 0 ∷ 0 ∷ 4 ∷ 0 ∷ 3 ∷ 0 ∷ 0 ∷ 0
    ∷ 8 ∷ 0 ∷ 4 ∷ 0 ∷ 1 ∷ 0 ∷ 0 ∷ 0 ∷ 1 ∷ 0 ∷ 4 ∷ 0 ∷ 7 ∷ 0 ∷ 1 ∷ 0
    ∷ 8 ∷ 0 ∷ 4 ∷ 0 ∷ 1 ∷ 0 ∷ 0 ∷ 0 ∷ 1 ∷ 0 ∷ 6 ∷ 0 ∷ 2 ∷ 0 ∷ 1 ∷ 0 ∷ 8 ∷ 0
    ∷ 4 ∷ 0 ∷ 3 ∷ 0 ∷ 1 ∷ 0 ∷ 2 ∷ 0 ∷ 9 ∷ 0 ∷ 8 ∷ 0 ∷ 4 ∷ 0 ∷ 0 ∷ 0 ∷ 0 ∷ 0 ∷ 0 ∷ 0
    ∷ 8 ∷ 0 ∷ 4 ∷ 0 ∷ 0 ∷ 0 ∷ 8 ∷ 0 ∷ 6 ∷ 0 ∷ []) ∷
    -- the last place is observed: neither its commit nor a later store of its thread, committed or not, moves it
    (8 ∷ 0 ∷ 1 ∷ 0 ∷ 1 ∷ 0 ∷ 2 ∷ 0 ∷ 9 ∷ 0 ∷ 6 ∷ 0 ∷ 2 ∷ 0 ∷ 0 ∷ 0 ∷ 0 ∷ 0 ∷ 4 ∷ 0 ∷ 3 ∷ 0 ∷ 0 ∷ 0
    ∷ 8 ∷ 0 ∷ 4 ∷ 0 ∷ 1 ∷ 0 ∷ 0 ∷ 0 ∷ 1 ∷ 0 ∷ 6 ∷ 0 ∷ 2 ∷ 0 ∷ 1 ∷ 0 ∷ 8 ∷ 0
    ∷ 6 ∷ 0 ∷ 2 ∷ 0 ∷ 1 ∷ 0 ∷ 0 ∷ 0 ∷ 4 ∷ 0 ∷ 3 ∷ 0 ∷ 1 ∷ 0 ∷ 4 ∷ 0 ∷ 3 ∷ 0 ∷ 1 ∷ 0
    ∷ 6 ∷ 0 ∷ 2 ∷ 0 ∷ 1 ∷ 0 ∷ 8 ∷ 0 ∷ 2 ∷ 0 ∷ 9 ∷ 0 ∷ 8 ∷ 0 ∷ 4 ∷ 0 ∷ 0 ∷ 0 ∷ 0 ∷ 0 ∷ 0 ∷ 0
    ∷ 8 ∷ 0 ∷ 4 ∷ 0 ∷ 0 ∷ 0 ∷ 8 ∷ 0 ∷ 4 ∷ 0 ∷ []) ∷
    -- the order comes back to the primary thread by way of another, and both have windows
    (8 ∷ 0 ∷ 1 ∷ 0 ∷ 1 ∷ 0 ∷ 2 ∷ 0 ∷ 9 ∷ 0 ∷ 6 ∷ 0 ∷ 2 ∷ 0 ∷ 0 ∷ 0 ∷ 0 ∷ 0 ∷ 4 ∷ 0 ∷ 3 ∷ 0 ∷ 0 ∷ 0
    ∷ 8 ∷ 0 ∷ 4 ∷ 0 ∷ 1 ∷ 0 ∷ 0 ∷ 0 ∷ 1 ∷ 0 ∷ 6 ∷ 0 ∷ 2 ∷ 0 ∷ 1 ∷ 0 ∷ 1 ∷ 0
    ∷ 4 ∷ 0 ∷ 3 ∷ 0 ∷ 1 ∷ 0 ∷ 8 ∷ 0 ∷ 4 ∷ 0 ∷ 0 ∷ 0 ∷ 1 ∷ 0 ∷ 4 ∷ 0
    ∷ 6 ∷ 0 ∷ 2 ∷ 0 ∷ 0 ∷ 0 ∷ 8 ∷ 0 ∷ 4 ∷ 0 ∷ 3 ∷ 0 ∷ 0 ∷ 0 ∷ 2 ∷ 0 ∷ 9 ∷ 0
    ∷ 8 ∷ 0 ∷ 4 ∷ 0 ∷ 0 ∷ 0 ∷ 0 ∷ 0 ∷ 0 ∷ 0 ∷ 8 ∷ 0 ∷ 4 ∷ 0 ∷ 0 ∷ 0 ∷ 8 ∷ 0 ∷ 7 ∷ 0 ∷ []) ∷
    -- loads of other stretches bring nothing, nor does one of this stretch that reads from before the crash
    (8 ∷ 0 ∷ 1 ∷ 0 ∷ 1 ∷ 0 ∷ 3 ∷ 0 ∷ 9 ∷ 0 ∷ 6 ∷ 0 ∷ 2 ∷ 0 ∷ 0 ∷ 0 ∷ 0 ∷ 0 ∷ 4 ∷ 0 ∷ 3 ∷ 0 ∷ 0 ∷ 0
    ∷ 8 ∷ 0 ∷ 4 ∷ 0 ∷ 1 ∷ 0 ∷ 0 ∷ 0 ∷ 1 ∷ 0 ∷ 6 ∷ 0 ∷ 2 ∷ 0 ∷ 1 ∷ 0 ∷ 8 ∷ 0
    ∷ 4 ∷ 0 ∷ 3 ∷ 0 ∷ 1 ∷ 0 ∷ 2 ∷ 0 ∷ 9 ∷ 0 ∷ 8 ∷ 0 ∷ 4 ∷ 0 ∷ 1 ∷ 0 ∷ 0 ∷ 0 ∷ 1 ∷ 0
    ∷ 6 ∷ 0 ∷ 2 ∷ 0 ∷ 0 ∷ 0 ∷ 0 ∷ 0 ∷ 4 ∷ 0 ∷ 3 ∷ 0 ∷ 0 ∷ 0 ∷ 4 ∷ 0 ∷ 7 ∷ 0 ∷ 1 ∷ 0
    ∷ 8 ∷ 0 ∷ 4 ∷ 0 ∷ 1 ∷ 0 ∷ 0 ∷ 0 ∷ 8 ∷ 0 ∷ 6 ∷ 0 ∷ 2 ∷ 0 ∷ 1 ∷ 0 ∷ 8 ∷ 0
    ∷ 4 ∷ 0 ∷ 3 ∷ 0 ∷ 1 ∷ 0 ∷ 2 ∷ 0 ∷ 9 ∷ 0 ∷ 8 ∷ 0 ∷ 4 ∷ 0 ∷ 0 ∷ 0 ∷ 0 ∷ 0 ∷ 1 ∷ 0
    ∷ 8 ∷ 0 ∷ 4 ∷ 0 ∷ 1 ∷ 0 ∷ 8 ∷ 0 ∷ 12 ∷ 0 ∷ 4 ∷ 0 ∷ 10 ∷ 0 ∷ 2 ∷ 0
    ∷ 8 ∷ 0 ∷ 4 ∷ 0 ∷ 2 ∷ 0 ∷ 0 ∷ 0 ∷ 8 ∷ 0 ∷ []) ∷
    -- flushes and skips are records too, so places move by them; a load in a skip brings the missing store
    (8 ∷ 0 ∷ 1 ∷ 0 ∷ 1 ∷ 0 ∷ 2 ∷ 0 ∷ 9 ∷ 0 ∷ 6 ∷ 0 ∷ 5 ∷ 0 ∷ 1 ∷ 0 ∷ 0 ∷ 0
    ∷ 6 ∷ 0 ∷ 2 ∷ 0 ∷ 0 ∷ 0 ∷ 0 ∷ 0 ∷ 4 ∷ 0 ∷ 3 ∷ 0 ∷ 0 ∷ 0 ∷ 4 ∷ 0 ∷ 10 ∷ 0 ∷ 1 ∷ 0
    ∷ 8 ∷ 0 ∷ 4 ∷ 0 ∷ 1 ∷ 0 ∷ 0 ∷ 0 ∷ 2 ∷ 0 ∷ 6 ∷ 0 ∷ 5 ∷ 0 ∷ 1 ∷ 0 ∷ 3 ∷ 0
    ∷ 4 ∷ 0 ∷ 11 ∷ 0 ∷ 1 ∷ 0 ∷ 6 ∷ 0 ∷ 6 ∷ 0 ∷ 0 ∷ 0 ∷ 8 ∷ 0 ∷ 6 ∷ 0 ∷ 2 ∷ 0 ∷ 1 ∷ 0 ∷ 8 ∷ 0
    ∷ 4 ∷ 0 ∷ 3 ∷ 0 ∷ 1 ∷ 0 ∷ 2 ∷ 0 ∷ 9 ∷ 0 ∷ 8 ∷ 0 ∷ 4 ∷ 0 ∷ 0 ∷ 0 ∷ 0 ∷ 0 ∷ 0 ∷ 0
    ∷ 8 ∷ 0 ∷ 4 ∷ 0 ∷ 0 ∷ 0 ∷ 8 ∷ 0 ∷ 9 ∷ 0 ∷ []) ∷
    -- of eight threads the last is primary, and the first has the window
    (8 ∷ 0 ∷ 1 ∷ 0 ∷ 1 ∷ 0 ∷ 8 ∷ 0 ∷ 0 ∷ 1 ∷ 6 ∷ 0 ∷ 2 ∷ 0 ∷ 7 ∷ 0 ∷ 0 ∷ 0 ∷ 4 ∷ 0 ∷ 3 ∷ 0 ∷ 7 ∷ 0
    ∷ 8 ∷ 0 ∷ 4 ∷ 0 ∷ 0 ∷ 0 ∷ 0 ∷ 0 ∷ 1 ∷ 0 ∷ 6 ∷ 0 ∷ 2 ∷ 0 ∷ 0 ∷ 0 ∷ 255 ∷ 0
    ∷ 4 ∷ 0 ∷ 3 ∷ 0 ∷ 0 ∷ 0 ∷ 2 ∷ 0 ∷ 9 ∷ 0 ∷ 8 ∷ 0 ∷ 4 ∷ 0 ∷ 3 ∷ 0 ∷ 0 ∷ 0 ∷ 0 ∷ 0
    ∷ 8 ∷ 0 ∷ 4 ∷ 0 ∷ 3 ∷ 0 ∷ 255 ∷ 0 ∷ 4 ∷ 0 ∷ []) ∷
    []

-- the events that they are the records of
traces : List (List Event)
traces =
    -- the thread that loaded the missing store has a window, the primary one, with no later store, has none
    (Begin 1 2 9 ∷ Issue 0 0 ∷ Commit 0 ∷ Load 1 0 1 ∷ Issue 1 8 ∷ Commit 1 ∷ Crash ∷ Load 0 0 0 ∷ Load 0 8 4
    ∷ []) ∷
    -- case 1 on two lines: both stores in one thread, the window goes from missing + 1 to observed
    (Begin 1 1 9 ∷ Issue 0 0 ∷ Commit 0 ∷ Issue 0 8 ∷ Commit 0 ∷ Issue 0 0 ∷ Commit 0 ∷ Issue 0 8 ∷ Commit 0
    ∷ Crash ∷ Load 0 0 1 ∷ Load 0 8 7 ∷ []) ∷
    -- case 4 on two lines: a store of the same thread in a later stretch moves no place
    (Begin 1 1 9 ∷ Issue 0 0 ∷ Commit 0 ∷ Issue 0 8 ∷ Commit 0 ∷ Crash ∷ Load 0 0 0 ∷ Issue 0 8 ∷ Commit 0
    ∷ Crash ∷ Load 0 8 3 ∷ []) ∷
    -- the first place is behind the issue of the missing store, though it is in front of its commit
    (Begin 1 1 9 ∷ Issue 0 0 ∷ Issue 0 8 ∷ Commit 0 ∷ Commit 0 ∷ Crash ∷ Load 0 0 0 ∷ Load 0 8 2 ∷ []) ∷
    -- a contradiction has no windows, though the missing store happens before an observed one too
    (Begin 1 2 9 ∷ Issue 0 0 ∷ Commit 0 ∷ Load 1 0 1 ∷ Issue 1 8 ∷ Commit 1 ∷ Crash ∷ Load 0 0 1 ∷ Load 0 8 4
    ∷ Load 0 0 0 ∷ []) ∷
    -- a robust trace has no windows
    (Begin 1 2 9 ∷ Issue 0 0 ∷ Commit 0 ∷ Load 1 0 1 ∷ Issue 1 8 ∷ Commit 1 ∷ Crash ∷ Load 0 0 1 ∷ Load 0 8 4
    ∷ []) ∷
    -- a refused trace has no windows, though it was broken before
    (Begin 1 2 9 ∷ Issue 0 0 ∷ Commit 0 ∷ Load 1 0 1 ∷ Issue 1 8 ∷ Commit 1 ∷ Crash ∷ Load 0 0 0 ∷ Load 0 8 4
    ∷ Commit 0 ∷ []) ∷
    -- every thread of a chain has a window: the missing store comes to it, and what it stores goes on to observed
    (Begin 1 4 17 ∷ Issue 0 0 ∷ Commit 0 ∷ Load 1 0 1 ∷ Issue 1 8 ∷ Commit 1 ∷ Load 2 8 4 ∷ Issue 2 9
    ∷ Commit 2 ∷ Load 3 9 7 ∷ Issue 3 16 ∷ Commit 3 ∷ Crash ∷ Load 0 0 0 ∷ Load 0 16 10 ∷ []) ∷
    -- thread 2 loads the missing store, but no store of it happens before observed: no last place
    (Begin 1 3 9 ∷ Issue 0 0 ∷ Commit 0 ∷ Load 2 0 1 ∷ Issue 2 1 ∷ Commit 2 ∷ Load 1 0 1 ∷ Issue 1 8 ∷ Commit 1
    ∷ Crash ∷ Load 0 0 0 ∷ Load 0 8 7 ∷ []) ∷
    -- a store of thread 2 happens before observed, but the missing store never comes to it: no first place
    (Begin 1 3 9 ∷ Issue 0 0 ∷ Commit 0 ∷ Issue 2 1 ∷ Commit 2 ∷ Load 1 0 1 ∷ Load 1 1 3 ∷ Issue 1 8 ∷ Commit 1
    ∷ Crash ∷ Load 0 0 0 ∷ Load 0 8 7 ∷ []) ∷
    -- the missing store comes to thread 2 behind its last store that happens before observed: out of order
    (Begin 1 3 9 ∷ Issue 0 0 ∷ Commit 0 ∷ Issue 2 1 ∷ Commit 2 ∷ Load 2 0 1 ∷ Issue 2 2 ∷ Commit 2 ∷ Load 1 1 3
    ∷ Load 1 0 1 ∷ Issue 1 8 ∷ Commit 1 ∷ Crash ∷ Load 0 0 0 ∷ Load 0 8 10 ∷ []) ∷
    -- a load from a store that happens before the missing one does not bring it
    (Begin 1 2 9 ∷ Issue 0 1 ∷ Commit 0 ∷ Load 1 1 1 ∷ Issue 0 0 ∷ Commit 0 ∷ Load 1 0 4 ∷ Issue 1 8 ∷ Commit 1
    ∷ Crash ∷ Load 0 0 0 ∷ Load 0 8 7 ∷ []) ∷
    -- a load from a later store of the missing store's thread brings it, and that store is the primary's last place
    (Begin 1 2 9 ∷ Issue 0 0 ∷ Commit 0 ∷ Issue 0 1 ∷ Commit 0 ∷ Load 1 1 3 ∷ Sfence 1 ∷ Issue 1 8 ∷ Commit 1
    ∷ Crash ∷ Load 0 0 0 ∷ Load 0 8 7 ∷ []) ∷
    -- a later store of the primary thread that does not happen before observed gives it no window
    (Begin 1 2 9 ∷ Issue 0 0 ∷ Commit 0 ∷ Load 1 0 1 ∷ Issue 0 1 ∷ Commit 0 ∷ Issue 1 8 ∷ Commit 1 ∷ Crash
    ∷ Load 0 0 0 ∷ Load 0 8 6 ∷ []) ∷
    -- of two loads from the missing store the first one counts
    (Begin 1 2 9 ∷ Issue 0 0 ∷ Commit 0 ∷ Load 1 0 1 ∷ Sfence 1 ∷ Load 1 0 1 ∷ Issue 1 8 ∷ Commit 1 ∷ Crash
    ∷ Load 0 0 0 ∷ Load 0 8 6 ∷ []) ∷
    -- the last place is observed: neither its commit nor a later store of its thread, committed or not, moves it
    (Begin 1 2 9 ∷ Issue 0 0 ∷ Commit 0 ∷ Load 1 0 1 ∷ Issue 1 8 ∷ Issue 1 0 ∷ Commit 1 ∷ Commit 1 ∷ Issue 1 8
    ∷ Crash ∷ Load 0 0 0 ∷ Load 0 8 4 ∷ []) ∷
    -- the order comes back to the primary thread by way of another, and both have windows
    (Begin 1 2 9 ∷ Issue 0 0 ∷ Commit 0 ∷ Load 1 0 1 ∷ Issue 1 1 ∷ Commit 1 ∷ Load 0 1 4 ∷ Issue 0 8 ∷ Commit 0
    ∷ Crash ∷ Load 0 0 0 ∷ Load 0 8 7 ∷ []) ∷
    -- loads of other stretches bring nothing, nor does one of this stretch that reads from before the crash
    (Begin 1 3 9 ∷ Issue 0 0 ∷ Commit 0 ∷ Load 1 0 1 ∷ Issue 1 8 ∷ Commit 1 ∷ Crash ∷ Load 1 0 1 ∷ Issue 0 0
    ∷ Commit 0 ∷ Sfence 1 ∷ Load 1 0 8 ∷ Issue 1 8 ∷ Commit 1 ∷ Crash ∷ Load 0 0 1 ∷ Load 1 8 12 ∷ SkipOn 2
    ∷ Load 2 0 8 ∷ []) ∷
    -- flushes and skips are records too, so places move by them; a load in a skip brings the missing store
    (Begin 1 2 9 ∷ Clflush 1 0 ∷ Issue 0 0 ∷ Commit 0 ∷ SkipOn 1 ∷ Load 1 0 2 ∷ Clflush 1 3 ∷ SkipOff 1
    ∷ Clwb 0 8 ∷ Issue 1 8 ∷ Commit 1 ∷ Crash ∷ Load 0 0 0 ∷ Load 0 8 9 ∷ []) ∷
    -- of eight threads the last is primary, and the first has the window
    (Begin 1 8 256 ∷ Issue 7 0 ∷ Commit 7 ∷ Load 0 0 1 ∷ Issue 0 255 ∷ Commit 0 ∷ Crash ∷ Load 3 0 0
    ∷ Load 3 255 4 ∷ []) ∷
    []

-- the answers, and the cut buffers afterwards
pub answers : List Outcome
answers =
    -- the thread that loaded the missing store has a window, the primary one, with no later store, has none
    (record { answer = broken 8 8 1 4 (flush 0 (padded (none ∷ between 4 4 ∷ []))); cut = lent }) ∷
    -- case 1 on two lines: both stores in one thread, the window goes from missing + 1 to observed
    (record { answer = broken 11 11 5 7 (flush 0 (padded (between 6 7 ∷ []))); cut = lent }) ∷
    -- case 4 on two lines: a store of the same thread in a later stretch moves no place
    (record { answer = broken 10 10 1 3 (flush 0 (padded (between 2 3 ∷ []))); cut = lent }) ∷
    -- the first place is behind the issue of the missing store, though it is in front of its commit
    (record { answer = broken 7 7 1 2 (flush 0 (padded (between 2 2 ∷ []))); cut = lent }) ∷
    -- a contradiction has no windows, though the missing store happens before an observed one too
    (record { answer = broken 9 9 1 1 contradiction; cut = lent }) ∷
    -- a robust trace has no windows
    (record { answer = robust 8 100; cut = 1 ∷ 1 ∷ zeros 54 }) ∷
    -- a refused trace has no windows, though it was broken before
    (record { answer = refused 10 9; cut = lent }) ∷
    -- every thread of a chain has a window: the missing store comes to it, and what it stores goes on to observed
    (record {
      answer = broken 14 14 1 10 (flush 0 (padded (none ∷ between 4 4 ∷ between 7 7 ∷ between 10 10 ∷ [])));
      cut = lent;
    }) ∷
    -- thread 2 loads the missing store, but no store of it happens before observed: no last place
    (record { answer = broken 11 11 1 7 (flush 0 (padded (none ∷ between 7 7 ∷ []))); cut = lent }) ∷
    -- a store of thread 2 happens before observed, but the missing store never comes to it: no first place
    (record { answer = broken 11 11 1 7 (flush 0 (padded (none ∷ between 6 7 ∷ []))); cut = lent }) ∷
    -- the missing store comes to thread 2 behind its last store that happens before observed: out of order
    (record { answer = broken 14 14 1 10 (flush 0 (padded (none ∷ between 10 10 ∷ []))); cut = lent }) ∷
    -- a load from a store that happens before the missing one does not bring it
    (record { answer = broken 11 11 4 7 (flush 0 (padded (none ∷ between 7 7 ∷ []))); cut = lent }) ∷
    -- a load from a later store of the missing store's thread brings it, and that store is the primary's last place
    (record { answer = broken 11 11 1 7 (flush 0 (padded (between 2 3 ∷ between 6 7 ∷ []))); cut = lent }) ∷
    -- a later store of the primary thread that does not happen before observed gives it no window
    (record { answer = broken 10 10 1 6 (flush 0 (padded (none ∷ between 4 6 ∷ []))); cut = lent }) ∷
    -- of two loads from the missing store the first one counts
    (record { answer = broken 10 10 1 6 (flush 0 (padded (none ∷ between 4 6 ∷ []))); cut = lent }) ∷
    -- the last place is observed: neither its commit nor a later store of its thread, committed or not, moves it
    (record { answer = broken 11 11 1 4 (flush 0 (padded (none ∷ between 4 4 ∷ []))); cut = lent }) ∷
    -- the order comes back to the primary thread by way of another, and both have windows
    (record { answer = broken 11 11 1 7 (flush 0 (padded (between 2 7 ∷ between 4 4 ∷ []))); cut = lent }) ∷
    -- loads of other stretches bring nothing, nor does one of this stretch that reads from before the crash
    (record { answer = broken 18 16 8 12 (flush 0 (padded (none ∷ between 12 12 ∷ []))); cut = lent }) ∷
    -- flushes and skips are records too, so places move by them; a load in a skip brings the missing store
    (record { answer = broken 13 13 2 9 (flush 0 (padded (none ∷ between 6 9 ∷ []))); cut = lent }) ∷
    -- of eight threads the last is primary, and the first has the window
    (record { answer = broken 8 8 1 4 (flush 7 (padded (between 4 4 ∷ []))); cut = lent }) ∷
    []

encoded : map encode traces ≡ sessions
unfolding traces sessions encode record_of row_of
encoded = refl

computed : map outcome_of_events traces ≡ answers
unfolding traces answers reading_events some last first first_from most stretch count committed commit_of waiting current
    source_fits switched countable held counting any answer rules finished seen clock vc forbids? observes? forbidden?
    observed? pair? missing? bad? closure load_of missing_of observed_of ruling_of behind last_covered window_of fault_of
    tabulate cut_of sum share_of row_of
computed = refl

pub windows_as_worked : map outcome_of sessions ≡ answers
unfolding traces
windows_as_worked = ap (map outcome_of) (sym encoded) ∙ (outcome_all traces refl ∙ computed)
