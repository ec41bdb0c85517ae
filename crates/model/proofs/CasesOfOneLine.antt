-- Document 02, job 5, "Two stores on one line": a session for each thing that puts missing and observed on one line or
-- on two, or decides between the kinds. The definitions give their bytes the answers that follow from documents 01 and
-- 02, and the cut buffers. Shown together as one list, by computation. Made by tools/oracle/proof_file.py.
use mathlib.Core.Path.{◌≡◌, refl, sym, ap, ◌∙◌}
use mathlib.Core.List.{List, [], ◌∷◌, map}
use Prim.Native.Nat.{ℕ}
use Rattle.record.specs.declared.events.Event.{Event}
use Rattle.record.specs.declared.events.Event.TheVariants.{Begin, Issue, Commit, Load, Clflush, Sfence}
use Rattle.record.specs.declared.events.Event.TheVariants.{Crash, SkipOn, Locked, Signal, Wait}
use Rattle.record.specs.Events.{record_of}
use Rattle.record.specs.Table.{row_of}
use Rattle.model.specs.Search.{some, any, last, first, first_from, most}
use Rattle.model.specs.Trace.{stretch, count}
use Rattle.model.specs.Machine.{committed, commit_of, waiting, current, source_fits, switched}
use Rattle.model.specs.Machine.{countable, held, counting}
use Rattle.model.specs.Rules.{answer, rules}
use Rattle.model.specs.Choice.{finished}
use Rattle.model.specs.Clocks.{seen, clock, vc}
use Rattle.model.specs.Verdict.{forbids?, observes?, forbidden?, observed?, pair?, missing?, bad?, closure}
use Rattle.model.specs.Verdict.{load_of, missing_of, observed_of, ruling_of}
use Rattle.model.specs.Windows.{none, between, behind, last_covered, window_of}
use Rattle.model.specs.Answers.{refused, robust, broken, contradiction, impossible, flush}
use Rattle.model.specs.Answers.{tabulate, cut_of, sum, share_of, fault_of}
use Rattle.model.specs.Reading.{encode}
use Rattle.model.proofs.Encoding.{reading_events}
use Rattle.model.proofs.Sessions.{lent, zeros, padded, Outcome, outcome_of, outcome_of_events, outcome_all}

-- the bytes
pub sessions : List (List ℕ)
sessions =
    -- locations 0 and 7, the ends of line 0: impossible, with neither windows nor a primary thread
    (8 ∷ 0 ∷ 1 ∷ 0 ∷ 1 ∷ 0 ∷ 1 ∷ 0 ∷ 8 ∷ 0 ∷ 6 ∷ 0 ∷ 2 ∷ 0 ∷ 0 ∷ 0 ∷ 0 ∷ 0 ∷ 4 ∷ 0 ∷ 3 ∷ 0 ∷ 0 ∷ 0
    ∷ 6 ∷ 0 ∷ 2 ∷ 0 ∷ 0 ∷ 0 ∷ 7 ∷ 0 ∷ 4 ∷ 0 ∷ 3 ∷ 0 ∷ 0 ∷ 0 ∷ 2 ∷ 0 ∷ 9 ∷ 0
    ∷ 8 ∷ 0 ∷ 4 ∷ 0 ∷ 0 ∷ 0 ∷ 0 ∷ 0 ∷ 0 ∷ 0 ∷ 8 ∷ 0 ∷ 4 ∷ 0 ∷ 0 ∷ 0 ∷ 7 ∷ 0 ∷ 3 ∷ 0 ∷ []) ∷
    -- locations 7 and 8 are neighbours on two lines: flush, with a window
    (8 ∷ 0 ∷ 1 ∷ 0 ∷ 1 ∷ 0 ∷ 1 ∷ 0 ∷ 9 ∷ 0 ∷ 6 ∷ 0 ∷ 2 ∷ 0 ∷ 0 ∷ 0 ∷ 7 ∷ 0 ∷ 4 ∷ 0 ∷ 3 ∷ 0 ∷ 0 ∷ 0
    ∷ 6 ∷ 0 ∷ 2 ∷ 0 ∷ 0 ∷ 0 ∷ 8 ∷ 0 ∷ 4 ∷ 0 ∷ 3 ∷ 0 ∷ 0 ∷ 0 ∷ 2 ∷ 0 ∷ 9 ∷ 0
    ∷ 8 ∷ 0 ∷ 4 ∷ 0 ∷ 0 ∷ 0 ∷ 7 ∷ 0 ∷ 0 ∷ 0 ∷ 8 ∷ 0 ∷ 4 ∷ 0 ∷ 0 ∷ 0 ∷ 8 ∷ 0 ∷ 3 ∷ 0 ∷ []) ∷
    -- the same the other way round: the missing store is at 8 and the observed one at 7
    (8 ∷ 0 ∷ 1 ∷ 0 ∷ 1 ∷ 0 ∷ 1 ∷ 0 ∷ 9 ∷ 0 ∷ 6 ∷ 0 ∷ 2 ∷ 0 ∷ 0 ∷ 0 ∷ 8 ∷ 0 ∷ 4 ∷ 0 ∷ 3 ∷ 0 ∷ 0 ∷ 0
    ∷ 6 ∷ 0 ∷ 2 ∷ 0 ∷ 0 ∷ 0 ∷ 7 ∷ 0 ∷ 4 ∷ 0 ∷ 3 ∷ 0 ∷ 0 ∷ 0 ∷ 2 ∷ 0 ∷ 9 ∷ 0
    ∷ 8 ∷ 0 ∷ 4 ∷ 0 ∷ 0 ∷ 0 ∷ 8 ∷ 0 ∷ 0 ∷ 0 ∷ 8 ∷ 0 ∷ 4 ∷ 0 ∷ 0 ∷ 0 ∷ 7 ∷ 0 ∷ 3 ∷ 0 ∷ []) ∷
    -- locations 3 and 4, in the middle of a line
    (8 ∷ 0 ∷ 1 ∷ 0 ∷ 1 ∷ 0 ∷ 1 ∷ 0 ∷ 8 ∷ 0 ∷ 6 ∷ 0 ∷ 2 ∷ 0 ∷ 0 ∷ 0 ∷ 3 ∷ 0 ∷ 4 ∷ 0 ∷ 3 ∷ 0 ∷ 0 ∷ 0
    ∷ 6 ∷ 0 ∷ 2 ∷ 0 ∷ 0 ∷ 0 ∷ 4 ∷ 0 ∷ 4 ∷ 0 ∷ 3 ∷ 0 ∷ 0 ∷ 0 ∷ 2 ∷ 0 ∷ 9 ∷ 0
    ∷ 8 ∷ 0 ∷ 4 ∷ 0 ∷ 0 ∷ 0 ∷ 3 ∷ 0 ∷ 0 ∷ 0 ∷ 8 ∷ 0 ∷ 4 ∷ 0 ∷ 0 ∷ 0 ∷ 4 ∷ 0 ∷ 3 ∷ 0 ∷ []) ∷
    -- locations 8 and 15, the ends of line 1
    (8 ∷ 0 ∷ 1 ∷ 0 ∷ 1 ∷ 0 ∷ 1 ∷ 0 ∷ 16 ∷ 0 ∷ 6 ∷ 0 ∷ 2 ∷ 0 ∷ 0 ∷ 0 ∷ 8 ∷ 0 ∷ 4 ∷ 0 ∷ 3 ∷ 0 ∷ 0 ∷ 0
    ∷ 6 ∷ 0 ∷ 2 ∷ 0 ∷ 0 ∷ 0 ∷ 15 ∷ 0 ∷ 4 ∷ 0 ∷ 3 ∷ 0 ∷ 0 ∷ 0 ∷ 2 ∷ 0 ∷ 9 ∷ 0
    ∷ 8 ∷ 0 ∷ 4 ∷ 0 ∷ 0 ∷ 0 ∷ 8 ∷ 0 ∷ 0 ∷ 0 ∷ 8 ∷ 0 ∷ 4 ∷ 0 ∷ 0 ∷ 0 ∷ 15 ∷ 0 ∷ 3 ∷ 0 ∷ []) ∷
    -- locations 15 and 16, on lines 1 and 2
    (8 ∷ 0 ∷ 1 ∷ 0 ∷ 1 ∷ 0 ∷ 1 ∷ 0 ∷ 17 ∷ 0 ∷ 6 ∷ 0 ∷ 2 ∷ 0 ∷ 0 ∷ 0 ∷ 15 ∷ 0 ∷ 4 ∷ 0 ∷ 3 ∷ 0 ∷ 0 ∷ 0
    ∷ 6 ∷ 0 ∷ 2 ∷ 0 ∷ 0 ∷ 0 ∷ 16 ∷ 0 ∷ 4 ∷ 0 ∷ 3 ∷ 0 ∷ 0 ∷ 0 ∷ 2 ∷ 0 ∷ 9 ∷ 0
    ∷ 8 ∷ 0 ∷ 4 ∷ 0 ∷ 0 ∷ 0 ∷ 15 ∷ 0 ∷ 0 ∷ 0 ∷ 8 ∷ 0 ∷ 4 ∷ 0 ∷ 0 ∷ 0 ∷ 16 ∷ 0 ∷ 3 ∷ 0 ∷ []) ∷
    -- locations 0 and 8, the first words of two lines
    (8 ∷ 0 ∷ 1 ∷ 0 ∷ 1 ∷ 0 ∷ 1 ∷ 0 ∷ 9 ∷ 0 ∷ 6 ∷ 0 ∷ 2 ∷ 0 ∷ 0 ∷ 0 ∷ 0 ∷ 0 ∷ 4 ∷ 0 ∷ 3 ∷ 0 ∷ 0 ∷ 0
    ∷ 6 ∷ 0 ∷ 2 ∷ 0 ∷ 0 ∷ 0 ∷ 8 ∷ 0 ∷ 4 ∷ 0 ∷ 3 ∷ 0 ∷ 0 ∷ 0 ∷ 2 ∷ 0 ∷ 9 ∷ 0
    ∷ 8 ∷ 0 ∷ 4 ∷ 0 ∷ 0 ∷ 0 ∷ 0 ∷ 0 ∷ 0 ∷ 0 ∷ 8 ∷ 0 ∷ 4 ∷ 0 ∷ 0 ∷ 0 ∷ 8 ∷ 0 ∷ 3 ∷ 0 ∷ []) ∷
    -- locations 248 and 255, the ends of the last line of 256 locations
    (8 ∷ 0 ∷ 1 ∷ 0 ∷ 1 ∷ 0 ∷ 1 ∷ 0 ∷ 0 ∷ 1 ∷ 6 ∷ 0 ∷ 2 ∷ 0 ∷ 0 ∷ 0 ∷ 248 ∷ 0 ∷ 4 ∷ 0 ∷ 3 ∷ 0 ∷ 0 ∷ 0
    ∷ 6 ∷ 0 ∷ 2 ∷ 0 ∷ 0 ∷ 0 ∷ 255 ∷ 0 ∷ 4 ∷ 0 ∷ 3 ∷ 0 ∷ 0 ∷ 0 ∷ 2 ∷ 0 ∷ 9 ∷ 0
    ∷ 8 ∷ 0 ∷ 4 ∷ 0 ∷ 0 ∷ 0 ∷ 248 ∷ 0 ∷ 0 ∷ 0 ∷ 8 ∷ 0 ∷ 4 ∷ 0 ∷ 0 ∷ 0 ∷ 255 ∷ 0 ∷ 3 ∷ 0 ∷ []) ∷
    -- locations 247 and 248, on the last two lines
    (8 ∷ 0 ∷ 1 ∷ 0 ∷ 1 ∷ 0 ∷ 1 ∷ 0 ∷ 0 ∷ 1 ∷ 6 ∷ 0 ∷ 2 ∷ 0 ∷ 0 ∷ 0 ∷ 247 ∷ 0 ∷ 4 ∷ 0 ∷ 3 ∷ 0 ∷ 0 ∷ 0
    ∷ 6 ∷ 0 ∷ 2 ∷ 0 ∷ 0 ∷ 0 ∷ 248 ∷ 0 ∷ 4 ∷ 0 ∷ 3 ∷ 0 ∷ 0 ∷ 0 ∷ 2 ∷ 0 ∷ 9 ∷ 0
    ∷ 8 ∷ 0 ∷ 4 ∷ 0 ∷ 0 ∷ 0 ∷ 247 ∷ 0 ∷ 0 ∷ 0 ∷ 8 ∷ 0 ∷ 4 ∷ 0 ∷ 0 ∷ 0 ∷ 248 ∷ 0 ∷ 3 ∷ 0 ∷ []) ∷
    -- two stores at one location: 3 would be a contradiction, but 1 is the smallest missing store
    (8 ∷ 0 ∷ 1 ∷ 0 ∷ 1 ∷ 0 ∷ 1 ∷ 0 ∷ 1 ∷ 0 ∷ 6 ∷ 0 ∷ 2 ∷ 0 ∷ 0 ∷ 0 ∷ 0 ∷ 0 ∷ 4 ∷ 0 ∷ 3 ∷ 0 ∷ 0 ∷ 0
    ∷ 6 ∷ 0 ∷ 2 ∷ 0 ∷ 0 ∷ 0 ∷ 0 ∷ 0 ∷ 4 ∷ 0 ∷ 3 ∷ 0 ∷ 0 ∷ 0 ∷ 2 ∷ 0 ∷ 9 ∷ 0
    ∷ 8 ∷ 0 ∷ 4 ∷ 0 ∷ 0 ∷ 0 ∷ 0 ∷ 0 ∷ 0 ∷ 0 ∷ 8 ∷ 0 ∷ 4 ∷ 0 ∷ 0 ∷ 0 ∷ 0 ∷ 0 ∷ 3 ∷ 0 ∷ []) ∷
    -- ordered by a load, in two threads
    (8 ∷ 0 ∷ 1 ∷ 0 ∷ 1 ∷ 0 ∷ 2 ∷ 0 ∷ 10 ∷ 0 ∷ 6 ∷ 0 ∷ 2 ∷ 0 ∷ 0 ∷ 0 ∷ 8 ∷ 0 ∷ 4 ∷ 0 ∷ 3 ∷ 0 ∷ 0 ∷ 0
    ∷ 8 ∷ 0 ∷ 4 ∷ 0 ∷ 1 ∷ 0 ∷ 8 ∷ 0 ∷ 1 ∷ 0 ∷ 6 ∷ 0 ∷ 2 ∷ 0 ∷ 1 ∷ 0 ∷ 9 ∷ 0
    ∷ 4 ∷ 0 ∷ 3 ∷ 0 ∷ 1 ∷ 0 ∷ 2 ∷ 0 ∷ 9 ∷ 0 ∷ 8 ∷ 0 ∷ 4 ∷ 0 ∷ 0 ∷ 0 ∷ 8 ∷ 0 ∷ 0 ∷ 0
    ∷ 8 ∷ 0 ∷ 4 ∷ 0 ∷ 0 ∷ 0 ∷ 9 ∷ 0 ∷ 4 ∷ 0 ∷ []) ∷
    -- ordered by a locked operation that loads 1 and is observed itself
    (8 ∷ 0 ∷ 1 ∷ 0 ∷ 1 ∷ 0 ∷ 2 ∷ 0 ∷ 2 ∷ 0 ∷ 6 ∷ 0 ∷ 2 ∷ 0 ∷ 0 ∷ 0 ∷ 0 ∷ 0 ∷ 4 ∷ 0 ∷ 3 ∷ 0 ∷ 0 ∷ 0
    ∷ 8 ∷ 0 ∷ 12 ∷ 0 ∷ 1 ∷ 0 ∷ 0 ∷ 0 ∷ 1 ∷ 0 ∷ 2 ∷ 0 ∷ 9 ∷ 0
    ∷ 8 ∷ 0 ∷ 4 ∷ 0 ∷ 0 ∷ 0 ∷ 0 ∷ 0 ∷ 0 ∷ 0 ∷ 8 ∷ 0 ∷ 4 ∷ 0 ∷ 0 ∷ 0 ∷ 0 ∷ 0 ∷ 3 ∷ 0 ∷ []) ∷
    -- ordered by a locked operation that loads a later store of 1's thread
    (8 ∷ 0 ∷ 1 ∷ 0 ∷ 1 ∷ 0 ∷ 2 ∷ 0 ∷ 2 ∷ 0 ∷ 6 ∷ 0 ∷ 2 ∷ 0 ∷ 0 ∷ 0 ∷ 0 ∷ 0 ∷ 4 ∷ 0 ∷ 3 ∷ 0 ∷ 0 ∷ 0
    ∷ 6 ∷ 0 ∷ 2 ∷ 0 ∷ 0 ∷ 0 ∷ 1 ∷ 0 ∷ 4 ∷ 0 ∷ 3 ∷ 0 ∷ 0 ∷ 0
    ∷ 8 ∷ 0 ∷ 12 ∷ 0 ∷ 1 ∷ 0 ∷ 1 ∷ 0 ∷ 3 ∷ 0 ∷ 2 ∷ 0 ∷ 9 ∷ 0
    ∷ 8 ∷ 0 ∷ 4 ∷ 0 ∷ 0 ∷ 0 ∷ 0 ∷ 0 ∷ 0 ∷ 0 ∷ 8 ∷ 0 ∷ 4 ∷ 0 ∷ 0 ∷ 0 ∷ 1 ∷ 0 ∷ 5 ∷ 0 ∷ []) ∷
    -- ordered by a hand-over
    (8 ∷ 0 ∷ 1 ∷ 0 ∷ 1 ∷ 0 ∷ 2 ∷ 0 ∷ 2 ∷ 0 ∷ 6 ∷ 0 ∷ 2 ∷ 0 ∷ 0 ∷ 0 ∷ 0 ∷ 0 ∷ 4 ∷ 0 ∷ 3 ∷ 0 ∷ 0 ∷ 0
    ∷ 4 ∷ 0 ∷ 13 ∷ 0 ∷ 0 ∷ 0 ∷ 6 ∷ 0 ∷ 14 ∷ 0 ∷ 1 ∷ 0 ∷ 3 ∷ 0 ∷ 6 ∷ 0 ∷ 2 ∷ 0 ∷ 1 ∷ 0 ∷ 1 ∷ 0
    ∷ 4 ∷ 0 ∷ 3 ∷ 0 ∷ 1 ∷ 0 ∷ 2 ∷ 0 ∷ 9 ∷ 0 ∷ 8 ∷ 0 ∷ 4 ∷ 0 ∷ 0 ∷ 0 ∷ 0 ∷ 0 ∷ 0 ∷ 0
    ∷ 8 ∷ 0 ∷ 4 ∷ 0 ∷ 0 ∷ 0 ∷ 1 ∷ 0 ∷ 5 ∷ 0 ∷ []) ∷
    -- a chain through 4, which is on another line: only the lines of missing and observed count
    (8 ∷ 0 ∷ 1 ∷ 0 ∷ 1 ∷ 0 ∷ 3 ∷ 0 ∷ 9 ∷ 0 ∷ 6 ∷ 0 ∷ 2 ∷ 0 ∷ 0 ∷ 0 ∷ 0 ∷ 0 ∷ 4 ∷ 0 ∷ 3 ∷ 0 ∷ 0 ∷ 0
    ∷ 8 ∷ 0 ∷ 4 ∷ 0 ∷ 1 ∷ 0 ∷ 0 ∷ 0 ∷ 1 ∷ 0 ∷ 6 ∷ 0 ∷ 2 ∷ 0 ∷ 1 ∷ 0 ∷ 8 ∷ 0
    ∷ 4 ∷ 0 ∷ 3 ∷ 0 ∷ 1 ∷ 0 ∷ 8 ∷ 0 ∷ 4 ∷ 0 ∷ 2 ∷ 0 ∷ 8 ∷ 0 ∷ 4 ∷ 0
    ∷ 6 ∷ 0 ∷ 2 ∷ 0 ∷ 2 ∷ 0 ∷ 1 ∷ 0 ∷ 4 ∷ 0 ∷ 3 ∷ 0 ∷ 2 ∷ 0 ∷ 2 ∷ 0 ∷ 9 ∷ 0
    ∷ 8 ∷ 0 ∷ 4 ∷ 0 ∷ 0 ∷ 0 ∷ 0 ∷ 0 ∷ 0 ∷ 0 ∷ 8 ∷ 0 ∷ 4 ∷ 0 ∷ 0 ∷ 0 ∷ 1 ∷ 0 ∷ 7 ∷ 0 ∷ []) ∷
    -- a chain through 4, which is on missing's line, to a store on another one: flush
    (8 ∷ 0 ∷ 1 ∷ 0 ∷ 1 ∷ 0 ∷ 3 ∷ 0 ∷ 9 ∷ 0 ∷ 6 ∷ 0 ∷ 2 ∷ 0 ∷ 0 ∷ 0 ∷ 0 ∷ 0 ∷ 4 ∷ 0 ∷ 3 ∷ 0 ∷ 0 ∷ 0
    ∷ 8 ∷ 0 ∷ 4 ∷ 0 ∷ 1 ∷ 0 ∷ 0 ∷ 0 ∷ 1 ∷ 0 ∷ 6 ∷ 0 ∷ 2 ∷ 0 ∷ 1 ∷ 0 ∷ 1 ∷ 0
    ∷ 4 ∷ 0 ∷ 3 ∷ 0 ∷ 1 ∷ 0 ∷ 8 ∷ 0 ∷ 4 ∷ 0 ∷ 2 ∷ 0 ∷ 1 ∷ 0 ∷ 4 ∷ 0
    ∷ 6 ∷ 0 ∷ 2 ∷ 0 ∷ 2 ∷ 0 ∷ 8 ∷ 0 ∷ 4 ∷ 0 ∷ 3 ∷ 0 ∷ 2 ∷ 0 ∷ 2 ∷ 0 ∷ 9 ∷ 0
    ∷ 8 ∷ 0 ∷ 4 ∷ 0 ∷ 0 ∷ 0 ∷ 0 ∷ 0 ∷ 0 ∷ 0 ∷ 8 ∷ 0 ∷ 4 ∷ 0 ∷ 0 ∷ 0 ∷ 8 ∷ 0 ∷ 7 ∷ 0 ∷ []) ∷
    -- of eight threads and 256 locations: the last thread's store is missing, the first one's observed
    (8 ∷ 0 ∷ 1 ∷ 0 ∷ 1 ∷ 0 ∷ 8 ∷ 0 ∷ 0 ∷ 1 ∷ 6 ∷ 0 ∷ 2 ∷ 0 ∷ 7 ∷ 0 ∷ 255 ∷ 0 ∷ 4 ∷ 0 ∷ 3 ∷ 0 ∷ 7 ∷ 0
    ∷ 8 ∷ 0 ∷ 4 ∷ 0 ∷ 0 ∷ 0 ∷ 255 ∷ 0 ∷ 1 ∷ 0 ∷ 6 ∷ 0 ∷ 2 ∷ 0 ∷ 0 ∷ 0 ∷ 248 ∷ 0
    ∷ 4 ∷ 0 ∷ 3 ∷ 0 ∷ 0 ∷ 0 ∷ 2 ∷ 0 ∷ 9 ∷ 0 ∷ 8 ∷ 0 ∷ 4 ∷ 0 ∷ 3 ∷ 0 ∷ 255 ∷ 0 ∷ 0 ∷ 0
    ∷ 8 ∷ 0 ∷ 4 ∷ 0 ∷ 3 ∷ 0 ∷ 248 ∷ 0 ∷ 4 ∷ 0 ∷ []) ∷
    -- the pair 1, 3 is on one line too, but 1 is the smallest observed store: a contradiction stays one
    (8 ∷ 0 ∷ 1 ∷ 0 ∷ 1 ∷ 0 ∷ 1 ∷ 0 ∷ 2 ∷ 0 ∷ 6 ∷ 0 ∷ 2 ∷ 0 ∷ 0 ∷ 0 ∷ 0 ∷ 0 ∷ 4 ∷ 0 ∷ 3 ∷ 0 ∷ 0 ∷ 0
    ∷ 6 ∷ 0 ∷ 2 ∷ 0 ∷ 0 ∷ 0 ∷ 1 ∷ 0 ∷ 4 ∷ 0 ∷ 3 ∷ 0 ∷ 0 ∷ 0 ∷ 2 ∷ 0 ∷ 9 ∷ 0
    ∷ 8 ∷ 0 ∷ 4 ∷ 0 ∷ 0 ∷ 0 ∷ 0 ∷ 0 ∷ 1 ∷ 0 ∷ 8 ∷ 0 ∷ 4 ∷ 0 ∷ 0 ∷ 0 ∷ 1 ∷ 0 ∷ 3 ∷ 0
    ∷ 8 ∷ 0 ∷ 4 ∷ 0 ∷ 0 ∷ 0 ∷ 0 ∷ 0 ∷ 0 ∷ 0 ∷ []) ∷
    -- a smaller store on another line, 1, is observed too, but 3 does not happen before it: a contradiction
    (8 ∷ 0 ∷ 1 ∷ 0 ∷ 1 ∷ 0 ∷ 1 ∷ 0 ∷ 9 ∷ 0 ∷ 6 ∷ 0 ∷ 2 ∷ 0 ∷ 0 ∷ 0 ∷ 8 ∷ 0 ∷ 4 ∷ 0 ∷ 3 ∷ 0 ∷ 0 ∷ 0
    ∷ 6 ∷ 0 ∷ 2 ∷ 0 ∷ 0 ∷ 0 ∷ 0 ∷ 0 ∷ 4 ∷ 0 ∷ 3 ∷ 0 ∷ 0 ∷ 0 ∷ 2 ∷ 0 ∷ 9 ∷ 0
    ∷ 8 ∷ 0 ∷ 4 ∷ 0 ∷ 0 ∷ 0 ∷ 8 ∷ 0 ∷ 1 ∷ 0 ∷ 8 ∷ 0 ∷ 4 ∷ 0 ∷ 0 ∷ 0 ∷ 0 ∷ 0 ∷ 3 ∷ 0
    ∷ 8 ∷ 0 ∷ 4 ∷ 0 ∷ 0 ∷ 0 ∷ 0 ∷ 0 ∷ 0 ∷ 0 ∷ []) ∷
    -- load 8, which would make 1 a contradiction, comes behind load 7, where the trace is broken
    (8 ∷ 0 ∷ 1 ∷ 0 ∷ 1 ∷ 0 ∷ 1 ∷ 0 ∷ 2 ∷ 0 ∷ 6 ∷ 0 ∷ 2 ∷ 0 ∷ 0 ∷ 0 ∷ 0 ∷ 0 ∷ 4 ∷ 0 ∷ 3 ∷ 0 ∷ 0 ∷ 0
    ∷ 6 ∷ 0 ∷ 2 ∷ 0 ∷ 0 ∷ 0 ∷ 1 ∷ 0 ∷ 4 ∷ 0 ∷ 3 ∷ 0 ∷ 0 ∷ 0 ∷ 2 ∷ 0 ∷ 9 ∷ 0
    ∷ 8 ∷ 0 ∷ 4 ∷ 0 ∷ 0 ∷ 0 ∷ 0 ∷ 0 ∷ 0 ∷ 0 ∷ 8 ∷ 0 ∷ 4 ∷ 0 ∷ 0 ∷ 0 ∷ 1 ∷ 0 ∷ 3 ∷ 0
    ∷ 8 ∷ 0 ∷ 4 ∷ 0 ∷ 0 ∷ 0 ∷ 0 ∷ 0 ∷ 1 ∷ 0 ∷ []) ∷
    -- the pair 1, 5 is on two lines, but 3 is the smallest observed store: the pair is not chosen again
    (8 ∷ 0 ∷ 1 ∷ 0 ∷ 1 ∷ 0 ∷ 1 ∷ 0 ∷ 9 ∷ 0 ∷ 6 ∷ 0 ∷ 2 ∷ 0 ∷ 0 ∷ 0 ∷ 0 ∷ 0 ∷ 4 ∷ 0 ∷ 3 ∷ 0 ∷ 0 ∷ 0
    ∷ 6 ∷ 0 ∷ 2 ∷ 0 ∷ 0 ∷ 0 ∷ 1 ∷ 0 ∷ 4 ∷ 0 ∷ 3 ∷ 0 ∷ 0 ∷ 0 ∷ 6 ∷ 0 ∷ 2 ∷ 0 ∷ 0 ∷ 0 ∷ 8 ∷ 0
    ∷ 4 ∷ 0 ∷ 3 ∷ 0 ∷ 0 ∷ 0 ∷ 2 ∷ 0 ∷ 9 ∷ 0 ∷ 8 ∷ 0 ∷ 4 ∷ 0 ∷ 0 ∷ 0 ∷ 1 ∷ 0 ∷ 3 ∷ 0
    ∷ 8 ∷ 0 ∷ 4 ∷ 0 ∷ 0 ∷ 0 ∷ 8 ∷ 0 ∷ 5 ∷ 0 ∷ 8 ∷ 0 ∷ 4 ∷ 0 ∷ 0 ∷ 0 ∷ 0 ∷ 0 ∷ 0 ∷ 0 ∷ []) ∷
    -- the pair 3, 5 is on two lines, but 1 is the smallest missing store: the pair is not chosen again
    (8 ∷ 0 ∷ 1 ∷ 0 ∷ 1 ∷ 0 ∷ 2 ∷ 0 ∷ 9 ∷ 0 ∷ 6 ∷ 0 ∷ 2 ∷ 0 ∷ 0 ∷ 0 ∷ 0 ∷ 0 ∷ 4 ∷ 0 ∷ 3 ∷ 0 ∷ 0 ∷ 0
    ∷ 6 ∷ 0 ∷ 2 ∷ 0 ∷ 1 ∷ 0 ∷ 0 ∷ 0 ∷ 4 ∷ 0 ∷ 3 ∷ 0 ∷ 1 ∷ 0 ∷ 6 ∷ 0 ∷ 2 ∷ 0 ∷ 1 ∷ 0 ∷ 8 ∷ 0
    ∷ 4 ∷ 0 ∷ 3 ∷ 0 ∷ 1 ∷ 0 ∷ 6 ∷ 0 ∷ 2 ∷ 0 ∷ 0 ∷ 0 ∷ 1 ∷ 0 ∷ 4 ∷ 0 ∷ 3 ∷ 0 ∷ 0 ∷ 0
    ∷ 2 ∷ 0 ∷ 9 ∷ 0 ∷ 8 ∷ 0 ∷ 4 ∷ 0 ∷ 0 ∷ 0 ∷ 8 ∷ 0 ∷ 5 ∷ 0
    ∷ 8 ∷ 0 ∷ 4 ∷ 0 ∷ 0 ∷ 0 ∷ 1 ∷ 0 ∷ 7 ∷ 0 ∷ 8 ∷ 0 ∷ 4 ∷ 0 ∷ 0 ∷ 0 ∷ 0 ∷ 0 ∷ 0 ∷ 0 ∷ []) ∷
    -- the pair 1, 5 is on one line, but 3, on another one, is the smallest observed store: flush
    (8 ∷ 0 ∷ 1 ∷ 0 ∷ 1 ∷ 0 ∷ 1 ∷ 0 ∷ 9 ∷ 0 ∷ 6 ∷ 0 ∷ 2 ∷ 0 ∷ 0 ∷ 0 ∷ 0 ∷ 0 ∷ 4 ∷ 0 ∷ 3 ∷ 0 ∷ 0 ∷ 0
    ∷ 6 ∷ 0 ∷ 2 ∷ 0 ∷ 0 ∷ 0 ∷ 8 ∷ 0 ∷ 4 ∷ 0 ∷ 3 ∷ 0 ∷ 0 ∷ 0 ∷ 6 ∷ 0 ∷ 2 ∷ 0 ∷ 0 ∷ 0 ∷ 1 ∷ 0
    ∷ 4 ∷ 0 ∷ 3 ∷ 0 ∷ 0 ∷ 0 ∷ 2 ∷ 0 ∷ 9 ∷ 0 ∷ 8 ∷ 0 ∷ 4 ∷ 0 ∷ 0 ∷ 0 ∷ 8 ∷ 0 ∷ 3 ∷ 0
    ∷ 8 ∷ 0 ∷ 4 ∷ 0 ∷ 0 ∷ 0 ∷ 1 ∷ 0 ∷ 5 ∷ 0 ∷ 8 ∷ 0 ∷ 4 ∷ 0 ∷ 0 ∷ 0 ∷ 0 ∷ 0 ∷ 0 ∷ 0 ∷ []) ∷
    -- not ordered by happens-before: robust, though 1 was committed first; the choice has no rule of lines
    (8 ∷ 0 ∷ 1 ∷ 0 ∷ 1 ∷ 0 ∷ 2 ∷ 0 ∷ 2 ∷ 0 ∷ 6 ∷ 0 ∷ 2 ∷ 0 ∷ 0 ∷ 0 ∷ 0 ∷ 0 ∷ 4 ∷ 0 ∷ 3 ∷ 0 ∷ 0 ∷ 0
    ∷ 6 ∷ 0 ∷ 2 ∷ 0 ∷ 1 ∷ 0 ∷ 1 ∷ 0 ∷ 4 ∷ 0 ∷ 3 ∷ 0 ∷ 1 ∷ 0 ∷ 2 ∷ 0 ∷ 9 ∷ 0
    ∷ 8 ∷ 0 ∷ 4 ∷ 0 ∷ 0 ∷ 0 ∷ 0 ∷ 0 ∷ 0 ∷ 0 ∷ 8 ∷ 0 ∷ 4 ∷ 0 ∷ 0 ∷ 0 ∷ 1 ∷ 0 ∷ 3 ∷ 0 ∷ []) ∷
    -- one line in two stretches: nothing orders the stores, robust
    (8 ∷ 0 ∷ 1 ∷ 0 ∷ 1 ∷ 0 ∷ 1 ∷ 0 ∷ 2 ∷ 0 ∷ 6 ∷ 0 ∷ 2 ∷ 0 ∷ 0 ∷ 0 ∷ 0 ∷ 0 ∷ 4 ∷ 0 ∷ 3 ∷ 0 ∷ 0 ∷ 0
    ∷ 2 ∷ 0 ∷ 9 ∷ 0 ∷ 6 ∷ 0 ∷ 2 ∷ 0 ∷ 0 ∷ 0 ∷ 1 ∷ 0 ∷ 4 ∷ 0 ∷ 3 ∷ 0 ∷ 0 ∷ 0 ∷ 2 ∷ 0 ∷ 9 ∷ 0
    ∷ 8 ∷ 0 ∷ 4 ∷ 0 ∷ 0 ∷ 0 ∷ 0 ∷ 0 ∷ 0 ∷ 0 ∷ 8 ∷ 0 ∷ 4 ∷ 0 ∷ 0 ∷ 0 ∷ 1 ∷ 0 ∷ 4 ∷ 0 ∷ []) ∷
    -- a pair of stretch 2, and a load from 1, which is of stretch 1
    (8 ∷ 0 ∷ 1 ∷ 0 ∷ 1 ∷ 0 ∷ 1 ∷ 0 ∷ 2 ∷ 0 ∷ 6 ∷ 0 ∷ 2 ∷ 0 ∷ 0 ∷ 0 ∷ 0 ∷ 0 ∷ 4 ∷ 0 ∷ 3 ∷ 0 ∷ 0 ∷ 0
    ∷ 2 ∷ 0 ∷ 9 ∷ 0 ∷ 6 ∷ 0 ∷ 2 ∷ 0 ∷ 0 ∷ 0 ∷ 0 ∷ 0 ∷ 4 ∷ 0 ∷ 3 ∷ 0 ∷ 0 ∷ 0
    ∷ 6 ∷ 0 ∷ 2 ∷ 0 ∷ 0 ∷ 0 ∷ 1 ∷ 0 ∷ 4 ∷ 0 ∷ 3 ∷ 0 ∷ 0 ∷ 0 ∷ 2 ∷ 0 ∷ 9 ∷ 0
    ∷ 8 ∷ 0 ∷ 4 ∷ 0 ∷ 0 ∷ 0 ∷ 0 ∷ 0 ∷ 1 ∷ 0 ∷ 8 ∷ 0 ∷ 4 ∷ 0 ∷ 0 ∷ 0 ∷ 1 ∷ 0 ∷ 6 ∷ 0 ∷ []) ∷
    -- a flush and an sfence between the two stores change nothing but numbers
    (8 ∷ 0 ∷ 1 ∷ 0 ∷ 1 ∷ 0 ∷ 1 ∷ 0 ∷ 2 ∷ 0 ∷ 6 ∷ 0 ∷ 2 ∷ 0 ∷ 0 ∷ 0 ∷ 0 ∷ 0 ∷ 4 ∷ 0 ∷ 3 ∷ 0 ∷ 0 ∷ 0
    ∷ 6 ∷ 0 ∷ 5 ∷ 0 ∷ 0 ∷ 0 ∷ 0 ∷ 0 ∷ 4 ∷ 0 ∷ 7 ∷ 0 ∷ 0 ∷ 0 ∷ 6 ∷ 0 ∷ 2 ∷ 0 ∷ 0 ∷ 0 ∷ 1 ∷ 0
    ∷ 4 ∷ 0 ∷ 3 ∷ 0 ∷ 0 ∷ 0 ∷ 2 ∷ 0 ∷ 9 ∷ 0 ∷ 8 ∷ 0 ∷ 4 ∷ 0 ∷ 0 ∷ 0 ∷ 0 ∷ 0 ∷ 0 ∷ 0
    ∷ 8 ∷ 0 ∷ 4 ∷ 0 ∷ 0 ∷ 0 ∷ 1 ∷ 0 ∷ 5 ∷ 0 ∷ []) ∷
    -- the load from 3 stands in a skip and does not count: robust
    (8 ∷ 0 ∷ 1 ∷ 0 ∷ 1 ∷ 0 ∷ 1 ∷ 0 ∷ 2 ∷ 0 ∷ 6 ∷ 0 ∷ 2 ∷ 0 ∷ 0 ∷ 0 ∷ 0 ∷ 0 ∷ 4 ∷ 0 ∷ 3 ∷ 0 ∷ 0 ∷ 0
    ∷ 6 ∷ 0 ∷ 2 ∷ 0 ∷ 0 ∷ 0 ∷ 1 ∷ 0 ∷ 4 ∷ 0 ∷ 3 ∷ 0 ∷ 0 ∷ 0 ∷ 2 ∷ 0 ∷ 9 ∷ 0
    ∷ 8 ∷ 0 ∷ 4 ∷ 0 ∷ 0 ∷ 0 ∷ 0 ∷ 0 ∷ 0 ∷ 0 ∷ 4 ∷ 0 ∷ 10 ∷ 0 ∷ 0 ∷ 0
    ∷ 8 ∷ 0 ∷ 4 ∷ 0 ∷ 0 ∷ 0 ∷ 1 ∷ 0 ∷ 3 ∷ 0 ∷ []) ∷
    -- a refusal outranks it
    (8 ∷ 0 ∷ 1 ∷ 0 ∷ 1 ∷ 0 ∷ 1 ∷ 0 ∷ 2 ∷ 0 ∷ 6 ∷ 0 ∷ 2 ∷ 0 ∷ 0 ∷ 0 ∷ 0 ∷ 0 ∷ 4 ∷ 0 ∷ 3 ∷ 0 ∷ 0 ∷ 0
    ∷ 6 ∷ 0 ∷ 2 ∷ 0 ∷ 0 ∷ 0 ∷ 1 ∷ 0 ∷ 4 ∷ 0 ∷ 3 ∷ 0 ∷ 0 ∷ 0 ∷ 2 ∷ 0 ∷ 9 ∷ 0
    ∷ 8 ∷ 0 ∷ 4 ∷ 0 ∷ 0 ∷ 0 ∷ 0 ∷ 0 ∷ 0 ∷ 0 ∷ 8 ∷ 0 ∷ 4 ∷ 0 ∷ 0 ∷ 0 ∷ 1 ∷ 0 ∷ 3 ∷ 0
    ∷ 4 ∷ 0 ∷ 3 ∷ 0 ∷ 0 ∷ 0 ∷ []) ∷
    []

-- the events that they are the records of
traces : List (List Event)
traces =
    -- locations 0 and 7, the ends of line 0: impossible, with neither windows nor a primary thread
    (Begin 1 1 8 ∷ Issue 0 0 ∷ Commit 0 ∷ Issue 0 7 ∷ Commit 0 ∷ Crash ∷ Load 0 0 0 ∷ Load 0 7 3 ∷ []) ∷
    -- locations 7 and 8 are neighbours on two lines: flush, with a window
    (Begin 1 1 9 ∷ Issue 0 7 ∷ Commit 0 ∷ Issue 0 8 ∷ Commit 0 ∷ Crash ∷ Load 0 7 0 ∷ Load 0 8 3 ∷ []) ∷
    -- the same the other way round: the missing store is at 8 and the observed one at 7
    (Begin 1 1 9 ∷ Issue 0 8 ∷ Commit 0 ∷ Issue 0 7 ∷ Commit 0 ∷ Crash ∷ Load 0 8 0 ∷ Load 0 7 3 ∷ []) ∷
    -- locations 3 and 4, in the middle of a line
    (Begin 1 1 8 ∷ Issue 0 3 ∷ Commit 0 ∷ Issue 0 4 ∷ Commit 0 ∷ Crash ∷ Load 0 3 0 ∷ Load 0 4 3 ∷ []) ∷
    -- locations 8 and 15, the ends of line 1
    (Begin 1 1 16 ∷ Issue 0 8 ∷ Commit 0 ∷ Issue 0 15 ∷ Commit 0 ∷ Crash ∷ Load 0 8 0 ∷ Load 0 15 3 ∷ []) ∷
    -- locations 15 and 16, on lines 1 and 2
    (Begin 1 1 17 ∷ Issue 0 15 ∷ Commit 0 ∷ Issue 0 16 ∷ Commit 0 ∷ Crash ∷ Load 0 15 0 ∷ Load 0 16 3 ∷ []) ∷
    -- locations 0 and 8, the first words of two lines
    (Begin 1 1 9 ∷ Issue 0 0 ∷ Commit 0 ∷ Issue 0 8 ∷ Commit 0 ∷ Crash ∷ Load 0 0 0 ∷ Load 0 8 3 ∷ []) ∷
    -- locations 248 and 255, the ends of the last line of 256 locations
    (Begin 1 1 256 ∷ Issue 0 248 ∷ Commit 0 ∷ Issue 0 255 ∷ Commit 0 ∷ Crash ∷ Load 0 248 0 ∷ Load 0 255 3 ∷ []) ∷
    -- locations 247 and 248, on the last two lines
    (Begin 1 1 256 ∷ Issue 0 247 ∷ Commit 0 ∷ Issue 0 248 ∷ Commit 0 ∷ Crash ∷ Load 0 247 0 ∷ Load 0 248 3 ∷ []) ∷
    -- two stores at one location: 3 would be a contradiction, but 1 is the smallest missing store
    (Begin 1 1 1 ∷ Issue 0 0 ∷ Commit 0 ∷ Issue 0 0 ∷ Commit 0 ∷ Crash ∷ Load 0 0 0 ∷ Load 0 0 3 ∷ []) ∷
    -- ordered by a load, in two threads
    (Begin 1 2 10 ∷ Issue 0 8 ∷ Commit 0 ∷ Load 1 8 1 ∷ Issue 1 9 ∷ Commit 1 ∷ Crash ∷ Load 0 8 0 ∷ Load 0 9 4
    ∷ []) ∷
    -- ordered by a locked operation that loads 1 and is observed itself
    (Begin 1 2 2 ∷ Issue 0 0 ∷ Commit 0 ∷ Locked 1 0 1 ∷ Crash ∷ Load 0 0 0 ∷ Load 0 0 3 ∷ []) ∷
    -- ordered by a locked operation that loads a later store of 1's thread
    (Begin 1 2 2 ∷ Issue 0 0 ∷ Commit 0 ∷ Issue 0 1 ∷ Commit 0 ∷ Locked 1 1 3 ∷ Crash ∷ Load 0 0 0 ∷ Load 0 1 5
    ∷ []) ∷
    -- ordered by a hand-over
    (Begin 1 2 2 ∷ Issue 0 0 ∷ Commit 0 ∷ Signal 0 ∷ Wait 1 3 ∷ Issue 1 1 ∷ Commit 1 ∷ Crash ∷ Load 0 0 0
    ∷ Load 0 1 5 ∷ []) ∷
    -- a chain through 4, which is on another line: only the lines of missing and observed count
    (Begin 1 3 9 ∷ Issue 0 0 ∷ Commit 0 ∷ Load 1 0 1 ∷ Issue 1 8 ∷ Commit 1 ∷ Load 2 8 4 ∷ Issue 2 1 ∷ Commit 2
    ∷ Crash ∷ Load 0 0 0 ∷ Load 0 1 7 ∷ []) ∷
    -- a chain through 4, which is on missing's line, to a store on another one: flush
    (Begin 1 3 9 ∷ Issue 0 0 ∷ Commit 0 ∷ Load 1 0 1 ∷ Issue 1 1 ∷ Commit 1 ∷ Load 2 1 4 ∷ Issue 2 8 ∷ Commit 2
    ∷ Crash ∷ Load 0 0 0 ∷ Load 0 8 7 ∷ []) ∷
    -- of eight threads and 256 locations: the last thread's store is missing, the first one's observed
    (Begin 1 8 256 ∷ Issue 7 255 ∷ Commit 7 ∷ Load 0 255 1 ∷ Issue 0 248 ∷ Commit 0 ∷ Crash ∷ Load 3 255 0
    ∷ Load 3 248 4 ∷ []) ∷
    -- the pair 1, 3 is on one line too, but 1 is the smallest observed store: a contradiction stays one
    (Begin 1 1 2 ∷ Issue 0 0 ∷ Commit 0 ∷ Issue 0 1 ∷ Commit 0 ∷ Crash ∷ Load 0 0 1 ∷ Load 0 1 3 ∷ Load 0 0 0
    ∷ []) ∷
    -- a smaller store on another line, 1, is observed too, but 3 does not happen before it: a contradiction
    (Begin 1 1 9 ∷ Issue 0 8 ∷ Commit 0 ∷ Issue 0 0 ∷ Commit 0 ∷ Crash ∷ Load 0 8 1 ∷ Load 0 0 3 ∷ Load 0 0 0
    ∷ []) ∷
    -- load 8, which would make 1 a contradiction, comes behind load 7, where the trace is broken
    (Begin 1 1 2 ∷ Issue 0 0 ∷ Commit 0 ∷ Issue 0 1 ∷ Commit 0 ∷ Crash ∷ Load 0 0 0 ∷ Load 0 1 3 ∷ Load 0 0 1
    ∷ []) ∷
    -- the pair 1, 5 is on two lines, but 3 is the smallest observed store: the pair is not chosen again
    (Begin 1 1 9 ∷ Issue 0 0 ∷ Commit 0 ∷ Issue 0 1 ∷ Commit 0 ∷ Issue 0 8 ∷ Commit 0 ∷ Crash ∷ Load 0 1 3
    ∷ Load 0 8 5 ∷ Load 0 0 0 ∷ []) ∷
    -- the pair 3, 5 is on two lines, but 1 is the smallest missing store: the pair is not chosen again
    (Begin 1 2 9 ∷ Issue 0 0 ∷ Commit 0 ∷ Issue 1 0 ∷ Commit 1 ∷ Issue 1 8 ∷ Commit 1 ∷ Issue 0 1 ∷ Commit 0
    ∷ Crash ∷ Load 0 8 5 ∷ Load 0 1 7 ∷ Load 0 0 0 ∷ []) ∷
    -- the pair 1, 5 is on one line, but 3, on another one, is the smallest observed store: flush
    (Begin 1 1 9 ∷ Issue 0 0 ∷ Commit 0 ∷ Issue 0 8 ∷ Commit 0 ∷ Issue 0 1 ∷ Commit 0 ∷ Crash ∷ Load 0 8 3
    ∷ Load 0 1 5 ∷ Load 0 0 0 ∷ []) ∷
    -- not ordered by happens-before: robust, though 1 was committed first; the choice has no rule of lines
    (Begin 1 2 2 ∷ Issue 0 0 ∷ Commit 0 ∷ Issue 1 1 ∷ Commit 1 ∷ Crash ∷ Load 0 0 0 ∷ Load 0 1 3 ∷ []) ∷
    -- one line in two stretches: nothing orders the stores, robust
    (Begin 1 1 2 ∷ Issue 0 0 ∷ Commit 0 ∷ Crash ∷ Issue 0 1 ∷ Commit 0 ∷ Crash ∷ Load 0 0 0 ∷ Load 0 1 4 ∷ []) ∷
    -- a pair of stretch 2, and a load from 1, which is of stretch 1
    (Begin 1 1 2 ∷ Issue 0 0 ∷ Commit 0 ∷ Crash ∷ Issue 0 0 ∷ Commit 0 ∷ Issue 0 1 ∷ Commit 0 ∷ Crash
    ∷ Load 0 0 1 ∷ Load 0 1 6 ∷ []) ∷
    -- a flush and an sfence between the two stores change nothing but numbers
    (Begin 1 1 2 ∷ Issue 0 0 ∷ Commit 0 ∷ Clflush 0 0 ∷ Sfence 0 ∷ Issue 0 1 ∷ Commit 0 ∷ Crash ∷ Load 0 0 0
    ∷ Load 0 1 5 ∷ []) ∷
    -- the load from 3 stands in a skip and does not count: robust
    (Begin 1 1 2 ∷ Issue 0 0 ∷ Commit 0 ∷ Issue 0 1 ∷ Commit 0 ∷ Crash ∷ Load 0 0 0 ∷ SkipOn 0 ∷ Load 0 1 3
    ∷ []) ∷
    -- a refusal outranks it
    (Begin 1 1 2 ∷ Issue 0 0 ∷ Commit 0 ∷ Issue 0 1 ∷ Commit 0 ∷ Crash ∷ Load 0 0 0 ∷ Load 0 1 3 ∷ Commit 0
    ∷ []) ∷
    []

-- the answers, and the cut buffers afterwards
pub answers : List Outcome
answers =
    -- locations 0 and 7, the ends of line 0: impossible, with neither windows nor a primary thread
    (record { answer = broken 7 7 1 3 impossible; cut = lent }) ∷
    -- locations 7 and 8 are neighbours on two lines: flush, with a window
    (record { answer = broken 7 7 1 3 (flush 0 (padded (between 2 3 ∷ []))); cut = lent }) ∷
    -- the same the other way round: the missing store is at 8 and the observed one at 7
    (record { answer = broken 7 7 1 3 (flush 0 (padded (between 2 3 ∷ []))); cut = lent }) ∷
    -- locations 3 and 4, in the middle of a line
    (record { answer = broken 7 7 1 3 impossible; cut = lent }) ∷
    -- locations 8 and 15, the ends of line 1
    (record { answer = broken 7 7 1 3 impossible; cut = lent }) ∷
    -- locations 15 and 16, on lines 1 and 2
    (record { answer = broken 7 7 1 3 (flush 0 (padded (between 2 3 ∷ []))); cut = lent }) ∷
    -- locations 0 and 8, the first words of two lines
    (record { answer = broken 7 7 1 3 (flush 0 (padded (between 2 3 ∷ []))); cut = lent }) ∷
    -- locations 248 and 255, the ends of the last line of 256 locations
    (record { answer = broken 7 7 1 3 impossible; cut = lent }) ∷
    -- locations 247 and 248, on the last two lines
    (record { answer = broken 7 7 1 3 (flush 0 (padded (between 2 3 ∷ []))); cut = lent }) ∷
    -- two stores at one location: 3 would be a contradiction, but 1 is the smallest missing store
    (record { answer = broken 7 7 1 3 impossible; cut = lent }) ∷
    -- ordered by a load, in two threads
    (record { answer = broken 8 8 1 4 impossible; cut = lent }) ∷
    -- ordered by a locked operation that loads 1 and is observed itself
    (record { answer = broken 6 6 1 3 impossible; cut = lent }) ∷
    -- ordered by a locked operation that loads a later store of 1's thread
    (record { answer = broken 8 8 1 5 impossible; cut = lent }) ∷
    -- ordered by a hand-over
    (record { answer = broken 9 9 1 5 impossible; cut = lent }) ∷
    -- a chain through 4, which is on another line: only the lines of missing and observed count
    (record { answer = broken 11 11 1 7 impossible; cut = lent }) ∷
    -- a chain through 4, which is on missing's line, to a store on another one: flush
    (record { answer = broken 11 11 1 7 (flush 0 (padded (none ∷ between 4 4 ∷ between 7 7 ∷ []))); cut = lent }) ∷
    -- of eight threads and 256 locations: the last thread's store is missing, the first one's observed
    (record { answer = broken 8 8 1 4 impossible; cut = lent }) ∷
    -- the pair 1, 3 is on one line too, but 1 is the smallest observed store: a contradiction stays one
    (record { answer = broken 8 8 1 1 contradiction; cut = lent }) ∷
    -- a smaller store on another line, 1, is observed too, but 3 does not happen before it: a contradiction
    (record { answer = broken 8 8 3 3 contradiction; cut = lent }) ∷
    -- load 8, which would make 1 a contradiction, comes behind load 7, where the trace is broken
    (record { answer = broken 8 7 1 3 impossible; cut = lent }) ∷
    -- the pair 1, 5 is on two lines, but 3 is the smallest observed store: the pair is not chosen again
    (record { answer = broken 10 10 1 3 impossible; cut = lent }) ∷
    -- the pair 3, 5 is on two lines, but 1 is the smallest missing store: the pair is not chosen again
    (record { answer = broken 12 12 1 7 impossible; cut = lent }) ∷
    -- the pair 1, 5 is on one line, but 3, on another one, is the smallest observed store: flush
    (record { answer = broken 10 10 1 3 (flush 0 (padded (between 2 3 ∷ []))); cut = lent }) ∷
    -- not ordered by happens-before: robust, though 1 was committed first; the choice has no rule of lines
    (record { answer = robust 7 50; cut = 0 ∷ 1 ∷ zeros 54 }) ∷
    -- one line in two stretches: nothing orders the stores, robust
    (record { answer = robust 8 50; cut = 0 ∷ 0 ∷ 0 ∷ 0 ∷ 0 ∷ 0 ∷ 0 ∷ 0 ∷ 1 ∷ zeros 47 }) ∷
    -- a pair of stretch 2, and a load from 1, which is of stretch 1
    (record { answer = broken 10 10 4 6 impossible; cut = lent }) ∷
    -- a flush and an sfence between the two stores change nothing but numbers
    (record { answer = broken 9 9 1 5 impossible; cut = lent }) ∷
    -- the load from 3 stands in a skip and does not count: robust
    (record { answer = robust 8 0; cut = zeros 56 }) ∷
    -- a refusal outranks it
    (record { answer = refused 10 8; cut = lent }) ∷
    []

encoded : map encode traces ≡ sessions
unfolding traces sessions encode record_of row_of
encoded = refl

computed : map outcome_of_events traces ≡ answers
unfolding traces answers reading_events some last first first_from most stretch count committed commit_of waiting current
    source_fits switched countable held counting any answer rules finished seen clock vc forbids? observes? forbidden?
    observed? pair? missing? bad? closure load_of missing_of observed_of ruling_of behind last_covered window_of fault_of
    tabulate cut_of sum share_of row_of
computed = refl

pub one_line_as_worked : map outcome_of sessions ≡ answers
unfolding traces
one_line_as_worked = ap (map outcome_of) (sym encoded) ∙ (outcome_all traces refl ∙ computed)
