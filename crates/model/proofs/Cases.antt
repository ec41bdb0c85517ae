-- Document 01, "Sessions": "Cases 1 to 11 are the proved ones." The definitions give each case's bytes the answer that
-- document 01 states, for cases 1, 4 and 5 with the kind of document 02, job 5, and the cut buffer; case 11 stands for
-- both its loads. Shown together as one list, by computation. Made by tools/oracle/proof_file.py.
use mathlib.Core.Path.{◌≡◌, refl, sym, ap, ◌∙◌}
use mathlib.Core.List.{List, [], ◌∷◌, map}
use Prim.Native.Nat.{ℕ}
use Rattle.record.specs.declared.events.Event.{Event}
use Rattle.record.specs.declared.events.Event.TheVariants.{Begin, Issue, Commit, Load, Crash, SkipOn}
use Rattle.record.specs.Events.{record_of}
use Rattle.record.specs.Table.{row_of}
use Rattle.model.specs.Search.{some, any, last, first, first_from, most}
use Rattle.model.specs.Trace.{stretch, count}
use Rattle.model.specs.Machine.{committed, commit_of, waiting, current, source_fits, switched}
use Rattle.model.specs.Machine.{countable, held, counting}
use Rattle.model.specs.Rules.{answer, rules}
use Rattle.model.specs.Choice.{finished}
use Rattle.model.specs.Clocks.{seen, clock, vc}
use Rattle.model.specs.Verdict.{forbids?, observes?, forbidden?, observed?, pair?, missing?, bad?, closure}
use Rattle.model.specs.Verdict.{load_of, missing_of, observed_of, ruling_of}
use Rattle.model.specs.Windows.{behind, last_covered, window_of}
use Rattle.model.specs.Answers.{refused, robust, broken, contradiction, impossible}
use Rattle.model.specs.Answers.{tabulate, cut_of, sum, share_of, fault_of}
use Rattle.model.specs.Reading.{encode}
use Rattle.model.proofs.Encoding.{reading_events}
use Rattle.model.proofs.Sessions.{lent, zeros, Outcome, outcome_of, outcome_of_events, outcome_all}

-- the bytes
pub sessions : List (List ℕ)
sessions =
    -- case 1
    (8 ∷ 0 ∷ 1 ∷ 0 ∷ 1 ∷ 0 ∷ 1 ∷ 0 ∷ 2 ∷ 0 ∷ 6 ∷ 0 ∷ 2 ∷ 0 ∷ 0 ∷ 0 ∷ 0 ∷ 0 ∷ 4 ∷ 0 ∷ 3 ∷ 0 ∷ 0 ∷ 0
    ∷ 6 ∷ 0 ∷ 2 ∷ 0 ∷ 0 ∷ 0 ∷ 1 ∷ 0 ∷ 4 ∷ 0 ∷ 3 ∷ 0 ∷ 0 ∷ 0 ∷ 6 ∷ 0 ∷ 2 ∷ 0 ∷ 0 ∷ 0 ∷ 0 ∷ 0
    ∷ 4 ∷ 0 ∷ 3 ∷ 0 ∷ 0 ∷ 0 ∷ 6 ∷ 0 ∷ 2 ∷ 0 ∷ 0 ∷ 0 ∷ 1 ∷ 0 ∷ 4 ∷ 0 ∷ 3 ∷ 0 ∷ 0 ∷ 0
    ∷ 2 ∷ 0 ∷ 9 ∷ 0 ∷ 8 ∷ 0 ∷ 4 ∷ 0 ∷ 0 ∷ 0 ∷ 0 ∷ 0 ∷ 1 ∷ 0
    ∷ 8 ∷ 0 ∷ 4 ∷ 0 ∷ 0 ∷ 0 ∷ 1 ∷ 0 ∷ 7 ∷ 0 ∷ []) ∷
    -- case 2
    (8 ∷ 0 ∷ 1 ∷ 0 ∷ 1 ∷ 0 ∷ 2 ∷ 0 ∷ 2 ∷ 0 ∷ 6 ∷ 0 ∷ 2 ∷ 0 ∷ 0 ∷ 0 ∷ 0 ∷ 0 ∷ 4 ∷ 0 ∷ 3 ∷ 0 ∷ 0 ∷ 0
    ∷ 6 ∷ 0 ∷ 2 ∷ 0 ∷ 1 ∷ 0 ∷ 1 ∷ 0 ∷ 4 ∷ 0 ∷ 3 ∷ 0 ∷ 1 ∷ 0 ∷ 2 ∷ 0 ∷ 9 ∷ 0
    ∷ 8 ∷ 0 ∷ 4 ∷ 0 ∷ 0 ∷ 0 ∷ 0 ∷ 0 ∷ 0 ∷ 0 ∷ 8 ∷ 0 ∷ 4 ∷ 0 ∷ 0 ∷ 0 ∷ 1 ∷ 0 ∷ 3 ∷ 0 ∷ []) ∷
    -- case 3
    (8 ∷ 0 ∷ 1 ∷ 0 ∷ 1 ∷ 0 ∷ 1 ∷ 0 ∷ 2 ∷ 0 ∷ 6 ∷ 0 ∷ 2 ∷ 0 ∷ 0 ∷ 0 ∷ 0 ∷ 0 ∷ 4 ∷ 0 ∷ 3 ∷ 0 ∷ 0 ∷ 0
    ∷ 6 ∷ 0 ∷ 2 ∷ 0 ∷ 0 ∷ 0 ∷ 1 ∷ 0 ∷ 4 ∷ 0 ∷ 3 ∷ 0 ∷ 0 ∷ 0 ∷ 6 ∷ 0 ∷ 2 ∷ 0 ∷ 0 ∷ 0 ∷ 0 ∷ 0
    ∷ 4 ∷ 0 ∷ 3 ∷ 0 ∷ 0 ∷ 0 ∷ 6 ∷ 0 ∷ 2 ∷ 0 ∷ 0 ∷ 0 ∷ 1 ∷ 0 ∷ 4 ∷ 0 ∷ 3 ∷ 0 ∷ 0 ∷ 0
    ∷ 2 ∷ 0 ∷ 9 ∷ 0 ∷ 8 ∷ 0 ∷ 4 ∷ 0 ∷ 0 ∷ 0 ∷ 0 ∷ 0 ∷ 5 ∷ 0
    ∷ 8 ∷ 0 ∷ 4 ∷ 0 ∷ 0 ∷ 0 ∷ 1 ∷ 0 ∷ 7 ∷ 0 ∷ []) ∷
    -- case 4
    (8 ∷ 0 ∷ 1 ∷ 0 ∷ 1 ∷ 0 ∷ 1 ∷ 0 ∷ 2 ∷ 0 ∷ 6 ∷ 0 ∷ 2 ∷ 0 ∷ 0 ∷ 0 ∷ 0 ∷ 0 ∷ 4 ∷ 0 ∷ 3 ∷ 0 ∷ 0 ∷ 0
    ∷ 6 ∷ 0 ∷ 2 ∷ 0 ∷ 0 ∷ 0 ∷ 1 ∷ 0 ∷ 4 ∷ 0 ∷ 3 ∷ 0 ∷ 0 ∷ 0 ∷ 2 ∷ 0 ∷ 9 ∷ 0
    ∷ 8 ∷ 0 ∷ 4 ∷ 0 ∷ 0 ∷ 0 ∷ 0 ∷ 0 ∷ 0 ∷ 0 ∷ 6 ∷ 0 ∷ 2 ∷ 0 ∷ 0 ∷ 0 ∷ 1 ∷ 0
    ∷ 4 ∷ 0 ∷ 3 ∷ 0 ∷ 0 ∷ 0 ∷ 2 ∷ 0 ∷ 9 ∷ 0 ∷ 8 ∷ 0 ∷ 4 ∷ 0 ∷ 0 ∷ 0 ∷ 1 ∷ 0 ∷ 3 ∷ 0 ∷ []) ∷
    -- case 5
    (8 ∷ 0 ∷ 1 ∷ 0 ∷ 1 ∷ 0 ∷ 2 ∷ 0 ∷ 2 ∷ 0 ∷ 6 ∷ 0 ∷ 2 ∷ 0 ∷ 0 ∷ 0 ∷ 0 ∷ 0 ∷ 4 ∷ 0 ∷ 3 ∷ 0 ∷ 0 ∷ 0
    ∷ 8 ∷ 0 ∷ 4 ∷ 0 ∷ 1 ∷ 0 ∷ 0 ∷ 0 ∷ 1 ∷ 0 ∷ 6 ∷ 0 ∷ 2 ∷ 0 ∷ 1 ∷ 0 ∷ 1 ∷ 0
    ∷ 4 ∷ 0 ∷ 3 ∷ 0 ∷ 1 ∷ 0 ∷ 2 ∷ 0 ∷ 9 ∷ 0 ∷ 8 ∷ 0 ∷ 4 ∷ 0 ∷ 0 ∷ 0 ∷ 0 ∷ 0 ∷ 0 ∷ 0
    ∷ 8 ∷ 0 ∷ 4 ∷ 0 ∷ 0 ∷ 0 ∷ 1 ∷ 0 ∷ 4 ∷ 0 ∷ []) ∷
    -- case 6
    (8 ∷ 0 ∷ 1 ∷ 0 ∷ 1 ∷ 0 ∷ 2 ∷ 0 ∷ 2 ∷ 0 ∷ 6 ∷ 0 ∷ 2 ∷ 0 ∷ 0 ∷ 0 ∷ 0 ∷ 0 ∷ 4 ∷ 0 ∷ 3 ∷ 0 ∷ 0 ∷ 0
    ∷ 6 ∷ 0 ∷ 2 ∷ 0 ∷ 1 ∷ 0 ∷ 1 ∷ 0 ∷ 8 ∷ 0 ∷ 4 ∷ 0 ∷ 1 ∷ 0 ∷ 0 ∷ 0 ∷ 1 ∷ 0
    ∷ 4 ∷ 0 ∷ 3 ∷ 0 ∷ 1 ∷ 0 ∷ 2 ∷ 0 ∷ 9 ∷ 0 ∷ 8 ∷ 0 ∷ 4 ∷ 0 ∷ 0 ∷ 0 ∷ 0 ∷ 0 ∷ 0 ∷ 0
    ∷ 8 ∷ 0 ∷ 4 ∷ 0 ∷ 0 ∷ 0 ∷ 1 ∷ 0 ∷ 3 ∷ 0 ∷ []) ∷
    -- case 7
    (8 ∷ 0 ∷ 1 ∷ 0 ∷ 1 ∷ 0 ∷ 1 ∷ 0 ∷ 2 ∷ 0 ∷ 6 ∷ 0 ∷ 2 ∷ 0 ∷ 0 ∷ 0 ∷ 0 ∷ 0 ∷ 4 ∷ 0 ∷ 3 ∷ 0 ∷ 0 ∷ 0
    ∷ 2 ∷ 0 ∷ 9 ∷ 0 ∷ 8 ∷ 0 ∷ 4 ∷ 0 ∷ 0 ∷ 0 ∷ 0 ∷ 0 ∷ 1 ∷ 0
    ∷ 8 ∷ 0 ∷ 4 ∷ 0 ∷ 0 ∷ 0 ∷ 0 ∷ 0 ∷ 0 ∷ 0 ∷ []) ∷
    -- case 8
    (8 ∷ 0 ∷ 1 ∷ 0 ∷ 1 ∷ 0 ∷ 1 ∷ 0 ∷ 2 ∷ 0 ∷ 6 ∷ 0 ∷ 2 ∷ 0 ∷ 0 ∷ 0 ∷ 0 ∷ 0 ∷ 2 ∷ 0 ∷ 9 ∷ 0
    ∷ 8 ∷ 0 ∷ 4 ∷ 0 ∷ 0 ∷ 0 ∷ 0 ∷ 0 ∷ 1 ∷ 0 ∷ []) ∷
    -- case 9
    (8 ∷ 0 ∷ 1 ∷ 0 ∷ 1 ∷ 0 ∷ 1 ∷ 0 ∷ 2 ∷ 0 ∷ []) ∷
    -- case 10
    (8 ∷ 0 ∷ 1 ∷ 0 ∷ 1 ∷ 0 ∷ 1 ∷ 0 ∷ 2 ∷ 0 ∷ 6 ∷ 0 ∷ 2 ∷ 0 ∷ 0 ∷ 0 ∷ 0 ∷ 0 ∷ 4 ∷ 0 ∷ 3 ∷ 0 ∷ 0 ∷ 0
    ∷ 6 ∷ 0 ∷ 2 ∷ 0 ∷ 0 ∷ 0 ∷ 1 ∷ 0 ∷ 4 ∷ 0 ∷ 3 ∷ 0 ∷ 0 ∷ 0 ∷ 6 ∷ 0 ∷ 2 ∷ 0 ∷ 0 ∷ 0 ∷ 0 ∷ 0
    ∷ 4 ∷ 0 ∷ 3 ∷ 0 ∷ 0 ∷ 0 ∷ 6 ∷ 0 ∷ 2 ∷ 0 ∷ 0 ∷ 0 ∷ 1 ∷ 0 ∷ 4 ∷ 0 ∷ 3 ∷ 0 ∷ 0 ∷ 0
    ∷ 2 ∷ 0 ∷ 9 ∷ 0 ∷ 8 ∷ 0 ∷ 4 ∷ 0 ∷ 0 ∷ 0 ∷ 0 ∷ 0 ∷ 1 ∷ 0 ∷ 4 ∷ 0 ∷ 10 ∷ 0 ∷ 0 ∷ 0
    ∷ 8 ∷ 0 ∷ 4 ∷ 0 ∷ 0 ∷ 0 ∷ 1 ∷ 0 ∷ 7 ∷ 0 ∷ []) ∷
    -- case 11, from 1
    (8 ∷ 0 ∷ 1 ∷ 0 ∷ 1 ∷ 0 ∷ 2 ∷ 0 ∷ 2 ∷ 0 ∷ 6 ∷ 0 ∷ 2 ∷ 0 ∷ 0 ∷ 0 ∷ 0 ∷ 0
    ∷ 6 ∷ 0 ∷ 2 ∷ 0 ∷ 1 ∷ 0 ∷ 0 ∷ 0 ∷ 4 ∷ 0 ∷ 3 ∷ 0 ∷ 1 ∷ 0 ∷ 4 ∷ 0 ∷ 3 ∷ 0 ∷ 0 ∷ 0
    ∷ 2 ∷ 0 ∷ 9 ∷ 0 ∷ 8 ∷ 0 ∷ 4 ∷ 0 ∷ 0 ∷ 0 ∷ 0 ∷ 0 ∷ 1 ∷ 0 ∷ []) ∷
    -- case 11, from 2
    (8 ∷ 0 ∷ 1 ∷ 0 ∷ 1 ∷ 0 ∷ 2 ∷ 0 ∷ 2 ∷ 0 ∷ 6 ∷ 0 ∷ 2 ∷ 0 ∷ 0 ∷ 0 ∷ 0 ∷ 0
    ∷ 6 ∷ 0 ∷ 2 ∷ 0 ∷ 1 ∷ 0 ∷ 0 ∷ 0 ∷ 4 ∷ 0 ∷ 3 ∷ 0 ∷ 1 ∷ 0 ∷ 4 ∷ 0 ∷ 3 ∷ 0 ∷ 0 ∷ 0
    ∷ 2 ∷ 0 ∷ 9 ∷ 0 ∷ 8 ∷ 0 ∷ 4 ∷ 0 ∷ 0 ∷ 0 ∷ 0 ∷ 0 ∷ 2 ∷ 0 ∷ []) ∷
    []

-- the events that they are the records of
traces : List (List Event)
traces =
    -- case 1
    (Begin 1 1 2 ∷ Issue 0 0 ∷ Commit 0 ∷ Issue 0 1 ∷ Commit 0 ∷ Issue 0 0 ∷ Commit 0 ∷ Issue 0 1 ∷ Commit 0
    ∷ Crash ∷ Load 0 0 1 ∷ Load 0 1 7 ∷ []) ∷
    -- case 2
    (Begin 1 2 2 ∷ Issue 0 0 ∷ Commit 0 ∷ Issue 1 1 ∷ Commit 1 ∷ Crash ∷ Load 0 0 0 ∷ Load 0 1 3 ∷ []) ∷
    -- case 3
    (Begin 1 1 2 ∷ Issue 0 0 ∷ Commit 0 ∷ Issue 0 1 ∷ Commit 0 ∷ Issue 0 0 ∷ Commit 0 ∷ Issue 0 1 ∷ Commit 0
    ∷ Crash ∷ Load 0 0 5 ∷ Load 0 1 7 ∷ []) ∷
    -- case 4
    (Begin 1 1 2 ∷ Issue 0 0 ∷ Commit 0 ∷ Issue 0 1 ∷ Commit 0 ∷ Crash ∷ Load 0 0 0 ∷ Issue 0 1 ∷ Commit 0
    ∷ Crash ∷ Load 0 1 3 ∷ []) ∷
    -- case 5
    (Begin 1 2 2 ∷ Issue 0 0 ∷ Commit 0 ∷ Load 1 0 1 ∷ Issue 1 1 ∷ Commit 1 ∷ Crash ∷ Load 0 0 0 ∷ Load 0 1 4
    ∷ []) ∷
    -- case 6
    (Begin 1 2 2 ∷ Issue 0 0 ∷ Commit 0 ∷ Issue 1 1 ∷ Load 1 0 1 ∷ Commit 1 ∷ Crash ∷ Load 0 0 0 ∷ Load 0 1 3
    ∷ []) ∷
    -- case 7
    (Begin 1 1 2 ∷ Issue 0 0 ∷ Commit 0 ∷ Crash ∷ Load 0 0 1 ∷ Load 0 0 0 ∷ []) ∷
    -- case 8
    (Begin 1 1 2 ∷ Issue 0 0 ∷ Crash ∷ Load 0 0 1 ∷ []) ∷
    -- case 9
    (Begin 1 1 2 ∷ []) ∷
    -- case 10
    (Begin 1 1 2 ∷ Issue 0 0 ∷ Commit 0 ∷ Issue 0 1 ∷ Commit 0 ∷ Issue 0 0 ∷ Commit 0 ∷ Issue 0 1 ∷ Commit 0
    ∷ Crash ∷ Load 0 0 1 ∷ SkipOn 0 ∷ Load 0 1 7 ∷ []) ∷
    -- case 11, from 1
    (Begin 1 2 2 ∷ Issue 0 0 ∷ Issue 1 0 ∷ Commit 1 ∷ Commit 0 ∷ Crash ∷ Load 0 0 1 ∷ []) ∷
    -- case 11, from 2
    (Begin 1 2 2 ∷ Issue 0 0 ∷ Issue 1 0 ∷ Commit 1 ∷ Commit 0 ∷ Crash ∷ Load 0 0 2 ∷ []) ∷
    []

-- the answers, and the cut buffers afterwards
pub answers : List Outcome
answers =
    -- case 1
    (record { answer = broken 11 11 5 7 impossible; cut = lent }) ∷
    -- case 2
    (record { answer = robust 7 50; cut = 0 ∷ 1 ∷ zeros 54 }) ∷
    -- case 3
    (record { answer = robust 11 100; cut = 4 ∷ zeros 55 }) ∷
    -- case 4
    (record { answer = broken 10 10 1 3 impossible; cut = lent }) ∷
    -- case 5
    (record { answer = broken 8 8 1 4 impossible; cut = lent }) ∷
    -- case 6
    (record { answer = robust 8 50; cut = 0 ∷ 1 ∷ zeros 54 }) ∷
    -- case 7
    (record { answer = broken 5 5 1 1 contradiction; cut = lent }) ∷
    -- case 8
    (record { answer = refused 9 3; cut = lent }) ∷
    -- case 9
    (record { answer = robust 0 100; cut = zeros 56 }) ∷
    -- case 10
    (record { answer = robust 12 25; cut = 1 ∷ zeros 55 }) ∷
    -- case 11, from 1
    (record { answer = robust 6 50; cut = 1 ∷ zeros 55 }) ∷
    -- case 11, from 2
    (record { answer = robust 6 50; cut = 0 ∷ 1 ∷ zeros 54 }) ∷
    []

encoded : map encode traces ≡ sessions
unfolding traces sessions encode record_of row_of
encoded = refl

computed : map outcome_of_events traces ≡ answers
unfolding traces answers reading_events some last first first_from most stretch count committed commit_of waiting current
    source_fits switched countable held counting any answer rules finished seen clock vc forbids? observes? forbidden?
    observed? pair? missing? bad? closure load_of missing_of observed_of ruling_of behind last_covered window_of fault_of
    tabulate cut_of sum share_of row_of
computed = refl

pub cases_1_to_11 : map outcome_of sessions ≡ answers
unfolding traces
cases_1_to_11 = ap (map outcome_of) (sym encoded) ∙ (outcome_all traces refl ∙ computed)
