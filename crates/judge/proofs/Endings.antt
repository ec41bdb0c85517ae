-- The end of a run, and what is answered after it: behind the last record the trace is accepted with as many records as
-- the machine has events, and the marks give the verdict and the cut buffer; and the rows of two stores say how these
-- stand.
use mathlib.Core.Path.{◌≡◌, refl, sym, ap, ◌∙◌, subst}
use mathlib.Core.Bool.{Bool, true, false, ◌&&◌}
use mathlib.Core.Logic.{◌⊎◌, inl, inr, ◌≢◌}
use mathlib.Core.List.{List}
use Prim.Native.Nat.{ℕ, ◌-◌, ◌≤◌, ◌<◌}
use native.Mathlib.Omega.{arith}
use borrow.Author.Tests.{eq-eqb, ne_eqb}
use lib.ListN.{length, replicate}
use lib.Dec.{eqb}
use Rattle.std.specs.Prelude.{Result, Ok, Err, Option, Some, None, is_none}
use Rattle.record.specs.Tests.{◌gives◌else◌}
use Rattle.record.proofs.Frames.{clash}
use Rattle.model.specs.declared.Kind.TheVariants.{Flush, Impossible}
use Rattle.model.specs.declared.Verdict.{Verdict}
use Rattle.model.specs.declared.Verdict.TheVariants.{Robust, Broken}
use Rattle.model.specs.declared.Refusal.{Refusal}
use Rattle.model.specs.Answers as answers
use Rattle.model.specs.Rules.{Accepted}
use Rattle.model.specs.Trace.{thread, line}
use Rattle.model.specs.HappensBefore.{Before, AtOrBefore}
use Rattle.model.specs.Choice.{Ruling, robust, broken, Exact}
use Rattle.model.specs.Choice as choice
use Rattle.model.specs.Verdict.{ruling_of}
use Rattle.model.specs.Windows.{window_of}
use Rattle.model.specs.Reading.{Reading, accepted, turned_away, events, begun_reading}
use Rattle.model.specs.Judge.{ruled_answer, reading_answer, reading_cut, store?, standing, reading_standing}
use Rattle.model.proofs.Searching.{same?}
use Rattle.model.proofs.Ordering.{before_lt, at_or_before_le}
use Rattle.model.proofs.Exactness.{exact, named_missing, named_observed}
use Rattle.model.proofs.NoBytes.{begun_away, begun_accepted_exactly}
use Rattle.area.specs.Cells.{one_line_w}
use Rattle.area.proofs.ReadBack.{up_is}
use Rattle.area.proofs.SameLine.{one_line_is}
use Rattle.machine.specs.Orders.{store_w, order_w}
use Rattle.machine.specs.Twin.{World}
use Rattle.machine.specs.Sim.{Sim}
use Rattle.machine.proofs.Standings.{store_is, order_is}
use Rattle.machine.proofs.Closing.{committed_is}
use Rattle.marks.specs.declared.cells.Marks.{Marks}
use Rattle.marks.specs.Ending.{copied}
use Rattle.marks.proofs.Matched.{broken_at_ruling, unbroken_robust}
use Rattle.windows.specs.Finding.{windows_by}
use Rattle.windows.proofs.Answered.{flush_answered}
use Rattle.judge.specs.declared.run.Begun.{Begun}
use Rattle.judge.specs.declared.stop.Stop.{Stop}
use Rattle.judge.specs.Runs.{number_of, world_of, AllRead, Stopped, AnswersAsDefined}
use Rattle.judge.specs.Standings.{stand_by, standing_after}
use Rattle.judge.specs.Verdicts.{kind_by, verdict_by, verdict_after, cut_from}

-- numbers that were all cleared, as many as were lent
pub all_cleared : (l : List ℕ) (m n : ℕ) → l ≡ replicate m 0 → m ≡ n → l ≡ replicate n 0
all_cleared l m n cleared size = cleared ∙ ap (λ (i : ℕ). replicate i 0) size

-- the number of records that a reading is accepted with
abbrev records_in : Reading → ℕ
records_in (accepted N) = N
records_in (turned_away k e) = 0

module _ (bytes : List ℕ) where
  -- what is answered, and what becomes of the cut buffer
  abbrev pub AnsweredWithCut : Result Verdict Refusal → List ℕ → List ℕ → Type 0
  AnsweredWithCut v cut cut' =
      (answers.verdict_answer v ≡ reading_answer bytes (begun_reading bytes))
      × (cut' ≡ reading_cut bytes cut (begun_reading bytes))

  -- ---- a record that is turned away

  module _ (k e : ℕ) (away : begun_reading bytes ≡ turned_away k e) where
    pub refused_with_cut : (cut : List ℕ) → AnsweredWithCut (Err (record { number = k; event = e })) cut cut
    refused_with_cut cut = (rw away refl, rw away refl)

    -- such a trace is not accepted
    pub refused_answers : (work : List ℕ) → AnswersAsDefined bytes (Err (record { number = k; event = e })) work
    refused_answers work = record { answer = rw away refl; rows = λ N whole. absurd (clash cc) }

  -- ---- all records of an accepted trace

  module _
      (b : Begun) (N : ℕ) (tables : List ℕ) (m : Marks) (work : List ℕ)
      (all : AllRead bytes b N tables m work) where
    is_accepted : begun_reading bytes ≡ accepted N
    is_accepted = (begun_accepted_exactly bytes N).1 (all.accepted, all.state.limits.begun)

    whole : Accepted (events bytes) N
    whole = all.state.limits.accepted

    abbrev w : World
    w = world_of bytes b all.stretch all.row tables work

    -- the rows after a run that answers v
    rows_there :
        (v : Result Verdict Refusal) → answers.verdict_answer v ≡ reading_answer bytes (begun_reading bytes)
        → AnswersAsDefined bytes v work
    rows_there v answer_is = record {
      answer = answer_is;
      rows = λ M also.
          let same : N ≡ M = ap records_in (sym is_accepted ∙ also) in
          (w, (refl, subst (λ (K : ℕ). Sim (events bytes) K w) same all.state));
    }

    -- the code's kind is the definitions', windows included, for the pair that the ruling names
    kind_is :
        (l p q : ℕ) → ruling_of (events bytes) N ≡ broken l p q
        → answers.kind_answer (kind_by bytes work p q) ≡ answers.fault_of (events bytes) p q
    unfolding answers.fault_of
    kind_is l p q is = by_order it.pair.order
      where
        it : choice.Broken (events bytes) N l p q
        it = subst (Exact (events bytes) N) is (exact (events bytes) N whole)

        q_early : q < N
        q_early = omega (arith, (named_observed (events bytes) whole it).early, it.inside)

        lines_are : one_line_w work p q ≡ eqb (line (events bytes) p) (line (events bytes) q)
        lines_are =
            let order = at_or_before_le (events bytes) p q it.pair.order in
            one_line_is (events bytes) N work all.state.rows p q (omega (arith, q_early))
            (named_missing (events bytes) it) q_early (named_observed (events bytes) whole it).store

        by_line :
            Before (events bytes) p q → (one_line : Bool)
            → answers.kind_answer (one_line gives Impossible else Flush (windows_by bytes work p q))
            ≡ (one_line gives answers.impossible else
            answers.flush (thread (events bytes) p) (answers.tabulate 8 (window_of (events bytes) p q)))
        by_line before true = refl
        by_line before false = flush_answered bytes N all.accepted work all.state.rows p q before q_early

        by_order :
            AtOrBefore (events bytes) p q
            → answers.kind_answer (kind_by bytes work p q) ≡ answers.fault_of (events bytes) p q
        by_order (inl same) =
            let one_line = ap (λ (e : ℕ). line (events bytes) e) same in
            rw (lines_are, eq-eqb p q same, eq-eqb (line (events bytes) p) (line (events bytes) q) one_line) refl
        by_order (inr before) =
            let differ : p ≢ q = λ same. omega (arith, before_lt (events bytes) before) in
            rw (lines_are, ne_eqb p q differ) (by_line before (eqb (line (events bytes) p) (line (events bytes) q)))

    module _ (stop : Stop) (is_1 : number_of stop ≡ 1) (cut : List ℕ) (right_size : length cut ≡ 56) where
      abbrev cut' : List ℕ
      cut' = cut_from stop m cut

      -- what is answered by the load that breaks the trace, and what becomes of the cut buffer
      abbrev AnsweredBy : Option ℕ → Type 0
      AnsweredBy recorded =
          AnsweredWithCut (Ok (verdict_by bytes (N - 1) tables m work recorded)) cut
          (is_none recorded gives copied 56 m.cut cut else cut)

      broken_with_cut :
          (load : ℕ) → m.broken ≡ Some load → AnsweredWithCut (verdict_after bytes stop N tables m work) cut cut'
      broken_with_cut load is_load =
          let early = all.loads.early load is_load in
          let few : load ≤ 2049 = omega (arith, all.state.limits.few_events) in
          let ruling = broken_at_ruling (events bytes) N work m whole all.state.rows all.loads load is_load in
          let answered : AnsweredBy (Some load) = (
            rw (is_accepted, up_is load few, ruling, kind_is load _ _ ruling) refl,
            rw (is_accepted, ruling) refl,
          )
          in
          rw is_1 (subst AnsweredBy (sym is_load) answered)

      robust_with_cut : m.broken ≡ None → AnsweredWithCut (verdict_after bytes stop N tables m work) cut cut'
      robust_with_cut none =
          let end = unbroken_robust (events bytes) N m whole (all.loads.none_yet none) in
          let total = committed_is (events bytes) N w all.state in
          let answered : AnsweredBy None = (
            rw (is_accepted, end.ruling, end.stores_in_lem, total, end.share) refl,
            rw (is_accepted, end.ruling, end.cut cut right_size) refl,
          )
          in
          rw is_1 (subst AnsweredBy (sym none) answered)

      -- THE VERDICT AFTER ALL RECORDS, AND THE CUT BUFFER, ARE THE DEFINITIONS'
      all_with_cut : AnsweredWithCut (verdict_after bytes stop N tables m work) cut cut'
      all_with_cut = by_load m.broken refl
        where
          by_load :
              (recorded : Option ℕ) → m.broken ≡ recorded
              → AnsweredWithCut (verdict_after bytes stop N tables m work) cut cut'
          by_load None none = robust_with_cut none
          by_load (Some load) is_load = broken_with_cut load is_load

      all_answers : AnswersAsDefined bytes (verdict_after bytes stop N tables m work) work
      all_answers = rows_there (verdict_after bytes stop N tables m work) all_with_cut.0

  -- ---- a run that is over before record n

  module _
      (b : Begun) (n : ℕ) (stop : Stop) (tables : List ℕ) (m : Marks) (work : List ℕ)
      (stopped : Stopped bytes b n (number_of stop) tables m work) (cut : List ℕ)
      (right_size : length cut ≡ 56)
    where
      abbrev Over : Result Verdict Refusal → List ℕ → Type 0
      Over v cut' = AnsweredWithCut v cut cut' × AnswersAsDefined bytes v work

      over :
          (number_of stop ≡ 1) ⊎ (number_of stop ≢ 1)
          → Over (verdict_after bytes stop n tables m work) (cut_from stop m cut)
      over (inl is_1) =
          let all = stopped.all_read is_1 in (
            all_with_cut b n tables m work all stop is_1 cut right_size,
            all_answers b n tables m work all stop is_1 cut right_size,
          )
      over (inr not_1) =
          let k = number_of stop in
          let away = begun_away bytes k n (stopped.is_turned_away not_1) in
          rw (ne_eqb k 1 not_1) (refused_with_cut k n away cut, refused_answers k n away work)

      pub stopped_with_cut :
          AnsweredWithCut (verdict_after bytes stop n tables m work) cut (cut_from stop m cut)
      stopped_with_cut = (over (same? (number_of stop) 1)).0

      pub stopped_answers : AnswersAsDefined bytes (verdict_after bytes stop n tables m work) work
      stopped_answers = (over (same? (number_of stop) 1)).1

  -- ---- the order query

  module _
      (v : Result Verdict Refusal) (work : List ℕ) (answers_it : AnswersAsDefined bytes v work) (p q : ℕ) where
    -- of an accepted trace of N records: 16, or what the rows say
    module _ (N : ℕ) (is : begun_reading bytes ≡ accepted N) where
      there : (w : World) × ((w.work ≡ work) × Sim (events bytes) N w)
      there = answers_it.rows N is

      by_stores :
          (p_store q_store : Bool) → store? (events bytes) N p ≡ p_store → store? (events bytes) N q ≡ q_store
          → answers.order_answer
          ((p_store && q_store) gives Ok (order_w work p q) else Err (record { number = 16; event = 0 }))
          ≡ standing (events bytes) N p q
      by_stores true true is_p is_q =
          let (w, (same, sim)) = there in
          rw (sym same) (order_is (events bytes) N w sim p q is_p is_q)
      by_stores true false is_p is_q = rw (is_p, is_q) refl
      by_stores false q_store is_p is_q = rw is_p refl

      stands :
          (count : ℕ) → count ≡ N - 1
          → answers.order_answer (stand_by count work p q) ≡ standing (events bytes) N p q
      stands count is_count =
          let (w, (same, sim)) = there in
          let stores : (i : ℕ) → store_w work (N - 1) i ≡ store? (events bytes) N i =
          λ i. rw (sym same) (store_is (events bytes) N w sim i)
          in
          rw is_count
          (by_stores (store_w work (N - 1) p) (store_w work (N - 1) q) (sym (stores p)) (sym (stores q)))

    -- an accepted trace of N records is not refused, and what is answered has N - 1 events
    never_refused : (N : ℕ) (r : Ruling) {k e : ℕ} → answers.refused k e ≡ ruled_answer (events bytes) N r → ⊥
    never_refused N (robust c) is = cc
    never_refused N (broken l m o) is = cc

    robust_events :
        (N : ℕ) (r : Ruling) {count share : ℕ} → answers.robust count share ≡ ruled_answer (events bytes) N r
        → count ≡ N - 1
    robust_events N (robust c) is = cc
    robust_events N (broken l m o) is = cc

    broken_events :
        (N : ℕ) (r : Ruling) {count l m o : ℕ} {fault : answers.Fault}
        → answers.broken count l m o fault ≡ ruled_answer (events bytes) N r → count ≡ N - 1
    broken_events N (robust c) is = cc
    broken_events N (broken l m o) is = cc

    accepted_standing :
        (N : ℕ) → begun_reading bytes ≡ accepted N → (u : Result Verdict Refusal)
        → answers.verdict_answer u ≡ reading_answer bytes (accepted N)
        → answers.order_answer (standing_after u work p q) ≡ standing (events bytes) N p q
    accepted_standing N is (Ok (Robust count share)) answer_is =
        stands N is count (robust_events N (ruling_of (events bytes) N) answer_is)
    accepted_standing N is (Ok (Broken count l missing observed kind)) answer_is =
        stands N is count (broken_events N (ruling_of (events bytes) N) answer_is)
    accepted_standing N is (Err r) answer_is = absurd (never_refused N (ruling_of (events bytes) N) answer_is)

    refused_standing :
        (k e : ℕ) (u : Result Verdict Refusal) → answers.verdict_answer u ≡ answers.refused k e
        → answers.order_answer (standing_after u work p q) ≡ answers.refused k e
    refused_standing k e (Ok (Robust count share)) answer_is = cc
    refused_standing k e (Ok (Broken count l missing observed kind)) answer_is = cc
    refused_standing k e (Err r) answer_is = cc

    -- THE ANSWER AFTER A RUN IS THE DEFINITIONS'
    pub standing_is :
        answers.order_answer (standing_after v work p q) ≡ reading_standing bytes p q (begun_reading bytes)
    standing_is = by_reading (begun_reading bytes) refl answers_it.answer
      where
        by_reading :
            (r : Reading) → begun_reading bytes ≡ r → answers.verdict_answer v ≡ reading_answer bytes r
            → answers.order_answer (standing_after v work p q) ≡ reading_standing bytes p q r
        by_reading (turned_away k e) is answer_is = refused_standing k e v answer_is
        by_reading (accepted N) is answer_is = accepted_standing N is v answer_is
