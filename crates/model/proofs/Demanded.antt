-- Demand 3 of the computed answer, and document 02's kinds and windows: for every accepted trace, with any buffers that
-- refusals 14 and 15 let pass, what `judge_of` answers and `cut_after` leaves in the cut buffer make the claim of
-- specs/Demand.antt. And demand 1: a trace that is turned away is refused, and a refusal leaves the cut buffer as lent.
use Prim.Native.Nat.{ℕ, suc, ◌≤◌, ◌<◌}
use native.Mathlib.Omega.{arith}
use mathlib.Core.Path.{◌≡◌, refl, ◌∙◌}
use mathlib.Core.Bool.{Bool, true, false}
use mathlib.Core.Logic.{◌⊎◌, inl, inr, ◌≢◌}
use mathlib.Core.List.{List}
use lib.ListN.{length, get_or}
use borrow.Author.Tests.{eq-eqb, ne_eqb, le-ltb}
use Rattle.record.specs.declared.events.Event.{Event}
use Rattle.record.specs.Tests.{◌gives◌else◌}
use Rattle.model.specs.Trace.{thread, line}
use Rattle.model.specs.HappensBefore.{Before, AtOrBefore}
use Rattle.model.specs.Rules.{Accepted}
use Rattle.model.specs.Choice.{Ruling, robust, broken, Broken, Exact}
use Rattle.model.specs.Windows.{none, window_of}
use Rattle.model.specs.Verdict.{ruling_of}
use Rattle.model.specs.Reading.{events, Reading, accepted, turned_away, reading_of}
use Rattle.model.specs.Reading.{AcceptedWith, TurnedAwayWith}
use Rattle.model.specs.Answers.{refused, tabulate, fault_of}
use Rattle.model.specs.Judge.{small_work, wrong_cut, ruled_answer, ruled_cut, reading_answer, reading_cut}
use Rattle.model.specs.Judge.{judge_of, cut_after}
use Rattle.model.specs.Demand.{FlushClaims, ImpossibleClaims, FaultClaims, Claims}
use Rattle.model.proofs.Searching.{same?}
use Rattle.model.proofs.Tabulating.{tabulate_length, tabulate_at}
use Rattle.model.proofs.Ordering.{before_lt}
use Rattle.model.proofs.Acceptance.{prefix}
use Rattle.model.proofs.Ranges.{issue_has_thread, thread_bound}
use Rattle.model.proofs.Closure.{CommittedEarlier}
use Rattle.model.proofs.CacheLines.{committed_first, no_memory}
use Rattle.model.proofs.WindowPlaces.{window_is, brings_itself_none, observed_has_window}
use Rattle.model.proofs.FlushPlaces.{some_window}
use Rattle.model.proofs.Exactness.{exact, named_missing, named_observed}
use Rattle.model.proofs.TurnedAway.{accepted_exactly, turned_away_exactly, accepted_events}

-- the kind that is computed, with its windows, claims what is demanded
module _ (ev : ℕ → Event) (N : ℕ) (accepted : Accepted ev N) {load p q : ℕ} (it : Broken ev N load p q) where
  observed_settled : CommittedEarlier ev (suc load) q
  observed_settled = named_observed ev accepted it

  differs : Before ev p q → p ≢ q
  differs before = λ same. omega (arith, before_lt ev before)

  flush_is : Before ev p q → line ev p ≢ line ev q → FlushClaims ev p q (thread ev p) (tabulate 8 (window_of ev p q))
  flush_is before two_lines = record {
    differ = differs before;
    two_lines = two_lines;
    primary_is = refl;
    threads_0_to_7 = tabulate_length 8 (window_of ev p q);
    each = λ t below.
        rw (tabulate_at 8 (window_of ev p q) t none below)
        (window_is ev p q t (named_missing ev it) observed_settled.store);
    observed_none = λ itself.
        at_observed ∙ brings_itself_none ev p q (named_missing ev it) observed_settled.store itself;
    observed_has = λ not_itself.
        let (from, to, is) = observed_has_window ev p q before not_itself in
        (from, to, at_observed ∙ is);
    some_has =
        let (t, from, to, below, is) = some_window ev N accepted p q observed_inside before two_lines in
        (t, from, to, below, tabulate_at 8 (window_of ev p q) t none below ∙ is);
  }
    where
      observed_inside : q < N
      observed_inside = omega (arith, it.inside, observed_settled.early)

      at_observed : get_or (tabulate 8 (window_of ev p q)) (thread ev q) none ≡ window_of ev p q (thread ev q)
      at_observed =
          tabulate_at 8 (window_of ev p q) (thread ev q) none
          (thread_bound ev N accepted q observed_inside (issue_has_thread ev observed_settled.store))

  impossible_is : Before ev p q → line ev p ≡ line ev q → ImpossibleClaims ev (suc load) p q
  impossible_is before one_line =
      let up_to_load = prefix ev N (suc load) accepted it.inside in
      let first = committed_first ev (suc load) up_to_load p q before observed_settled.committed in
      record {
        differ = differs before;
        one_line = one_line;
        committed_first = first;
        no_memory = no_memory ev (suc load) p q it.pair one_line first;
      }

  -- what fault_of answers
  abbrev Claimed : Type 0
  Claimed = FaultClaims ev (suc load) p q (fault_of ev p q)

  pub fault_is : Claimed
  unfolding fault_of
  fault_is = by_order it.pair.order
    where
      by_line : Before ev p q → (line ev p ≡ line ev q) ⊎ (line ev p ≢ line ev q) → Claimed
      by_line before (inl one_line) =
          rw (ne_eqb p q (differs before), eq-eqb (line ev p) (line ev q) one_line) (impossible_is before one_line)
      by_line before (inr two_lines) =
          rw (ne_eqb p q (differs before), ne_eqb (line ev p) (line ev q) two_lines) (flush_is before two_lines)

      by_order : AtOrBefore ev p q → Claimed
      by_order (inl same) = rw (eq-eqb p q same) same
      by_order (inr before) = by_line before (same? (line ev p) (line ev q))

module _ (bytes : List ℕ) (N : ℕ) (accepted : AcceptedWith bytes N) where
  ruling_claims :
      (cut : List ℕ) (v : Ruling) → Exact (events bytes) N v
      → Claims (events bytes) N cut (ruled_cut (events bytes) N cut v) (ruled_answer (events bytes) N v)
  ruling_claims cut (robust c) least = (c, least, refl, refl, refl)
  ruling_claims cut (broken load missing observed) it =
      (it, refl, refl, fault_is (events bytes) N (accepted_events bytes N accepted) it)

  pub judged_as_demanded :
      (work : ℕ) (cut : List ℕ) → 32768 ≤ work → length cut ≡ 56
      → Claims (events bytes) N cut (cut_after bytes work cut) (judge_of bytes work (length cut))
  unfolding judge_of cut_after
  judged_as_demanded work cut enough right_size =
      rw (
        le-ltb work 32768 enough,
        eq-eqb (length cut) 56 right_size,
        (accepted_exactly bytes N).1 accepted,
      )
      (ruling_claims cut (ruling_of (events bytes) N) (exact (events bytes) N (accepted_events bytes N accepted)))

-- a trace that is turned away is refused with that number and event, and the cut buffer is as lent
pub refused_as_demanded :
    (bytes : List ℕ) (k e work : ℕ) (cut : List ℕ) → TurnedAwayWith bytes k e → 32768 ≤ work → length cut ≡ 56
    → (judge_of bytes work (length cut) ≡ refused k e) × (cut_after bytes work cut ≡ cut)
unfolding judge_of cut_after
refused_as_demanded bytes k e work cut turned enough right_size =
    let reading = (turned_away_exactly bytes k e).1 turned in
    let room = le-ltb work 32768 enough in
    let size = eq-eqb (length cut) 56 right_size in
    (rw (room, size, reading), rw (room, size, reading))

-- "A refusal leaves the cut [..] untouched", whatever the buffers
pub refusal_leaves_cut :
    (bytes : List ℕ) (work k e : ℕ) (cut : List ℕ) → judge_of bytes work (length cut) ≡ refused k e
    → cut_after bytes work cut ≡ cut
unfolding judge_of cut_after
refusal_leaves_cut bytes work k e cut = by_tests (small_work work) (wrong_cut (length cut)) (reading_of bytes)
  where
    by_ruling :
        (N : ℕ) (v : Ruling) → ruled_answer (events bytes) N v ≡ refused k e → ruled_cut (events bytes) N cut v ≡ cut
    by_ruling N (robust c) h = let z : ◌≡◌ {A = ℕ} 0 1 = cc in absurd (omega arith)
    by_ruling N (broken load missing observed) h = refl

    by_tests :
        (small wrong : Bool) (r : Reading)
        → (small gives refused 14 0 else wrong gives refused 15 0 else reading_answer bytes r) ≡ refused k e
        → (small gives cut else wrong gives cut else reading_cut bytes cut r) ≡ cut
    by_tests true wrong r h = refl
    by_tests false true r h = refl
    by_tests false false (turned_away number event) h = refl
    by_tests false false (accepted N) h = by_ruling N (ruling_of (events bytes) N) h
