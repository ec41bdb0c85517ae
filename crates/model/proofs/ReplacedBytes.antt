-- Locked operations replaced by their three records in a trace's bytes (specs/Locked.antt): the bytes of the longer
-- trace are accepted, and the verdict on them is, windows apart, that on the trace, event numbers carried over. For
-- accepted bytes are their events, encoded, and answers rest on what Replacements and Unlocked carry over.
-- In order: the answer to a list of events; bytes; one record; all of them.
use Prim.Native.Nat.{ℕ, ◌+◌, ◌-◌, ◌*◌, ◌≤◌, ◌<◌}
use native.Mathlib.Omega.{arith}
use mathlib.Core.Path.{◌≡◌, refl, sym, ◌∙◌, ap}
use mathlib.Core.Bool.{true}
use mathlib.Core.List.{List}
use mathlib.Core.Logic.{◌⊎◌, inl, inr, ◌≢◌}
use lib.ListN.{length}
use lib.Dec.{eqb}
use Rattle.record.specs.declared.events.Event.{Event}
use Rattle.record.specs.declared.events.Event.TheVariants.{Crash}
use Rattle.record.proofs.RoundTrips.{AllBytes}
use Rattle.model.specs.Trace.{trace_of, line, Issue}
use Rattle.model.specs.Rules.{Accepted}
use Rattle.model.specs.Choice.{Ruling, robust, broken, Exact}
use Rattle.model.specs.Answers.{fault_of}
use Rattle.model.specs.Reading.{events, first_events, encode, AcceptedWith}
use Rattle.model.specs.Judge.{ruled_answer, judge_of, cut_after}
use Rattle.model.specs.Flushes.{carry_by, shifted_by}
use Rattle.model.specs.Locked.{locked?, as_load, as_store, replaced, unlocked, locked_before, unlocked_load}
use Rattle.model.specs.Locked.{unlocked_store, bare_fault, bare, SameBareVerdict}
use Rattle.model.proofs.Searching.{same?}
use Rattle.model.proofs.Numberings.{injective_eqb}
use Rattle.model.proofs.Faults.{by_kind}
use Rattle.model.proofs.Tabulating.{tabulate_length, tabulate_at}
use Rattle.model.proofs.Exactness.{named_missing, named_observed}
use Rattle.model.proofs.Encoding.{AllTwoByte, encoded_accepted}
use Rattle.model.proofs.AcceptedBytes.{accepted_encoded, accepted_two_byte, accepted_list}
use Rattle.model.proofs.Carrying.{carried_share, carried_answer, carried_cut}
use Rattle.model.proofs.Replacing.{length_replaced}
use Rattle.model.proofs.Replacements.{Replacement, one_replaced}
use Rattle.model.proofs.Unlocked.{length_unlocked, all_replaced}

-- ---- the answer to a list of events

module _ {f g : ℕ → ℕ} {short long : List Event} (by : Replacement f g short long) where
  fault_same :
      (p q : ℕ) → Issue (trace_of short) p → Issue (trace_of short) q
      → bare_fault (fault_of (trace_of long) (g p) (g q)) ≡ bare_fault (fault_of (trace_of short) p q)
  unfolding fault_of
  fault_same p q p_store q_store =
      rw (
        injective_eqb g by.numbers_differ p q,
        by.thread_there p_store,
        by.location_there p_store,
        by.location_there q_store,
      )
      (by_kind bare_fault bare_fault refl refl (eqb p q) (eqb (line (trace_of short) p) (line (trace_of short) q)) _ _ refl)

  -- n records more; none, where there is no record
  module _ (n : ℕ) (longer : length long ≡ length short + n) (of_none : length short ≡ 0 → n ≡ 0) where
    -- "Events after begin"
    more_events : length long - 1 ≡ length short - 1 + n
    more_events = by_length (same? (length short) 0)
      where
        by_length : (length short ≡ 0) ⊎ (length short ≢ 0) → length long - 1 ≡ length short - 1 + n
        by_length (inl none) = omega (arith, of_none none)
        by_length (inr some) = omega arith

    ruled_bare :
        (v : Ruling) → Exact (trace_of short) (length short) v
        → bare (ruled_answer (trace_of long) (length long) (carry_by f g v))
        ≡ shifted_by f g bare_fault n (ruled_answer (trace_of short) (length short) v)
    ruled_bare (robust c) least = rw (more_events, carried_share by.same c)
    ruled_bare (broken load missing observed) it =
        let settled = named_observed (trace_of short) by.same.short_accepted it in
        rw (more_events, fault_same missing observed (named_missing (trace_of short) it) settled.store)

-- ---- bytes

module _ (bytes : List ℕ) (all_bytes : AllBytes bytes) (N : ℕ) (accepted : AcceptedWith bytes N) where
  -- the events of the trace
  abbrev es : List Event
  es = first_events bytes N

  es_length : length es ≡ N
  es_length = tabulate_length N (events bytes)

  es_accepted : Accepted (trace_of es) (length es)
  es_accepted = accepted_list bytes all_bytes N accepted

  module _
      {f g : ℕ → ℕ} {long : List Event} (by : Replacement f g es long)
      (n : ℕ) (longer : length long ≡ N + n) (of_none : N ≡ 0 → n ≡ 0) where
    es_small : AllTwoByte es
    es_small = accepted_two_byte bytes all_bytes N accepted

    bytes_accepted : AcceptedWith (encode long) (N + n)
    bytes_accepted = rw longer at (encoded_accepted long (by.two_byte es_small) by.same.long_accepted)

    bytes_verdict : SameBareVerdict f g n (encode long) bytes
    bytes_verdict = record { answer = answer; cut_buffer = cut_buffer }
      where
        as_encoded : encode es ≡ bytes
        as_encoded = sym (accepted_encoded bytes all_bytes N accepted)

        answer :
            (work cut : ℕ) → bare (judge_of (encode long) work cut) ≡ shifted_by f g bare_fault n (judge_of bytes work cut)
        answer work cut =
            carried_answer by.same es_small (by.two_byte es_small) bare (shifted_by f g bare_fault n) (λ k. refl)
            (ruled_bare by n (longer ∙ ap (λ m. m + n) (sym es_length)) (λ none. of_none (sym es_length ∙ none)))
            work cut
            ∙ ap (λ (s : List ℕ). shifted_by f g bare_fault n (judge_of s work cut)) as_encoded

        cut_buffer : (work : ℕ) (cut : List ℕ) → cut_after (encode long) work cut ≡ cut_after bytes work cut
        cut_buffer work cut =
            carried_cut by.same es_small (by.two_byte es_small) work cut
            ∙ ap (λ (s : List ℕ). cut_after s work cut) as_encoded

  -- ---- one record

  -- WITH LOCKED OPERATION k REPLACED BY LOAD, ISSUE AND COMMIT, WHILE THE EVENT LIMIT HOLDS, A TRACE IS ACCEPTED, AND
  -- HAS THE SAME VERDICT, CUT AND SHARE, EVENT NUMBERS CARRIED OVER
  module _ (k : ℕ) (below : k < N) (locked : locked? (events bytes k) ≡ true) (room : N + 2 ≤ 2049) where
    there : k < length es
    there = rw es_length below

    one : Replacement (as_load k) (as_store k) es (replaced k es)
    one =
        one_replaced es es_accepted k there (rw (tabulate_at N (events bytes) k Crash below) locked) (rw es_length room)

    longer_by_2 : length (replaced k es) ≡ N + 2
    longer_by_2 = rw es_length at (length_replaced es k there)

    pub replaced_bytes_accepted : AcceptedWith (encode (replaced k es)) (N + 2)
    replaced_bytes_accepted = bytes_accepted one 2 longer_by_2 (λ none. absurd (omega arith))

    pub replaced_verdict : SameBareVerdict (as_load k) (as_store k) 2 (encode (replaced k es)) bytes
    replaced_verdict = bytes_verdict one 2 longer_by_2 (λ none. absurd (omega arith))

  -- ---- all of them

  -- THE SAME WITH ALL LOCKED OPERATIONS REPLACED
  module _ (room : length (unlocked es) ≤ 2049) where
    all : Replacement (unlocked_load es) (unlocked_store es) es (unlocked es)
    all = all_replaced es es_accepted room

    longer_by_all : length (unlocked es) ≡ N + 2 * locked_before es N
    longer_by_all = length_unlocked es ∙ ap (λ (m : ℕ). m + 2 * locked_before es m) es_length

    none_locked : N ≡ 0 → 2 * locked_before es N ≡ 0
    unfolding locked_before
    none_locked none = rw none

    pub all_replaced_bytes_accepted : AcceptedWith (encode (unlocked es)) (N + 2 * locked_before es N)
    all_replaced_bytes_accepted = bytes_accepted all (2 * locked_before es N) longer_by_all none_locked

    pub all_replaced_verdict :
        SameBareVerdict (unlocked_load es) (unlocked_store es) (2 * locked_before es N) (encode (unlocked es)) bytes
    all_replaced_verdict = bytes_verdict all (2 * locked_before es N) longer_by_all none_locked
