-- A trace written record by record is read as its events: where each record starts, what is read there, and that the
-- bytes end behind the last one. So what the definitions say of such bytes is what they say of the list of events,
-- which computes at once.
use Prim.Native.Nat.{ℕ, zero, suc, ◌+◌, ◌≤◌, ◌<◌}
use native.Mathlib.Omega.{arith}
use mathlib.Core.Path.{◌≡◌, refl, sym, ap, ◌∙◌, fun_ext}
use mathlib.Core.Bool.{Bool, true, false, cond, not}
use mathlib.Core.Logic.{◌⊎◌, inl, inr}
use mathlib.Core.List.{List, [], ◌++◌}
use lib.ListN.{length, drop, length-drop, get_or-eq_default}
use lib.Seq.{drop-drop, drop-cons, drop-length, drop-append_seam}
use lib.Dec.{eqb, ltb}
use borrow.Author.Tests.{eqb-true, eqb-false, not-true, not-false}
use Rattle.record.specs.declared.events.Event.{Event}
use Rattle.record.specs.declared.events.Event.TheVariants.{Crash}
use Rattle.record.specs.Answers.{refused, event}
use Rattle.record.specs.Events.{record_of}
use Rattle.record.specs.Fields.{columns, fields_of, TwoByte}
use Rattle.record.specs.Parts.{start, size_at}
use Rattle.record.specs.Reading.{read_first, read_at}
use Rattle.record.proofs.Computed.{every}
use Rattle.record.proofs.RoundTrips.{write_read}
use Rattle.record.proofs.Starts.{start_inside, start_mono, read_at_lem, read_past, read_past_end}
use Rattle.model.specs.Search.{some, first}
use Rattle.model.specs.Trace.{trace_of}
use Rattle.model.specs.Rules.{refusal, Accepted}
use Rattle.model.specs.Reading.{events, encode, passing, record_at, Reading, accepted, turned_away, reading_of}
use Rattle.model.specs.Reading.{AcceptedWith, TurnedAwayWith}
use Rattle.model.specs.Answers as Answers
use Rattle.model.specs.Verdict.{ruling_of}
use Rattle.model.specs.Judge.{ruled_answer, ruled_cut, reading_answer, reading_cut}
use Rattle.model.proofs.Searching.{false_true, test, less?, →some, First, first_is}
use Rattle.model.proofs.TurnedAway.{forbidden_there, passing_there, ends_there}
use Rattle.model.proofs.TurnedAway.{accepted_exactly, turned_away_exactly}

-- ---- the definitions of a trace as a list of events

-- each field of each event is a two-byte number
pub record AllTwoByte (xs : List Event) : Type 0 where
  pub two_byte : (e : ℕ) → e < length xs → TwoByte (fields_of (trace_of xs e))

-- the same, as a test
abbrev pub two_byte? : Event → Bool
two_byte? x = every (λ v. ltb v 65536) (columns (fields_of x))

-- the rules turn event e away
abbrev pub turned? : List Event → ℕ → Bool
turned? xs e = not (eqb (refusal (trace_of xs) e) 0)

-- the reading of a list of events
unfoldable pub reading_events : List Event → Reading
reading_events xs =
    let e = first (length xs) (turned? xs) in
    cond (some (length xs) (turned? xs)) (turned_away (refusal (trace_of xs) e) e) (accepted (length xs))

-- the answer to a list of events, and the cut buffer afterwards
abbrev pub answer_events : List Event → Reading → Answers.Answer
answer_events xs (turned_away k e) = Answers.refused k e
answer_events xs (accepted N) = ruled_answer (trace_of xs) N (ruling_of (trace_of xs) N)

abbrev pub cut_events : List Event → List ℕ → Reading → List ℕ
cut_events xs cut (turned_away k e) = cut
cut_events xs cut (accepted N) = ruled_cut (trace_of xs) N cut (ruling_of (trace_of xs) N)

-- ---- one record

-- the record of x stands where record i starts: it is read, and behind it stands the rest
next_record :
    (s : List ℕ) (i : ℕ) (x : Event) (rest : List ℕ) → TwoByte (fields_of x) → drop (start s i) s ≡ record_of x ++ rest
    → (read_at s (start s i) ≡ event x (start s (suc i))) × (drop (start s (suc i)) s ≡ rest)
unfolding start
next_record s i x rest small here =
    let at = start s i in
    let n = length (record_of x) in
    let first_read : read_first (drop at s) ≡ event x n = rw here (write_read x rest small) in
    let is_read : read_at s at ≡ event x (at + n) = rw (read_at_lem, first_read) in
    let size_is : at + size_at s at ≡ at + n = sym (read_past s at x (at + n) is_read) in
    let behind : drop (at + n) s ≡ rest = rw (← drop-drop n at s, here) (drop-append_seam (record_of x) rest) in
    (rw size_is is_read, rw size_is behind)

module _ (xs : List Event) (small : AllTwoByte xs) where
  abbrev s : List ℕ
  s = encode xs

  -- ---- where the records start, and what is read there

  -- record e stands in front of the later ones
  front : (e : ℕ) → e < length xs → encode (drop e xs) ≡ record_of (trace_of xs e) ++ encode (drop (suc e) xs)
  unfolding encode
  front e inside = ap encode (drop-cons xs e Crash inside)

  rest_at : (e : ℕ) → e ≤ length xs → drop (start s e) s ≡ encode (drop e xs)
  unfolding start
  rest_at zero inside = refl
  rest_at (suc e) inside =
      (next_record s e (trace_of xs e) (encode (drop (suc e) xs)) (small.two_byte e inside)
      (rest_at e (omega arith) ∙ front e inside)).1

  is_read : (e : ℕ) → e < length xs → read_at s (start s e) ≡ event (trace_of xs e) (start s (suc e))
  is_read e inside =
      (next_record s e (trace_of xs e) (encode (drop (suc e) xs)) (small.two_byte e inside)
      (rest_at e (omega arith) ∙ front e inside)).0

  -- the bytes end behind the last record
  nothing_behind : drop (start s (length xs)) s ≡ []
  unfolding encode
  nothing_behind = rest_at (length xs) (omega arith) ∙ ap encode (drop-length xs)

  ends_behind : start s (length xs) ≡ length s
  ends_behind =
      omega (arith, length-drop (start s (length xs)) s, ap length nothing_behind, start_inside s (length xs))

  nothing_later : (e : ℕ) → length xs ≤ e → read_at s (start s e) ≡ refused 1 0
  nothing_later e past =
      sym (read_past_end s (start s e) (omega (arith, ends_behind, start_mono s (length xs) e past)))

  -- ---- events and refusals

  pub same_events : events s ≡ trace_of xs
  unfolding events
  same_events = fun_ext (λ e. by_order e (less? e (length xs)))
    where
      by_order : (e : ℕ) → (e < length xs) ⊎ (length xs ≤ e) → events s e ≡ trace_of xs e
      by_order e (inl inside) = rw (is_read e inside)
      by_order e (inr past) = rw (nothing_later e past) (sym (get_or-eq_default xs Crash past))

  same_refusal : (e : ℕ) → refusal (events s) e ≡ refusal (trace_of xs) e
  same_refusal e = rw same_events

  passing_record : (e : ℕ) → e < length xs → refusal (trace_of xs) e ≡ 0 → record_at s e ≡ passing
  passing_record e inside passes = passing_there s e _ _ (is_read e inside) (same_refusal e ∙ passes)

  -- ---- the reading

  turned_away_there : (e : ℕ) → First (length xs) (turned? xs) e → TurnedAwayWith s (refusal (trace_of xs) e) e
  turned_away_there e found = record {
    earlier_pass = λ i l. passing_record i (omega (arith, found.below)) (passes i (test (turned? xs i)) l);
    number =
        forbidden_there s e _ _ (is_read e found.below) _ (same_refusal e)
        (eqb-false _ _ (not-true _ found.passes));
  }
    where
      passes : (i : ℕ) → (turned? xs i ≡ true) ⊎ (turned? xs i ≡ false) → i < e → refusal (trace_of xs) i ≡ 0
      passes i (inl turned) l = absurd (omega (arith, found.smallest i turned))
      passes i (inr fails) l = eqb-true _ _ (not-false _ fails)

  pub encoded_accepted : Accepted (trace_of xs) (length xs) → AcceptedWith s (length xs)
  encoded_accepted is_accepted = record {
    all_pass = λ e l. passing_record e l (is_accepted.passes e l);
    ends = ends_there s (length xs) ends_behind;
  }

  accepted_there : some (length xs) (turned? xs) ≡ false → AcceptedWith s (length xs)
  accepted_there none =
      encoded_accepted (record { passes = λ e l. passes e (test (turned? xs e)) l })
    where
      passes : (e : ℕ) → (turned? xs e ≡ true) ⊎ (turned? xs e ≡ false) → e < length xs → refusal (trace_of xs) e ≡ 0
      passes e (inl turned) l = false_true (sym none ∙ →some (length xs) (turned? xs) e l turned)
      passes e (inr fails) l = eqb-true _ _ (not-false _ fails)

  pub same_reading : reading_of s ≡ reading_events xs
  unfolding reading_events
  same_reading = by_search (test (some (length xs) (turned? xs)))
    where
      by_search :
          (some (length xs) (turned? xs) ≡ true) ⊎ (some (length xs) (turned? xs) ≡ false)
          → reading_of s ≡ reading_events xs
      by_search (inl found) =
          let e = first (length xs) (turned? xs) in
          rw found ((turned_away_exactly s _ e).1 (turned_away_there e (first_is (length xs) (turned? xs) found)))
      by_search (inr none) = rw none ((accepted_exactly s (length xs)).1 (accepted_there none))

  -- ---- the answer

  pub same_answer : (r : Reading) → reading_answer s r ≡ answer_events xs r
  same_answer (accepted N) = rw same_events
  same_answer (turned_away k e) = refl

  pub same_cut : (cut : List ℕ) (r : Reading) → reading_cut s cut r ≡ cut_events xs cut r
  same_cut cut (accepted N) = rw same_events
  same_cut cut (turned_away k e) = refl
