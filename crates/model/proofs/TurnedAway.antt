-- Refusals are exact: a trace's bytes are accepted with N records, or turned away with number k at event e, exactly if
-- document 01's conditions hold, and one of the two holds of all bytes. The search for the first number at which no
-- record passes always ends, since each record that is read takes at least four bytes.
-- In order: what is found at a number, by what reading answers there, and back; the search; the theorem.
use Prim.Native.Nat.{ℕ, zero, suc, ◌+◌, ◌*◌, ◌≤◌, ◌<◌}
use native.Mathlib.Omega.{arith}
use mathlib.Core.Path.{◌≡◌, refl, sym, ap, ◌∙◌}
use mathlib.Core.Bool.{Bool, true, false, ◌&&◌, not}
use mathlib.Core.Logic.{◌⊎◌, inl, inr, ◌≢◌, ◌↔◌}
use mathlib.Core.List.{List}
use lib.ListN.{length}
use lib.Dec.{eqb, ltb}
use borrow.Author.Tests.{eqb-true, eqb-false, eq-eqb, ne_eqb, lt-ltb, not-true, not-false}
use Rattle.record.specs.declared.events.Event.{Event}
use Rattle.record.specs.Answers.{event, refused}
use Rattle.record.specs.Bytes.{word}
use Rattle.record.specs.Events.{kind_of}
use Rattle.record.specs.Parts.{start, size_at}
use Rattle.record.specs.Reading.{read_at}
use Rattle.record.specs.Tests.{◌gives◌else◌}
use Rattle.record.specs.Versions.{known_in, new_at, later_refusal}
use Rattle.record.proofs.Frames.{clash, Answers, an_event, a_refusal}
use Rattle.record.proofs.NewKinds.{kind_there, framed_refused}
use Rattle.record.proofs.Starts.{start_inside, read_grows, read_at_answers, no_size}
use Rattle.model.specs.Search.{some, first}
use Rattle.model.specs.Trace.{version}
use Rattle.model.specs.Rules.{answer, rules, refusal, Accepted}
use Rattle.model.specs.Reading.{refusal_in, events, in_trace, Found, no_record, refused_by, passing, ends_at}
use Rattle.model.specs.Reading.{record_at, passing?, stop, accepted, turned_away, reading_at, reading_of}
use Rattle.model.specs.Reading.{AcceptedWith, TurnedAwayWith}
use Rattle.model.proofs.Searching.{false_true, test, less?, parts, →some, First, first_is}

-- ---- what is found is one of three

is_passing : (f : Found) → passing? f ≡ true → f ≡ passing
is_passing no_record h = false_true h
is_passing (refused_by k) h = false_true h
is_passing passing h = refl

-- the tests of `record_at`, which give the numbers k and f
abbrev tested : Bool → Bool → Bool → ℕ → ℕ → Found
tested ends unread forbidden k f =
    ends gives no_record else unread gives refused_by k else forbidden gives refused_by f else passing

none_applies :
    (ends unread forbidden : Bool) (k f : ℕ) → tested ends unread forbidden k f ≡ passing
    → (unread ≡ false) × (forbidden ≡ false)
none_applies true unread forbidden k f h = absurd (clash cc)
none_applies false true forbidden k f h = absurd (clash cc)
none_applies false false true k f h = absurd (clash cc)
none_applies false false false k f h = (refl, refl)

first_applies : (ends unread forbidden : Bool) (k f : ℕ) → tested ends unread forbidden k f ≡ no_record → ends ≡ true
first_applies true unread forbidden k f h = refl
first_applies false true forbidden k f h = absurd (clash cc)
first_applies false false true k f h = absurd (clash cc)
first_applies false false false k f h = absurd (clash cc)

module _ (bytes : List ℕ) where
  -- ---- what is found at number n, by what reading answers there

  module _ (n : ℕ) where
    pub ends_there : start bytes n ≡ length bytes → record_at bytes n ≡ no_record
    unfolding record_at
    ends_there ends = simp (eq-eqb (start bytes n) (length bytes) ends)

    not_ended : start bytes n ≢ length bytes → ends_at bytes n ≡ false
    not_ended inside = ne_eqb (start bytes n) (length bytes) inside

    -- the number by which reading refuses a record stays; or it is 4, and becomes 3
    stays_or_becomes_3 : (k : ℕ) → (in_trace bytes n k ≡ k) ⊎ ((k ≡ 4) × (in_trace bytes n k ≡ 3))
    unfolding later_refusal
    stays_or_becomes_3 k = by_tests (ltb 0 n) (eqb k 4) (new_at (version (events bytes)) bytes (start bytes n)) refl
      where
        by_tests :
            (later is_4 new : Bool) → eqb k 4 ≡ is_4
            → ((later gives (is_4 && new gives 3 else k) else k) ≡ k)
            ⊎ ((k ≡ 4) × ((later gives (is_4 && new gives 3 else k) else k) ≡ 3))
        by_tests false is_4 new is = inl refl
        by_tests true false new is = inl refl
        by_tests true true false is = inl refl
        by_tests true true true is = inr (eqb-true k 4 is, refl)

    -- so it is some number, no other than 4 changes, and 1 comes of 1 alone
    in_trace_some : (k : ℕ) → k ≢ 0 → in_trace bytes n k ≢ 0
    in_trace_some k some none = by_number (stays_or_becomes_3 k)
      where
        by_number : (in_trace bytes n k ≡ k) ⊎ ((k ≡ 4) × (in_trace bytes n k ≡ 3)) → ⊥
        by_number (inl same) = some (sym same ∙ none)
        by_number (inr (is_4, is_3)) = omega (arith, sym is_3 ∙ none)

    in_trace_other : (k : ℕ) → k ≢ 4 → in_trace bytes n k ≡ k
    in_trace_other k differs = by_number (stays_or_becomes_3 k)
      where
        by_number : (in_trace bytes n k ≡ k) ⊎ ((k ≡ 4) × (in_trace bytes n k ≡ 3)) → in_trace bytes n k ≡ k
        by_number (inl same) = same
        by_number (inr (is_4, is_3)) = absurd (differs is_4)

    pub in_trace_one : (k : ℕ) → in_trace bytes n k ≡ 1 → k ≡ 1
    in_trace_one k is = by_number (stays_or_becomes_3 k)
      where
        by_number : (in_trace bytes n k ≡ k) ⊎ ((k ≡ 4) × (in_trace bytes n k ≡ 3)) → k ≡ 1
        by_number (inl same) = sym same ∙ is
        by_number (inr (is_4, is_3)) = absurd (omega (arith, sym is_3 ∙ is))

    pub in_trace_1 : in_trace bytes n 1 ≡ 1
    in_trace_1 = in_trace_other 1 (λ is_4. omega arith)

    in_trace_none : in_trace bytes n 0 ≡ 0
    in_trace_none = in_trace_other 0 (λ is_4. omega arith)

    pub unread_there :
        (k e : ℕ) → start bytes n ≢ length bytes → read_at bytes (start bytes n) ≡ refused k e → k ≢ 0
        → record_at bytes n ≡ refused_by (in_trace bytes n k)
    unfolding record_at
    unread_there k e inside is some_number =
        rw (not_ended inside, is, ne_eqb (in_trace bytes n k) 0 (in_trace_some k some_number))

    module _ (x : Event) (next : ℕ) (is : read_at bytes (start bytes n) ≡ event x next) where
      -- a record that is read is there
      read_inside : start bytes n ≢ length bytes
      read_inside same = omega (arith, read_grows bytes n x next is, start_inside bytes (suc n))

      pub forbidden_there :
          (k : ℕ) → refusal (events bytes) n ≡ k → k ≢ 0 → record_at bytes n ≡ refused_by k
      unfolding record_at
      forbidden_there k forbids some_number =
          rw (not_ended read_inside, is, in_trace_none, forbids, ne_eqb k 0 some_number)

      pub passing_there : refusal (events bytes) n ≡ 0 → record_at bytes n ≡ passing
      unfolding record_at
      passing_there passes = rw (not_ended read_inside, is, in_trace_none, passes)

    -- "LATER IN A VERSION 1 TRACE THEY GET 3, AHEAD OF A WRONG LENGTH": a later record that is framed, and whose kind
    -- the trace's version does not know, by the rules if it can be read, else in the place of 4
    pub new_gets_3 :
        0 < n → new_at (version (events bytes)) bytes (start bytes n) ≡ true → record_at bytes n ≡ refused_by 3
    unfolding events rules answer later_refusal
    new_gets_3 later new = by_answer (read_at_answers bytes (start bytes n))
      where
        both_hold :
            (not (eqb (size_at bytes (start bytes n)) 0) ≡ true)
            × (not (known_in (version (events bytes)) (word bytes (start bytes n + 2))) ≡ true)
        both_hold = parts (not (eqb (size_at bytes (start bytes n)) 0)) _ new

        some_size : size_at bytes (start bytes n) ≢ 0
        some_size = eqb-false _ 0 (not-true _ both_hold.0)

        inside : start bytes n ≢ length bytes
        inside ends = some_size (no_size bytes (start bytes n) (omega arith))

        by_number : (k : ℕ) → (k ≡ 3) ⊎ (k ≡ 4) → in_trace bytes n k ≡ 3
        by_number k (inl is_3) = in_trace_other k (λ is_4. omega arith) ∙ is_3
        by_number k (inr is_4) = rw (is_4, lt-ltb 0 n later, new) refl

        by_answer : Answers (read_at bytes (start bytes n)) → record_at bytes n ≡ refused_by 3
        by_answer (an_event x next is) =
            let kind_is = kind_there bytes (start bytes n) x next is in
            let unknown : not (known_in (version (events bytes)) (kind_of x)) ≡ true = rw kind_is both_hold.1 in
            forbidden_there x next is 3 (rw (is, lt-ltb 0 n later, unknown) refl) (λ none. omega arith)
        by_answer (a_refusal k low high is) =
            let number = by_number k (framed_refused bytes (start bytes n) k 0 some_size is) in
            rw number at (unread_there k 0 inside is (λ none. omega arith))

    -- ---- and back

    -- record n is read, and its event passes the rules
    pub record Passed : Type 0 where
      pub x : Event
      pub next : ℕ
      pub is_read : read_at bytes (start bytes n) ≡ event x next
      pub passes : refusal (events bytes) n ≡ 0

    abbrev some? : ℕ → Bool
    some? k = not (eqb k 0)

    abbrev unread : ℕ
    unread = in_trace bytes n (refusal_in (read_at bytes (start bytes n)))

    abbrev forbidden : ℕ
    forbidden = refusal (events bytes) n

    pub passed→ : record_at bytes n ≡ passing → Passed
    unfolding record_at
    passed→ h =
        let (is_read, passes) = none_applies (ends_at bytes n) (some? unread) (some? forbidden) unread forbidden h in
        by_answer (eqb-true unread 0 (not-false _ is_read)) (eqb-true forbidden 0 (not-false _ passes))
        (read_at_answers bytes (start bytes n))
      where
        by_answer : unread ≡ 0 → forbidden ≡ 0 → Answers (read_at bytes (start bytes n)) → Passed
        by_answer is_read passes (an_event x next is) =
            record { x = x; next = next; is_read = is; passes = passes }
        by_answer is_read passes (a_refusal k low high is) =
            absurd (in_trace_some k (λ none. omega arith) (rw is at is_read))

    -- the bytes end right behind the first n records
    pub ended→ : record_at bytes n ≡ no_record → start bytes n ≡ length bytes
    unfolding record_at
    ended→ h =
        eqb-true (start bytes n) (length bytes)
        (first_applies (ends_at bytes n) (some? unread) (some? forbidden) unread forbidden h)

  -- ---- the search ends

  -- records that all pass take four bytes each
  pub four_bytes_each : (n : ℕ) → ((e : ℕ) → e < n → record_at bytes e ≡ passing) → n * 4 ≤ start bytes n
  four_bytes_each zero all = omega arith
  four_bytes_each (suc n) all =
      let p = passed→ n (all n (omega arith)) in
      let before = four_bytes_each n (λ e l. all e (omega arith)) in
      omega (arith, read_grows bytes n p.x p.next p.is_read)

  stops? : ℕ → Bool
  stops? e = not (passing? (record_at bytes e))

  passes_unless : (e : ℕ) → stops? e ≡ false → record_at bytes e ≡ passing
  unfolding stops?
  passes_unless e h = is_passing (record_at bytes e) (not-false _ h)

  some_stops : some (suc (length bytes)) stops? ≡ true
  some_stops = by_search (test (some (suc (length bytes)) stops?))
    where
      by_search :
          (some (suc (length bytes)) stops? ≡ true) ⊎ (some (suc (length bytes)) stops? ≡ false)
          → some (suc (length bytes)) stops? ≡ true
      by_search (inl found) = found
      by_search (inr none) =
          absurd (omega (arith, four_bytes_each (suc (length bytes)) all, start_inside bytes (suc (length bytes))))
        where
          all : (e : ℕ) → e < suc (length bytes) → record_at bytes e ≡ passing
          all e l = by_test (test (stops? e))
            where
              by_test : (stops? e ≡ true) ⊎ (stops? e ≡ false) → record_at bytes e ≡ passing
              by_test (inl h) = false_true (sym none ∙ →some (suc (length bytes)) stops? e l h)
              by_test (inr h) = passes_unless e h

  -- the first number at which no record passes
  record Stops (e : ℕ) : Type 0 where
    earlier_pass : (i : ℕ) → i < e → record_at bytes i ≡ passing
    stopped : record_at bytes e ≢ passing

  stop_is : Stops (stop bytes)
  unfolding stop stops?
  stop_is = record { earlier_pass = earlier; stopped = λ h. false_true (sym (not-true _ f.passes) ∙ ap passing? h) }
    where
      f : First (suc (length bytes)) stops? (first (suc (length bytes)) stops?)
      f = first_is (suc (length bytes)) stops? some_stops

      earlier : (i : ℕ) → i < first (suc (length bytes)) stops? → record_at bytes i ≡ passing
      earlier i l = by_test (test (stops? i))
        where
          by_test : (stops? i ≡ true) ⊎ (stops? i ≡ false) → record_at bytes i ≡ passing
          by_test (inl h) = absurd (omega (arith, f.smallest i h))
          by_test (inr h) = passes_unless i h

  -- there is one such number
  stop_unique : (e : ℕ) → Stops e → stop bytes ≡ e
  stop_unique e s = by_order (less? (stop bytes) e) (less? e (stop bytes))
    where
      by_order : (stop bytes < e) ⊎ (e ≤ stop bytes) → (e < stop bytes) ⊎ (stop bytes ≤ e) → stop bytes ≡ e
      by_order (inl l) m = absurd (stop_is.stopped (s.earlier_pass (stop bytes) l))
      by_order (inr l) (inl m) = absurd (s.stopped (stop_is.earlier_pass e m))
      by_order (inr l) (inr m) = omega arith

  -- ---- the theorem

  -- the reading is what is found at the first number e at which no record passes
  reading_is :
      (e : ℕ) (f : Found) → ((i : ℕ) → i < e → record_at bytes i ≡ passing) → record_at bytes e ≡ f → f ≢ passing
      → reading_of bytes ≡ reading_at e f
  unfolding reading_of
  reading_is e f earlier is other =
      let stops : Stops e = record { earlier_pass = earlier; stopped = λ h. other (sym is ∙ h) } in
      rw (stop_unique e stops, is)

  pub accepted_exactly : (N : ℕ) → (reading_of bytes ≡ accepted N) ↔ AcceptedWith bytes N
  unfolding reading_of
  accepted_exactly N = (λ h. to (record_at bytes (stop bytes)) refl h, from)
    where
      to : (f : Found) → record_at bytes (stop bytes) ≡ f → reading_at (stop bytes) f ≡ accepted N → AcceptedWith bytes N
      to no_record is h =
          let same : stop bytes ≡ N = cc in
          record { all_pass = λ e l. stop_is.earlier_pass e (omega arith); ends = rw same at is }
      to (refused_by k) is h = absurd (clash cc)
      to passing is h = absurd (stop_is.stopped is)

      from : AcceptedWith bytes N → reading_of bytes ≡ accepted N
      from a = reading_is N no_record a.all_pass a.ends (λ h. clash cc)

  pub turned_away_exactly : (k e : ℕ) → (reading_of bytes ≡ turned_away k e) ↔ TurnedAwayWith bytes k e
  unfolding reading_of
  turned_away_exactly k e = (λ h. to (record_at bytes (stop bytes)) refl h, from)
    where
      to :
          (f : Found) → record_at bytes (stop bytes) ≡ f → reading_at (stop bytes) f ≡ turned_away k e
          → TurnedAwayWith bytes k e
      to no_record is h = absurd (clash cc)
      to (refused_by number) is h =
          let same : stop bytes ≡ e = cc in
          let numbers : number ≡ k = cc in
          record { earlier_pass = λ i l. stop_is.earlier_pass i (omega arith); number = rw (same, numbers) at is }
      to passing is h = absurd (stop_is.stopped is)

      from : TurnedAwayWith bytes k e → reading_of bytes ≡ turned_away k e
      from t = reading_is e (refused_by k) t.earlier_pass t.number (λ h. clash cc)

  -- the events of an accepted trace's bytes are an accepted trace
  pub accepted_events : (N : ℕ) → AcceptedWith bytes N → Accepted (events bytes) N
  accepted_events N a = record { passes = λ n l. (passed→ n (a.all_pass n l)).passes }
