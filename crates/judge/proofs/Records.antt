-- One record of a run. A record that cannot be read, or that a rule forbids, is turned away as the definitions say; any
-- other takes the run on by one record. Where no record is left reading answers 1, which no rule of a later event does.
-- In order: what turns record n away; the first record; a later one; what is left of the run.
use mathlib.Core.Path.{◌≡◌, refl, sym, ap, ◌∙◌, subst}
use mathlib.Core.Bool.{Bool, true, false}
use mathlib.Core.Logic.{◌⊎◌, inl, inr, ◌≢◌}
use mathlib.Core.List.{List}
use Prim.Native.Nat.{ℕ, suc, ◌+◌, ◌≤◌, ◌<◌, ◌-◌}
use native.Mathlib.Omega.{arith}
use native.Mathlib.Nat.{not-suc-le-zero}
use borrow.Author.Tests.{eqb-true, eqb-false, lt-ltb}
use lib.Dec.{eqb}
use lib.ListN.{length}
use Rattle.record.specs.declared.events.Event.{Event}
use Rattle.record.specs.declared.events.Fields.{Fields}
use Rattle.std.specs.Prelude.{Ok, Err}
use Rattle.record.specs.declared.scanning.Scan.{Scan}
use Rattle.record.specs.Answers.{Answer, event, refused, scan_of}
use Rattle.record.specs.Reading.{read_at}
use Rattle.record.specs.Parts.{start}
use Rattle.record.specs.Versions.{later_refusal}
use Rattle.record.specs.Events.{kind_of}
use Rattle.record.specs.Fields.{fields_of}
use Rattle.record.proofs.Scans.{refusals_some, scan_read, scan_refused}
use Rattle.record.proofs.Starts.{read_next, read_grows, read_past_end, one_past_end, start_inside}
use Rattle.model.specs.Trace.{thread}
use Rattle.model.specs.Machine.{held}
use Rattle.model.specs.Rules.{refusal}
use Rattle.model.specs.Reading.{event_in, refusal_in, events, in_trace, passing, record_at, turned_away, begun_reading}
use Rattle.model.specs.Reading.{TurnedAwayWith}
use Rattle.model.proofs.Searching.{same?, test}
use Rattle.model.proofs.TurnedAway.{passed→, ends_there, in_trace_1, in_trace_one, unread_there, forbidden_there}
use Rattle.model.proofs.TurnedAway.{passing_there}
use Rattle.model.proofs.NoBytes.{begun_none, begun_away, no_begin_first}
use Rattle.area.specs.Cells.{event_at}
use Rattle.area.specs.Rows.{HeldLinked}
use Rattle.machine.specs.Tables.{held_in}
use Rattle.machine.specs.Twin.{State, World, world, started}
use Rattle.machine.specs.Turning.{refusal_w, counts_w, begin_refusal}
use Rattle.machine.specs.Effects.{step_w}
use Rattle.std.specs.Prelude.{Result, Ok, Err}
use Rattle.machine.specs.declared.forbidden.Forbidden.{Forbidden}
use Rattle.machine.specs.declared.state.Step.{Step}
use Rattle.machine.specs.Forbidden.{number_of}
use Rattle.machine.proofs.RuleLaws.{number_not_0}
use Rattle.machine.specs.Outcomes.{Outcome, outcome, step_o}
use Rattle.machine.specs.Sim.{Sim}
use Rattle.machine.proofs.Refusals.{refusals, begin_refusals}
use Rattle.machine.proofs.Simulation.{step_next, counts_is, held_is}
use Rattle.machine.proofs.Taken.{refusal_told, counted_told, after_told}
use Rattle.machine.proofs.Start.{sim_start}
use Rattle.marks.specs.declared.cells.Marks.{Marks}
use Rattle.marks.specs.Matching.{MarksMatch}
use Rattle.marks.proofs.Matched.{match_start}
use Rattle.judge.specs.declared.run.Begun.{Begun}
use Rattle.judge.specs.declared.run.Cursor.{Cursor}
use Rattle.judge.specs.Judging.{Stepped}
use Rattle.judge.specs.Runs.{no_tables, machine_in, world_of, Reached, AllRead, Stopped, Began}
use Rattle.judge.proofs.Judging.{event_here}

-- the cursor before the next record
abbrev pub cursor : ℕ → ℕ → ℕ → Cursor
cursor j row at = record { stretch = j; row = row; at = at }

module _ (bytes : List ℕ) where
  -- ---- what turns record n away

  module _ (n : ℕ) where
    -- the record layer's refusal is a number
    unread_some : (k e : ℕ) → read_at bytes (start bytes n) ≡ refused k e → k ≢ 0
    unread_some k e is = (refusals_some bytes (start bytes n) k e is).0

    event_is : (x : Event) (next : ℕ) → read_at bytes (start bytes n) ≡ event x next → events bytes n ≡ x
    unfolding events
    event_is x next is = ap event_in is

    -- ---- a record that is turned away, behind records that pass, whatever the begin said

    module _ (all_pass : (e : ℕ) → e < n → record_at bytes e ≡ passing) where
      unread_away :
          (k e : ℕ) → start bytes n ≢ length bytes → read_at bytes (start bytes n) ≡ refused k e
          → TurnedAwayWith bytes (in_trace bytes n k) n
      unread_away k e inside is =
          record { earlier_pass = all_pass; number = unread_there bytes n k e inside is (unread_some k e is) }

      forbidden_away :
          (k : ℕ) (x : Event) (past : ℕ) → read_at bytes (start bytes n) ≡ event x past
          → refusal (events bytes) n ≡ k → k ≢ 0 → TurnedAwayWith bytes k n
      forbidden_away k x past is_read is some_number =
          record { earlier_pass = all_pass; number = forbidden_there bytes n x past is_read k is some_number }

    -- ---- a record that passes

    -- and the records before it with it
    passing_on :
        (x : Event) (past : ℕ) → ((e : ℕ) → e < n → record_at bytes e ≡ passing)
        → read_at bytes (start bytes n) ≡ event x past → refusal (events bytes) n ≡ 0
        → (e : ℕ) → e < suc n → record_at bytes e ≡ passing
    passing_on x past earlier is_read passes e inside = by_equality (test (eqb e n))
      where
        by_equality : (eqb e n ≡ true) ⊎ (eqb e n ≡ false) → record_at bytes e ≡ passing
        by_equality (inl same) = rw (eqb-true e n same) (passing_there bytes n x past is_read passes)
        by_equality (inr differs) = let other : e ≢ n = eqb-false e n differs in earlier e (omega arith)

  -- ---- the first record

  none_earlier : (e : ℕ) → e < 0 → record_at bytes e ≡ passing
  none_earlier e inside = absurd (not-suc-le-zero inside)

  pub first_unread : (k : ℕ) → read_at bytes 0 ≡ refused k 0 → begun_reading bytes ≡ turned_away k 0
  unfolding start
  first_unread k is = by_size (same? (length bytes) 0)
    where
      by_size : (length bytes ≡ 0) ⊎ (length bytes ≢ 0) → begun_reading bytes ≡ turned_away k 0
      by_size (inl none) =
          let number : k ≡ 1 = ap refusal_in (sym is ∙ sym (read_past_end bytes 0 (omega arith))) in
          begun_none bytes none ∙ rw number refl
      by_size (inr some) =
          begun_away bytes k 0 (unread_away 0 none_earlier k 0 (λ same. some (sym same)) is)

  pub first_forbidden :
      (k : ℕ) (x : Event) (past : ℕ) → read_at bytes 0 ≡ event x past → begin_refusal x ≡ k → k ≢ 0
      → begun_reading bytes ≡ turned_away k 0
  unfolding start
  first_forbidden k x past is_read is some_number =
      begun_away bytes k 0
      (forbidden_away 0 none_earlier k x past is_read
      (sym (begin_refusals (events bytes)) ∙ (ap begin_refusal (event_is 0 x past is_read) ∙ is)) some_number)

  -- what an accepted begin says
  abbrev begun_by : Fields → ℕ → Begun
  begun_by f past = record { version = f.version; threads = f.threads; locations = f.locations; at = past }

  pub first_passes :
      (x : Event) (past : ℕ) → read_at bytes 0 ≡ event x past → begin_refusal x ≡ 0
      → Began bytes (Ok (begun_by (fields_of x) past))
  unfolding start
  first_passes x past is_read is = λ work room.
      let state = first_state work room in
      record {
        position = read_next bytes 0 x past is_read;
        all_pass = passing_on 0 x past none_earlier is_read passes;
        state = state;
        loads = match_start (events bytes) state.limits.accepted;
      }
    where
      event_0 : events bytes 0 ≡ x
      event_0 = event_is 0 x past is_read

      passes : refusal (events bytes) 0 ≡ 0
      passes = sym (begin_refusals (events bytes)) ∙ (ap begin_refusal event_0 ∙ is)

      first_state :
          (work : List ℕ) → 32768 ≤ length work
          → Sim (events bytes) 1 (world (started (fields_of x).version (fields_of x).threads
          (fields_of x).locations) no_tables work)
      first_state work room = rw (sym event_0) (sim_start (events bytes) passes work room)

  -- ---- a later record

  module _
      (b : Begun) (n : ℕ) (t : Cursor) (tables : List ℕ) (m : Marks) (work : List ℕ)
      (reached : Reached bytes b n t tables m work) where
    abbrev at : ℕ
    at = t.at

    abbrev w : World
    w = world_of bytes b t.stretch t.row tables work

    read_there : (a : Answer) → read_at bytes at ≡ a → read_at bytes (start bytes n) ≡ a
    read_there a is = ap (read_at bytes) (sym reached.position) ∙ is

    at_event : (x : Event) (past : ℕ) → read_at bytes at ≡ event x past → events bytes n ≡ x
    at_event x past is = event_is n x past (read_there (event x past) is)

    -- the trace ends here exactly where reading answers 1
    still_inside : (read_at bytes at ≡ refused 1 0 → ⊥) → start bytes n ≢ length bytes
    still_inside not_1 same = not_1 (sym (read_past_end bytes at (omega (arith, reached.position))))

    all_read : length bytes ≤ at → AllRead bytes b n tables m work
    all_read past = record {
      accepted = record {
        all_pass = reached.all_pass;
        ends = ends_there bytes n (omega (arith, start_inside bytes n, reached.position));
      };
      stretch = t.stretch;
      row = t.row;
      state = reached.state;
      loads = reached.loads;
    }

    -- the machine turns the event away as the rules do, and never with number 1
    rule_is : (x : Event) (past : ℕ) → read_at bytes at ≡ event x past → refusal (events bytes) n ≡ refusal_w w x
    rule_is x past is_read =
        sym (refusals (events bytes) n w reached.state) ∙ ap (refusal_w w) (at_event x past is_read)

    -- its number, by the version that the begin said
    in_trace_is : (k : ℕ) → later_refusal b.version bytes at k ≡ in_trace bytes n k
    in_trace_is k =
        rw (lt-ltb 0 n reached.state.limits.begun, ← reached.state.numbers.version_is, ← reached.position) refl

    later_unread :
        (k : ℕ) → read_at bytes at ≡ refused k 0
        → Stopped bytes b n (later_refusal b.version bytes at k) tables m work
    later_unread k is = record {
      all_read = λ is_1.
          let alone : k ≡ 1 = in_trace_one bytes n k (sym (in_trace_is k) ∙ is_1) in
          all_read (one_past_end bytes at 0 (is ∙ ap (λ (i : ℕ). refused i 0) alone));
      is_turned_away = λ not_1.
          rw (in_trace_is k)
          (unread_away n reached.all_pass k 0
          (still_inside (λ ended. not_1 (rw (ap refusal_in (sym is ∙ ended)) (in_trace_is 1 ∙ one_stays))))
          (read_there (refused k 0) is));
    }
      where
        one_stays : in_trace bytes n 1 ≡ 1
        one_stays = in_trace_1 bytes n

    later_forbidden :
        (k : ℕ) (tables' : List ℕ) (m' : Marks) (work' : List ℕ) (x : Event) (past : ℕ)
        → read_at bytes at ≡ event x past → refusal_w w x ≡ k → k ≢ 0
        → Stopped bytes b n k tables' m' work'
    later_forbidden k tables' m' work' x past is_read is some_number = record {
      all_read = λ is_1.
          let first = (no_begin_first (events bytes) n (rule_is x past is_read ∙ (is ∙ is_1))).0 in
          absurd (omega (arith, reached.state.limits.begun));
      is_turned_away = λ _.
          forbidden_away n reached.all_pass k x past (read_there (event x past) is_read)
          (rule_is x past is_read ∙ is) some_number;
    }

    -- judging event n, of kind k and with the fields f, behind the machine's step takes the marks on, to m'
    abbrev JudgedTo : ℕ → Fields → Bool → List ℕ → List ℕ → Marks → Type 0
    JudgedTo k f counted' tables' work' m' =
        Stepped (events bytes) n k counted' tables' work' → fields_of (events bytes n) ≡ f
        → MarksMatch (events bytes) n m → MarksMatch (events bytes) (suc n) m'

    -- after the machine's step the tables and the work area, and the marks after judging the event
    later_passes :
        (x : Event) (past : ℕ) → read_at bytes at ≡ event x past → refusal_w w x ≡ 0
        → (j' row' : ℕ) (counted' : Bool) (tables' : List ℕ) (m' : Marks) (work' : List ℕ)
        → counted' ≡ counts_w w x
        → world_of bytes b j' row' tables' work' ≡ step_w w x
        → JudgedTo (kind_of x) (fields_of x) counted' tables' work' m'
        → Reached bytes b (suc n) (cursor j' row' past) tables' m' work'
    later_passes x past is_read is j' row' counted' tables' m' work' counted_is step_is judged_to = record {
      position = read_next bytes n x past (read_there (event x past) is_read);
      all_pass = passing_on n x past reached.all_pass (read_there (event x past) is_read) passes;
      state = after;
      loads =
          judged_to
          (record {
            accepted = after.limits.accepted;
            kind_is = ap kind_of event_n;
            counts_is =
                sym (counts_is ev n w reached.state passes) ∙ (ap (counts_w w) event_n ∙ sym counted_is);
            chains = after.chains;
            rows = after.rows;
            held_are = λ close.
                let there = held_is ev n w reached.state passes close in
                let world_is = step_is ∙ ap (step_w w) (sym event_n) in
                subst (λ (v : World). HeldLinked ev v.work (held_in v.tables (thread ev n))
                (held ev n (thread ev n)))
                (sym world_is) there;
          })
          (ap fields_of event_n) reached.loads;
    }
      where
        ev : ℕ → Event
        ev = events bytes

        event_n : ev n ≡ x
        event_n = at_event x past is_read

        passes : refusal ev n ≡ 0
        passes = rule_is x past is_read ∙ is

        after : Sim ev (suc n) (world_of bytes b j' row' tables' work')
        after =
            subst (Sim ev (suc n)) (sym (step_is ∙ ap (step_w w) (sym event_n)))
            (step_next ev n w reached.state passes)

    -- the machine's step keeps the begin, which the run knows, and goes on to the next row
    known_begin :
        (x : Event) (past : ℕ) → read_at bytes at ≡ event x past → refusal_w w x ≡ 0
        → (st : State) (tables' work' : List ℕ) → world st tables' work' ≡ step_w w x
        → world_of bytes b st.stretch (t.row + 16) tables' work' ≡ step_w w x
    known_begin x past is_read is st tables' work' step_is =
        let event_n = at_event x past is_read in
        let next = subst (Sim (events bytes) (suc n)) (sym (step_is ∙ ap (step_w w) (sym event_n)))
        (step_next (events bytes) n w reached.state (rule_is x past is_read ∙ is))
        in
        let row : t.row + 16 ≡ st.row = omega (arith, next.numbers.row_is, reached.state.numbers.row_is) in
        same st row (reached.state.numbers.version_is ∙ sym next.numbers.version_is)
        (reached.state.numbers.threads_is ∙ sym next.numbers.threads_is)
        (reached.state.numbers.locations_is ∙ sym next.numbers.locations_is)
        ∙ step_is
      where
        same :
            (st : State) → t.row + 16 ≡ st.row → b.version ≡ st.version → b.threads ≡ st.threads
            → b.locations ≡ st.locations
            → world_of bytes b st.stretch (t.row + 16) tables' work' ≡ world st tables' work'
        same st row version_is threads_is locations_is = rw (row, version_is, threads_is, locations_is) refl

    -- ---- by the record's scan

    pub scanned_unread :
        (k : ℕ) → Err k ≡ scan_of (read_at bytes at)
        → Stopped bytes b n (later_refusal b.version bytes at k) tables m work
    scanned_unread k is = later_unread k (scan_refused bytes at k is)

    -- what the machine's step gave
    module _
        (r : Scan) (is : Ok r ≡ scan_of (read_at bytes at)) (tables' work' : List ℕ)
      where
        abbrev given : Result Step Forbidden → Outcome
        given a = outcome (machine_in bytes b t.stretch t.row) a tables' work'

        -- a rule turned the event away
        pub scanned_forbidden :
            (e : Forbidden) → given (Err e) ≡ step_o w r.kind r.fields
            → (tables'' : List ℕ) (m' : Marks) (work'' : List ℕ)
            → Stopped bytes b n (number_of e) tables'' m' work''
        scanned_forbidden e step_is tables'' m' work'' =
            let (x, (read_is, kind_is, fields_are)) = scan_read bytes at r is in
            later_forbidden (number_of e) tables'' m' work'' x r.next read_is
            (refusal_told w x (given (Err e)) (rw (← kind_is, ← fields_are) step_is)) (number_not_0 e)

        -- it passed
        pub scanned_passes :
            (s : Step) → given (Ok s) ≡ step_o w r.kind r.fields
            → (m' : Marks) → JudgedTo r.kind r.fields s.counted tables' work' m'
            → Reached bytes b (suc n) (cursor s.machine.stretch (t.row + 16) r.next) tables' m' work'
        scanned_passes s step_is m' judged_to =
            let (x, (read_is, kind_is, fields_are)) = scan_read bytes at r is in
            let told : given (Ok s) ≡ step_o w (kind_of x) (fields_of x) = rw (← kind_is, ← fields_are) step_is in
            let passes = refusal_told w x (given (Ok s)) told in
            later_passes x r.next read_is passes s.machine.stretch (t.row + 16)
            s.counted tables' m' work' (counted_told w x (given (Ok s)) told refl)
            (known_begin x r.next read_is passes _ tables' work' (after_told w x (given (Ok s)) told refl))
            (subst (λ (f : Fields). JudgedTo (kind_of x) f s.counted tables' work' m') fields_are
            (subst (λ (k : ℕ). JudgedTo k r.fields s.counted tables' work' m') kind_is judged_to))

    -- ---- what is left of the run

    -- the cursor knows the record's number
    pub reached_here : Reached bytes b (event_at t.row) t tables m work
    reached_here =
        subst (λ (e : ℕ). Reached bytes b e t tables m work)
        (sym (event_here (events bytes) n w reached.state)) reached

    -- the next record lies further on
    pub less_left :
        (t' : Cursor) (tables' : List ℕ) (m' : Marks) (work' : List ℕ)
        → Reached bytes b (suc n) t' tables' m' work'
        → length bytes - t'.at < length bytes - at
    less_left t' tables' m' work' next =
        let p = passed→ bytes n (next.all_pass n (omega arith)) in
        omega (
          arith,
          reached.position,
          next.position,
          read_grows bytes n p.x p.next p.is_read,
          start_inside bytes (suc n),
        )
