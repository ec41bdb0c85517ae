-- Document 01: "Load is the smallest event number for which records 0 to load, taken as a trace, have none either."
-- Of bytes: the records up to and including a broken answer's load, taken as a trace, are judged broken, with the same
-- evidence, and the records before that load are judged robust. For records 0 to e of accepted bytes are accepted bytes
-- with the same events, since reading a record ignores what follows it, and no ruling depends on later events.
-- In order: records 0 to e of accepted bytes; a broken answer taken apart; `broken_as_trace`, `robust_before_load`.
use Prim.Native.Nat.{ℕ, suc, ◌-◌, ◌<◌}
use native.Mathlib.Omega.{arith}
use mathlib.Core.Path.{◌≡◌, refl, sym, ◌∙◌, subst}
use mathlib.Core.Bool.{Bool, true, false}
use mathlib.Core.Logic.{◌≢◌}
use mathlib.Core.List.{List}
use lib.Seq.{length-take-le}
use Rattle.record.specs.declared.events.Event.{Event}
use Rattle.record.specs.Answers.{event}
use Rattle.record.specs.Reading.{read_at}
use Rattle.record.specs.Tests.{◌gives◌else◌}
use Rattle.record.specs.Parts.{start, records_to}
use Rattle.record.proofs.Frames.{clash}
use Rattle.record.proofs.Starts.{start_inside, records_to_front}
use Rattle.record.proofs.Fronts.{EachRead, start_front, record_front}
use Rattle.model.specs.Rules.{Accepted}
use Rattle.model.specs.Choice.{Ruling, robust, broken, finished, Broken, Exact}
use Rattle.model.specs.Verdict.{ruling_of}
use Rattle.model.specs.Reading.{events, Reading, accepted, turned_away, reading_of, AcceptedWith}
use Rattle.model.specs.Answers.{Fault, fault_of, share_of}
use Rattle.model.specs.Answers as answers
use Rattle.model.specs.Judge.{small_work, wrong_cut, ruled_answer, reading_answer, judge_of}
use Rattle.model.proofs.Searching.{false_true}
use Rattle.model.proofs.Roles.{begin_no_load}
use Rattle.model.proofs.Ordering.{at_or_before_le}
use Rattle.model.proofs.Acceptance.{prefix, begins, countable_crosses}
use Rattle.model.proofs.CountedLoads.{counts_as_of}
use Rattle.model.proofs.Exactness.{exact, unique, named_load_counts, named_missing, named_observed}
use Rattle.model.proofs.Agreement.{Agree, refusal_same}
use Rattle.model.proofs.Prefixes.{exact_same}
use Rattle.model.proofs.WindowPrefixes.{fault_same}
use Rattle.model.proofs.TurnedAway.{passing_there, ends_there, passed→, accepted_exactly, accepted_events}

-- ---- records 0 to e of accepted bytes

module _ (bytes : List ℕ) (N : ℕ) (whole : AcceptedWith bytes N) (e : ℕ) (inside : e < N) where
  each_read : EachRead bytes (suc e)
  each_read i earlier = let p = passed→ bytes i (whole.all_pass i (omega arith)) in (p.x, p.next, p.is_read)

  -- each of them is read as in the whole trace
  read_alike :
      (i : ℕ) → i < suc e → (x : Event) (next : ℕ) → read_at bytes (start bytes i) ≡ event x next
      → read_at (records_to bytes e) (start (records_to bytes e) i) ≡ event x next
  read_alike i earlier x next is =
      rw (records_to_front bytes e)
      (record_front bytes (start bytes (suc e)) (suc e) (omega arith) each_read i earlier x next is)

  -- their events are the whole trace's events 0 to e
  pub first_agree : Agree (suc e) (events bytes) (events (records_to bytes e))
  unfolding events
  first_agree i earlier =
      let (x, next, is) = each_read i earlier in
      rw (is, read_alike i earlier x next is)

  -- they are accepted bytes
  pub first_accepted : AcceptedWith (records_to bytes e) (suc e)
  first_accepted = record {
    all_pass = λ i earlier.
        let p = passed→ bytes i (whole.all_pass i (omega arith)) in
        passing_there (records_to bytes e) i p.x p.next (read_alike i earlier p.x p.next p.is_read)
        (sym (refusal_same first_agree i earlier) ∙ p.passes);
    ends =
        ends_there (records_to bytes e) (suc e)
        (rw (records_to_front bytes e)
        (start_front bytes (start bytes (suc e)) (suc e) (omega arith) each_read
        ∙ sym (length-take-le (start bytes (suc e)) bytes (start_inside bytes (suc e)))));
  }

  -- the ruling that is exact of the whole trace's events 0 to e is theirs
  first_ruling : (v : Ruling) → Exact (events bytes) (suc e) v → ruling_of (events (records_to bytes e)) (suc e) ≡ v
  first_ruling v is_exact =
      unique (events (records_to bytes e)) (suc e) (ruling_of (events (records_to bytes e)) (suc e)) v
      (exact (events (records_to bytes e)) (suc e) (accepted_events (records_to bytes e) (suc e) first_accepted))
      (exact_same first_agree v is_exact)

  -- and with buffers of the right size this is answered for them
  first_answer :
      (v : Ruling) → Exact (events bytes) (suc e) v
      → (work cut : ℕ) → small_work work ≡ false → wrong_cut cut ≡ false
      → judge_of (records_to bytes e) work cut ≡ ruled_answer (events (records_to bytes e)) (suc e) v
  unfolding judge_of
  first_answer v is_exact work cut room size =
      rw (room, size, (accepted_exactly (records_to bytes e) (suc e)).1 first_accepted, first_ruling v is_exact)

-- ---- a broken answer, taken apart

module _
    (bytes : List ℕ) (work cut count load missing observed : ℕ) (kind : Fault)
    (told : judge_of bytes work cut ≡ answers.broken count load missing observed kind) where
  record Told : Type 0 where
    N : ℕ
    room : small_work work ≡ false
    size : wrong_cut cut ≡ false
    whole : AcceptedWith bytes N
    ruling : ruling_of (events bytes) N ≡ broken load missing observed
    kind_is : kind ≡ fault_of (events bytes) missing observed

  apart : Told
  unfolding judge_of
  apart = by_tests (small_work work) (wrong_cut cut) (reading_of bytes) refl refl refl told
    where
      by_ruling :
          (N : ℕ) → small_work work ≡ false → wrong_cut cut ≡ false → reading_of bytes ≡ accepted N
          → (v : Ruling) → ruling_of (events bytes) N ≡ v
          → ruled_answer (events bytes) N v ≡ answers.broken count load missing observed kind → Told
      by_ruling N room size reading (robust c) is h = absurd (clash cc)
      by_ruling N room size reading (broken l p q) is h =
          let same_load : l ≡ load = cc in
          let same_missing : p ≡ missing = cc in
          let same_observed : q ≡ observed = cc in
          record {
            N = N;
            room = room;
            size = size;
            whole = (accepted_exactly bytes N).0 reading;
            ruling = rw (← same_load, ← same_missing, ← same_observed) is;
            kind_is = rw (← same_missing, ← same_observed) cc;
          }

      by_tests :
          (small wrong : Bool) (r : Reading) → small_work work ≡ small → wrong_cut cut ≡ wrong → reading_of bytes ≡ r
          → (small gives answers.refused 14 0 else wrong gives answers.refused 15 0 else reading_answer bytes r)
          ≡ answers.broken count load missing observed kind
          → Told
      by_tests true wrong r room size reading h = absurd (clash cc)
      by_tests false true r room size reading h = absurd (clash cc)
      by_tests false false (turned_away k e) room size reading h = absurd (clash cc)
      by_tests false false (accepted N) room size reading h =
          by_ruling N room size reading (ruling_of (events bytes) N) refl h

  trace : Accepted (events bytes) apart.N
  trace = accepted_events bytes apart.N apart.whole

  is_broken : Broken (events bytes) apart.N load missing observed
  is_broken = subst (Exact (events bytes) apart.N) apart.ruling (exact (events bytes) apart.N trace)

  -- ---- the theorems

  -- RECORDS 0 TO LOAD, TAKEN AS A TRACE, ARE BROKEN, AT THEIR LAST EVENT AND BY THE SAME PAIR
  pub broken_as_trace : judge_of (records_to bytes load) work cut ≡ answers.broken load load missing observed kind
  broken_as_trace =
      first_answer bytes apart.N apart.whole load is_broken.inside (broken load missing observed) up_to_load
      work cut apart.room apart.size
      ∙ rw (apart.kind_is, last_event, same_fault)
    where
      -- observed is a store of those records, and missing comes no later
      same_fault : fault_of (events bytes) missing observed ≡ fault_of (events (records_to bytes load)) missing observed
      same_fault =
          let settled = named_observed (events bytes) trace is_broken in
          let order = at_or_before_le (events bytes) missing observed is_broken.pair.order in
          fault_same (first_agree bytes apart.N apart.whole load is_broken.inside)
          (prefix (events bytes) apart.N (suc load) trace is_broken.inside) missing observed
          (omega (arith, settled.early)) settled.early (named_missing (events bytes) is_broken) settled.store

      last_event : suc load - 1 ≡ load
      last_event = omega arith

      up_to_load : Broken (events bytes) (suc load) load missing observed
      up_to_load = record {
        inside = omega arith;
        none = is_broken.none_yet;
        none_yet = is_broken.none_yet;
        first = is_broken.first;
        pair = is_broken.pair;
        lowest = is_broken.lowest;
        then_lowest = is_broken.then_lowest;
      }

  -- the load that a broken answer names is not the begin
  load_not_begin : load ≢ 0
  load_not_begin is_0 =
      let (l, counts) = named_load_counts (events bytes) is_broken in
      let it = counts_as_of (events bytes) load l counts in
      let loads = (countable_crosses (events bytes) l it.is_countable).loads in
      let first : l ≡ 0 = omega (arith, it.not_later) in
      let begun = begins (events bytes) apart.N trace (omega (arith, is_broken.inside)) in
      false_true (sym (begin_no_load (events bytes) 0 begun) ∙ rw first at loads.test)

  -- THE RECORDS BEFORE IT, TAKEN AS A TRACE, ARE ROBUST
  pub robust_before_load :
      (share : ℕ) × (judge_of (records_to bytes (load - 1)) work cut ≡ answers.robust (load - 1) share)
  robust_before_load = by_ruling (ruling_of (events bytes) load) (exact (events bytes) load part)
    where
      some : 0 < load
      some = let not-0 = load_not_begin in omega arith

      part : Accepted (events bytes) load
      part = prefix (events bytes) apart.N load trace (omega (arith, is_broken.inside))

      next : suc (load - 1) ≡ load
      next = omega (arith, some)

      last_event : suc (load - 1) - 1 ≡ load - 1
      last_event = omega arith

      by_ruling :
          (v : Ruling) → Exact (events bytes) load v
          → (share : ℕ) × (judge_of (records_to bytes (load - 1)) work cut ≡ answers.robust (load - 1) share)
      by_ruling (robust c) least = (
        share_of c (finished (events (records_to bytes (load - 1))) (suc (load - 1))),
        first_answer bytes apart.N apart.whole (load - 1) (omega (arith, is_broken.inside)) (robust c)
            (rw next least) work cut apart.room apart.size
            ∙ rw last_event,
      )
      by_ruling (broken l p q) it = absurd (it.none (is_broken.first load (omega arith)))
