-- How many records of a trace can be read, and its threads and finished stretches. `extent_of_accepted`, at the end:
-- of an accepted trace with N records these are the threads of its begin, 1 to 8, and its crashes, at most 7; of no
-- bytes, which have no begin, there are none of either. Before it the laws of the loop that counts: nothing counted,
-- one record more, a record that cannot be read.
use Prim.Native.Nat.{ℕ, suc, ◌+◌, ◌-◌, ◌≤◌, ◌<◌, min}
use native.Mathlib.Omega.{arith}
use mathlib.Core.Path.{◌≡◌, refl, sym, ap, ◌∙◌}
use mathlib.Core.Bool.{true, false, not}
use mathlib.Core.Logic.{◌⊎◌, inl, inr, ◌≢◌}
use mathlib.Core.List.{List}
use lib.ListN.{length}
use lib.Dec.{eqb}
use borrow.Author.Tests.{ne_eqb}
use Rattle.record.specs.declared.events.Event.{Event}
use Rattle.record.specs.Answers.{Answer, event, refused}
use Rattle.record.specs.Events.{kind_of}
use Rattle.record.specs.Fields.{fields_of}
use Rattle.record.specs.Parts.{start}
use Rattle.record.specs.Reading.{read_at}
use Rattle.record.proofs.Frames.{clash, Answers, an_event, a_refusal}
use Rattle.record.proofs.Starts.{start_inside, read_next, read_grows, read_past_end, read_at_answers}
use Rattle.model.specs.Search.{bit, first}
use Rattle.model.specs.Trace.{threads, stretch}
use Rattle.model.specs.Rules.{Accepted}
use Rattle.model.specs.Reading.{event_in, events, AcceptedWith}
use Rattle.model.proofs.Searching.{false_true, →some, First, first_is, less?, same?}
use Rattle.model.proofs.Counting.{stretch_mono}
use Rattle.model.proofs.TurnedAway.{passed→, ended→, four_bytes_each, accepted_events}
use Rattle.model.proofs.NoBytes.{no_records_exactly}
use Rattle.model.proofs.Limits.{some_thread, few_threads, few_crashes}
use Rattle.report.specs.Extent.{unread, readable, threads_of, finished_of}

module _ (bytes : List ℕ) where
  -- ---- one record

  is_read : (e : ℕ) (x : Event) (next : ℕ) → read_at bytes (start bytes e) ≡ event x next → unread bytes e ≡ false
  is_read e x next is = rw is

  is_unread : (e k : ℕ) → read_at bytes (start bytes e) ≡ refused k 0 → unread bytes e ≡ true
  is_unread e k is = by_answer (read_at_answers bytes (start bytes e))
    where
      by_answer : Answers (read_at bytes (start bytes e)) → unread bytes e ≡ true
      by_answer (an_event x n read) = let z : event x n ≡ refused k 0 = sym read ∙ is in absurd (clash (cc))
      by_answer (a_refusal i low high read) = rw read (ap not (ne_eqb i 0 (λ z. omega arith)))

  event_is : (e : ℕ) (x : Event) (next : ℕ) → read_at bytes (start bytes e) ≡ event x next → events bytes e ≡ x
  unfolding events
  event_is e x next is = rw is

  -- the records that can be read are those before the first that cannot
  readable_is :
      (n : ℕ) → n ≤ length bytes → ((e : ℕ) → e < n → unread bytes e ≡ false) → unread bytes n ≡ true
      → readable bytes ≡ n
  unfolding readable
  readable_is n inside earlier stops = by_order (less? (first size (unread bytes)) n)
    where
      size : ℕ
      size = suc (length bytes)

      found : First size (unread bytes) (first size (unread bytes))
      found = first_is size (unread bytes) (→some size (unread bytes) n (omega arith) stops)

      by_order :
          (first size (unread bytes) < n) ⊎ (n ≤ first size (unread bytes)) → first size (unread bytes) ≡ n
      by_order (inl below) = false_true (sym (earlier (first size (unread bytes)) below) ∙ found.passes)
      by_order (inr above) = omega (arith, found.smallest n stops)

  -- ---- threads

  pub threads_read :
      (x : Event) (next : ℕ) → read_at bytes 0 ≡ event x next → (fields_of x).threads ≡ threads_of bytes
  unfolding threads_of start
  threads_read x next is = sym (ap (λ (e : Event). (fields_of e).threads) (event_is 0 x next is))

  pub threads_unread : (k : ℕ) → read_at bytes 0 ≡ refused k 0 → 0 ≡ threads_of bytes
  unfolding threads_of events start
  threads_unread k is = sym (ap (λ (a : Answer). (fields_of (event_in a)).threads) is)

  -- ---- counting crashes

  -- the records before a position can be read, and `finished` is the stretches that they finish, up to 7
  pub record Counted (at finished : ℕ) : Type 0 where
    records : ℕ
    few : records ≤ at
    starts : at ≡ start bytes records
    all_read : (e : ℕ) → e < records → unread bytes e ≡ false
    count : finished ≡ min (stretch (events bytes) records - 1) 7

  pub none_counted : Counted 0 0
  unfolding start stretch
  none_counted =
      record { records = 0; few = omega arith; starts = refl; all_read = λ e l. absurd (omega arith); count = refl }

  -- a record that is read starts inside the bytes, and the next one behind it
  pub moves_on :
      {at finished next : ℕ} {x : Event} → Counted at finished → read_at bytes at ≡ event x next
      → (at < next) × (next ≤ length bytes)
  moves_on {at} {finished} {next} {x} counted is =
      let n = counted.records in
      let read : read_at bytes (start bytes n) ≡ event x next = rw (← counted.starts) is in
      let next_is = read_next bytes n x next read in
      let grows = read_grows bytes n x next read in
      (omega (arith, counted.starts, next_is, grows), omega (arith, next_is, start_inside bytes (suc n)))

  pub one_more :
      {at finished next : ℕ} {x : Event} → Counted at finished → read_at bytes at ≡ event x next
      → Counted next (min (finished + bit (eqb (kind_of x) 9)) 7)
  unfolding stretch
  one_more {at} {finished} {next} {x} counted is =
      record {
        records = suc n;
        few = omega (arith, counted.few, (moves_on counted is).0);
        starts = read_next bytes n x next read;
        all_read = λ e l. by_place e (same? e n) l;
        count = rw (event_is n x next read) (omega (arith, counted.count, from_1));
      }
    where
      n : ℕ
      n = counted.records

      read : read_at bytes (start bytes n) ≡ event x next
      read = rw (← counted.starts) is

      from_1 : stretch (events bytes) 0 ≤ stretch (events bytes) n
      from_1 = stretch_mono (events bytes) 0 n (omega arith)

      by_place : (e : ℕ) → (e ≡ n) ⊎ (e ≢ n) → e < suc n → unread bytes e ≡ false
      by_place e (inl same) l = rw same (is_read n x next read)
      by_place e (inr other) l = counted.all_read e (omega arith)

  -- at a record that cannot be read, the count is the whole
  pub at_unread :
      {at finished k : ℕ} → Counted at finished → read_at bytes at ≡ refused k 0 → finished ≡ finished_of bytes
  unfolding finished_of
  at_unread {at} {finished} {k} counted is =
      let n = counted.records in
      let stops = is_unread n k (rw (← counted.starts) is) in
      let inside : n ≤ length bytes = omega (arith, counted.few, counted.starts, start_inside bytes n) in
      rw (readable_is n inside counted.all_read stops) counted.count

  -- ---- accepted traces

  -- what a report needs of an accepted trace with N records: by the bounds it leaves no thread and no stretch out
  pub record Extent (N : ℕ) : Type 0 where
    pub threads_are : threads_of bytes ≡ threads (events bytes)
    pub some_thread : 0 < N → 1 ≤ threads_of bytes
    pub no_threads : N ≡ 0 → threads_of bytes ≡ 0
    pub at_most_8 : threads_of bytes ≤ 8
    pub finished_are : finished_of bytes ≡ stretch (events bytes) N - 1
    pub at_most_7 : finished_of bytes ≤ 7

  pub extent_of_accepted : (N : ℕ) → AcceptedWith bytes N → Extent N
  unfolding threads_of finished_of
  extent_of_accepted N accepted =
      record {
        threads_are = refl;
        some_thread = some_thread (events bytes) N trace;
        no_threads = none_named;
        at_most_8 = by_records (less? 0 N);
        finished_are = rw records_are (omega (arith, few_crashes (events bytes) N trace N (omega arith)));
        at_most_7 = omega arith;
      }
    where
      trace : Accepted (events bytes) N
      trace = accepted_events bytes N accepted

      none_named : N ≡ 0 → threads (events bytes) ≡ 0
      none_named is_0 =
          let empty = (no_records_exactly bytes).0 (rw is_0 at accepted) in
          sym (threads_unread 1 (sym (read_past_end bytes 0 (omega arith))))

      by_records : (0 < N) ⊎ (N ≤ 0) → threads (events bytes) ≤ 8
      by_records (inl some_record) = few_threads (events bytes) N trace some_record
      by_records (inr none) = omega (arith, none_named (omega arith))

      all_read : (e : ℕ) → e < N → unread bytes e ≡ false
      all_read e l = let p = passed→ bytes e (accepted.all_pass e l) in is_read e p.x p.next p.is_read

      ended : start bytes N ≡ length bytes
      ended = ended→ bytes N accepted.ends

      at_end : unread bytes N ≡ true
      at_end = is_unread N 1 (sym (read_past_end bytes (start bytes N) (omega (arith, ended))))

      records_are : readable bytes ≡ N
      records_are =
          readable_is N (omega (arith, four_bytes_each bytes N accepted.all_pass, ended)) all_read at_end
