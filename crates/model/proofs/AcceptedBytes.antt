-- Accepted bytes are the records of their events, one after the other, and nothing else: each record that is read has
-- the bytes that writing its event gives, the next starts right behind it, and the trace ends behind the last. So a
-- statement about lists of events, encoded, is one about all accepted bytes. In order: bytes and fields; one record;
-- the first n records; an accepted trace.
use Prim.Native.Nat.{ℕ, zero, suc, ◌+◌, ◌<◌}
use native.Mathlib.Omega.{arith}
use mathlib.Core.Path.{◌≡◌, refl, sym, ap, ◌∙◌}
use mathlib.Core.Bool.{Bool, true, false}
use mathlib.Core.List.{List, [], ◌∷◌, ◌++◌, map, append_assoc, append-nil}
use lib.ListN.{length, take, drop}
use lib.Seq.{get_or-drop, take-add, take_all}
use lib.Dec.{eqb}
use Rattle.record.specs.declared.events.Event.{Event}
use Rattle.record.specs.declared.events.Event.TheVariants.{Crash}
use Rattle.record.specs.Bytes.{word}
use Rattle.record.specs.Events.{record_of}
use Rattle.record.specs.Fields.{columns, offsets_in, field_at, fields_at, fields_of, Each, TwoByte}
use Rattle.record.specs.Table.{row_of}
use Rattle.record.specs.Answers.{event}
use Rattle.record.specs.Parts.{start, size_at}
use Rattle.record.specs.Reading.{read_first}
use Rattle.record.specs.Tests.{◌gives◌else◌}
use Rattle.record.proofs.Frames.{read→}
use Rattle.record.proofs.Shapes.{made}
use Rattle.record.proofs.RoundTrips.{AllBytes, read_write}
use Rattle.record.proofs.Starts.{read_at_lem, read_past, from_event}
use Rattle.model.specs.Trace.{trace_of}
use Rattle.model.specs.Rules.{Accepted}
use Rattle.model.specs.Answers.{tabulate}
use Rattle.model.specs.Reading.{events, first_events, encode, AcceptedWith}
use Rattle.model.proofs.Tabulating.{tabulate_length, tabulate_at}
use Rattle.model.proofs.TurnedAway.{Passed, passed→, ended→, accepted_events}
use Rattle.model.proofs.Encoding.{AllTwoByte, same_events}

-- ---- bytes and fields

encode_append : (xs ys : List Event) → encode (xs ++ ys) ≡ encode xs ++ encode ys
unfolding encode
encode_append [] ys = refl
encode_append (x ∷ xs) ys = rw (encode_append xs ys) (sym (append_assoc (record_of x) (encode xs) (encode ys)))

module _ (s : List ℕ) (all_bytes : AllBytes s) where
  field_two_byte : (at : ℕ) → field_at s at < 65536
  field_two_byte at = by_test (eqb at 0)
    where
      by_test : (none : Bool) → (none gives 0 else word s at) < 65536
      by_test true = omega arith
      by_test false = omega (arith, all_bytes.byte at, all_bytes.byte (at + 1))

  fields_two_byte : (offsets : List ℕ) → Each (λ (v : ℕ). v < 65536) (map (field_at s) offsets)
  fields_two_byte [] = tt
  fields_two_byte (at ∷ offsets) = (field_two_byte at, fields_two_byte offsets)

  -- the event that is read has two-byte fields
  read_two_byte : (e : Event) (n : ℕ) → read_first s ≡ event e n → TwoByte (fields_of e)
  read_two_byte e n is_read =
      let is = read→ s e n is_read in
      let fields : fields_of e ≡ fields_at s (row_of (word s 2)) =
      ap fields_of (sym is.event_is) ∙ (made s (word s 2) is.known).fields_are
      in
      rw fields (record { small = fields_two_byte (columns (offsets_in (row_of (word s 2)))) })

-- ---- one record

module _ (bytes : List ℕ) (all_bytes : AllBytes bytes) where
  -- the bytes from where record e starts
  abbrev rest : ℕ → List ℕ
  rest e = drop (start bytes e) bytes

  rest_bytes : (e : ℕ) → AllBytes (rest e)
  rest_bytes e = record { byte = λ i. rw (get_or-drop (start bytes e) bytes i 0) (all_bytes.byte (start bytes e + i)) }

  first_read : (e : ℕ) → Passed bytes e → read_first (rest e) ≡ event (events bytes e) (size_at bytes (start bytes e))
  unfolding events
  first_read e p =
      let at = start bytes e in
      let r = from_event at (read_first (rest e)) p.x p.next (sym (read_at_lem bytes at) ∙ p.is_read) in
      let size_is : r.0 ≡ size_at bytes at = omega (arith, r.2, read_past bytes at p.x p.next p.is_read) in
      rw (p.is_read, ← size_is) r.1

  -- ---- the first n records, all read

  first_two_byte : (n : ℕ) → ((e : ℕ) → e < n → Passed bytes e) → AllTwoByte (first_events bytes n)
  first_two_byte n all_passed = record { two_byte = two_byte }
    where
      two_byte : (e : ℕ) → e < length (first_events bytes n) → TwoByte (fields_of (trace_of (first_events bytes n) e))
      two_byte e inside =
          let below : e < n = rw (tabulate_length n (events bytes)) at inside in
          rw (tabulate_at n (events bytes) e Crash below)
          (read_two_byte (rest e) (rest_bytes e) _ _ (first_read e (all_passed e below)))

  -- THEIR EVENTS, ENCODED, ARE THE FRONT OF THE TRACE
  pub front_encoded :
      (n : ℕ) → ((e : ℕ) → e < n → Passed bytes e) → take (start bytes n) bytes ≡ encode (first_events bytes n)
  unfolding tabulate encode start
  front_encoded zero all_passed = refl
  front_encoded (suc n) all_passed =
      let last_there : record_of (events bytes n) ≡ take (size_at bytes (start bytes n)) (rest n) =
      read_write (rest n) _ _ (rest_bytes n) (first_read n (all_passed n (omega arith)))
      in
      rw (
        encode_append (first_events bytes n) (events bytes n ∷ []),
        ← front_encoded n (λ e below. all_passed e (omega arith)),
        append-nil (record_of (events bytes n)),
        last_there,
      )
      (take-add (start bytes n) (size_at bytes (start bytes n)) bytes)

  -- ---- an accepted trace

  module _ (N : ℕ) (accepted : AcceptedWith bytes N) where
    all_passed : (e : ℕ) → e < N → Passed bytes e
    all_passed e below = passed→ bytes e (accepted.all_pass e below)

    -- ITS EVENTS, ENCODED, ARE ITS BYTES
    pub accepted_encoded : bytes ≡ encode (first_events bytes N)
    accepted_encoded =
        sym (take_all (start bytes N) bytes (omega (arith, ended→ bytes N accepted.ends)))
        ∙ front_encoded N all_passed

    pub accepted_two_byte : AllTwoByte (first_events bytes N)
    accepted_two_byte = first_two_byte N all_passed

    -- the list of its events is an accepted trace
    pub accepted_list : Accepted (trace_of (first_events bytes N)) (length (first_events bytes N))
    accepted_list =
        let same : events bytes ≡ trace_of (first_events bytes N) =
        ap events accepted_encoded ∙ same_events (first_events bytes N) accepted_two_byte
        in
        rw (sym same, tabulate_length N (events bytes)) (accepted_events bytes N accepted)
