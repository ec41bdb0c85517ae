-- "Reading one record alone, the first of the bytes given, ignores what follows it": of bytes that are cut off behind a
-- record, or later, the record is read as before. Reading looks at the record's length, its kind and its fields, and
-- each of them ends within the record. So the first records of a trace, cut off behind them, are read as before.
-- In order: the first record; a record at a position; records 0 to n - 1, one after the other.
use mathlib.Core.Path.{◌≡◌, refl, sym, ap, ◌∙◌, fun_ext}
use mathlib.Core.List.{List}
use Prim.Native.Nat.{ℕ, zero, suc, ◌+◌, ◌-◌, ◌≤◌, ◌<◌}
use native.Mathlib.Omega.{arith}
use lib.ListN.{length, get_or, take, drop, length-take, length-drop}
use lib.Seq.{get_or-take, take-add, drop_at, length-take-le}
use Rattle.record.specs.declared.events.Event.{Event}
use Rattle.record.specs.Answers.{event}
use Rattle.record.specs.Bytes.{word}
use Rattle.record.specs.Table.{row_of}
use Rattle.record.specs.Fields.{columns, from_columns, offsets_in, field_at, fields_at, event_of, RowFits}
use Rattle.record.specs.Reading.{read_first, read_at}
use Rattle.record.specs.Parts.{start}
use Rattle.record.proofs.Computed.{each_at}
use Rattle.record.proofs.Rows.{row_fits}
use Rattle.record.proofs.Frames.{read→, →read}
use Rattle.record.proofs.Starts.{start_mono, from_event, read_next}

-- ---- the first record

module _ (s : List ℕ) (m : ℕ) where
  word_same : (at : ℕ) → at + 2 ≤ m → word (take m s) at ≡ word s at
  word_same at inside = rw (get_or-take m s at 0 (omega arith), get_or-take m s (at + 1) 0 (omega arith))

  fields_same : (row : List ℕ) (n : ℕ) → RowFits row n → 2 ≤ n → n ≤ m → fields_at (take m s) row ≡ fields_at s row
  fields_same row n fits enough within =
      ap from_columns (fun_ext (λ j. field_same (get_or (columns (offsets_in row)) j 0) (ends j)))
    where
      ends : (j : ℕ) → get_or (columns (offsets_in row)) j 0 + 2 ≤ n
      ends = each_at (λ (at : ℕ). at + 2 ≤ n) (columns (offsets_in row)) 0 fits.ends enough

      field_same : (at : ℕ) → at + 2 ≤ n → field_at (take m s) at ≡ field_at s at
      field_same at inside = rw (word_same at (omega arith))

  pub read_front : (e : Event) (n : ℕ) → read_first s ≡ event e n → n ≤ m → read_first (take m s) ≡ event e n
  read_front e n is within =
      let r = read→ s e n is in
      let k = word s 2 in
      let framed = r.framed in
      let front_is = word_same 0 (omega (arith, framed.enough)) in
      let kind_is = word_same 2 (omega (arith, framed.enough)) in
      let fits = row_fits k n (omega (arith, r.length_fits)) in
      →read (take m s) k n
      (record {
        enough = framed.enough;
        inside = omega (arith, framed.inside, length-take m s);
        length_is = omega (arith, framed.length_is);
      })
      kind_is r.length_fits
      ∙ ap (λ (x : Event). event x n)
      (ap (event_of k) (fields_same (row_of k) n fits (omega (arith, framed.enough)) within) ∙ r.event_is)

-- ---- at a position

drop_take :
    (s : List ℕ) (m at : ℕ) → at ≤ m → at ≤ length s → drop at (take m s) ≡ take (m - at) (drop at s)
drop_take s m at within inside =
    let split : at + (m - at) ≡ m = omega arith in
    ap (λ (k : ℕ). drop at (take k s)) (sym split)
    ∙ (ap (drop at) (take-add at (m - at) s)
    ∙ drop_at (take at s) (take (m - at) (drop at s)) at (length-take-le at s inside))

-- each of the first n records can be read
abbrev pub EachRead : List ℕ → ℕ → Type 0
EachRead s n = (e : ℕ) → e < n → (x : Event) × (next : ℕ) × (read_at s (start s e) ≡ event x next)

module _ (s : List ℕ) (m : ℕ) where
  read_at_front : (at : ℕ) (e : Event) (p : ℕ) → read_at s at ≡ event e p → p ≤ m → read_at (take m s) at ≡ event e p
  unfolding read_at
  read_at_front at e p is within =
      let (n, first_is, past_is) = from_event at (read_first (drop at s)) e p is in
      let framed = (read→ (drop at s) e n first_is).framed in
      let inside : at ≤ length s = omega (arith, framed.enough, framed.inside, length-drop at s) in
      rw (drop_take s m at (omega arith) inside, read_front (drop at s) (m - at) e n first_is (omega arith))
      (ap (event e) (sym past_is))

  -- ---- record by record

  -- record e is read as before, if it starts where it did
  same_record :
      (e : ℕ) → start s (suc e) ≤ m → start (take m s) e ≡ start s e → (x : Event) (next : ℕ)
      → read_at s (start s e) ≡ event x next → read_at (take m s) (start (take m s) e) ≡ event x next
  same_record e within same_start x next is =
      rw same_start (read_at_front (start s e) x next is (omega (arith, read_next s e x next is)))

  -- if each of the first n records can be read, the next one starts where it did, and each of them is read as before
  pub start_front : (n : ℕ) → start s n ≤ m → EachRead s n → start (take m s) n ≡ start s n
  unfolding start
  start_front zero within all = refl
  start_front (suc n) within all =
      let (x, next, is) = all n (omega arith) in
      let earlier = start_front n (omega (arith, start_mono s n (suc n) (omega arith))) (λ e l. all e (omega arith)) in
      sym (read_next (take m s) n x next (same_record n within earlier x next is)) ∙ read_next s n x next is

  pub record_front :
      (n : ℕ) → start s n ≤ m → EachRead s n
      → (e : ℕ) → e < n → (x : Event) (next : ℕ) → read_at s (start s e) ≡ event x next
      → read_at (take m s) (start (take m s) e) ≡ event x next
  record_front n within all e inside =
      same_record e (omega (arith, start_mono s (suc e) n (omega arith)))
      (start_front e (omega (arith, start_mono s e n (omega arith))) (λ i l. all i (omega arith)))
