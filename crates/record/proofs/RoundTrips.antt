-- The round trips, theorems about the definitions: `write_read`, an event that was written is read as itself, whatever
-- follows it; `read_write`, a record that was read, written again, has its old bytes.
use mathlib.Core.Path.{◌≡◌, refl, sym, ap, ◌∙◌, fun_ext}
use mathlib.Core.List.{List, [], ◌∷◌, ◌++◌}
use Prim.Native.Nat.{ℕ, zero, suc, ◌+◌, ◌*◌, ◌/◌, ◌%◌, ◌<◌, ◌≤◌}
use native.Mathlib.Omega.{arith}
use native.Mathlib.Numerals.{add-one}
use native.Mathlib.Nat.{add-mul-mod_self_right, add-mul-div_right, mod-eq_of_lt, div-eq_of_lt, zero-add}
use lib.ListN.{length, get_or, take, drop, length-append}
use lib.Seq.{drop-cons}
use lib.Dec.{lit<}
use borrow.Author.Tests.{le-ltb}
use Rattle.record.specs.Bytes.{word, bytes}
use Rattle.record.specs.Table.{row_of, length_of}
use Rattle.record.specs.Events.{kind_of, values_of, record_of}
use Rattle.record.specs.Fields.{columns, from_columns, fields_at, fields_of, event_of, TwoByte}
use Rattle.record.specs.Answers.{event, wrote}
use Rattle.record.specs.Reading.{read_first}
use Rattle.record.specs.Writing.{writing, written}
use Rattle.record.specs.declared.events.Event.{Event}
use Rattle.record.specs.declared.events.Fields.{Fields}
use Rattle.record.proofs.Computed.{each_at}
use Rattle.record.proofs.Frames.{Framed, read→, →read}
use Rattle.record.proofs.Shapes.{words_from, field_count, made, two_bytes, in_two_bytes, laid}

-- ---- written, then read

two_bytes_lem : (v : ℕ) → v < 65536 → two_bytes v ≡ v
two_bytes_lem v h = omega arith

-- two bytes hold each value of such fields
same_fields : (f : Fields) → TwoByte f → in_two_bytes f ≡ f
same_fields f h =
    ap from_columns (fun_ext (λ j. two_bytes_lem _ (each_at (λ (v : ℕ). v < 65536) (columns f) 0 h.small (lit< tt) j)))

pub write_read :
    (e : Event) (rest : List ℕ) → TwoByte (fields_of e)
    → read_first (record_of e ++ rest) ≡ event e (length (record_of e))
write_read e rest small =
    let s = record_of e ++ rest in
    let n = length (record_of e) in
    let l = laid rest [] e in
    let inside : n ≤ length s = simp length-append (omega arith) in
    let framed : Framed s n = record { enough = l.enough; inside = inside; length_is = l.length_is } in
    let fields_back : fields_at s (row_of (kind_of e)) ≡ fields_of e = l.fields_are ∙ same_fields (fields_of e) small in
    let event_back : event_of (kind_of e) (fields_at s (row_of (kind_of e))) ≡ e = rw fields_back l.event_is in
    →read s (kind_of e) n framed l.kind_is l.size_is ∙ ap (λ (x : Event). event x n) event_back

-- the same of the writer's definitions: where the output has room, what it holds afterwards reads as the event
pub written_read :
    (e : Event) (out : List ℕ) → TwoByte (fields_of e) → length (record_of e) ≤ length out
    → (writing e out ≡ wrote (length (record_of e))) × (read_first (written e out) ≡ event e (length (record_of e)))
unfolding writing written
written_read e out small room =
    let fits = le-ltb (length out) (length (record_of e)) room in
    (simp fits, rw fits (write_read e (drop (length (record_of e)) out) small))

-- ---- read, then written

-- each element is a byte, as in every slice of bytes
pub record AllBytes (s : List ℕ) : Type 0 where
  pub byte : (i : ℕ) → get_or s i 0 < 256

low_byte : (x y : ℕ) → x < 256 → (x + y * 256) % 256 ≡ x
low_byte x y h = add-mul-mod_self_right x y 256 ∙ mod-eq_of_lt h

high_byte : (x y : ℕ) → x < 256 → y < 256 → (x + y * 256) / 256 % 256 ≡ y
high_byte x y h g = rw (add-mul-div_right x y {z = 256} (lit< tt), div-eq_of_lt h, zero-add, mod-eq_of_lt g)

-- the words of some bytes, as bytes, are the bytes
bytes_of_words :
    (m at : ℕ) (s : List ℕ) → AllBytes s → at + m * 2 ≤ length s
    → bytes (words_from m at s) ≡ take (m * 2) (drop at s)
bytes_of_words zero at s b h = refl
bytes_of_words (suc m) at s b h =
    let x = get_or s at 0 in
    let y = get_or s (at + 1) 0 in
    let low : word s at % 256 ≡ x = low_byte x y (b.byte at) in
    let high : word s at / 256 % 256 ≡ y = high_byte x y (b.byte at) (b.byte (at + 1)) in
    let first_inside : at < length s = omega arith in
    let second_inside : at + 1 < length s = omega arith in
    let two_more : suc m * 2 ≡ suc (suc (m * 2)) = omega arith in
    let past_both : suc (at + 1) ≡ at + 2 = omega arith in
    let second_on : drop (suc at) s ≡ y ∷ drop (at + 2) s =
    rw (← add-one at, drop-cons s (at + 1) 0 second_inside, past_both)
    in
    let first_on : drop at s ≡ x ∷ y ∷ drop (at + 2) s = rw (drop-cons s at 0 first_inside, second_on) in
    rw (two_more, first_on, low, high, bytes_of_words m (at + 2) s b (omega arith))

pub read_write : (s : List ℕ) (e : Event) (n : ℕ) → AllBytes s → read_first s ≡ event e n → record_of e ≡ take n s
unfolding record_of
read_write s e n b h =
    let i = read→ s e n h in
    let k = word s 2 in
    let m = field_count k in
    let shape = made s k i.known in
    let kind_is : kind_of e ≡ k = ap kind_of (sym i.event_is) ∙ shape.kind_is in
    let values_are : values_of e ≡ words_from m 4 s = ap values_of (sym i.event_is) ∙ shape.values_are in
    let length_is : length_of k ≡ word s 0 = omega (arith, i.length_fits, i.framed.length_is) in
    let size_is : suc (suc m) * 2 ≡ n = omega (arith, i.length_fits, shape.length_is) in
    let words_are : length_of (kind_of e) ∷ kind_of e ∷ values_of e ≡ words_from (suc (suc m)) 0 s = cc in
    let inside : suc (suc m) * 2 ≤ length s = omega (arith, i.framed.inside) in
    ap bytes words_are ∙ (bytes_of_words (suc (suc m)) 0 s b (omega arith) ∙ ap (λ (k : ℕ). take k s) size_is)
