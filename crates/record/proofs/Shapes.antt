-- How the table lays out each kind's record: facts that hold of every kind of the table, computed over all its rows at
-- once, and facts that hold of every event, by one clause for each variant.
use mathlib.Core.Path.{◌≡◌, refl, sym, ◌∙◌}
use mathlib.Core.List.{List, [], ◌∷◌, ◌++◌}
use Prim.Native.Nat.{ℕ, zero, suc, ◌+◌, ◌-◌, ◌*◌, ◌/◌, ◌%◌, ◌≤◌}
use native.Mathlib.Nat.{zero-add}
use native.Mathlib.Omega.{arith}
use lib.ListN.{length, get_or, drop}
use lib.Seq.{sets, sets-eq}
use lib.Dec.{eqb, lit≤}
use borrow.Author.Tests.{ne_eqb}
use Rattle.record.specs.Tests.{◌gives◌else◌}
use Rattle.record.specs.Bytes.{word, put_word}
use Rattle.record.specs.Table.{kinds, row_of, length_of}
use Rattle.record.specs.Events.{kind_of, values_of, record_of}
use Rattle.record.specs.Fields.{map_fields, fields_at, put_field, put_each, put_fields, event_of, fields_of}
use Rattle.record.specs.declared.events.Event.{Event}
use Rattle.record.specs.declared.events.Event.TheVariants.{Begin, Issue, Commit, Load, Clflush, Clwb}
use Rattle.record.specs.declared.events.Event.TheVariants.{Sfence, Mfence, Crash, SkipOn, SkipOff, Locked}
use Rattle.record.specs.declared.events.Event.TheVariants.{Signal, Wait, Open, Close}
use Rattle.record.specs.declared.events.Fields.{Fields}
use Rattle.record.proofs.Computed.{firsts, everywhere, else_at, NoneOf, among, none_among}

-- ---- kinds by number

-- what a function gives at a number that has a length in the table
abbrev at_kind : {A : Type 0} → (ℕ → A) → ℕ → List A
at_kind f k = eqb (length_of k) 0 gives [] else f k ∷ []

-- two functions that give the same at each kind of the table, which is computed, do so at every number
alike :
    {A : Type 0} (f g : ℕ → A) → firsts (length kinds) (at_kind f) ≡ firsts (length kinds) (at_kind g)
    → (k : ℕ) → at_kind f k ≡ at_kind g k
unfolding row_of
alike f g same = everywhere (length kinds) (at_kind f) (at_kind g) same (λ k. refl)

-- so they agree at every number that has a length there
at_kinds :
    {A : Type 0} (f g : ℕ → A) → firsts (length kinds) (at_kind f) ≡ firsts (length kinds) (at_kind g)
    → (k : ℕ) → (length_of k ≡ 0 → ⊥) → f k ≡ g k
at_kinds f g same k known =
    let known_alike : f k ∷ [] ≡ g k ∷ [] = rw (ne_eqb (length_of k) 0 known) at (alike f g same k) in
    cc

-- the numbers that stand in a list of bytes from an offset on
abbrev pub words_from : ℕ → ℕ → List ℕ → List ℕ
words_from zero at s = []
words_from (suc m) at s = word s at ∷ words_from m (at + 2) s

-- how many fields a kind has, by its length
abbrev pub field_count : ℕ → ℕ
field_count k = (length_of k - 2) / 2

-- the event of a kind, made of the fields that its row places
abbrev event_at : List ℕ → ℕ → Event
event_at s k = event_of k (fields_at s (row_of k))

-- it has that kind, those fields, and the record's words as its values
pub record Made (s : List ℕ) (k : ℕ) : Type 0 where
  pub kind_is : kind_of (event_at s k) ≡ k
  pub fields_are : fields_of (event_at s k) ≡ fields_at s (row_of k)
  pub values_are : values_of (event_at s k) ≡ words_from (field_count k) 4 s
  pub length_is : length_of k ≡ 2 + field_count k * 2

pub made : (s : List ℕ) (k : ℕ) → (length_of k ≡ 0 → ⊥) → Made s k
unfolding row_of event_of
made s k known =
    record {
      kind_is = at_kinds (λ i. kind_of (event_at s i)) (λ i. i) refl k known;
      fields_are = at_kinds (λ i. fields_of (event_at s i)) (λ i. fields_at s (row_of i)) refl k known;
      values_are = at_kinds (λ i. values_of (event_at s i)) (λ i. words_from (field_count i) 4 s) refl k known;
      length_is = at_kinds length_of (λ i. 2 + field_count i * 2) refl k known;
    }

-- the kinds that `of_kind` has an arm for, the last one first
abbrev arms : List ℕ
arms = 16 ∷ 15 ∷ 14 ∷ 13 ∷ 12 ∷ 11 ∷ 10 ∷ 8 ∷ 7 ∷ 6 ∷ 5 ∷ 4 ∷ 3 ∷ 2 ∷ 1 ∷ []

-- any other number gives a crash: it is 0, the crash's own, or past the table
pub crash_else : (k : ℕ) (f : Fields) → NoneOf arms k → Crash ≡ event_of k f
unfolding event_of
crash_else k f none =
    sym (else_at (length kinds) (among arms) (λ i. event_of i f) Crash refl (λ i. refl) k (none_among arms k none))

-- ---- events

-- what two bytes hold of a number
abbrev pub two_bytes : ℕ → ℕ
two_bytes v = v % 256 + v / 256 % 256 * 256

-- what a record holds of an event's fields
abbrev pub in_two_bytes : Fields → Fields
in_two_bytes = map_fields two_bytes

-- the writer's stores: length, kind, and the fields where the kind's row places them
abbrev pub stores : Event → List ℕ → List ℕ
stores e out =
    put_fields (put_word (put_word out 0 (length_of (kind_of e))) 2 (kind_of e)) (row_of (kind_of e)) (fields_of e)

-- an event's record, with any bytes behind it, and the writer's stores into any output
pub record Laid (e : Event) (rest out : List ℕ) : Type 0 where
  pub size_is : length_of (kind_of e) + 2 ≡ length (record_of e)
  pub enough : 4 ≤ length (record_of e)
  pub length_is : word (record_of e ++ rest) 0 + 2 ≡ length (record_of e)
  pub kind_is : word (record_of e ++ rest) 2 ≡ kind_of e
  pub fields_are : fields_at (record_of e ++ rest) (row_of (kind_of e)) ≡ in_two_bytes (fields_of e)
  pub event_is : event_of (kind_of e) (fields_of e) ≡ e
  pub stores_are : stores e out ≡ sets out 0 (record_of e)

module _ (rest out : List ℕ) where
  -- each fact computes, once the kind is known
  computed :
      (e : Event)
      → (length_of (kind_of e) + 2 ≡ length (record_of e))
      × (4 ≤ length (record_of e))
      × (word (record_of e ++ rest) 0 + 2 ≡ length (record_of e))
      × (word (record_of e ++ rest) 2 ≡ kind_of e)
      × (fields_at (record_of e ++ rest) (row_of (kind_of e)) ≡ in_two_bytes (fields_of e))
      × (event_of (kind_of e) (fields_of e) ≡ e)
      × (stores e out ≡ sets out 0 (record_of e))
  unfolding row_of record_of event_of put_fields
  computed (Begin v n m) = (refl, lit≤ tt, refl, refl, refl, refl, refl)
  computed (Issue t x) = (refl, lit≤ tt, refl, refl, refl, refl, refl)
  computed (Commit t) = (refl, lit≤ tt, refl, refl, refl, refl, refl)
  computed (Load t x s) = (refl, lit≤ tt, refl, refl, refl, refl, refl)
  computed (Clflush t x) = (refl, lit≤ tt, refl, refl, refl, refl, refl)
  computed (Clwb t x) = (refl, lit≤ tt, refl, refl, refl, refl, refl)
  computed (Sfence t) = (refl, lit≤ tt, refl, refl, refl, refl, refl)
  computed (Mfence t) = (refl, lit≤ tt, refl, refl, refl, refl, refl)
  computed Crash = (refl, lit≤ tt, refl, refl, refl, refl, refl)
  computed (SkipOn t) = (refl, lit≤ tt, refl, refl, refl, refl, refl)
  computed (SkipOff t) = (refl, lit≤ tt, refl, refl, refl, refl, refl)
  computed (Locked t x s) = (refl, lit≤ tt, refl, refl, refl, refl, refl)
  computed (Signal t) = (refl, lit≤ tt, refl, refl, refl, refl, refl)
  computed (Wait t s) = (refl, lit≤ tt, refl, refl, refl, refl, refl)
  computed (Open t) = (refl, lit≤ tt, refl, refl, refl, refl, refl)
  computed (Close t o) = (refl, lit≤ tt, refl, refl, refl, refl, refl)

  pub laid : (e : Event) → Laid e rest out
  laid e =
      let f = computed e in
      record {
        size_is = f.0;
        enough = f.1;
        length_is = f.2;
        kind_is = f.3;
        fields_are = f.4;
        event_is = f.5;
        stores_are = f.6;
      }

-- values are stored at offsets, one after the other, and t is what the bytes are in the end
abbrev InTurn : List ℕ → List ℕ → List ℕ → List ℕ → Type 0
InTurn s [] vs t = t ≡ s
InTurn s (at ∷ ats) [] t = t ≡ s
InTurn s (at ∷ ats) (v ∷ vs) t = (s₁ : List ℕ) × (s₁ ≡ put_field s at v) × InTurn s₁ ats vs t

-- that is the definition's, so a function that makes the stores in turn needs no more
pub in_turn : (s ats vs t : List ℕ) → InTurn s ats vs t → t ≡ put_each s ats vs
in_turn s [] vs t is = is
in_turn s (at ∷ ats) [] t is = is
in_turn s (at ∷ ats) (v ∷ vs) t (s₁, first, rest) = rw (← first) (in_turn s₁ ats vs t rest)

-- the writer's stores put the record at the front and leave the rest
pub stores_record :
    (e : Event) (out : List ℕ) → length (record_of e) ≤ length out
    → stores e out ≡ record_of e ++ drop (length (record_of e)) out
stores_record e out h = (laid [] out e).stores_are ∙ sets-eq (record_of e) out 0 (omega arith) ∙ rw zero-add

-- the size that the writer computes by the table is that of the event's record
pub size_by_table :
    (e : Event) (kind : ℕ) (row : List ℕ) (n : ℕ) → kind ≡ kind_of e → row ≡ row_of kind → n ≡ get_or row 1 0
    → (n + 2 ≡ length (record_of e)) × (4 ≤ n + 2)
size_by_table e kind row n kind_is row_is length_is =
    let l = laid [] [] e in
    let size : n + 2 ≡ length (record_of e) = rw (length_is, row_is, kind_is) l.size_is in
    (size, omega (arith, l.enough))

-- what the writer goes by
pub ruleset sizes = (size_by_table, stores_record)
