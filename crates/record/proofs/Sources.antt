-- The sources of a trace: of a record that can be read, `source_at` says what reading answers of it (`source_at_read`),
-- for its frame, its kind and its fields stand in the bytes where the table says. In order: what an event says;
-- which kinds have a source; the ways of `source_at`; a record that is read.
use mathlib.Core.Path.{◌≡◌, refl, sym, ap, ap₂, subst, ◌∙◌}
use mathlib.Core.Bool.{Bool, true, false, ◌&&◌, ◌||◌, not}
use mathlib.Core.Logic.{◌≢◌, ◌⊎◌, inl, inr}
use mathlib.Core.List.{List}
use Prim.Native.Nat.{ℕ, ◌+◌, ◌<◌}
use native.Mathlib.Omega.{arith}
use native.Mathlib.Nat.{add-zero}
use lib.Dec.{eqb}
use Rattle.std.specs.Prelude.{Option, Some, None}
use lib.ListN.{length, drop}
use borrow.Author.Tests.{eq-eqb, ne_eqb, eqb-true}
use Rattle.record.specs.declared.events.Event.{Event}
use Rattle.record.specs.declared.events.Fields.{Fields}
use Rattle.record.specs.declared.parts.Source.{Source}
use Rattle.record.specs.declared.parts.SourceAt.{SourceAt}
use Rattle.record.specs.Answers.{event}
use Rattle.record.specs.Bytes.{word}
use Rattle.record.specs.Events.{kind_of}
use Rattle.record.specs.Fields.{thread_in, source_in, field_at, fields_of, fields_at}
use Rattle.record.specs.Table.{kinds, row_of, length_of}
use Rattle.record.specs.Parts.{size_at, no_source, source_if, sourced?, source_at}
use Rattle.record.specs.Reading.{read_at, read_first}
use Rattle.record.specs.Tests.{◌gives◌else◌}
use Rattle.record.proofs.Computed.{everywhere, else_at}
use Rattle.record.proofs.Frames.{read→}
use Rattle.record.proofs.Shapes.{made}
use Rattle.record.proofs.Starts.{read_at_lem, from_event, read_past}
use Rattle.record.proofs.Scans.{word_drop}

-- what an event says if its kind has a source, and the position past its record
abbrev pub as_source : Event → ℕ → SourceAt
as_source x past =
    sourced? (kind_of x) gives
    record { source = Some (record { thread = (fields_of x).thread; source = (fields_of x).source }); next = past } else
    no_source past

-- the position past a record, whether it has a source or not
pub source_past : (x : Event) (past : ℕ) → (as_source x past).next ≡ past
source_past x past = by_kind (sourced? (kind_of x))
  where
    by_kind :
        (sourced : Bool)
        → (sourced gives
        record { source = Some (record { thread = (fields_of x).thread; source = (fields_of x).source }); next = past } else
        no_source past).next
        ≡ past
    by_kind true = refl
    by_kind false = refl

-- ---- which kinds have a source, by the lengths of their records

-- a record of kind k has that size, and k has a source
abbrev sourced_of : ℕ → ℕ → Bool
sourced_of size k = eqb size (length_of k + 2) && sourced? k

-- a load, or a locked operation
one_of : (k : ℕ) → (eqb k 4 || eqb k 12) ≡ true → (k ≡ 4) ⊎ (k ≡ 12)
one_of k loads = by_kind (eqb k 4) refl (eqb k 12) refl loads
  where
    by_kind : (a : Bool) → eqb k 4 ≡ a → (b : Bool) → eqb k 12 ≡ b → (a || b) ≡ true → (k ≡ 4) ⊎ (k ≡ 12)
    by_kind true is_4 b is_12 holds = inl (eqb-true k 4 is_4)
    by_kind false is_4 true is_12 holds = inr (eqb-true k 12 is_12)
    by_kind false is_4 false is_12 holds = let none : ◌≡◌ {A = ℕ} 0 1 = cc in absurd (omega arith)

-- of ten bytes these are the kinds with a source
of_ten : (k : ℕ) (b : Bool) → (eqb k 4 || eqb k 12) ≡ b → sourced_of 10 k ≡ b
unfolding row_of
of_ten k false none = else_at (length kinds) (λ i. eqb i 4 || eqb i 12) (sourced_of 10) false refl (λ i. refl) k none
of_ten k true loads = by_kind (one_of k loads)
  where
    by_kind : (k ≡ 4) ⊎ (k ≡ 12) → sourced_of 10 k ≡ true
    by_kind (inl is_4) = rw is_4 refl
    by_kind (inr is_12) = rw is_12 refl

-- of eight bytes a wait is
of_eight : (k : ℕ) (b : Bool) → eqb k 14 ≡ b → sourced_of 8 k ≡ b
unfolding row_of
of_eight k false none = else_at (length kinds) (λ i. eqb i 14) (sourced_of 8) false refl (λ i. refl) k none
of_eight k true waits = rw (eqb-true k 14 waits) refl

-- these three are the kinds with a source
pub sourced_kinds : (k : ℕ) → sourced? k ≡ (eqb k 4 || eqb k 12 || eqb k 14)
unfolding row_of
sourced_kinds k = by_test (eqb k 4 || eqb k 12) refl (eqb k 14) refl
  where
    by_kind : (k ≡ 4) ⊎ (k ≡ 12) → sourced? k ≡ true
    by_kind (inl is_4) = rw is_4 refl
    by_kind (inr is_12) = rw is_12 refl

    by_test : (a : Bool) → (eqb k 4 || eqb k 12) ≡ a → (b : Bool) → eqb k 14 ≡ b → sourced? k ≡ (a || b)
    by_test true loads b waits = by_kind (one_of k loads)
    by_test false none true waits = rw (eqb-true k 14 waits) refl
    by_test false none false other =
        else_at (length kinds) (λ i. eqb i 4 || eqb i 12 || eqb i 14) sourced? false refl (λ i. refl) k
        (rw (none, other) refl)

-- what a test over all kinds says of those that have a source
implied : (a b : Bool) → (not a || b) ≡ true → a ≡ true → b ≡ true
implied true b test holds = test
implied false b test holds = let none : ◌≡◌ {A = ℕ} 0 1 = cc in absurd (omega arith)

-- a record of a kind with a source has ten bytes or eight
one_of_two : (k : ℕ) → sourced? k ≡ true → (eqb (length_of k + 2) 10 || eqb (length_of k + 2) 8) ≡ true
unfolding row_of
one_of_two k =
    implied (sourced? k) (eqb (length_of k + 2) 10 || eqb (length_of k + 2) 8)
    (everywhere (length kinds) (λ i. not (sourced? i) || (eqb (length_of i + 2) 10 || eqb (length_of i + 2) 8))
    (λ i. true) refl (λ i. refl) k)

-- so of other sizes none has a source
of_others : (n k : ℕ) → n ≢ 10 → n ≢ 8 → sourced_of n k ≡ false
of_others n k not_ten not_eight = by_test (eqb n (length_of k + 2)) refl (sourced? k) refl
  where
    by_test : (a : Bool) → eqb n (length_of k + 2) ≡ a → (b : Bool) → sourced? k ≡ b → (a && b) ≡ false
    by_test false fits b has = refl
    by_test true fits false has = refl
    by_test true fits true has =
        let same : n ≡ length_of k + 2 = eqb-true n (length_of k + 2) fits in
        let sizes : (eqb n 10 || eqb n 8) ≡ true =
        subst (λ (size : ℕ). (eqb size 10 || eqb size 8) ≡ true) (sym same) (one_of_two k has)
        in
        let neither = rw (ne_eqb n 10 not_ten, ne_eqb n 8 not_eight) at sizes in
        let none : ◌≡◌ {A = ℕ} 0 1 = cc in
        absurd (omega arith)

-- a load's row places thread and source as a locked operation's does
loads_alike :
    (k : ℕ) → (eqb k 4 || eqb k 12) ≡ true
    → (thread_in (row_of 4) ≡ thread_in (row_of k)) × (source_in (row_of 4) ≡ source_in (row_of k))
unfolding row_of
loads_alike k loads = by_kind (one_of k loads)
  where
    by_kind :
        (k ≡ 4) ⊎ (k ≡ 12) → (thread_in (row_of 4) ≡ thread_in (row_of k)) × (source_in (row_of 4) ≡ source_in (row_of k))
    by_kind (inl is_4) = rw is_4 (refl, refl)
    by_kind (inr is_12) = rw is_12 (refl, refl)

-- what passes the test is not 0
some_place : (place : ℕ) → not (eqb place 0) ≡ true → place ≢ 0
some_place place test none =
    let no = rw (eq-eqb place 0 none) at test in
    let zero_one : ◌≡◌ {A = ℕ} 0 1 = cc in
    absurd (omega arith)

-- a kind that has a source has a thread
thread_too : (k : ℕ) → sourced? k ≡ true → not (eqb (thread_in (row_of k)) 0) ≡ true
unfolding row_of
thread_too k =
    implied (sourced? k) (not (eqb (thread_in (row_of k)) 0))
    (everywhere (length kinds) (λ i. not (sourced? i) || not (eqb (thread_in (row_of i)) 0)) (λ i. true) refl
    (λ i. refl) k)

module _ (s : List ℕ) (at : ℕ) where
  -- ---- the ways of `source_at`

  module _ (n k : ℕ) (size_is : n ≡ size_at s at) (kind_is : k ≡ word s (at + 2)) where
    -- thread and source at two places of the record
    abbrev there : ℕ → ℕ → SourceAt
    there a b = record { source = Some (record { thread = word s (at + a); source = word s (at + b) }); next = at + n }

    -- by a row that places them as that of the kind does
    by_row :
        (b : Bool) (row : List ℕ) → sourced_of n k ≡ b
        → (b ≡ true → (thread_in row ≡ thread_in (row_of k)) × (source_in row ≡ source_in (row_of k)))
        → source_if b s at n row ≡ source_at s at
    unfolding source_at
    by_row true row test places =
        rw (← size_is, ← kind_is, test) (ap₂ there (places refl).0 (places refl).1)
    by_row false row test places = rw (← size_is, ← kind_is, test) refl

    pub ten_there : n ≡ 10 → source_if (eqb k 4 || eqb k 12) s at n (row_of 4) ≡ source_at s at
    ten_there is_10 = by_row (eqb k 4 || eqb k 12) (row_of 4)
        (ap (λ m. sourced_of m k) is_10 ∙ of_ten k _ refl) (loads_alike k)

    pub eight_there : n ≡ 8 → source_if (eqb k 14) s at n (row_of 14) ≡ source_at s at
    eight_there is_8 =
        by_row (eqb k 14) (row_of 14) (ap (λ m. sourced_of m k) is_8 ∙ of_eight k _ refl)
        (λ is_wait. rw (eqb-true k 14 is_wait) (refl, refl))

  pub other_there : (n : ℕ) → n ≡ size_at s at → n ≢ 10 → n ≢ 8 → no_source (at + n) ≡ source_at s at
  unfolding source_at
  other_there n size_is not_ten not_eight =
      rw (← size_is, of_others n (word s (at + 2)) not_ten not_eight) refl

  -- ---- a record that is read

  -- a field that a row places is the number there
  field_there : (place : ℕ) → place ≢ 0 → field_at (drop at s) place ≡ word s (at + place)
  field_there place some = rw (ne_eqb place 0 some) (word_drop s at place)

  pub source_at_read : (x : Event) (past : ℕ) → read_at s at ≡ event x past → source_at s at ≡ as_source x past
  source_at_read x past is =
      let (n, read_is, past_is) = from_event at (read_first (drop at s)) x past (sym (read_at_lem s at) ∙ is) in
      let it = read→ (drop at s) x n read_is in
      let size_is : n ≡ size_at s at = omega (arith, past_is, read_past s at x past is) in
      let of_kind = made (drop at s) (word (drop at s) 2) it.known in
      let kind_is : kind_of x ≡ word (drop at s) 2 = sym (ap kind_of it.event_is) ∙ of_kind.kind_is in
      let fields_are : fields_of x ≡ fields_at (drop at s) (row_of (kind_of x)) =
      sym (ap fields_of it.event_is) ∙ (of_kind.fields_are ∙ ap (λ k. fields_at (drop at s) (row_of k)) (sym kind_is))
      in
      let fits : n ≡ length_of (kind_of x) + 2 = sym it.length_fits ∙ ap (λ k. length_of k + 2) (sym kind_is) in
      rw past_is
      (by_test n size_is (kind_is ∙ word_drop s at 2) fits fields_are (sourced? (kind_of x)) refl)
    where
      by_test :
          (n : ℕ) → n ≡ size_at s at → kind_of x ≡ word s (at + 2) → n ≡ length_of (kind_of x) + 2
          → fields_of x ≡ fields_at (drop at s) (row_of (kind_of x))
          → (b : Bool) → sourced? (kind_of x) ≡ b
          → source_at s at ≡ as_source x (at + n)
      by_test n size_is kind_is fits fields_are b has =
          let fitting : sourced_of n (kind_of x) ≡ b = rw (has, eq-eqb n (length_of (kind_of x) + 2) fits) refl in
          sym (by_row n (kind_of x) size_is kind_is b (row_of (kind_of x)) fitting (λ t. (refl, refl)))
          ∙ told b has
        where
          told : (b : Bool) → sourced? (kind_of x) ≡ b → source_if b s at n (row_of (kind_of x)) ≡ as_source x (at + n)
          told false has = rw has refl
          told true has =
              let row = row_of (kind_of x) in
              let source_placed : source_in row ≢ 0 = some_place (source_in row) has in
              let thread_placed : thread_in row ≢ 0 =
              some_place (thread_in row) (thread_too (kind_of x) has)
              in
              let thread_is : (fields_of x).thread ≡ word s (at + thread_in row) =
              ap (λ (f : Fields). f.thread) fields_are ∙ field_there (thread_in row) thread_placed
              in
              let source_is : (fields_of x).source ≡ word s (at + source_in row) =
              ap (λ (f : Fields). f.source) fields_are ∙ field_there (source_in row) source_placed
              in
              rw (has, thread_is, source_is) refl

-- the ways of `source_at`
pub ruleset by_size = (ten_there, eight_there, other_there)
