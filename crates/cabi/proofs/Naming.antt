-- What a kind's number and fields name tells whether the table has the kind: one case for each answer of the table's
-- test.
use Rattle.std.proofs.Common.{◌≡◌, ℕ, List, Bool, true, false, not, eqb, refl, arith}
use Rattle.record.specs.declared.events.Event.{Event}
use Rattle.record.specs.declared.events.Fields.{Fields}
use Rattle.std.specs.Prelude.{Option, Some, None, slice_index}
use Rattle.record.specs.Tests.{◌gives◌else◌}
use Rattle.record.specs.Table.{length_of}
use Rattle.record.specs.Fields.{event_of}
use Rattle.record.specs.Answers.{named, refused}
use Rattle.record.specs.Writing.{writing, written}
use Rattle.cabi.specs.Records.{is_kind, fields_in, event_named, writing_numbers, written_numbers}

clash : ◌≡◌ {A = ℕ} 0 1 → ⊥
clash z = omega arith

pub names_none : (k : ℕ) (f : Fields) → named k f ≡ None → is_kind k ≡ false
names_none k f = by_test (eqb (length_of k) 0)
  where
    by_test : (none : Bool) → (none gives None else Some (event_of k f)) ≡ None → not none ≡ false
    by_test true h = refl
    by_test false h = absurd (clash (cc))

pub names_one : (k : ℕ) (f : Fields) (e : Event) → named k f ≡ Some e → (is_kind k ≡ true) × (e ≡ event_of k f)
names_one k f e = by_test (eqb (length_of k) 0)
  where
    by_test :
        (none : Bool) → (none gives None else Some (event_of k f)) ≡ Some e → (not none ≡ true) × (e ≡ event_of k f)
    by_test true h = absurd (clash (cc))
    by_test false h = (refl, cc)

module _ (numbers out : List ℕ) where
  abbrev named_by : Option Event
  named_by = named (slice_index numbers 1) (fields_in numbers)

  -- numbers that name no event
  pub unnamed : named_by ≡ None → (refused 3 0 ≡ writing_numbers numbers out) × (out ≡ written_numbers numbers out)
  unfolding writing_numbers written_numbers
  unnamed is = let none = names_none _ _ is in (rw none refl, rw none refl)

  -- and those that name one
  pub written_as :
      (e : Event) → named_by ≡ Some e
      → (writing e out ≡ writing_numbers numbers out) × (written e out ≡ written_numbers numbers out)
  unfolding writing_numbers written_numbers event_named
  written_as e is = let (one, event_is) = names_one _ _ e is in (rw (one, event_is) refl, rw (one, event_is) refl)

pub ruleset naming = (unnamed, written_as)
