-- Sessions: how a list of worked examples is shown of the definitions, from their bytes. The bytes are those of a list
-- of events, so what the definitions say of the bytes is what they say of the events (proofs/Encoding.antt), and that
-- is computed.
use Prim.Native.Nat.{ℕ, ◌<◌}
use mathlib.Core.Path.{◌≡◌, refl, ap₂}
use mathlib.Core.Bool.{Bool, true, ◌&&◌}
use mathlib.Core.List.{List, [], ◌∷◌, map}
use lib.ListN.{get_or, replicate}
use lib.Dec.{ltb}
use borrow.Author.Tests.{ltb-true}
use Rattle.record.specs.declared.events.Event.{Event}
use Rattle.record.specs.declared.events.Event.TheVariants.{Crash}
use Rattle.record.specs.Fields.{columns, fields_of, TwoByte}
use Rattle.record.proofs.Computed.{every, every_at, every_each}
use Rattle.model.specs.Trace.{trace_of}
use Rattle.model.specs.Windows.{Places, none}
use Rattle.model.specs.Answers.{Answer, tabulate}
use Rattle.model.specs.Reading.{encode}
use Rattle.model.specs.Judge.{judge_of, cut_after}
use Rattle.model.proofs.Searching.{parts}
use Rattle.model.proofs.Encoding.{AllTwoByte, two_byte?, reading_events, answer_events, cut_events}
use Rattle.model.proofs.Encoding.{same_reading, same_answer, same_cut}

-- a cut buffer of 56 sevens, lent, so that one that is untouched can be told from one that is filled
abbrev pub lent : List ℕ
lent = replicate 56 7

abbrev pub zeros : ℕ → List ℕ
zeros n = replicate n 0

-- the windows of threads 0 to 7: those that are listed, and none for the rest
abbrev pub padded : List Places → List Places
padded ws = tabulate 8 (λ t. get_or ws t none)

-- what judging a trace's bytes answers, with a work area of 32,768 numbers, and the cut buffer afterwards
pub record Outcome : Type 0 where
  pub answer : Answer
  pub cut : List ℕ

abbrev pub outcome_of : List ℕ → Outcome
outcome_of bytes = record { answer = judge_of bytes 32768 56; cut = cut_after bytes 32768 lent }

-- the same of a list of events
abbrev pub outcome_of_events : List Event → Outcome
outcome_of_events xs =
    record { answer = answer_events xs (reading_events xs); cut = cut_events xs lent (reading_events xs) }

-- ---- a list of sessions

-- each event has two-byte fields
abbrev pub writable : List Event → Bool
writable xs = every two_byte? xs

abbrev pub all_writable : List (List Event) → Bool
all_writable [] = true
all_writable (xs ∷ xss) = writable xs && all_writable xss

-- an event that passes the test has two-byte fields
two_byte : (x : Event) → two_byte? x ≡ true → TwoByte (fields_of x)
two_byte x passes =
    record {
      small =
          every_each (λ v. ltb v 65536) (λ v. v < 65536) (λ v. ltb-true v 65536) (columns (fields_of x)) passes;
    }

-- behind the last event all are crashes, which pass it too
each_two_byte : (xs : List Event) → every two_byte? xs ≡ true → AllTwoByte xs
each_two_byte xs passes =
    record { two_byte = λ e inside. two_byte (trace_of xs e) (every_at two_byte? xs Crash passes refl e) }

outcome_encoded : (xs : List Event) → writable xs ≡ true → outcome_of (encode xs) ≡ outcome_of_events xs
unfolding judge_of cut_after
outcome_encoded xs passes =
    let small = each_two_byte xs passes in
    rw (same_reading xs small, same_answer xs small, same_cut xs small)

-- what the definitions say of the bytes is what is computed of the events
pub outcome_all :
    (xss : List (List Event)) → all_writable xss ≡ true → map outcome_of (map encode xss) ≡ map outcome_of_events xss
outcome_all [] passes = refl
outcome_all (xs ∷ xss) passes =
    let fits = parts (writable xs) _ passes in
    ap₂ ◌∷◌ (outcome_encoded xs fits.0) (outcome_all xss fits.1)
