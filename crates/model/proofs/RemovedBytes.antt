-- Records that play no role, taken out of a trace's bytes: the bytes of those that stay are accepted, and the verdict
-- on the whole trace is that on them, apart from event numbers. For accepted bytes are their events, encoded
-- (proofs/AcceptedBytes.antt), of which Removing carries the ruling over, with the fault of the stores that it names.
-- In order: fields; the ruling and the share; the answer to a list of events; bytes.
use Prim.Native.Nat.{ℕ, ◌+◌, ◌-◌, ◌≤◌, ◌<◌}
use native.Mathlib.Omega.{arith}
use mathlib.Core.Path.{◌≡◌, refl, ap, ◌∙◌}
use mathlib.Core.Bool.{Bool, true}
use mathlib.Core.List.{List}
use mathlib.Core.Logic.{◌⊎◌, inl, inr}
use lib.ListN.{length}
use Rattle.record.specs.declared.events.Event.{Event}
use Rattle.record.specs.Fields.{fields_of, TwoByte}
use Rattle.record.proofs.RoundTrips.{AllBytes}
use Rattle.model.specs.Trace.{trace_of}
use Rattle.model.specs.Rules.{Accepted}
use Rattle.model.specs.Choice.{Choice, Ruling, robust, broken, finished, Exact}
use Rattle.model.specs.Verdict.{ruling_of}
use Rattle.model.specs.Answers.{share_of}
use Rattle.model.specs.Reading.{events, first_events, encode, AcceptedWith}
use Rattle.model.specs.Judge.{ruled_answer, judge_of, cut_after}
use Rattle.model.specs.Flushes.{carry, shifted, SameVerdict, kept, number, without, taken}
use Rattle.model.proofs.Searching.{less?}
use Rattle.model.proofs.Tabulating.{tabulate_length}
use Rattle.model.proofs.Roles.{Quiet}
use Rattle.model.proofs.Numberings.{number_below, kept_le, kept_lt}
use Rattle.model.proofs.Moving.{moved_two_byte}
use Rattle.model.proofs.AcceptedLists.{source_two_byte}
use Rattle.model.proofs.Taking.{length_kept}
use Rattle.model.proofs.Exactness.{named_missing, named_observed}
use Rattle.model.proofs.Encoding.{AllTwoByte, encoded_accepted}
use Rattle.model.proofs.AcceptedBytes.{accepted_encoded, accepted_two_byte, accepted_list}
use Rattle.model.proofs.Carrying.{SameRuling, carried_ruling, carried_share, carried_answer, carried_cut}
use Rattle.model.proofs.Removing.{numbering, first_stays, there, removed_accepted, removed_exact}
use Rattle.model.proofs.Removing.{removed_finished, removed_fault}

module _
    (es : List Event) (accepted : Accepted (trace_of es) (length es))
    (out? : ℕ → Bool) (quiet : (n : ℕ) → out? n ≡ true → Quiet (trace_of es) n) where
  -- the events that stay
  abbrev short : List Event
  short = without out? es

  removed_two_byte : AllTwoByte es → AllTwoByte short
  removed_two_byte small = record { two_byte = two_byte }
    where
      two_byte : (e : ℕ) → e < length short → TwoByte (fields_of (trace_of short e))
      two_byte e below =
          let inside : number out? es e < length es =
          number_below (numbering es accepted out? quiet) e (length es) (rw (length_kept out? (kept out? es) es) below)
          in
          moved_two_byte (there es accepted out? quiet e)
          (source_two_byte short (removed_accepted es accepted out? quiet) e below) (small.two_byte _ inside)

  -- ---- the ruling and the share

  same_ruling : SameRuling (number out? es) (number out? es) short es
  same_ruling = record {
    short_accepted = removed_accepted es accepted out? quiet;
    long_accepted = accepted;
    exact_same = removed_exact es accepted out? quiet;
    finished_same = removed_finished es accepted out? quiet;
  }

  pub removed_ruling :
      ruling_of (trace_of es) (length es) ≡ carry (number out? es) (ruling_of (trace_of short) (length short))
  removed_ruling = carried_ruling same_ruling

  pub removed_share :
      (least : Choice)
      → share_of least (finished (trace_of es) (length es)) ≡ share_of least (finished (trace_of short) (length short))
  removed_share = carried_share same_ruling

  -- ---- the answer to a list of events

  not_longer : length short ≤ length es
  not_longer =
      omega (
        arith,
        length_kept out? (kept out? es) es,
        kept_le (numbering es accepted out? quiet) (length es),
      )

  -- "Events after begin": the begin, if there is one, stays
  more_events : length es - 1 ≡ length short - 1 + taken out? es
  more_events = by_length (less? 0 (length es))
    where
      by_length : (0 < length es) ⊎ (length es ≤ 0) → length es - 1 ≡ length short - 1 + taken out? es
      by_length (inr none) = omega (arith, not_longer)
      by_length (inl some_event) =
          omega (
            arith,
            not_longer,
            length_kept out? (kept out? es) es,
            kept_lt (numbering es accepted out? quiet) 0 (length es) (first_stays es accepted out? quiet) some_event,
          )

  ruled_shifted :
      (v : Ruling) → Exact (trace_of short) (length short) v
      → ruled_answer (trace_of es) (length es) (carry (number out? es) v)
      ≡ shifted (number out? es) (taken out? es) (ruled_answer (trace_of short) (length short) v)
  ruled_shifted (robust c) least = rw (more_events, removed_share c)
  ruled_shifted (broken load missing observed) it =
      let settled = named_observed (trace_of short) (removed_accepted es accepted out? quiet) it in
      rw (
        more_events,
        removed_fault es accepted out? quiet missing observed (named_missing (trace_of short) it) settled.store,
      )

-- ---- bytes

module _
    (bytes : List ℕ) (all_bytes : AllBytes bytes) (N : ℕ) (accepted : AcceptedWith bytes N)
    (out? : ℕ → Bool) (quiet : (n : ℕ) → out? n ≡ true → Quiet (trace_of (first_events bytes N)) n) where
  -- the events, and those that stay
  abbrev es : List Event
  es = first_events bytes N

  abbrev rest : List Event
  rest = without out? es

  whole_small : AllTwoByte es
  whole_small = accepted_two_byte bytes all_bytes N accepted

  whole_accepted : Accepted (trace_of es) (length es)
  whole_accepted = accepted_list bytes all_bytes N accepted

  rest_small : AllTwoByte rest
  rest_small = removed_two_byte es whole_accepted out? quiet whole_small

  rest_accepted : Accepted (trace_of rest) (length rest)
  rest_accepted = removed_accepted es whole_accepted out? quiet

  -- the bytes of the records that stay are accepted
  pub removed_bytes_accepted : AcceptedWith (encode rest) (N - taken out? es)
  removed_bytes_accepted =
      let stay : N - taken out? es ≡ length rest =
      omega (arith, tabulate_length N (events bytes), not_longer es whole_accepted out? quiet)
      in
      rw stay (encoded_accepted rest rest_small rest_accepted)

  as_encoded : bytes ≡ encode es
  as_encoded = accepted_encoded bytes all_bytes N accepted

  judged_shifted :
      (work cut : ℕ)
      → judge_of bytes work cut ≡ shifted (number out? es) (taken out? es) (judge_of (encode rest) work cut)
  judged_shifted work cut =
      ap (λ (s : List ℕ). judge_of s work cut) as_encoded
      ∙ carried_answer (same_ruling es whole_accepted out? quiet) rest_small whole_small (λ a. a)
      (shifted (number out? es) (taken out? es)) (λ k. refl) (ruled_shifted es whole_accepted out? quiet) work cut

  cut_same : (work : ℕ) (cut : List ℕ) → cut_after bytes work cut ≡ cut_after (encode rest) work cut
  cut_same work cut =
      ap (λ (s : List ℕ). cut_after s work cut) as_encoded
      ∙ carried_cut (same_ruling es whole_accepted out? quiet) rest_small whole_small work cut

  -- QUIET RECORDS MOVE NO VERDICT
  pub removed_verdict : SameVerdict (number out? es) (taken out? es) bytes (encode rest)
  removed_verdict = record { answer = judged_shifted; cut_buffer = cut_same }
