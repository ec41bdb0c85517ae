-- Two lists of events that have the same exact rulings, apart from event numbers (`carry_by`), and the same commits in
-- finished stretches: then the computed ruling, the share, the answer to their bytes and the cut buffer are the same.
-- For the computed ruling is exact, a trace has one exact ruling, and an accepted list's bytes are read as its events.
-- In order: what the two have in common; the ruling and the share; the answer to the bytes.
use Prim.Native.Nat.{ℕ}
use mathlib.Core.Path.{◌≡◌, refl, ap, fun_ext}
use mathlib.Core.Bool.{Bool, true, false}
use mathlib.Core.List.{List}
use mathlib.Core.Logic.{◌↔◌}
use lib.ListN.{length}
use Rattle.record.specs.declared.events.Event.{Event}
use Rattle.record.specs.Tests.{◌gives◌else◌}
use Rattle.model.specs.Trace.{trace_of}
use Rattle.model.specs.Rules.{Accepted}
use Rattle.model.specs.Choice.{Choice, Ruling, robust, broken, finished, Exact}
use Rattle.model.specs.Verdict.{ruling_of}
use Rattle.model.specs.Answers.{Answer, refused, share_of}
use Rattle.model.specs.Reading.{encode}
use Rattle.model.specs.Judge.{small_work, wrong_cut, ruled_answer, ruled_cut, judge_of, cut_after}
use Rattle.model.specs.Flushes.{carry_by}
use Rattle.model.proofs.Exactness.{exact, unique}
use Rattle.model.proofs.TurnedAway.{accepted_exactly}
use Rattle.model.proofs.Encoding.{AllTwoByte, same_events, encoded_accepted}

-- event e of the short list is event f e of the long one as a load, and g e as a store
pub record SameRuling (f g : ℕ → ℕ) (short long : List Event) : Type 0 where
  pub short_accepted : Accepted (trace_of short) (length short)
  pub long_accepted : Accepted (trace_of long) (length long)
  pub exact_same :
      (v : Ruling) → Exact (trace_of short) (length short) v ↔ Exact (trace_of long) (length long) (carry_by f g v)
  pub finished_same :
      (j t : ℕ) → finished (trace_of long) (length long) j t ≡ finished (trace_of short) (length short) j t

module _ {f g : ℕ → ℕ} {short long : List Event} (same : SameRuling f g short long) where
  -- ---- the ruling and the share

  -- the rulings that are computed
  abbrev short_ruling : Ruling
  short_ruling = ruling_of (trace_of short) (length short)

  abbrev long_ruling : Ruling
  long_ruling = ruling_of (trace_of long) (length long)

  short_exact : Exact (trace_of short) (length short) short_ruling
  short_exact = exact (trace_of short) (length short) same.short_accepted

  pub carried_ruling : ruling_of (trace_of long) (length long) ≡ carry_by f g (ruling_of (trace_of short) (length short))
  carried_ruling =
      unique (trace_of long) (length long) long_ruling (carry_by f g short_ruling)
      (exact (trace_of long) (length long) same.long_accepted) ((same.exact_same short_ruling).0 short_exact)

  pub carried_share :
      (least : Choice)
      → share_of least (finished (trace_of long) (length long)) ≡ share_of least (finished (trace_of short) (length short))
  carried_share least = ap (share_of least) (fun_ext λ j. fun_ext λ t. same.finished_same j t)

-- ---- the answer to the bytes

-- the answer to the bytes of an accepted list of events, and the cut buffer afterwards
module _ (xs : List Event) (small : AllTwoByte xs) (accepted : Accepted (trace_of xs) (length xs)) where
  judged_encoded :
      (work cut : ℕ)
      → judge_of (encode xs) work cut
      ≡ (small_work work gives refused 14 0 else wrong_cut cut gives refused 15 0 else
      ruled_answer (trace_of xs) (length xs) (ruling_of (trace_of xs) (length xs)))
  unfolding judge_of
  judged_encoded work cut =
      rw ((accepted_exactly (encode xs) (length xs)).1 (encoded_accepted xs small accepted), same_events xs small)

  cut_encoded :
      (work : ℕ) (cut : List ℕ)
      → cut_after (encode xs) work cut
      ≡ (small_work work gives cut else wrong_cut (length cut) gives cut else
      ruled_cut (trace_of xs) (length xs) cut (ruling_of (trace_of xs) (length xs)))
  unfolding cut_after
  cut_encoded work cut =
      rw ((accepted_exactly (encode xs) (length xs)).1 (encoded_accepted xs small accepted), same_events xs small)

module _
    {f g : ℕ → ℕ} {short long : List Event} (same : SameRuling f g short long)
    (short_small : AllTwoByte short) (long_small : AllTwoByte long) where
  -- answers to the long trace are compared as `seen`, with those to the short one `carried` over; refusals stay
  module _
      (seen carried : Answer → Answer) (refusal_stays : (k : ℕ) → seen (refused k 0) ≡ carried (refused k 0))
      (ruled :
      (v : Ruling) → Exact (trace_of short) (length short) v
      → seen (ruled_answer (trace_of long) (length long) (carry_by f g v))
      ≡ carried (ruled_answer (trace_of short) (length short) v)) where
    -- refusals 14 and 15
    behind :
        (small wrong : Bool) (a b : Answer) → seen a ≡ carried b
        → seen (small gives refused 14 0 else wrong gives refused 15 0 else a)
        ≡ carried (small gives refused 14 0 else wrong gives refused 15 0 else b)
    behind true wrong a b else_same = refusal_stays 14
    behind false true a b else_same = refusal_stays 15
    behind false false a b else_same = else_same

    pub carried_answer :
        (work cut : ℕ) → seen (judge_of (encode long) work cut) ≡ carried (judge_of (encode short) work cut)
    carried_answer work cut =
        rw (
          judged_encoded long long_small same.long_accepted work cut,
          judged_encoded short short_small same.short_accepted work cut,
          carried_ruling same,
        )
        (behind (small_work work) (wrong_cut cut) _ _
        (ruled (ruling_of (trace_of short) (length short)) (short_exact same)))

  ruled_cut_lem :
      (cut : List ℕ) (v : Ruling)
      → ruled_cut (trace_of long) (length long) cut (carry_by f g v) ≡ ruled_cut (trace_of short) (length short) cut v
  ruled_cut_lem cut (robust c) = refl
  ruled_cut_lem cut (broken load missing observed) = refl

  pub carried_cut : (work : ℕ) (cut : List ℕ) → cut_after (encode long) work cut ≡ cut_after (encode short) work cut
  carried_cut work cut =
      rw (
        cut_encoded long long_small same.long_accepted work cut,
        cut_encoded short short_small same.short_accepted work cut,
        carried_ruling same,
        ruled_cut_lem cut (ruling_of (trace_of short) (length short)),
      )
