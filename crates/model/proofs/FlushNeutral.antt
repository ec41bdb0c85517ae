-- Demand 2: "in an accepted trace flush records never move a verdict, apart from shifting event numbers". Flushes play
-- no role on which a ruling rests, so what Removing and RemovedBytes say of quiet events holds of them, and of sfences
-- too. Empty bytes, an accepted trace with N = 0, have none of them. In order: a list of events without some of its
-- flushes; the bytes of a trace without some, all, one of its flush records; the bytes of two traces that agree but for
-- flush records; sfence records.
use Prim.Native.Nat.{ℕ, suc, ◌-◌, ◌<◌}
use native.Mathlib.Omega.{arith}
use mathlib.Core.Path.{◌≡◌, sym, ap, ◌∙◌, fun_ext}
use mathlib.Core.Bool.{Bool, true, cond}
use mathlib.Core.List.{List}
use mathlib.Core.Logic.{◌⊎◌, inl, inr, ◌↔◌}
use lib.ListN.{length}
use lib.Dec.{ltb}
use borrow.Author.Tests.{eqb-true}
use Rattle.record.specs.declared.events.Event.{Event}
use Rattle.record.specs.declared.events.Event.TheVariants.{Crash}
use Rattle.record.proofs.RoundTrips.{AllBytes}
use Rattle.model.specs.Trace.{trace_of, kind, is}
use Rattle.model.specs.Rules.{Accepted}
use Rattle.model.specs.Choice.{Choice, Ruling, finished, Exact}
use Rattle.model.specs.Answers.{share_of}
use Rattle.model.specs.Verdict.{ruling_of}
use Rattle.model.specs.Reading.{events, first_events, encode, AcceptedWith}
use Rattle.model.specs.Judge.{cut_after}
use Rattle.model.specs.Flushes.{carry, SameVerdict, number, without, taken, only, TakesOnly}
use Rattle.model.specs.Flushes.{flush?, flushes, without_flushes, sfence?}
use Rattle.model.proofs.Searching.{or_cases}
use Rattle.model.proofs.Roles.{Quiet, quiet_kind}
use Rattle.model.proofs.Tabulating.{tabulate_length, tabulate_at}
use Rattle.model.proofs.Taking.{number_one, taken_one}
use Rattle.model.proofs.Removing.{removed_accepted, removed_exact}
use Rattle.model.proofs.RemovedBytes.{removed_ruling, removed_share, removed_bytes_accepted, removed_verdict}

flush_quiet : (ev : ℕ → Event) (e : ℕ) → flush? (ev e) ≡ true → Quiet ev e
flush_quiet ev e flush = by_kind (or_cases (is ev 5 e) (is ev 6 e) flush)
  where
    by_kind : (is ev 5 e ≡ true) ⊎ (is ev 6 e ≡ true) → Quiet ev e
    by_kind (inl clflush) = let is-5 = eqb-true (kind ev e) 5 clflush in quiet_kind ev e (omega arith) (omega arith)
    by_kind (inr clwb) = let is-6 = eqb-true (kind ev e) 6 clwb in quiet_kind ev e (omega arith) (omega arith)

-- ---- a list of events, without some of its flushes

module _
    (es : List Event) (accepted : Accepted (trace_of es) (length es))
    (out? : ℕ → Bool) (only_flushes : TakesOnly flush? out? es) where
  -- the events that stay
  abbrev short : List Event
  short = without out? es

  quiet : (n : ℕ) → out? n ≡ true → Quiet (trace_of es) n
  quiet n out = flush_quiet (trace_of es) n (only_flushes.passes n out)

  pub flush_accepted : Accepted (trace_of short) (length short)
  flush_accepted = removed_accepted es accepted out? quiet

  -- the exact ruling is the same, apart from event numbers, and so the least choice, which fills the cut buffer
  pub flush_neutral :
      (v : Ruling) → Exact (trace_of short) (length short) v ↔ Exact (trace_of es) (length es) (carry (number out? es) v)
  flush_neutral = removed_exact es accepted out? quiet

  -- and so is the ruling that is computed
  pub flush_ruling :
      ruling_of (trace_of es) (length es) ≡ carry (number out? es) (ruling_of (trace_of short) (length short))
  flush_ruling = removed_ruling es accepted out? quiet

  -- and the share of a choice
  pub flush_share :
      (least : Choice)
      → share_of least (finished (trace_of es) (length es)) ≡ share_of least (finished (trace_of short) (length short))
  flush_share = removed_share es accepted out? quiet

-- ---- the bytes of a trace; each is below 256, as in every slice of bytes

module _ (bytes : List ℕ) (all_bytes : AllBytes bytes) (N : ℕ) (accepted : AcceptedWith bytes N) where
  -- the events of the trace
  abbrev es : List Event
  es = first_events bytes N

  -- WITHOUT SOME OF ITS FLUSH RECORDS A TRACE IS ACCEPTED, AND HAS THE SAME VERDICT, APART FROM EVENT NUMBERS
  module _ (out? : ℕ → Bool) (only_flushes : TakesOnly flush? out? es) where
    quiet_there : (n : ℕ) → out? n ≡ true → Quiet (trace_of es) n
    quiet_there n out = flush_quiet (trace_of es) n (only_flushes.passes n out)

    pub some_flushes_accepted : AcceptedWith (encode (without out? es)) (N - taken out? es)
    some_flushes_accepted =
        removed_bytes_accepted bytes all_bytes N accepted out? quiet_there

    pub some_flushes_move_no_verdict :
        SameVerdict (number out? es) (taken out? es) bytes (encode (without out? es))
    some_flushes_move_no_verdict =
        removed_verdict bytes all_bytes N accepted out? quiet_there

  -- THE SAME WITHOUT ALL OF THEM
  all_flushes : TakesOnly flush? (flushes es) es
  all_flushes = record { passes = λ n flush. flush }

  pub flushes_accepted : AcceptedWith (encode (without_flushes es)) (N - taken (flushes es) es)
  flushes_accepted = some_flushes_accepted (flushes es) all_flushes

  pub flushes_move_no_verdict :
      SameVerdict (number (flushes es) es) (taken (flushes es) es) bytes (encode (without_flushes es))
  flushes_move_no_verdict = some_flushes_move_no_verdict (flushes es) all_flushes

  -- AND WITHOUT ONE, RECORD NUMBER k: the numbers from k on are greater by one in the whole trace
  module _ (k : ℕ) (below : k < N) (flush : flush? (events bytes k) ≡ true) where
    one_flush : TakesOnly flush? (only k) es
    one_flush = record { passes = λ n is_k. rw (eqb-true n k is_k, tabulate_at N (events bytes) k Crash below) flush }

    there : k < length es
    there = rw (tabulate_length N (events bytes)) below

    pub one_flush_accepted : AcceptedWith (encode (without (only k) es)) (N - 1)
    one_flush_accepted = rw (taken_one es k there) at (some_flushes_accepted (only k) one_flush)

    pub one_flush_moves_no_verdict :
        SameVerdict (λ n. cond (ltb n k) n (suc n)) 1 bytes (encode (without (only k) es))
    one_flush_moves_no_verdict =
        let numbers : number (only k) es ≡ (λ n. cond (ltb n k) n (suc n)) = fun_ext (number_one es k there) in
        rw (numbers, taken_one es k there) at (some_flushes_move_no_verdict (only k) one_flush)

-- ---- the bytes of two traces that agree but for flush records

module _
    (bytes other : List ℕ) (all_bytes : AllBytes bytes) (all_others : AllBytes other)
    (N M : ℕ) (accepted : AcceptedWith bytes N) (other_accepted : AcceptedWith other M) where
  -- the events of the one, and of the other
  abbrev ones : List Event
  ones = first_events bytes N

  abbrev others : List Event
  others = first_events other M

  module _ (agree : without_flushes ones ≡ without_flushes others) where
    -- the bytes of the trace without flush records
    abbrev plain : List ℕ
    plain = encode (without_flushes ones)

    -- THEY HAVE THE SAME VERDICT, APART FROM EVENT NUMBERS: each has that on the trace without flush records
    pub agreeing_verdicts :
        SameVerdict (number (flushes ones) ones) (taken (flushes ones) ones) bytes plain
        × SameVerdict (number (flushes others) others) (taken (flushes others) others) other plain
    agreeing_verdicts = (
      flushes_move_no_verdict bytes all_bytes N accepted,
      rw (ap encode (sym agree)) at (flushes_move_no_verdict other all_others M other_accepted),
    )

    pub agreeing_cuts : (work : ℕ) (cut : List ℕ) → cut_after bytes work cut ≡ cut_after other work cut
    agreeing_cuts work cut =
        agreeing_verdicts.0.cut_buffer work cut ∙ sym (agreeing_verdicts.1.cut_buffer work cut)

-- ---- sfence records

sfence_quiet : (ev : ℕ → Event) (e : ℕ) → sfence? (ev e) ≡ true → Quiet ev e
sfence_quiet ev e sfence = let is-7 = eqb-true (kind ev e) 7 sfence in quiet_kind ev e (omega arith) (omega arith)

-- WITHOUT SOME OF ITS SFENCE RECORDS A TRACE IS ACCEPTED, AND HAS THE SAME VERDICT, APART FROM EVENT NUMBERS
module _
    (bytes : List ℕ) (all_bytes : AllBytes bytes) (N : ℕ) (accepted : AcceptedWith bytes N)
    (out? : ℕ → Bool) (only_sfences : TakesOnly sfence? out? (first_events bytes N)) where
  -- the events that stay
  abbrev unfenced : List Event
  unfenced = without out? (first_events bytes N)

  quiet_fence : (n : ℕ) → out? n ≡ true → Quiet (trace_of (first_events bytes N)) n
  quiet_fence n out = sfence_quiet (trace_of (first_events bytes N)) n (only_sfences.passes n out)

  pub some_sfences_accepted : AcceptedWith (encode unfenced) (N - taken out? (first_events bytes N))
  some_sfences_accepted = removed_bytes_accepted bytes all_bytes N accepted out? quiet_fence

  pub some_sfences_move_no_verdict :
      SameVerdict (number out? (first_events bytes N)) (taken out? (first_events bytes N)) bytes (encode unfenced)
  some_sfences_move_no_verdict = removed_verdict bytes all_bytes N accepted out? quiet_fence
