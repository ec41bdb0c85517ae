-- ALL LOCKED OPERATIONS REPLACED BY THEIR THREE RECORDS (`unlocked` of specs/Locked.antt): none is left, and the rest
-- is as for one. By replacements from the last record to the first: each leaves the kinds below it, and none behind it.
-- In order: locked operations that are left; the numbers of events; the replacements, one after the other; theorems;
-- an example.
use Prim.Native.Nat.{ℕ, zero, suc, ◌+◌, ◌*◌, ◌≤◌, ◌<◌}
use native.Mathlib.Omega.{arith}
use mathlib.Core.Path.{◌≡◌, refl, ◌∙◌, fun_ext}
use mathlib.Core.Bool.{true, false}
use mathlib.Core.List.{List, [], ◌∷◌, map}
use mathlib.Core.Logic.{◌⊎◌, inl, inr, ◌≢◌, ◌↔◌}
use lib.ListN.{length, get_or-eq_default}
use Rattle.record.specs.declared.events.Event.{Event}
use Rattle.record.specs.declared.events.Event.TheVariants.{Begin, Issue, Commit, Load, Crash, Locked}
use Rattle.record.specs.Fields.{event_of}
use Rattle.model.specs.Search.{bit}
use Rattle.model.specs.Trace.{trace_of}
use Rattle.model.specs.Rules.{Accepted}
use Rattle.model.specs.Choice.{Choice, Ruling, finished, Exact}
use Rattle.model.specs.Verdict.{ruling_of}
use Rattle.model.specs.Answers.{share_of}
use Rattle.model.specs.Flushes.{carry_by, moved}
use Rattle.model.specs.Locked.{locked?, spread, as_store, replacing, replaced, replaced_before}
use Rattle.model.specs.Locked.{unlocked, locked_before, unlocked_at, unlocked_load, unlocked_store}
use Rattle.model.proofs.Searching.{test, same?, less?}
use Rattle.model.proofs.Moving.{moved_kind}
use Rattle.model.proofs.Carrying.{carried_ruling, carried_share}
use Rattle.model.proofs.Spreading.{spread_low, spread_here, spread_high, Zone, low, here, high, zone}
use Rattle.model.proofs.Spreading.{Place, other, at_load, at_store, at_commit, place}
use Rattle.model.proofs.Replacing.{length_replaced, other_there, three_there}
use Rattle.model.proofs.Replacements.{Replacement, one_replaced, unchanged, and_then}

-- ---- locked operations that are left

-- none at number k or behind it
abbrev NoneFrom : ℕ → List Event → Type 0
NoneFrom k es = (n : ℕ) → k ≤ n → locked? (trace_of es n) ≡ false

locked_before_0 : (es : List Event) → locked_before es 0 ≡ 0
unfolding locked_before
locked_before_0 es = refl

-- then there are as many before a later number as before k
locked_before_lem : (k : ℕ) (es : List Event) → NoneFrom k es → (n : ℕ) → k ≤ n → locked_before es n ≡ locked_before es k
unfolding locked_before
locked_before_lem k es none zero past = let is : k ≡ 0 = omega arith in rw is
locked_before_lem k es none (suc n) past = by_place (same? k (suc n)) (locked_before_lem k es none n)
  where
    by_place :
        (k ≡ suc n) ⊎ (k ≢ suc n) → (k ≤ n → locked_before es n ≡ locked_before es k)
        → locked_before es n + bit (locked? (trace_of es n)) ≡ locked_before es k
    by_place (inl is) earlier = rw is
    by_place (inr differs) earlier = rw (none n (omega arith)) (omega (arith, earlier (omega arith)))

module _ (es : List Event) (k : ℕ) (inside : k < length es) (locked : locked? (trace_of es k) ≡ true) where
  -- below record k the kinds stay
  locked_same : (e : ℕ) → e < k → locked? (trace_of (replaced k es) e) ≡ locked? (trace_of es e)
  locked_same e less =
      let there = rw (spread_low 0 k e less) at (other_there es k inside 0 e (λ is. omega arith)) in
      rw (there, moved_kind (as_store k) (trace_of es e))

  before_same : (n : ℕ) → n ≤ k → locked_before (replaced k es) n ≡ locked_before es n
  unfolding locked_before
  before_same zero within = refl
  before_same (suc n) within = rw (locked_same n within, before_same n (omega arith))

  -- and at it and behind it none is left
  none_replaced : NoneFrom (suc k) es → NoneFrom k (replaced k es)
  none_replaced none n from = by_place (place k n) from
    where
      by_place : {n : ℕ} → Place k n → k ≤ n → locked? (trace_of (replaced k es) n) ≡ false
      by_place (other e differs) from =
          rw (other_there es k inside 0 e differs, moved_kind (as_store k) (trace_of es e)) (none e (behind (less? e k)))
        where
          behind : (e < k) ⊎ (k ≤ e) → suc k ≤ e
          behind (inl less) = absurd (omega (arith, spread_low 0 k e less))
          behind (inr more) = omega arith
      by_place at_load from = rw (three_there es k inside).loads
      by_place at_store from = rw (three_there es k inside).stores
      by_place at_commit from = rw (three_there es k inside).commits

  past_same : NoneFrom (suc k) es → (n : ℕ) → k ≤ n → locked_before (replaced k es) n ≡ locked_before es k
  past_same none n past = locked_before_lem k (replaced k es) (none_replaced none) n past ∙ before_same k (omega arith)

  -- ---- the numbers of events

  one_more : locked_before es (suc k) ≡ locked_before es k + 1
  unfolding locked_before
  one_more = rw locked

  -- an event has the number that it has where record k is replaced first
  number_replaced :
      NoneFrom (suc k) es → (d e : ℕ) → unlocked_at d es e ≡ unlocked_at d (replaced k es) (spread d k e)
  unfolding unlocked_at
  number_replaced none d e = by_zone (zone k e)
    where
      then_none : NoneFrom k (replaced k es)
      then_none = none_replaced none

      by_zone : Zone k e → unlocked_at d es e ≡ unlocked_at d (replaced k es) (spread d k e)
      by_zone (low less) = rw (spread_low d k e less, locked_same e less, before_same e (omega arith))
      by_zone (here is) =
          rw (
            is,
            spread_here d k,
            locked,
            then_none (k + d) (omega arith),
            past_same none (k + d) (omega arith),
          )
          (omega arith)
      by_zone (high more) =
          rw (
            spread_high d k e more,
            none e more,
            then_none (e + 2) (omega arith),
            past_same none (e + 2) (omega arith),
            locked_before_lem (suc k) es none e more,
            one_more,
          )
          (omega arith)

-- without locked operations it has its own
number_none : (es : List Event) → NoneFrom 0 es → (d e : ℕ) → unlocked_at d es e ≡ e
unfolding unlocked_at
number_none es none d e =
    rw (none e (omega arith), locked_before_lem 0 es none e (omega arith), locked_before_0 es) (omega arith)

-- ---- the replacements, one after the other

data Steps : List Event → List Event → Type 0 where
  done : {es : List Event} → NoneFrom 0 es → Steps es es
  replace :
      {es long : List Event} (k : ℕ) → k < length es → locked? (trace_of es k) ≡ true → NoneFrom (suc k) es
      → Steps (replaced k es) long → Steps es long

-- if there is none at k either
none_here : (k : ℕ) (es : List Event) → locked? (trace_of es k) ≡ false → NoneFrom (suc k) es → NoneFrom k es
none_here k es not_k none n from = by_place (same? n k)
  where
    by_place : (n ≡ k) ⊎ (n ≢ k) → locked? (trace_of es n) ≡ false
    by_place (inl is) = rw is not_k
    by_place (inr differs) = none n (omega arith)

steps_before : (k : ℕ) (es : List Event) → k ≤ length es → NoneFrom k es → Steps es (replaced_before k es)
unfolding replaced_before
steps_before zero es within none = done none
steps_before (suc k) es within none =
    by_kind (test (locked? (trace_of es k))) (steps_before k (replaced k es)) (steps_before k es)
  where
    by_kind :
        (locked? (trace_of es k) ≡ true) ⊎ (locked? (trace_of es k) ≡ false)
        → (k ≤ length (replaced k es) → NoneFrom k (replaced k es)
        → Steps (replaced k es) (replaced_before k (replaced k es)))
        → (k ≤ length es → NoneFrom k es → Steps es (replaced_before k es))
        → Steps es (replaced_before (suc k) es)
    by_kind (inl locked) longer same =
        let grows = length_replaced es k within in
        rw locked (replace k within locked none (longer (omega arith) (none_replaced es k within locked none)))
    by_kind (inr not_k) longer same = rw not_k (same (omega arith) (none_here k es not_k none))

all_steps : (es : List Event) → Steps es (unlocked es)
all_steps es = steps_before (length es) es (omega arith) (λ n past. rw (get_or-eq_default es Crash past))

none_then : {es long : List Event} → Steps es long → NoneFrom 0 long
none_then (done none) = none
none_then (replace k inside locked none rest) = none_then rest

not_shorter : {es long : List Event} → Steps es long → length es ≤ length long
not_shorter (done none) = omega arith
not_shorter (replace {es} k inside locked none rest) = omega (arith, not_shorter rest, length_replaced es k inside)

-- two records more for each locked operation
length_then : {es long : List Event} → Steps es long → length long ≡ length es + 2 * locked_before es (length es)
length_then (done {es} none) =
    rw (locked_before_lem 0 es none (length es) (omega arith), locked_before_0 es) (omega arith)
length_then (replace {es} k inside locked none rest) =
    omega (
      arith,
      length_then rest,
      length_replaced es k inside,
      past_same es k inside locked none (length (replaced k es)) (omega (arith, length_replaced es k inside)),
      locked_before_lem (suc k) es none (length es) inside,
      one_more es k inside locked,
    )

replaced_then :
    {es long : List Event} → Steps es long → Accepted (trace_of es) (length es) → length long ≤ 2049
    → Replacement (unlocked_load es) (unlocked_store es) es long
replaced_then (done {es} none) accepted room =
    rw (fun_ext (number_none es none 0), fun_ext (number_none es none 1)) (unchanged es accepted)
replaced_then (replace {es} k inside locked none rest) accepted room =
    let room_now : length es + 2 ≤ 2049 = omega (arith, not_shorter rest, length_replaced es k inside) in
    let one = one_replaced es accepted k inside locked room_now in
    rw (
      fun_ext (number_replaced es k inside locked none 0),
      fun_ext (number_replaced es k inside locked none 1),
    )
    (and_then one (replaced_then rest one.same.long_accepted room))

-- ---- theorems

-- NO LOCKED OPERATION IS LEFT
pub none_left : (es : List Event) (n : ℕ) → locked? (trace_of (unlocked es) n) ≡ false
none_left es n = none_then (all_steps es) n (omega arith)

pub length_unlocked : (es : List Event) → length (unlocked es) ≡ length es + 2 * locked_before es (length es)
length_unlocked es = length_then (all_steps es)

module _
    (es : List Event) (accepted : Accepted (trace_of es) (length es)) (room : length (unlocked es) ≤ 2049) where
  pub all_replaced : Replacement (unlocked_load es) (unlocked_store es) es (unlocked es)
  all_replaced = replaced_then (all_steps es) accepted room

  pub all_replaced_accepted : Accepted (trace_of (unlocked es)) (length (unlocked es))
  all_replaced_accepted = all_replaced.same.long_accepted

  pub all_replaced_exact :
      (v : Ruling)
      → Exact (trace_of es) (length es) v
      ↔ Exact (trace_of (unlocked es)) (length (unlocked es)) (carry_by (unlocked_load es) (unlocked_store es) v)
  all_replaced_exact = all_replaced.same.exact_same

  pub all_replaced_ruling :
      ruling_of (trace_of (unlocked es)) (length (unlocked es))
      ≡ carry_by (unlocked_load es) (unlocked_store es) (ruling_of (trace_of es) (length es))
  all_replaced_ruling = carried_ruling all_replaced.same

  pub all_replaced_finished :
      (j t : ℕ)
      → finished (trace_of (unlocked es)) (length (unlocked es)) j t ≡ finished (trace_of es) (length es) j t
  all_replaced_finished = all_replaced.same.finished_same

  pub all_replaced_share :
      (least : Choice)
      → share_of least (finished (trace_of (unlocked es)) (length (unlocked es)))
      ≡ share_of least (finished (trace_of es) (length es))
  all_replaced_share = carried_share all_replaced.same

-- ---- an example

abbrev before : List Event
before = Begin 1 1 1 ∷ Locked 0 0 0 ∷ Locked 0 0 1 ∷ Crash ∷ Load 0 0 2 ∷ []

abbrev after : List Event
after =
    Begin 1 1 1 ∷ Load 0 0 0 ∷ Issue 0 0 ∷ Commit 0 ∷ Load 0 0 2 ∷ Issue 0 0 ∷ Commit 0 ∷ Crash ∷ Load 0 0 5 ∷ []

example_unlocked : unlocked before ≡ after
unfolding replaced_before replacing spread moved event_of
example_unlocked = refl

example_loads : map (unlocked_load before) (0 ∷ 1 ∷ 2 ∷ 3 ∷ 4 ∷ []) ≡ 0 ∷ 1 ∷ 4 ∷ 7 ∷ 8 ∷ []
unfolding unlocked_at locked_before
example_loads = refl

example_stores : map (unlocked_store before) (0 ∷ 1 ∷ 2 ∷ 3 ∷ 4 ∷ []) ≡ 0 ∷ 2 ∷ 5 ∷ 7 ∷ 8 ∷ []
unfolding unlocked_at locked_before
example_stores = refl
