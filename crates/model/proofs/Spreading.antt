-- Record k becomes three (`spread` of specs/Locked.antt): the numberings by which it is the first, the second or the
-- third of them, at k + d. All laws by zones, before k, at k and behind k, in which every number is a sum.
-- In order: the numbers by zones; the numbering; the numbers of the longer trace; two numberings.
use Prim.Native.Nat.{ℕ, suc, ◌+◌, ◌-◌, ◌≤◌, ◌<◌, min, max}
use native.Mathlib.Omega.{arith}
use mathlib.Core.Path.{◌≡◌, refl, sym, ◌∙◌}
use mathlib.Core.Bool.{Bool, true, false, cond, ◌&&◌, not}
use mathlib.Core.Logic.{◌⊎◌, inl, inr, ◌≢◌}
use lib.Dec.{eqb, leb}
use borrow.Author.Tests.{eqb-false, ne_eqb, lt-ltb, le-ltb, le-leb, lt-leb, leb-true, not-true}
use Rattle.record.specs.declared.events.Event.{Event}
use Rattle.model.specs.Trace.{crash?}
use Rattle.model.specs.Locked.{spread}
use Rattle.model.specs.Embedding.{Numbering, Near}
use Rattle.model.proofs.Searching.{false_true, same?, less?, parts, eqb_same}

-- number n of the longer trace is one of the three, and not the one at k + d
unfoldable pub gap_at : ℕ → ℕ → ℕ → Bool
gap_at d k n = leb k n && leb n (k + 2) && not (eqb n (k + d))

-- how many of the numbers before n are no gaps
unfoldable pub kept_at : ℕ → ℕ → ℕ → ℕ
kept_at d k n = cond (leb n (k + d)) (min n k) (max (suc k) (n - 2))

-- ---- by zones

-- a number e of the shorter trace
pub data Zone (k e : ℕ) : Type 0 where
  low : e < k → Zone k e
  here : e ≡ k → Zone k e
  high : k < e → Zone k e

pub zone : (k e : ℕ) → Zone k e
zone k e = by_order (less? e k) (same? e k)
  where
    by_order : (e < k) ⊎ (k ≤ e) → (e ≡ k) ⊎ (e ≢ k) → Zone k e
    by_order (inl less) either = low less
    by_order (inr more) (inl is) = here is
    by_order (inr more) (inr differs) = high (omega arith)

-- a number n of the longer trace that is no gap
pub data Stays (d k n : ℕ) : Type 0 where
  before : n < k → Stays d k n
  at : n ≡ k + d → Stays d k n
  after : k + 2 < n → Stays d k n

-- and one that is
pub record Gap (d k n : ℕ) : Type 0 where
  pub from : k ≤ n
  pub to : n ≤ k + 2
  pub other : n ≢ k + d

module _ (d k : ℕ) where
  pub spread_low : (e : ℕ) → e < k → spread d k e ≡ e
  unfolding spread
  spread_low e less = rw (lt-ltb e k less)

  pub spread_here : spread d k k ≡ k + d
  unfolding spread
  spread_here = rw (le-ltb k k (omega arith), eqb_same k)

  pub spread_high : (e : ℕ) → k < e → spread d k e ≡ e + 2
  unfolding spread
  spread_high e more = rw (le-ltb e k (omega arith), ne_eqb e k (λ is. omega arith))

  pub kept_low : (n : ℕ) → n ≤ k + d → kept_at d k n ≡ min n k
  unfolding kept_at
  kept_low n less = rw (le-leb n (k + d) less)

  pub kept_high : (n : ℕ) → k + d < n → kept_at d k n ≡ max (suc k) (n - 2)
  unfolding kept_at
  kept_high n more = rw (lt-leb n (k + d) more)

  pub gap_is : (n : ℕ) → gap_at d k n ≡ true → Gap d k n
  unfolding gap_at
  gap_is n gap =
      let outer = parts (leb k n && leb n (k + 2)) _ gap in
      let inner = parts (leb k n) _ outer.0 in
      record {
        from = leb-true k n inner.0;
        to = leb-true n (k + 2) inner.1;
        other = eqb-false n (k + d) (not-true _ outer.1);
      }

  is_gap : (n : ℕ) → Gap d k n → gap_at d k n ≡ true
  unfolding gap_at
  is_gap n gap = rw (le-leb k n gap.from, le-leb n (k + 2) gap.to, ne_eqb n (k + d) gap.other)

  pub stays_is : (n : ℕ) → gap_at d k n ≡ false → Stays d k n
  stays_is n stays = by_order (less? n k) (less? (k + 2) n) (same? n (k + d))
    where
      by_order : (n < k) ⊎ (k ≤ n) → (k + 2 < n) ⊎ (n ≤ k + 2) → (n ≡ k + d) ⊎ (n ≢ k + d) → Stays d k n
      by_order (inl less) w x = before less
      by_order (inr from) (inl more) x = after more
      by_order (inr from) (inr to) (inl is) = at is
      by_order (inr from) (inr to) (inr other) =
          false_true (sym stays ∙ is_gap n (record { from = from; to = to; other = other }))

  module _ (small : d ≤ 2) where
    pub is_stays : (n : ℕ) → Stays d k n → gap_at d k n ≡ false
    unfolding gap_at
    is_stays n (before less) = rw (lt-leb k n less)
    is_stays n (at is) = rw (is, le-leb k (k + d) (omega arith), le-leb (k + d) (k + 2) (omega arith), eqb_same (k + d))
    is_stays n (after more) = rw (le-leb k n (omega arith), lt-leb n (k + 2) more)

    -- ---- the numbering

    pub kept_gap : (n : ℕ) → Gap d k n → kept_at d k (suc n) ≡ kept_at d k n
    kept_gap n gap = by_order (less? n (k + d))
      where
        by_order : (n < k + d) ⊎ (k + d ≤ n) → kept_at d k (suc n) ≡ kept_at d k n
        by_order (inl less) = omega (arith, gap.from, kept_low n (omega arith), kept_low (suc n) less)
        by_order (inr more) =
            let past : k + d < n = omega (arith, gap.other) in
            omega (arith, gap.to, kept_high n past, kept_high (suc n) (omega arith))

    pub kept_event : (n : ℕ) → Stays d k n → kept_at d k (suc n) ≡ suc (kept_at d k n)
    kept_event n (before less) = omega (arith, kept_low n (omega arith), kept_low (suc n) (omega arith))
    kept_event n (at is) = omega (arith, kept_low n (omega arith), kept_high (suc n) (omega arith))
    kept_event n (after more) = omega (arith, kept_high n (omega arith), kept_high (suc n) (omega arith))

    pub number_kept : (n : ℕ) → Stays d k n → spread d k (kept_at d k n) ≡ n
    number_kept n (before less) =
        let is_n : kept_at d k n ≡ n = omega (arith, kept_low n (omega arith)) in
        rw is_n (spread_low n less)
    number_kept n (at is) =
        let is_k : kept_at d k n ≡ k = omega (arith, kept_low n (omega arith)) in
        rw is_k (spread_here ∙ sym is)
    number_kept n (after more) =
        let is_less : kept_at d k n ≡ n - 2 = omega (arith, kept_high n (omega arith)) in
        rw is_less (omega (arith, spread_high (n - 2) (omega arith)))

    pub number_stays : (e : ℕ) → Zone k e → Stays d k (spread d k e)
    number_stays e (low less) = rw (spread_low e less) (before less)
    number_stays e (here is) = rw (is, spread_here) (at refl)
    number_stays e (high more) = rw (spread_high e more) (after (omega arith))

-- ---- the numbers of the longer trace

-- each is that of an event but for k, or of one of the three
pub data Place (k : ℕ) : ℕ → Type 0 where
  other : (e : ℕ) → e ≢ k → Place k (spread 0 k e)
  at_load : Place k (k + 0)
  at_store : Place k (k + 1)
  at_commit : Place k (k + 2)

pub place : (k n : ℕ) → Place k n
place k n = by_order (less? n k) (less? (k + 2) n) (same? n (k + 0)) (same? n (k + 1))
  where
    by_order :
        (n < k) ⊎ (k ≤ n) → (k + 2 < n) ⊎ (n ≤ k + 2) → (n ≡ k + 0) ⊎ (n ≢ k + 0) → (n ≡ k + 1) ⊎ (n ≢ k + 1)
        → Place k n
    by_order (inl less) w x y =
        let differs : n ≢ k = λ is. omega arith in
        rw (spread_low 0 k n less) at (other n differs)
    by_order (inr from) (inl more) x y =
        let at_n : spread 0 k (n - 2) ≡ n = omega (arith, spread_high 0 k (n - 2) (omega arith)) in
        let differs : n - 2 ≢ k = λ is. omega arith in
        rw at_n at (other (n - 2) differs)
    by_order (inr from) (inr to) (inl is) y = rw is at_load
    by_order (inr from) (inr to) (inr not_load) (inl is) = rw is at_store
    by_order (inr from) (inr to) (inr not_load) (inr not_store) =
        let last : n ≡ k + 2 = omega arith in
        rw last at_commit

-- the events of the longer trace are those of the shorter
pub spread_below : (k e N : ℕ) → k < N → e ≢ k → spread 0 k e < N + 2 → e < N
spread_below k e N inside differs below = by_order (less? e k)
  where
    by_order : (e < k) ⊎ (k ≤ e) → e < N
    by_order (inl less) = omega arith
    by_order (inr more) = omega (arith, spread_high 0 k e (omega arith))

-- ---- two numberings

-- they have the same numbers but for event k
pub spread_alike : (c d k e : ℕ) → e ≢ k → spread c k e ≡ spread d k e
spread_alike c d k e differs = by_order (less? e k)
  where
    by_order : (e < k) ⊎ (k ≤ e) → spread c k e ≡ spread d k e
    by_order (inl less) = spread_low c k e less ∙ sym (spread_low d k e less)
    by_order (inr more) = spread_high c k e (omega arith) ∙ sym (spread_high d k e (omega arith))

module _ (c d k : ℕ) (small_c : c ≤ 2) (small_d : d ≤ 2) where
  -- where event e is at k + c, the events before it count in the other numbering, if that has it there or later
  pub kept_number : (e : ℕ) → c ≤ d → kept_at d k (spread c k e) ≡ e
  kept_number e order = by_zone (zone k e)
    where
      by_zone : Zone k e → kept_at d k (spread c k e) ≡ e
      by_zone (low less) = rw (spread_low c k e less) (omega (arith, kept_low d k e (omega arith)))
      by_zone (here is) = rw (is, spread_here c k) (omega (arith, kept_low d k (k + c) (omega arith)))
      by_zone (high more) = rw (spread_high c k e more) (omega (arith, kept_high d k (e + 2) (omega arith)))

  -- and it counts itself, if the other numbering has it there or before
  pub past_number : (e : ℕ) → d ≤ c → kept_at d k (suc (spread c k e)) ≡ suc e
  past_number e order = by_zone (zone k e)
    where
      by_zone : Zone k e → kept_at d k (suc (spread c k e)) ≡ suc e
      by_zone (low less) = rw (spread_low c k e less) (omega (arith, kept_low d k (suc e) (omega arith)))
      by_zone (here is) = rw (is, spread_here c k) (omega (arith, kept_high d k (suc (k + c)) (omega arith)))
      by_zone (high more) = rw (spread_high c k e more) (omega (arith, kept_high d k (suc (e + 2)) (omega arith)))

  -- they differ by event k alone
  pub kept_near :
      (ev : ℕ → Event) (n : ℕ) → c ≤ d → crash? ev k ≡ false → Near ev (kept_at c k n) (kept_at d k n)
  kept_near ev n order no_crash = by_order (less? (k + c) n) (less? (k + d) n)
    where
      by_order : (k + c < n) ⊎ (n ≤ k + c) → (k + d < n) ⊎ (n ≤ k + d) → Near ev (kept_at c k n) (kept_at d k n)
      by_order (inr low_c) either = inl (kept_low c k n low_c ∙ sym (kept_low d k n (omega arith)))
      by_order (inl high_c) (inl high_d) = inl (kept_high c k n high_c ∙ sym (kept_high d k n high_d))
      by_order (inl high_c) (inr low_d) =
          let is_k : kept_at d k n ≡ k = omega (arith, kept_low d k n low_d) in
          let one_more : kept_at c k n ≡ suc k = omega (arith, kept_high c k n high_c) in
          rw is_k (inr (one_more, no_crash))

abbrev pub numbering : (d k : ℕ) → d ≤ 2 → 0 < k → Numbering
numbering d k small later = record {
  gap? = gap_at d k;
  number = spread d k;
  kept = kept_at d k;
  kept_none = omega (arith, kept_low d k 0 (omega arith));
  kept_gap = λ n gap. kept_gap d k small n (gap_is d k n gap);
  kept_event = λ n stays. kept_event d k small n (stays_is d k n stays);
  number_kept = λ n stays. number_kept d k small n (stays_is d k n stays);
  kept_number = λ e. kept_number d d k small small e (omega arith);
  number_stays = λ e. is_stays d k small _ (number_stays d k small e (zone k e));
  first_stays = is_stays d k small 0 (before later);
}
