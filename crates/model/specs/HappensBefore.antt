-- Document 01, "Happens-before and the choice": when "Store p happens before q in the same stretch". "Stores of two
-- stretches are unordered." "Crossing loads add nothing": their sources are of earlier stretches. Document 02, job 4,
-- adds what is handed over: "Happens-before in every verdict, query and window includes these steps".
use Rattle.std.specs.Prelude.{ℕ, ◌≤◌, ◌<◌, ◌≡◌, ◌⊎◌}
use Rattle.record.specs.declared.events.Event.{Event}
use Rattle.model.specs.Trace.{thread, source, Issue, Load, Signal, Wait, stretch}

module _ (ev : ℕ → Event) where
  -- Store p happens before event n: before the store that n issues or, if n issues none, before a store that its thread
  -- would issue right behind n.
  pub data Precedes : ℕ → ℕ → Type 0 where
    -- "p is issued earlier by the same thread"
    own : {p n : ℕ} → Issue ev p → stretch ev p ≡ stretch ev n → thread ev p ≡ thread ev n → p < n → Precedes p n
    -- "q's thread, before issuing q, loaded from p in that stretch", by the load l. It may be n itself: a locked
    -- operation loads before it issues (document 02, job 2)
    read :
        {p n : ℕ} (l : ℕ) → Issue ev p → stretch ev p ≡ stretch ev n
        → Load ev l → source ev l ≡ p → thread ev l ≡ thread ev n → stretch ev l ≡ stretch ev n
        → p < l → l ≤ n → Precedes p n
    -- "Each store that would happen before a store issued in the signal's place happens before all stores that the
    -- waiting thread issues, in that stretch, after a wait naming that signal", by the wait w for the signal s. "In the
    -- signal's place" is before s: nothing comes to its thread at s itself. What happens before s may itself be handed
    -- over to its thread: "by loads and earlier waits"
    handed :
        {p n : ℕ} (s w : ℕ) → Signal ev s → stretch ev s ≡ stretch ev n → Precedes p s
        → Wait ev w → source ev w ≡ s → thread ev w ≡ thread ev n → stretch ev w ≡ stretch ev n
        → s < w → w ≤ n → Precedes p n
    -- "a chain of these"
    chain : {p q n : ℕ} → Issue ev q → Precedes p q → Precedes q n → Precedes p n

  -- store p happens before store q
  pub record Before (p q : ℕ) : Type 0 where
    pub store : Issue ev q
    pub precedes : Precedes p q

  -- p is q or happens before it
  abbrev pub AtOrBefore : ℕ → ℕ → Type 0
  AtOrBefore p q = (p ≡ q) ⊎ Before p q
