-- Happens-before is a strict order on the stores of a stretch: `Precedes` and `Before` lead from a store to a later
-- event of its stretch. The clauses `own` and `read` ask for that, `handed` asks it of the signal, and it carries over
-- along chains.
-- In order: the laws of `Precedes`; those of `Before` and `AtOrBefore`, which follow.
use Prim.Native.Nat.{ℕ, ◌≤◌, ◌<◌}
use native.Mathlib.Omega.{arith}
use mathlib.Core.Path.{◌≡◌, ◌∙◌, ap}
use mathlib.Core.Logic.{inl, inr}
use Rattle.record.specs.declared.events.Event.{Event}
use Rattle.model.specs.Trace.{Issue, stretch}
use Rattle.model.specs.HappensBefore.{Precedes, Before, AtOrBefore, own, read, handed, chain}

module _ (ev : ℕ → Event) where
  -- ---- Precedes

  pub precedes_lt : {p n : ℕ} → Precedes ev p n → p < n
  precedes_lt (own store in_stretch by_thread earlier) = earlier
  precedes_lt (read l store in_stretch loads from by_thread load_in_stretch after early) = omega arith
  precedes_lt (handed {p} {n} s w signal in_stretch before waits from by_thread wait_in_stretch after early) =
      let p<s : p < s = precedes_lt before in
      omega arith
  precedes_lt (chain {p} {q} {n} store first second) =
      let p<q : p < q = precedes_lt first in
      let q<n : q < n = precedes_lt second in
      omega arith

  pub precedes_store : {p n : ℕ} → Precedes ev p n → Issue ev p
  precedes_store (own store in_stretch by_thread earlier) = store
  precedes_store (read l store in_stretch loads from by_thread load_in_stretch after early) = store
  precedes_store (handed s w signal in_stretch before waits from by_thread wait_in_stretch after early) =
      precedes_store before
  precedes_store (chain store first second) = precedes_store first

  pub precedes_stretch : {p n : ℕ} → Precedes ev p n → stretch ev p ≡ stretch ev n
  precedes_stretch (own store in_stretch by_thread earlier) = in_stretch
  precedes_stretch (read l store in_stretch loads from by_thread load_in_stretch after early) = in_stretch
  precedes_stretch (handed s w signal in_stretch before waits from by_thread wait_in_stretch after early) =
      precedes_stretch before ∙ in_stretch
  precedes_stretch (chain store first second) = precedes_stretch first ∙ precedes_stretch second

  -- ---- Before

  pub before_lt : {p q : ℕ} → Before ev p q → p < q
  before_lt b = precedes_lt b.precedes

  pub before_first : {p q : ℕ} → Before ev p q → Issue ev p
  before_first b = precedes_store b.precedes

  pub before_last : {p q : ℕ} → Before ev p q → Issue ev q
  before_last b = b.store

  pub before_stretch : {p q : ℕ} → Before ev p q → stretch ev p ≡ stretch ev q
  before_stretch b = precedes_stretch b.precedes

  before_trans : {p q r : ℕ} → Before ev p q → Before ev q r → Before ev p r
  before_trans first second =
      record { store = second.store; precedes = chain first.store first.precedes second.precedes }

  -- ---- AtOrBefore

  pub same_stretch : (p q : ℕ) → AtOrBefore ev p q → stretch ev p ≡ stretch ev q
  same_stretch p q (inl same) = ap (λ (e : ℕ). stretch ev e) same
  same_stretch p q (inr before) = before_stretch before

  pub at_or_before_le : (p q : ℕ) → AtOrBefore ev p q → p ≤ q
  at_or_before_le p q (inl same) = omega arith
  at_or_before_le p q (inr before) = omega (arith, before_lt before)

  -- what happens before p happens before what is p or happens after it
  pub before_at_or_before : {o p q : ℕ} → Before ev o p → AtOrBefore ev p q → Before ev o q
  before_at_or_before earlier (inl same) = rw same at earlier
  before_at_or_before earlier (inr before) = before_trans earlier before
