-- Which roles exclude a crash or a begin, which kinds play no role, and that an event plays a role or does not. An
-- event has one kind, and each role is a test of it; by these facts, proofs elsewhere need not look at the numbers of
-- kinds.
-- In order: what issues, commits, loads, signals and waits are not; the kinds that play no role; the decisions.
use Prim.Native.Nat.{ℕ, ◌≤◌}
use native.Mathlib.Omega.{arith}
use mathlib.Core.Path.{◌≡◌, sym, ◌∙◌}
use mathlib.Core.Bool.{true, false, ◌||◌}
use mathlib.Core.Logic.{◌⊎◌, inl, inr, ◌≢◌}
use borrow.Author.Tests.{eqb-true, ne_eqb}
use Rattle.record.specs.declared.events.Event.{Event}
use Rattle.model.specs.Trace.{kind, is, begin?, issue?, commit?, load?, crash?, signal?, wait?, drained?}
use Rattle.model.specs.Trace.{skip_on?, skip_off?, open?, close?, Issue, Commit, Load, Signal, Wait}
use Rattle.model.proofs.Searching.{false_true, test, or_cases, or_right}

module _ (ev : ℕ → Event) where
  -- an event of one kind is of no other
  pub one_kind : (e a b : ℕ) → a ≢ b → is ev a e ≡ true → is ev b e ≡ false
  one_kind e a b differ is_a = ne_eqb (kind ev e) b (λ is_b. omega (arith, eqb-true (kind ev e) a is_a))

  -- so an event of one of two kinds is of no third, and one of a third kind is of neither
  no_third : (e a b c : ℕ) → a ≢ c → b ≢ c → (is ev a e || is ev b e) ≡ true → is ev c e ≡ false
  no_third e a b c not_a not_b either = by_kind (or_cases (is ev a e) (is ev b e) either)
    where
      by_kind : (is ev a e ≡ true) ⊎ (is ev b e ≡ true) → is ev c e ≡ false
      by_kind (inl is_a) = one_kind e a c not_a is_a
      by_kind (inr is_b) = one_kind e b c not_b is_b

  pub neither : (e c a b : ℕ) → c ≢ a → c ≢ b → is ev c e ≡ true → (is ev a e || is ev b e) ≡ false
  neither e c a b not_a not_b is_c = rw (one_kind e c a not_a is_c, one_kind e c b not_b is_c)

  -- ---- what the roles exclude

  pub issue_no_crash : {e : ℕ} → Issue ev e → crash? ev e ≡ false
  issue_no_crash {e} store = no_third e 2 12 9 (omega arith) (omega arith) store.test

  pub commit_no_crash : {e : ℕ} → Commit ev e → crash? ev e ≡ false
  commit_no_crash {e} commits = no_third e 3 12 9 (omega arith) (omega arith) commits.test

  pub load_no_crash : {e : ℕ} → Load ev e → crash? ev e ≡ false
  load_no_crash {e} loads = no_third e 4 12 9 (omega arith) (omega arith) loads.test

  -- what loads and issues is a locked operation
  pub locked_kind : {e : ℕ} → Load ev e → Issue ev e → kind ev e ≡ 12
  locked_kind {e} loads store = by_kind (or_cases (is ev 4 e) (is ev 12 e) loads.test)
    where
      by_kind : (is ev 4 e ≡ true) ⊎ (is ev 12 e ≡ true) → kind ev e ≡ 12
      by_kind (inl is_4) = false_true (sym (neither e 4 2 12 (omega arith) (omega arith) is_4) ∙ store.test)
      by_kind (inr is_12) = eqb-true (kind ev e) 12 is_12

  -- nor does a load open or close a region
  pub load_no_open : {e : ℕ} → Load ev e → open? ev e ≡ false
  load_no_open {e} loads = no_third e 4 12 15 (omega arith) (omega arith) loads.test

  pub load_no_close : {e : ℕ} → Load ev e → close? ev e ≡ false
  load_no_close {e} loads = no_third e 4 12 16 (omega arith) (omega arith) loads.test

  pub signal_no_crash : {e : ℕ} → Signal ev e → crash? ev e ≡ false
  signal_no_crash {e} signals = one_kind e 13 9 (omega arith) signals.test

  pub signal_no_issue : {e : ℕ} → Signal ev e → issue? ev e ≡ false
  signal_no_issue {e} signals = neither e 13 2 12 (omega arith) (omega arith) signals.test

  pub signal_drains : {e : ℕ} → Signal ev e → drained? ev e ≡ true
  signal_drains {e} signals = or_right (is ev 8 e || is ev 12 e) (signal? ev e) signals.test

  pub wait_no_crash : {e : ℕ} → Wait ev e → crash? ev e ≡ false
  wait_no_crash {e} waits = one_kind e 14 9 (omega arith) waits.test

  pub wait_no_load : {e : ℕ} → Wait ev e → load? ev e ≡ false
  wait_no_load {e} waits = neither e 14 4 12 (omega arith) (omega arith) waits.test

  pub wait_no_issue : {e : ℕ} → Wait ev e → issue? ev e ≡ false
  wait_no_issue {e} waits = neither e 14 2 12 (omega arith) (omega arith) waits.test

  pub begin_no_load : (e : ℕ) → is ev 1 e ≡ true → load? ev e ≡ false
  begin_no_load e = neither e 1 4 12 (omega arith) (omega arith)

  -- ---- the kinds that play no role

  -- event e plays no role on which a ruling rests
  pub record Quiet (e : ℕ) : Type 0 where
    pub no_begin : begin? ev e ≡ false
    pub no_issue : issue? ev e ≡ false
    pub no_commit : commit? ev e ≡ false
    pub no_load : load? ev e ≡ false
    pub no_crash : crash? ev e ≡ false
    pub no_signal : signal? ev e ≡ false
    pub no_wait : wait? ev e ≡ false
    pub no_skip_on : skip_on? ev e ≡ false
    pub no_skip_off : skip_off? ev e ≡ false
    pub no_open : open? ev e ≡ false
    pub no_close : close? ev e ≡ false

  -- so do flushes and fences, kinds 5 to 8
  pub quiet_kind : (e : ℕ) → 5 ≤ kind ev e → kind ev e ≤ 8 → Quiet e
  quiet_kind e low high = record {
    no_begin = ne_eqb (kind ev e) 1 (λ is. omega arith);
    no_issue = rw (ne_eqb (kind ev e) 2 (λ is. omega arith), not_locked);
    no_commit = rw (ne_eqb (kind ev e) 3 (λ is. omega arith), not_locked);
    no_load = rw (ne_eqb (kind ev e) 4 (λ is. omega arith), not_locked);
    no_crash = ne_eqb (kind ev e) 9 (λ is. omega arith);
    no_signal = ne_eqb (kind ev e) 13 (λ is. omega arith);
    no_wait = ne_eqb (kind ev e) 14 (λ is. omega arith);
    no_skip_on = ne_eqb (kind ev e) 10 (λ is. omega arith);
    no_skip_off = ne_eqb (kind ev e) 11 (λ is. omega arith);
    no_open = ne_eqb (kind ev e) 15 (λ is. omega arith);
    no_close = ne_eqb (kind ev e) 16 (λ is. omega arith);
  }
    where
      not_locked : is ev 12 e ≡ false
      not_locked = ne_eqb (kind ev e) 12 (λ is. omega arith)

  -- ---- the decisions

  pub issue_or_not : (e : ℕ) → Issue ev e ⊎ (issue? ev e ≡ false)
  issue_or_not e = by_test (test (issue? ev e))
    where
      by_test : (issue? ev e ≡ true) ⊎ (issue? ev e ≡ false) → Issue ev e ⊎ (issue? ev e ≡ false)
      by_test (inl passes) = inl (record { test = passes })
      by_test (inr fails) = inr fails

  pub load_or_not : (e : ℕ) → Load ev e ⊎ (load? ev e ≡ false)
  load_or_not e = by_test (test (load? ev e))
    where
      by_test : (load? ev e ≡ true) ⊎ (load? ev e ≡ false) → Load ev e ⊎ (load? ev e ≡ false)
      by_test (inl passes) = inl (record { test = passes })
      by_test (inr fails) = inr fails
