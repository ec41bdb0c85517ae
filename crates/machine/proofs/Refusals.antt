-- The machine turns an event away exactly by the definitions' number: first what the definitions say of each kind, then
-- that the machine's tests are theirs.
use mathlib.Core.Path.{◌≡◌, refl, sym, ap, ◌∙◌}
use mathlib.Core.Bool.{Bool, true, false, cond, ◌&&◌, ◌||◌, not, and-true, and-false}
use Prim.Native.Nat.{ℕ, ◌<◌}
use native.Mathlib.Omega.{arith}
use borrow.Author.Tests.{ne_eqb, lt-ltb, le-ltb, ltb-true, le-leb, leb-true, leb-false}
use lib.Dec.{eqb, ltb, leb}
use Rattle.record.specs.declared.events.Event.{Event}
use Rattle.record.specs.declared.events.Event.TheVariants.{Begin, Issue, Commit, Load, Clflush, Clwb}
use Rattle.record.specs.declared.events.Event.TheVariants.{Sfence, Mfence, Crash, SkipOn, SkipOff, Locked}
use Rattle.record.specs.declared.events.Event.TheVariants.{Signal, Wait, Open, Close}
use Rattle.record.specs.Fields.{fields_of}
use Rattle.record.specs.Table.{row_of}
use Rattle.record.specs.Tests.{◌gives◌else◌}
use Rattle.model.specs.Trace.{thread, location, source, version, threads, locations, stretch}
use Rattle.model.specs.Machine.{source_fits, signalled, skipping, opened}
use Rattle.model.specs.Rules.{answer, rules, refusal}
use Rattle.model.proofs.Searching.{same_test}
use Rattle.machine.specs.Arms.{by_kind}
use Rattle.machine.specs.Twin.{World, thread_at, region_at, fits_w, signalled_w}
use Rattle.machine.specs.Turning.{empty, on_thread, on_place, on_new, refusal_k, refusal_w, begin_rule, begin_k}
use Rattle.machine.specs.Turning.{begin_refusal}
use Rattle.machine.specs.Sim.{issued, done, Sim}
use Rattle.machine.proofs.Searches.{none_oldest, fits_is}
use Rattle.machine.proofs.HandOver.{signalled_found}

or_off : (b : Bool) → (b || false) ≡ b
or_off true = refl
or_off false = refl

or_on : (b : Bool) → (b || true) ≡ true
or_on true = refl
or_on false = refl

-- ---- what the definitions say of each kind

module _ (ev : ℕ → Event) (n : ℕ) (begun : 0 < n) where
  not_first : eqb n 0 ≡ false
  not_first = ne_eqb n 0 (λ is_0. omega arith)

  thread_of_lem : (e : Event) → ev n ≡ e → thread ev n ≡ (fields_of e).thread
  thread_of_lem e is = ap (λ (f : Event). (fields_of f).thread) is

  location_of : (e : Event) → ev n ≡ e → location ev n ≡ (fields_of e).location
  location_of e is = ap (λ (f : Event). (fields_of f).location) is

  abbrev thread_rule : ℕ → ℕ → ℕ
  thread_rule t r = cond (ltb 2048 n) 13 (cond (leb (threads ev) t) 7 r)

  abbrev place_rule : ℕ → ℕ → ℕ → ℕ
  place_rule t x r = thread_rule t (cond (leb (locations ev) x) 8 r)

  pub refusal_begin : (v a b : ℕ) → ev n ≡ Begin v a b → refusal ev n ≡ 5
  unfolding rules answer row_of
  refusal_begin v a b is = rw (is, not_first, lt-ltb 0 n begun) refl

  refusal_issue : (t x : ℕ) → ev n ≡ Issue t x → refusal ev n ≡ place_rule t x 0
  unfolding rules answer row_of
  refusal_issue t x is =
      rw (is, thread_of_lem (Issue t x) is, location_of (Issue t x) is, not_first, lt-ltb 0 n begun, or_off) refl

  refusal_commit :
      (t : ℕ) → ev n ≡ Commit t
      → refusal ev n ≡ thread_rule t (cond (not (not (eqb (issued ev n t) (done ev n t)))) 10 0)
  unfolding rules answer row_of
  refusal_commit t is =
      rw (
        is,
        thread_of_lem (Commit t) is,
        not_first,
        lt-ltb 0 n begun,
        or_off (ltb 2048 n),
        or_off (not (eqb (issued ev n t) (done ev n t))),
      )
      refl

  refusal_load :
      (t x s : ℕ) → ev n ≡ Load t x s → refusal ev n ≡ place_rule t x (cond (not (source_fits ev n)) 9 0)
  unfolding rules answer row_of
  refusal_load t x s is =
      rw (is, thread_of_lem (Load t x s) is, location_of (Load t x s) is, not_first, lt-ltb 0 n begun, or_off) refl

  refusal_locked :
      (t x s : ℕ) → ev n ≡ Locked t x s
      → refusal ev n
      ≡ place_rule t x (cond (not (eqb (issued ev n t) (done ev n t))) 11 (cond (not (source_fits ev n)) 9 0))
  unfolding rules answer row_of
  refusal_locked t x s is =
      rw (
        is,
        thread_of_lem (Locked t x s) is,
        location_of (Locked t x s) is,
        not_first,
        lt-ltb 0 n begun,
        or_off (ltb 2048 n),
        or_on (not (eqb (issued ev n t) (done ev n t))),
      )
      refl

  refusal_clflush : (t x : ℕ) → ev n ≡ Clflush t x → refusal ev n ≡ place_rule t x 0
  unfolding rules answer row_of
  refusal_clflush t x is =
      rw (is, thread_of_lem (Clflush t x) is, location_of (Clflush t x) is, not_first, lt-ltb 0 n begun, or_off) refl

  refusal_clwb : (t x : ℕ) → ev n ≡ Clwb t x → refusal ev n ≡ place_rule t x 0
  unfolding rules answer row_of
  refusal_clwb t x is =
      rw (is, thread_of_lem (Clwb t x) is, location_of (Clwb t x) is, not_first, lt-ltb 0 n begun, or_off) refl

  refusal_sfence : (t : ℕ) → ev n ≡ Sfence t → refusal ev n ≡ thread_rule t 0
  unfolding rules answer row_of
  refusal_sfence t is =
      rw (is, thread_of_lem (Sfence t) is, not_first, lt-ltb 0 n begun, or_off) refl

  refusal_mfence :
      (t : ℕ) → ev n ≡ Mfence t
      → refusal ev n ≡ thread_rule t (cond (not (eqb (issued ev n t) (done ev n t))) 11 0)
  unfolding rules answer row_of
  refusal_mfence t is =
      rw (is, thread_of_lem (Mfence t) is, not_first, lt-ltb 0 n begun, or_off) refl

  refusal_signal :
      (t : ℕ) → ev n ≡ Signal t
      → refusal ev n ≡ thread_rule t (cond (not (eqb (issued ev n t) (done ev n t))) 11 0)
  unfolding rules answer row_of
  refusal_signal t is =
      rw (is, thread_of_lem (Signal t) is, not_first, lt-ltb 0 n begun, or_off) refl

  refusal_wait :
      (t s : ℕ) → ev n ≡ Wait t s → refusal ev n ≡ thread_rule t (cond (not (signalled ev n)) 18 0)
  unfolding rules answer row_of
  refusal_wait t s is =
      rw (is, thread_of_lem (Wait t s) is, not_first, lt-ltb 0 n begun, or_off) refl

  refusal_crash : ev n ≡ Crash → refusal ev n ≡ cond (ltb 2048 n || eqb (stretch ev n) 8) 13 0
  unfolding rules answer row_of
  refusal_crash is = rw (is, not_first, lt-ltb 0 n begun) refl

  refusal_on : (t : ℕ) → ev n ≡ SkipOn t → refusal ev n ≡ thread_rule t (cond (skipping ev n t || false) 12 0)
  unfolding rules answer row_of
  refusal_on t is =
      rw (is, thread_of_lem (SkipOn t) is, not_first, lt-ltb 0 n begun, or_off (ltb 2048 n)) refl

  refusal_off : (t : ℕ) → ev n ≡ SkipOff t → refusal ev n ≡ thread_rule t (cond (not (skipping ev n t)) 12 0)
  unfolding rules answer row_of
  refusal_off t is =
      rw (is, thread_of_lem (SkipOff t) is, not_first, lt-ltb 0 n begun, or_off (ltb 2048 n)) refl

  -- of a kind that version 2 admits
  abbrev new_rule : ℕ → ℕ
  new_rule r = cond (not (leb 2 (version ev))) 3 r

  refusal_open :
      (t : ℕ) → ev n ≡ Open t → refusal ev n ≡ new_rule (thread_rule t (cond (opened ev n t || false) 12 0))
  unfolding rules answer row_of
  refusal_open t is =
      rw (is, thread_of_lem (Open t) is, not_first, lt-ltb 0 n begun, or_off (ltb 2048 n), and-true) refl

  refusal_close :
      (t o : ℕ) → ev n ≡ Close t o
      → refusal ev n ≡ new_rule (thread_rule t (cond (ltb 1 o) 19 (cond (not (opened ev n t)) 12 0)))
  unfolding rules answer row_of
  refusal_close t o is =
      rw (
        is,
        thread_of_lem (Close t o) is,
        ap (λ (f : Event). (fields_of f).outcome) is,
        not_first,
        lt-ltb 0 n begun,
        or_off (ltb 2048 n),
        and-true,
      )
      refl

-- ---- the machine's tests are theirs

-- the same choice in both forms
chosen : (b : Bool) (a r : ℕ) → (b gives a else r) ≡ cond b a r
chosen true a r = refl
chosen false a r = refl

twice : (b : Bool) (a r : ℕ) → cond b a r ≡ cond (not (not b)) a r
twice true a r = refl
twice false a r = refl

swapped : (b : Bool) (a r : ℕ) → cond b a r ≡ cond (not b) r a
swapped true a r = refl
swapped false a r = refl

ltb_not : (a b : ℕ) → ltb a b ≡ not (leb b a)
ltb_not a b = by_test (leb b a) refl
  where
    by_test : (le : Bool) → leb b a ≡ le → ltb a b ≡ not le
    by_test true is = le-ltb a b (leb-true b a is)
    by_test false is = lt-ltb a b (leb-false b a is)

module _ (ev : ℕ → Event) (n : ℕ) (w : World) (sim : Sim ev n w) where
  abbrev begun : 0 < n
  begun = sim.limits.begun

  -- the row of an event past the last is behind the work area's rows
  late_is : leb 32768 w.state.row ≡ ltb 2048 n
  late_is =
      same_test (leb 32768 w.state.row) (ltb 2048 n)
      (λ late. lt-ltb 2048 n (omega (arith, leb-true 32768 w.state.row late, sim.numbers.row_is)))
      (λ late. le-leb 32768 w.state.row (omega (arith, ltb-true 2048 n late, sim.numbers.row_is)))

  on_thread_lem : (t r r' : ℕ) → (t < 8 → r ≡ r') → on_thread w.state t r ≡ thread_rule ev n begun t r'
  on_thread_lem t r r' agree =
      rw (late_is, sim.numbers.threads_is, ltb_not t (threads ev))
      (by_tests (ltb 2048 n) (leb (threads ev) t) refl)
    where
      by_tests :
          (late high : Bool) → leb (threads ev) t ≡ high
          → ((late gives false else not high) gives r else (late gives 13 else high gives 7 else 8))
          ≡ cond late 13 (cond high 7 r')
      by_tests true high is = refl
      by_tests false true is = refl
      by_tests false false is = agree (omega (arith, leb-false (threads ev) t is, sim.limits.few_threads))

  on_place_lem :
      (t x r r' : ℕ) → (t < 8 → x < 256 → r ≡ r') → on_place w.state t x r ≡ place_rule ev n begun t x r'
  on_place_lem t x r r' agree =
      rw (
        late_is,
        sim.numbers.threads_is,
        sim.numbers.locations_is,
        ltb_not t (threads ev),
        ltb_not x (locations ev),
      )
      (by_tests (ltb 2048 n) (leb (threads ev) t) (leb (locations ev) x) refl refl)
    where
      by_tests :
          (late high far : Bool) → leb (threads ev) t ≡ high → leb (locations ev) x ≡ far
          → (((late gives false else not high) gives not far else false) gives r else
          (late gives 13 else high gives 7 else 8))
          ≡ cond late 13 (cond high 7 (cond far 8 r'))
      by_tests true high far t_is x_is = refl
      by_tests false true far t_is x_is = refl
      by_tests false false true t_is x_is = refl
      by_tests false false false t_is x_is =
          agree (omega (arith, leb-false (threads ev) t t_is, sim.limits.few_threads))
          (omega (arith, leb-false (locations ev) x x_is, sim.limits.few_locations))

  empty_is :
      (t a r : ℕ) → t < 8 → (empty (thread_at w t) gives a else r) ≡ cond (eqb (issued ev n t) (done ev n t)) a r
  empty_is t a r few =
      let queue = sim.queues t few in
      rw (queue.issued_is, queue.committed_is) (chosen (eqb (issued ev n t) (done ev n t)) a r)

  skip_is : (t a r : ℕ) → t < 8 → ((thread_at w t).skip gives a else r) ≡ cond (skipping ev n t) a r
  skip_is t a r few = rw (sim.queues t few).skip_is (chosen (skipping ev n t) a r)

  load_rule_lem :
      (e : Event) → ev n ≡ e → (fields_of e).thread < 8 → (fields_of e).location < 256
      → ◌≡◌ {A = ℕ} (fits_w w (fields_of e).thread (fields_of e).location (fields_of e).source gives 0 else 9)
      (cond (not (source_fits ev n)) 9 0)
  load_rule_lem e is few_t few_x =
      let t_is : (fields_of e).thread ≡ thread ev n = sym (ap (λ (f : Event). (fields_of f).thread) is) in
      let x_is : (fields_of e).location ≡ location ev n = sym (ap (λ (f : Event). (fields_of f).location) is) in
      let s_is : (fields_of e).source ≡ source ev n = sym (ap (λ (f : Event). (fields_of f).source) is) in
      rw (t_is, x_is, s_is, fits_is ev n w sim (rw (← t_is) few_t) (rw (← x_is) few_x))
      (chosen (source_fits ev n) 0 9 ∙ swapped (source_fits ev n) 0 9)

  wait_rule_lem :
      (e : Event) → ev n ≡ e
      → ◌≡◌ {A = ℕ} (signalled_w w (fields_of e).source gives 0 else 18) (cond (not (signalled ev n)) 18 0)
  wait_rule_lem e is =
      let s_is : (fields_of e).source ≡ source ev n = sym (ap (λ (f : Event). (fields_of f).source) is) in
      rw (s_is, signalled_found ev n w sim) (chosen (signalled ev n) 0 18 ∙ swapped (signalled ev n) 0 18)

  -- no store waits exactly if the queue is empty
  oldest_is :
      (t a r : ℕ) → t < 8
      → (eqb (thread_at w t).oldest 0 gives a else r) ≡ cond (not (eqb (issued ev n t) (done ev n t))) r a
  oldest_is t a r few =
      let queue = sim.queues t few in
      rw (queue.oldest_is, none_oldest ev n w sim t)
      (chosen (eqb (issued ev n t) (done ev n t)) a r ∙ swapped (eqb (issued ev n t) (done ev n t)) a r)

  -- the version knows the kind
  on_new_lem : (r r' : ℕ) → r ≡ r' → on_new w.state r ≡ new_rule ev n begun r'
  on_new_lem r r' same =
      rw (same, sim.numbers.version_is, ltb_not (version ev) 2) (chosen (not (leb 2 (version ev))) 3 r')

  opened_is : (t a r : ℕ) → t < 8 → ((region_at w t).opened gives a else r) ≡ cond (opened ev n t) a r
  opened_is t a r few = rw (sim.regions t few).opened_is (chosen (opened ev n t) a r)

  close_rule_lem :
      (t o : ℕ) → t < 8
      → ◌≡◌ {A = ℕ} (ltb 1 o gives 19 else ((region_at w t).opened gives 0 else 12))
      (cond (ltb 1 o) 19 (cond (not (opened ev n t)) 12 0))
  close_rule_lem t o few =
      rw (opened_is t 0 12 few, swapped (opened ev n t) 0 12) (chosen (ltb 1 o) 19 _)

  crash_rule_lem :
      (late eighth : Bool) → ◌≡◌ {A = ℕ} (late gives 13 else eighth gives 13 else 0) (cond (late || eighth) 13 0)
  crash_rule_lem true eighth = refl
  crash_rule_lem false true = refl
  crash_rule_lem false false = refl

  refusal_is : (e : Event) → ev n ≡ e → refusal_w w e ≡ refusal ev n
  unfolding refusal_k by_kind
  refusal_is (Begin v a b) is = sym (refusal_begin ev n begun v a b is)
  refusal_is (Issue t x) is = on_place_lem t x 0 0 (λ _ _. refl) ∙ sym (refusal_issue ev n begun t x is)
  refusal_is (Commit t) is =
      on_thread_lem t _ _ (λ few. empty_is t 10 0 few ∙ twice (eqb (issued ev n t) (done ev n t)) 10 0)
      ∙ sym (refusal_commit ev n begun t is)
  refusal_is (Load t x s) is = on_place_lem t x _ _ (load_rule_lem (Load t x s) is) ∙ sym (refusal_load ev n begun t x s is)
  refusal_is (Clflush t x) is = on_place_lem t x 0 0 (λ _ _. refl) ∙ sym (refusal_clflush ev n begun t x is)
  refusal_is (Clwb t x) is = on_place_lem t x 0 0 (λ _ _. refl) ∙ sym (refusal_clwb ev n begun t x is)
  refusal_is (Sfence t) is = on_thread_lem t 0 0 (λ _. refl) ∙ sym (refusal_sfence ev n begun t is)
  refusal_is (Mfence t) is =
      on_thread_lem t _ _ (λ few. empty_is t 0 11 few ∙ swapped (eqb (issued ev n t) (done ev n t)) 0 11)
      ∙ sym (refusal_mfence ev n begun t is)
  refusal_is Crash is =
      rw (refusal_crash ev n begun is, late_is, sim.numbers.stretch_is)
      (crash_rule_lem (ltb 2048 n) (eqb (stretch ev n) 8))
  refusal_is (SkipOn t) is =
      on_thread_lem t _ _
      (λ few. skip_is t 12 0 few ∙ ap (λ (b : Bool). cond b 12 0) (sym (or_off (skipping ev n t))))
      ∙ sym (refusal_on ev n begun t is)
  refusal_is (SkipOff t) is =
      on_thread_lem t _ _ (λ few. skip_is t 0 12 few ∙ swapped (skipping ev n t) 0 12)
      ∙ sym (refusal_off ev n begun t is)
  refusal_is (Locked t x s) is =
      on_place_lem t x _ _
      (λ few_t few_x.
      ap (λ (k : ℕ). eqb (thread_at w t).oldest 0 gives k else 11) (load_rule_lem (Locked t x s) is few_t few_x)
      ∙ oldest_is t _ 11 few_t)
      ∙ sym (refusal_locked ev n begun t x s is)
  refusal_is (Signal t) is =
      on_thread_lem t _ _ (λ few. oldest_is t 0 11 few) ∙ sym (refusal_signal ev n begun t is)
  refusal_is (Wait t s) is =
      on_thread_lem t _ _ (λ _. wait_rule_lem (Wait t s) is) ∙ sym (refusal_wait ev n begun t s is)
  refusal_is (Open t) is =
      on_new_lem _ _
      (on_thread_lem t _ _
      (λ few. opened_is t 12 0 few ∙ ap (λ (b : Bool). cond b 12 0) (sym (or_off (opened ev n t)))))
      ∙ sym (refusal_open ev n begun t is)
  refusal_is (Close t o) is =
      on_new_lem _ _ (on_thread_lem t _ _ (λ few. close_rule_lem t o few)) ∙ sym (refusal_close ev n begun t o is)

  -- THE MACHINE TURNS AWAY WHAT THE DEFINITIONS DO
  pub refusals : refusal_w w (ev n) ≡ refusal ev n
  refusals = refusal_is (ev n) refl

-- ---- the first event

-- the tests of a begin's fields, one after the other and together
begin_tests :
    (some_version known some_threads few_threads some_locations few_locations : Bool)
    → ◌≡◌ {A = ℕ}
    (not some_version gives 6 else
    not known gives 6 else
    not some_threads gives 6 else
    not few_threads gives 6 else
    not some_locations gives 6 else
    not few_locations gives 6 else
    0)
    (cond
    (not ((some_version && known) && (some_threads && few_threads) && (some_locations && few_locations))) 6 0)
begin_tests false v b c d e = refl
begin_tests true false b c d e = refl
begin_tests true true false c d e = refl
begin_tests true true true false d e = refl
begin_tests true true true true false e = refl
begin_tests true true true true true false = refl
begin_tests true true true true true true = refl

module _ (ev : ℕ → Event) where
  first_is : (e : Event) → ev 0 ≡ e → begin_refusal e ≡ refusal ev 0
  unfolding begin_k begin_rule rules answer row_of
  first_is (Begin v a b) is =
      rw (is, ltb_not v 1, ltb_not 2 v, ltb_not a 1, ltb_not 8 a, ltb_not b 1, ltb_not 256 b)
      (begin_tests (leb 1 v) (leb v 2) (leb 1 a) (leb a 8) (leb 1 b) (leb b 256))
  first_is (Issue t x) is = rw is
  first_is (Commit t) is = rw is
  first_is (Load t x s) is = rw is
  first_is (Clflush t x) is = rw is
  first_is (Clwb t x) is = rw is
  first_is (Sfence t) is = rw is
  first_is (Mfence t) is = rw is
  first_is Crash is = rw is
  first_is (SkipOn t) is = rw is
  first_is (SkipOff t) is = rw is
  first_is (Locked t x s) is = rw is
  first_is (Signal t) is = rw is
  first_is (Wait t s) is = rw is
  first_is (Open t) is = rw (is, and-false) refl
  first_is (Close t o) is = rw (is, and-false) refl

  -- and so of the first event
  pub begin_refusals : begin_refusal (ev 0) ≡ refusal ev 0
  begin_refusals = first_is (ev 0) refl
