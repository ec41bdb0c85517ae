-- How the ruling's parts change from event to event, by which a program keeps them up: what is forbidden, observed and
-- in the closure after one event more; that a pair is a forbidden store in the closure; and that a pair stays one, so
-- that the ruling of a broken trace is that of its first records.
-- In order: the steps; hits; the stores that a program marks; pairs, event by event; the ruling.
use Prim.Native.Nat.{ℕ, suc, ◌≤◌, ◌<◌, max}
use native.Mathlib.Omega.{arith}
use mathlib.Core.Path.{◌≡◌, refl, sym, ◌∙◌}
use mathlib.Core.Bool.{Bool, true, false, cond, ◌&&◌, ◌||◌, not}
use mathlib.Core.Logic.{◌⊎◌, inl, inr, ◌≢◌}
use lib.Dec.{eqb, ltb}
use borrow.Author.Tests.{eqb-true, eqb-false, eq-eqb, ne_eqb, ltb-true, lt-ltb, not-true}
use Rattle.record.specs.declared.events.Event.{Event}
use Rattle.model.specs.Search.{some, any, first}
use Rattle.model.specs.Trace.{thread, source, commit?, Issue, stretch, commits, place}
use Rattle.model.specs.Machine.{counting, counts}
use Rattle.model.specs.Rules.{Accepted}
use Rattle.model.specs.Choice.{robust, broken, In, finished, Counted, Observes}
use Rattle.model.specs.Clocks.{vc}
use Rattle.model.specs.Verdict.{forbids?, observes?, forbidden?, observed?, pair?, missing?, bad?, closure}
use Rattle.model.specs.Verdict.{load_of, missing_of, observed_of, ruling_of}
use Rattle.model.specs.Stores.{committed?, marked?}
use Rattle.model.proofs.Searching.{false_true, test, less?, both, parts, or_cases, or_fails, same_test}
use Rattle.model.proofs.Searching.{same_below, some→, →some, any→, greatest, greatest→, →greatest, first_is}
use Rattle.model.proofs.Counting.{stretch_mono, earlier_stretch}
use Rattle.model.proofs.Unchanged.{count_away}
use Rattle.model.proofs.Acceptance.{prefix}
use Rattle.model.proofs.CountedLoads.{counts_as_of, counted_early, counted_later, counted_now, counted_step}
use Rattle.model.proofs.Closure.{in_some_clock, clock_in_closure, in_is_reached, reached_is_in, closure_fits}
use Rattle.model.proofs.Closure.{Reached}
use Rattle.model.proofs.Exactness.{wider_pair}
use Rattle.model.proofs.Pairs.{forbids→, forbidden→, →forbidden, pair→, →missing, bad→, →bad}

module _ (ev : ℕ → Event) where
  -- ---- the steps

  -- a load that counts as of event n forbids p, observes q
  abbrev pub forbids_at : ℕ → ℕ → Bool
  forbids_at n p = any (λ l. forbids? ev l p) (counting ev n)

  abbrev pub observes_at : ℕ → ℕ → Bool
  observes_at n q = any (λ l. observes? ev l q) (counting ev n)

  forbidden_step : (n p : ℕ) → forbidden? ev (suc n) p ≡ (forbids_at n p || forbidden? ev n p)
  unfolding forbidden? some
  forbidden_step n p = refl

  pub observed_step : (n q : ℕ) → observed? ev (suc n) q ≡ (observes_at n q || observed? ev n q)
  unfolding observed? some
  observed_step n q = refl

  -- load l observes a store of stretch j
  abbrev pub raises : ℕ → ℕ → Bool
  raises l j = not (eqb (source ev l) 0) && eqb (stretch ev (source ev l)) j

  -- what it then asks of thread t there: that store's clock
  abbrev pub raise : ℕ → ℕ → ℕ → ℕ
  raise l j t = cond (raises l j) (vc ev (source ev l) t) 0

  -- a load asks for place i
  pub record Raised (l j t i : ℕ) : Type 0 where
    pub observes : Observes ev l (source ev l)
    pub in_j : stretch ev (source ev l) ≡ j
    pub in_clock : i < vc ev (source ev l) t

  pub raised→ : (l j t i : ℕ) → i < raise l j t → Raised l j t i
  raised→ l j t i below = by_test (test (raises l j))
    where
      by_test : (raises l j ≡ true) ⊎ (raises l j ≡ false) → Raised l j t i
      by_test (inr fails) = let none : i < 0 = rw fails at below in absurd (omega arith)
      by_test (inl passes) =
          let both_hold = parts (not (eqb (source ev l) 0)) _ passes in
          record {
            observes = record { from = refl; some_store = eqb-false _ 0 (not-true _ both_hold.0) };
            in_j = eqb-true (stretch ev (source ev l)) j both_hold.1;
            in_clock = rw passes at below;
          }

  →raised : (l q j t i : ℕ) → Observes ev l q → stretch ev q ≡ j → i < vc ev q t → i < raise l j t
  →raised l q j t i observes in_j in_clock =
      let from : source ev l ≡ q = observes.from in
      let some_store : source ev l ≢ 0 = λ is_0. observes.some_store (sym from ∙ is_0) in
      let passes : raises l j ≡ true =
      both (not (eqb (source ev l) 0)) _ (rw (ne_eqb (source ev l) 0 some_store))
      (eq-eqb (stretch ev (source ev l)) j (rw from in_j))
      in
      rw passes (rw from in_clock)

  module _ (n j t : ℕ) (accepted : Accepted ev (suc n)) where
    earlier_part : Accepted ev n
    earlier_part = prefix ev (suc n) n accepted (omega arith)

    still_in : (i : ℕ) → i < closure ev n j t → i < closure ev (suc n) j t
    still_in i below =
        let it = in_some_clock ev n earlier_part j t i below in
        let (l, counts, observes) = it.observed in
        let still = counted_later ev n (suc n) l (omega arith) counts in
        rw it.in_j at (clock_in_closure ev (suc n) accepted it.q t i (l, still, observes) it.in_clock)

    raised_in : (l i : ℕ) → counts ev n l ≡ true → i < raise l j t → i < closure ev (suc n) j t
    raised_in l i here below =
        let it = raised→ l j t i below in
        rw it.in_j at
        (clock_in_closure ev (suc n) accepted (source ev l) t i (l, counted_now ev n l here, it.observes)
        it.in_clock)

    -- what is in with one event more was in, or a load that counts as of it asks for it
    abbrev asked : ℕ
    asked = greatest (λ l. raise l j t) (counting ev n)

    was_or_asked : (i : ℕ) → i < closure ev (suc n) j t → (i < closure ev n j t) ⊎ (i < asked)
    was_or_asked i below =
        let it = in_some_clock ev (suc n) accepted j t i below in
        let (l, counts, observes) = it.observed in
        by_load it.q l observes it.in_j it.in_clock (counted_step ev n l counts)
      where
        by_load :
            (q l : ℕ) → Observes ev l q → stretch ev q ≡ j → i < vc ev q t
            → (counts ev n l ≡ true) ⊎ Counted ev n l → (i < closure ev n j t) ⊎ (i < asked)
        by_load q l observes in_j in_clock (inr before) =
            inl (rw in_j at (clock_in_closure ev n earlier_part q t i (l, before, observes) in_clock))
        by_load q l observes in_j in_clock (inl now) =
            inr
            (→greatest (λ l. raise l j t) (counting ev n) i l now (→raised l q j t i observes in_j in_clock))

    -- the closure takes in what the loads that count as of the event ask for
    pub closure_step :
        closure ev (suc n) j t ≡ max (closure ev n j t) (greatest (λ l. raise l j t) (counting ev n))
    closure_step = same_below _ _ (λ i below. within i (was_or_asked i below)) from_within
      where
        within : (i : ℕ) → (i < closure ev n j t) ⊎ (i < asked) → i < max (closure ev n j t) asked
        within i (inl before) = omega arith
        within i (inr now) = omega arith

        from_within : (i : ℕ) → i < max (closure ev n j t) asked → i < closure ev (suc n) j t
        from_within i below = by_order (less? i (closure ev n j t))
          where
            by_order : (i < closure ev n j t) ⊎ (closure ev n j t ≤ i) → i < closure ev (suc n) j t
            by_order (inl before) = still_in i before
            by_order (inr not_before) =
                let (l, here, it) = greatest→ (λ l. raise l j t) (counting ev n) i (omega arith) in
                raised_in l i here it

  -- ---- hits

  -- store p is forbidden and in the closure
  unfoldable pub hit? : ℕ → ℕ → Bool
  hit? N p = forbidden? ev N p && ltb (place ev p) (closure ev N (stretch ev p) (thread ev p))

  pub hit_is_missing : (N p : ℕ) → Accepted ev N → hit? N p ≡ missing? ev N p
  unfolding hit? missing?
  hit_is_missing N p accepted = same_test _ _ to_pair from_pair
    where
      to_pair : hit? N p ≡ true → missing? ev N p ≡ true
      to_pair hit =
          let both_hold = parts (forbidden? ev N p) _ hit in
          let forbidden = forbidden→ ev N p both_hold.0 in
          let reached = in_is_reached ev N accepted p forbidden.2.store (ltb-true _ _ both_hold.1) in
          →missing ev N accepted p reached.q
          (record { missing = forbidden; observed = reached.observed; order = reached.order })

      from_pair : missing? ev N p ≡ true → hit? N p ≡ true
      from_pair passes =
          let found = some→ N (pair? ev N p) passes in
          let pair = pair→ ev N accepted p found.0 found.2 in
          let reached : Reached ev N accepted p =
          record { q = found.0; observed = pair.observed; order = pair.order }
          in
          both _ _ (→forbidden ev N p pair.missing)
          (lt-ltb _ _ (reached_is_in ev N accepted p pair.missing.2.store reached))

  -- ---- the stores that a program marks

  -- what is forbidden stands in a stretch that is over
  pub record Over (n p : ℕ) : Type 0 where
    pub store : Issue ev p
    pub early : p < n
    pub over : stretch ev p < stretch ev n

  forbidden_over : (n p : ℕ) → forbidden? ev n p ≡ true → Over n p
  forbidden_over n p passes =
      let (l, counts, forbids) = forbidden→ ev n p passes in
      let inside : l < n = counted_early ev n l counts in
      record {
        store = forbids.store;
        early = omega (arith, earlier_stretch ev p l forbids.earlier);
        over = omega (arith, forbids.earlier, stretch_mono ev l n (omega arith));
      }

  pub marked_over : (n p : ℕ) → marked? ev n p ≡ true → Over n p
  unfolding marked?
  marked_over n p passes = forbidden_over n p (parts (forbidden? ev n p) _ passes).0

  -- an event more marks what the loads that count as of it forbid of the committed stores: those are of earlier
  -- stretches, so that a commit that the event makes is of none of them
  pub marked_step : (n p : ℕ) → marked? ev (suc n) p ≡ (forbids_at n p && committed? ev n p || marked? ev n p)
  unfolding marked?
  marked_step n p = rw (forbidden_step n p) (by_test (test (forbids_at n p || forbidden? ev n p)))
    where
      distributes : (a b c : Bool) → ((a || b) && c) ≡ (a && c || b && c)
      distributes true b true = refl
      distributes true true false = refl
      distributes true false false = refl
      distributes false b c = refl

      elsewhere : (forbids_at n p ≡ true) ⊎ (forbidden? ev n p ≡ true) → stretch ev n ≢ stretch ev p
      elsewhere (inr before) same = omega (arith, (forbidden_over n p before).over)
      elsewhere (inl now) same =
          let (l, here, forbids) = any→ (λ l. forbids? ev l p) (counting ev n) now in
          omega (
            arith,
            (forbids→ ev l p forbids).earlier,
            stretch_mono ev l n (counts_as_of ev n l here).not_later,
          )

      by_test :
          ((forbids_at n p || forbidden? ev n p) ≡ true) ⊎ ((forbids_at n p || forbidden? ev n p) ≡ false)
          → ((forbids_at n p || forbidden? ev n p) && committed? ev (suc n) p)
          ≡ (forbids_at n p && committed? ev n p || forbidden? ev n p && committed? ev n p)
      by_test (inl some) =
          let of_another = elsewhere (or_cases (forbids_at n p) (forbidden? ev n p) some) in
          rw (count_away ev (commit? ev) n (stretch ev p) (thread ev p) (λ _ same _. of_another same))
          (distributes (forbids_at n p) (forbidden? ev n p) (committed? ev n p))
      by_test (inr none) =
          let (not_now, not_before) = or_fails (forbids_at n p) (forbidden? ev n p) none in
          rw (not_now, not_before)

  module _ (N : ℕ) (accepted : Accepted ev N) where
    -- the closure takes in committed stores only, so a hit is marked
    pub hit→ : (p : ℕ) → hit? N p ≡ true → (marked? ev N p ≡ true) × In ev (closure ev N) p
    unfolding hit? marked? finished
    hit→ p passes =
        let both_hold = parts (forbidden? ev N p) _ passes in
        let inside : In ev (closure ev N) p = ltb-true _ _ both_hold.1 in
        (both _ _ both_hold.0 (lt-ltb _ _ (within inside)), inside)
      where
        capped : (b : Bool) → cond b (commits ev N (stretch ev p) (thread ev p)) 0
            ≤ commits ev N (stretch ev p) (thread ev p)
        capped true = omega arith
        capped false = omega arith

        within : In ev (closure ev N) p → place ev p < commits ev N (stretch ev p) (thread ev p)
        within inside =
            omega (
              arith,
              closure_fits ev N accepted (stretch ev p) (thread ev p),
              capped (ltb (stretch ev p) (stretch ev N)),
            )

    pub →hit : (p : ℕ) → marked? ev N p ≡ true → In ev (closure ev N) p → hit? N p ≡ true
    unfolding hit? marked?
    →hit p marked inside = both _ _ (parts (forbidden? ev N p) _ marked).0 (lt-ltb _ _ inside)

    pub hit_is_bad : (p : ℕ) → hit? N p ≡ true → bad? ev N ≡ true
    unfolding bad?
    hit_is_bad p hit =
        →some N (missing? ev N) p (marked_over N p (hit→ p hit).0).early (sym (hit_is_missing N p accepted) ∙ hit)

    pub bad_has_hit : bad? ev N ≡ true → (p : ℕ) × (hit? N p ≡ true)
    unfolding bad?
    bad_has_hit bad =
        let found = some→ N (missing? ev N) bad in
        (found.0, hit_is_missing N found.0 accepted ∙ found.2)

  -- ---- pairs, event by event

  bad_stays : (N n : ℕ) → Accepted ev N → n ≤ N → bad? ev n ≡ true → bad? ev N ≡ true
  bad_stays N n accepted within bad =
      let (p, q, pair) = bad→ ev n (prefix ev N n accepted within) bad in
      →bad ev N accepted p q (wider_pair ev n N p q within pair)

  -- ---- the ruling

  pub robust_ruling : (N : ℕ) → bad? ev N ≡ false → ruling_of ev N ≡ robust (closure ev N)
  unfolding ruling_of
  robust_ruling N fine = rw fine

  module _ (N n : ℕ) (accepted : Accepted ev N) (inside : n < N)
      (fine : bad? ev n ≡ false) (bad : bad? ev (suc n) ≡ true) where
    none_earlier : (m : ℕ) → bad? ev (suc m) ≡ true → n ≤ m
    none_earlier m bad_there = by_order (less? m n)
      where
        by_order : (m < n) ⊎ (n ≤ m) → n ≤ m
        by_order (inr not_earlier_lem) = not_earlier_lem
        by_order (inl earlier) =
            let part = prefix ev N n accepted (omega arith) in
            false_true (sym fine ∙ bad_stays n (suc m) part earlier bad_there)

    load_is : load_of ev N ≡ n
    unfolding load_of
    load_is =
        let found = first_is N (λ l. bad? ev (suc l)) (→some N (λ l. bad? ev (suc l)) n inside bad) in
        omega (arith, found.smallest n bad, none_earlier (first N (λ l. bad? ev (suc l))) found.passes)

    -- whatever follows, the ruling is that of the records up to the first with a pair
    pub broken_ruling : ruling_of ev N ≡ broken n (missing_of ev (suc n)) (observed_of ev (suc n))
    unfolding ruling_of
    broken_ruling = rw (bad_stays N (suc n) accepted inside bad, load_is)
