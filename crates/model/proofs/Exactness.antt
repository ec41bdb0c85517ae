-- Demand 3: the computed ruling of every accepted trace is exact, and a trace has one exact ruling. If there is no
-- pair, the closure is the least choice that explains; if there is one, no choice explains, and the searches find the
-- first event with a pair and the smallest pair there.
-- In order: a pair or a choice, which of no events is 0 everywhere (`nothing_least`, `only_nothing`); what the searches
-- find; `exact`, `decided`; `unique`; `broken_stays`: more events mend nothing; `named_load_counts`: the load that a
-- broken ruling names is a counted one; `named_missing`, `named_observed`: what it names are stores.
use Prim.Native.Nat.{ℕ, zero, suc, ◌≤◌, ◌<◌}
use native.Mathlib.Omega.{arith}
use mathlib.Core.Path.{◌≡◌, refl, sym, ◌∙◌, ap, fun_ext}
use mathlib.Core.Bool.{true, false}
use mathlib.Core.Logic.{◌⊎◌, inl, inr}
use mathlib.Core.List.{List, [], ◌∷◌}
use lib.Dec.{eqb, ltb}
use borrow.Author.Tests.{eq-eqb, lt-ltb, le-ltb}
use Rattle.record.specs.declared.events.Event.{Event}
use Rattle.model.specs.Trace.{commit?, Issue, stretch, count}
use Rattle.model.specs.Search.{some, any}
use Rattle.model.specs.Machine.{counting, counts}
use Rattle.model.specs.Rules.{Accepted}
use Rattle.model.specs.Choice.{Choice, Ruling, robust, broken, finished, Counted, ExplainsLoad, Explains}
use Rattle.model.specs.Choice.{Robust, Least, Pair, Broken, Exact}
use Rattle.model.specs.Verdict.{pair?, missing?, bad?, closure, load_of, missing_of, observed_of, ruling_of}
use Rattle.model.proofs.Searching.{false_true, test, either_way, or_left, less?, →some, First, first_is}
use Rattle.model.proofs.Counting.{stretch_mono, count_mono}
use Rattle.model.proofs.Acceptance.{prefix}
use Rattle.model.proofs.CountedLoads.{counted_later, counted_step}
use Rattle.model.proofs.Closure.{CommittedEarlier, observed_is_committed, closure_explains, closure_least}
use Rattle.model.proofs.Closure.{pair_leaves_none}
use Rattle.model.proofs.Pairs.{pair→, →pair, →missing, bad→, →bad}

module _ (ev : ℕ → Event) where
  module _ (N : ℕ) (accepted : Accepted ev N) where
    -- ---- a pair or a choice

    bad_leaves_none : bad? ev N ≡ true → ¬ Robust ev N
    bad_leaves_none bad = let (p, q, pair) = bad→ ev N accepted bad in pair_leaves_none ev N p q pair

    closure_is_least : bad? ev N ≡ false → Least ev N (closure ev N)
    closure_is_least not_bad = record {
      explains = closure_explains ev N accepted (λ p q pair. false_true (sym not_bad ∙ →bad ev N accepted p q pair));
      least = closure_least ev N accepted;
    }

  -- no events, no loads: the least choice is 0 everywhere
  pub nothing_least : Least ev 0 (λ j t. 0)
  nothing_least = record {
    explains = record {
      fits = λ j t. omega arith;
      closed = λ p q before inside. absurd (omega arith);
      loads = λ l counts. absurd (omega (arith, counts.inside));
    };
    least = λ d explains j t. omega arith;
  }

  -- and no other choice fits
  finished_at_0 : (j t : ℕ) → finished ev 0 j t ≡ 0
  unfolding finished count
  finished_at_0 j t = either_way (ltb j (stretch ev 0)) 0

  pub only_nothing : (c : Choice) → Explains ev 0 c → (j t : ℕ) → c j t ≡ 0
  only_nothing c explains j t = omega (arith, explains.fits j t, finished_at_0 j t)

  robust_at_0 : Robust ev 0
  robust_at_0 = (λ j t. 0, nothing_least.explains)

  -- each part of an accepted trace has a pair or a choice that explains it
  abbrev HasPair : ℕ → Type 0
  HasPair n = (p : ℕ) × (q : ℕ) × Pair ev n p q

  pair_or_choice : (N n : ℕ) → Accepted ev N → n ≤ N → HasPair n ⊎ Robust ev n
  pair_or_choice N zero accepted within = inr robust_at_0
  pair_or_choice N (suc n) accepted within = by_test (test (bad? ev (suc n)))
    where
      part : Accepted ev (suc n)
      part = prefix ev N (suc n) accepted within

      by_test : (bad? ev (suc n) ≡ true) ⊎ (bad? ev (suc n) ≡ false) → HasPair (suc n) ⊎ Robust ev (suc n)
      by_test (inl bad) = inl (bad→ ev (suc n) part bad)
      by_test (inr not_bad) = inr (closure ev (suc n), (closure_is_least (suc n) part not_bad).explains)

  -- ---- the searches find the first load and the smallest pair

  record SmallestPair (n missing observed : ℕ) : Type 0 where
    pair : Pair ev n missing observed
    lowest : (p q : ℕ) → Pair ev n p q → missing ≤ p
    then_lowest : (q : ℕ) → Pair ev n missing q → observed ≤ q

  smallest_pair : (n : ℕ) → Accepted ev n → bad? ev n ≡ true → SmallestPair n (missing_of ev n) (observed_of ev n)
  unfolding bad? missing? missing_of observed_of
  smallest_pair n accepted bad = record {
    pair = pair→ ev n accepted (missing_of ev n) (observed_of ev n) smallest_q.passes;
    lowest = λ p q pair. smallest_p.smallest p (→missing ev n accepted p q pair);
    then_lowest = λ q pair. smallest_q.smallest q (→pair ev n accepted (missing_of ev n) q pair);
  }
    where
      smallest_p : First n (missing? ev n) (missing_of ev n)
      smallest_p = first_is n (missing? ev n) bad

      smallest_q : First n (pair? ev n (missing_of ev n)) (observed_of ev n)
      smallest_q = first_is n (pair? ev n (missing_of ev n)) smallest_p.passes

  -- l is the first event with which there is a pair
  abbrev FirstBad : ℕ → ℕ → Type 0
  FirstBad N l = First N (λ l. bad? ev (suc l)) l

  first_bad : (N : ℕ) → bad? ev N ≡ true → FirstBad N (load_of ev N)
  unfolding load_of bad? some
  first_bad zero bad = false_true bad
  first_bad (suc N) bad =
      first_is (suc N) (λ l. bad? ev (suc l)) (→some (suc N) (λ l. bad? ev (suc l)) N (omega arith) bad)

  module _ (N : ℕ) (accepted : Accepted ev N) where
    robust_before : (l : ℕ) → FirstBad N l → (n : ℕ) → n ≤ l → Robust ev n
    robust_before l found zero within = robust_at_0
    robust_before l found (suc n) within = by_case (pair_or_choice N (suc n) accepted inside)
      where
        inside : suc n ≤ N
        inside = omega (arith, found.below)

        by_case : HasPair (suc n) ⊎ Robust ev (suc n) → Robust ev (suc n)
        by_case (inr choice) = choice
        by_case (inl (p, q, pair)) =
            let bad = →bad ev (suc n) (prefix ev N (suc n) accepted inside) p q pair in
            absurd (omega (arith, found.smallest n bad))

    -- the fields of `Broken`, at the first event with which there is a pair
    broken_at : (l : ℕ) → bad? ev N ≡ true → FirstBad N l → Broken ev N l (missing_of ev (suc l)) (observed_of ev (suc l))
    broken_at l bad found =
        let part = prefix ev N (suc l) accepted found.below in
        let smallest = smallest_pair (suc l) part found.passes in
        record {
          inside = found.below;
          none = bad_leaves_none N accepted bad;
          none_yet = bad_leaves_none (suc l) part found.passes;
          first = robust_before l found;
          pair = smallest.pair;
          lowest = smallest.lowest;
          then_lowest = smallest.then_lowest;
        }

    -- DEMAND 3: the computed ruling is exact
    pub exact : Exact ev N (ruling_of ev N)
    unfolding ruling_of
    exact = by_test (test (bad? ev N))
      where
        by_test : (bad? ev N ≡ true) ⊎ (bad? ev N ≡ false) → Exact ev N (ruling_of ev N)
        by_test (inl bad) = rw bad (broken_at (load_of ev N) bad (first_bad N bad))
        by_test (inr not_bad) = rw not_bad (closure_is_least N accepted not_bad)

    -- a trace is robust or it is not
    pub decided : Robust ev N ⊎ (¬ Robust ev N)
    decided = by_case (pair_or_choice N N accepted (omega arith))
      where
        by_case : HasPair N ⊎ Robust ev N → Robust ev N ⊎ (¬ Robust ev N)
        by_case (inl (p, q, pair)) = inr (pair_leaves_none ev N p q pair)
        by_case (inr choice) = inl choice

  -- ---- a trace has one exact ruling

  module _ (N : ℕ) where
    -- of two broken rulings, neither names a later load
    load_not_after :
        {l p q load missing observed : ℕ} → Broken ev N l p q → Broken ev N load missing observed → l ≤ load
    load_not_after {l} {p} {q} {load} one other = by_order (less? load l)
      where
        by_order : (load < l) ⊎ (l ≤ load) → l ≤ load
        by_order (inl earlier) = absurd (other.none_yet (one.first (suc load) earlier))
        by_order (inr not_after) = not_after

    -- two broken rulings with the same load, and with the same missing store
    same_missing : {l p q missing observed : ℕ} → Broken ev N l p q → Broken ev N l missing observed → missing ≡ p
    same_missing {l} {p} {q} {missing} {observed} one other =
        omega (arith, one.lowest missing observed other.pair, other.lowest p q one.pair)

    same_observed : {l p q observed : ℕ} → Broken ev N l p q → Broken ev N l p observed → observed ≡ q
    same_observed {l} {p} {q} {observed} one other =
        omega (arith, one.then_lowest observed other.pair, other.then_lowest q one.pair)

    pub unique : (v w : Ruling) → Exact ev N v → Exact ev N w → v ≡ w
    unique (robust c) (robust d) one other = ap robust (fun_ext λ j. fun_ext λ t. same_count j t)
      where
        same_count : (j t : ℕ) → c j t ≡ d j t
        same_count j t = omega (arith, one.least d other.explains j t, other.least c one.explains j t)
    unique (robust c) (broken l p q) one other = absurd (other.none (c, one.explains))
    unique (broken l p q) (robust c) one other = absurd (one.none (c, other.explains))
    unique (broken l p q) (broken load missing observed) one other = with_load same_load
      where
        same_load : load ≡ l
        same_load = omega (arith, load_not_after one other, load_not_after other one)

        with_load : load ≡ l → broken l p q ≡ broken load missing observed
        with_load is_l = with_missing (same_missing one at_l)
          where
            at_l : Broken ev N l missing observed
            at_l = rw is_l at other

            with_missing : missing ≡ p → broken l p q ≡ broken load missing observed
            with_missing is_p = let is_q = same_observed one (rw is_p at at_l) in rw (is_l, is_p, is_q)

  -- ---- more events mend nothing

  pub wider_pair : (N M p q : ℕ) → N ≤ M → Pair ev N p q → Pair ev M p q
  wider_pair N M p q within pair =
      let (l, l_counts, forbids) = pair.missing in
      let (k, k_counts, observes) = pair.observed in
      record {
        missing = (l, counted_later ev N M l within l_counts, forbids);
        observed = (k, counted_later ev N M k within k_counts, observes);
        order = pair.order;
      }

  pub broken_stays : (N M : ℕ) → N ≤ M → Accepted ev M → ¬ Robust ev N → ¬ Robust ev M
  broken_stays N M within accepted none = by_case (pair_or_choice M N accepted within)
    where
      by_case : HasPair N ⊎ Robust ev N → ¬ Robust ev M
      by_case (inl (p, q, pair)) = pair_leaves_none ev M p q (wider_pair N M p q within pair)
      by_case (inr choice) = absurd (none choice)

  -- ---- the load that a broken ruling names

  finished_mono : (N j t : ℕ) → finished ev N j t ≤ finished ev (suc N) j t
  unfolding finished
  finished_mono N j t = by_order (less? j (stretch ev N))
    where
      by_order : (j < stretch ev N) ⊎ (stretch ev N ≤ j) → finished ev N j t ≤ finished ev (suc N) j t
      by_order (inr not_done) = rw (le-ltb j (stretch ev N) not_done) (omega arith)
      by_order (inl done) =
          let still : j < stretch ev (suc N) = omega (arith, stretch_mono ev N (suc N) (omega arith)) in
          rw (lt-ltb j (stretch ev N) done, lt-ltb j (stretch ev (suc N)) still)
          (count_mono ev (commit? ev) N (suc N) j t (omega arith))

  -- a choice serves one event more, if no load counts as of it
  uncounted_adds_nothing : (n : ℕ) → counting ev n ≡ [] → Robust ev n → Robust ev (suc n)
  unfolding any
  uncounted_adds_nothing n none (c, explains) = (
    c,
    record {
      fits = λ j t. omega (arith, explains.fits j t, finished_mono n j t);
      closed = explains.closed;
      loads = λ l counts. by_last l (counted_step ev n l counts);
    },
  )
    where
      by_last : (l : ℕ) → (counts ev n l ≡ true) ⊎ Counted ev n l → ExplainsLoad ev c l
      by_last l (inr before) = explains.loads l before
      by_last l (inl now) = false_true (rw none at now)

  -- the event that it names as load has a load that counts as of it
  pub named_load_counts :
      {N load missing observed : ℕ} → Broken ev N load missing observed → (l : ℕ) × (counts ev load l ≡ true)
  unfolding any
  named_load_counts {N} {load} it = by_list (counting ev load) refl
    where
      by_list : (ls : List ℕ) → counting ev load ≡ ls → (l : ℕ) × (counts ev load l ≡ true)
      by_list [] none = absurd (it.none_yet (uncounted_adds_nothing load none (it.first load (omega arith))))
      by_list (l ∷ ls) is = (l, rw is (or_left (eqb l l) _ (eq-eqb l l refl)))

  -- the stores that it names: missing is a store, and observed is one that is committed
  pub named_missing : {N load missing observed : ℕ} → Broken ev N load missing observed → Issue ev missing
  named_missing it = it.pair.missing.2.store

  pub named_observed :
      {N load missing observed : ℕ} → Accepted ev N → Broken ev N load missing observed
      → CommittedEarlier ev (suc load) observed
  named_observed {N} {load} {missing} {observed} accepted it =
      observed_is_committed ev (suc load) (prefix ev N (suc load) accepted it.inside) observed
      it.pair.observed
