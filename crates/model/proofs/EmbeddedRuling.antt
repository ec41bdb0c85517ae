-- Rulings, for a part of a trace and the whole (specs/Embedding.antt), where the part has all threads, locations,
-- stores and loads: it covers the whole with itself. Then both have the same explaining choices and the same pairs, and
-- so the same rulings, with event numbers carried over: those of loads as loads, those of stores as stores.
-- In order: the same choices explain both; pairs; exact rulings, `exact_both`.
use Prim.Native.Nat.{ℕ, suc, ◌≤◌}
use native.Mathlib.Omega.{arith}
use mathlib.Core.Path.{◌≡◌}
use mathlib.Core.Bool.{false}
use mathlib.Core.Logic.{◌⊎◌, inl, inr, ◌↔◌}
use Rattle.record.specs.declared.events.Event.{Event}
use Rattle.model.specs.Choice.{Choice, Ruling, robust, broken, Counted, Explains, Robust, Least, Observed}
use Rattle.model.specs.Choice.{Forbidden, Pair, Broken, Exact}
use Rattle.model.specs.Flushes.{carry_by}
use Rattle.model.specs.Embedding.{everything, Embedding, Apart, Cover}
use Rattle.model.proofs.Numberings.{kept_mono, kept_lt, number_below, number_le, number_order, kept_past}
use Rattle.model.proofs.EmbeddedMachine.{counted_kept}
use Rattle.model.proofs.CountedLoads.{counted_is_load}
use Rattle.model.proofs.EmbeddedLoads.{Numbered, at_or_before_at, at_or_before_kept, observes_kept}
use Rattle.model.proofs.EmbeddedLoads.{forbids_kept, observed_at, forbidden_at}
use Rattle.model.proofs.EmbeddedChoices.{explains_part, explains_whole}

module _
    {part whole : ℕ → Event} (via : Embedding everything everything part whole) (apart : Apart via)
    (cover : Cover via via) where
  -- the number of an event of the part as a store, and as a load
  abbrev as_store : ℕ → ℕ
  as_store e = via.stores.number e

  abbrev as_load : ℕ → ℕ
  as_load e = via.loads.number e

  -- ---- the same choices explain both

  explains_again : (N : ℕ) (c : Choice) → Explains part (via.loads.kept N) c → Explains whole N c
  explains_again N c explains = explains_whole cover apart apart N c explains explains

  explains_less : (N : ℕ) (c : Choice) → Explains whole N c → Explains part (via.loads.kept N) c
  explains_less N c explains = explains_part via apart N c explains

  robust_whole : (N : ℕ) → Robust part (via.loads.kept N) → Robust whole N
  robust_whole N (c, explains) = (c, explains_again N c explains)

  robust_part : (N : ℕ) → Robust whole N → Robust part (via.loads.kept N)
  robust_part N (c, explains) = (c, explains_less N c explains)

  -- ---- pairs

  pair_at : (N p q : ℕ) → Pair part (via.loads.kept N) p q → Pair whole N (as_store p) (as_store q)
  pair_at N p q pair = record {
    missing = forbidden_at via apart pair.missing;
    observed = observed_at via apart pair.observed;
    order = at_or_before_at via pair.order;
  }

  -- a load that counts is one of the part, and counts there
  load_of : {N l : ℕ} → Counted whole N l → (m : ℕ) × (as_load m ≡ l) × Counted part (via.loads.kept N) m
  load_of {N} {l} counts = either (cover.each_load l (counted_is_load whole counts))
    where
      in_part : via.loads.gap? l ≡ false → (m : ℕ) × (as_load m ≡ l) × Counted part (via.loads.kept N) m
      in_part stays = (via.loads.kept l, via.loads.number_kept l stays, counted_kept via apart stays counts)

      either :
          (via.loads.gap? l ≡ false) ⊎ (via.loads.gap? l ≡ false)
          → (m : ℕ) × (as_load m ≡ l) × Counted part (via.loads.kept N) m
      either (inl stays) = in_part stays
      either (inr stays) = in_part stays

  forbidden_kept : {N p : ℕ} → Forbidden whole N p → Numbered via (Forbidden part (via.loads.kept N)) p
  forbidden_kept {N} {p} (l, counts, forbids) =
      let (m, is_l, counts_part) = load_of counts in
      let it = forbids_kept via apart m (counted_is_load part counts_part) p (rw is_l forbids) in
      record { stays = it.stays; holds = (m, counts_part, it.holds) }

  observed_kept : {N q : ℕ} → Observed whole N q → Numbered via (Observed part (via.loads.kept N)) q
  observed_kept {N} {q} (l, counts, observes) =
      let (m, is_l, counts_part) = load_of counts in
      let it = observes_kept via apart m (counted_is_load part counts_part) q (rw is_l observes) in
      record { stays = it.stays; holds = (m, counts_part, it.holds) }

  -- two stores of the whole that are stores of the part, and a pair there
  record NumberedPair (N p q : ℕ) : Type 0 where
    missing_back : as_store (via.stores.kept p) ≡ p
    observed_back : as_store (via.stores.kept q) ≡ q
    pair : Pair part (via.loads.kept N) (via.stores.kept p) (via.stores.kept q)

  pair_kept : (N p q : ℕ) → Pair whole N p q → NumberedPair N p q
  pair_kept N p q pair =
      let missing = forbidden_kept pair.missing in
      let observed = observed_kept pair.observed in
      record {
        missing_back = via.stores.number_kept p missing.stays;
        observed_back = via.stores.number_kept q observed.stays;
        pair = record {
          missing = missing.holds;
          observed = observed.holds;
          order = at_or_before_kept via observed.stays pair.order;
        };
      }

  -- ---- exact rulings

  module _ (N : ℕ) (c : Choice) where
    least_whole : Least part (via.loads.kept N) c → Least whole N c
    least_whole least = record {
      explains = explains_again N c least.explains;
      least = λ d explains j t. least.least d (explains_less N d explains) j t;
    }

    least_part : Least whole N c → Least part (via.loads.kept N) c
    least_part least = record {
      explains = explains_less N c least.explains;
      least = λ d explains j t. least.least d (explains_again N d explains) j t;
    }

  past : (l : ℕ) → via.loads.kept (suc (as_load l)) ≡ suc l
  past l = kept_past via.loads l

  broken_whole :
      (N l p q : ℕ) → Broken part (via.loads.kept N) l p q → Broken whole N (as_load l) (as_store p) (as_store q)
  broken_whole N l p q is_broken = record {
    inside = number_below via.loads l N is_broken.inside;
    none = λ some_choice. is_broken.none (robust_part N some_choice);
    none_yet = λ some_choice. is_broken.none_yet (rw (past l) at (robust_part (suc (as_load l)) some_choice));
    first = first;
    pair = pair_at (suc (as_load l)) p q (rw (past l) is_broken.pair);
    lowest = lowest;
    then_lowest = then_lowest;
  }
    where
      first : (n : ℕ) → n ≤ as_load l → Robust whole n
      first n early =
          robust_whole n
          (is_broken.first (via.loads.kept n)
          (omega (arith, kept_mono via.loads n _ early, via.loads.kept_number l)))

      lowest : (missing observed : ℕ) → Pair whole (suc (as_load l)) missing observed → as_store p ≤ missing
      lowest missing observed pair =
          let in_part = pair_kept (suc (as_load l)) missing observed pair in
          let low = is_broken.lowest _ _ (rw (past l) at in_part.pair) in
          omega (arith, in_part.missing_back, number_le via.stores p (via.stores.kept missing) low)

      then_lowest : (observed : ℕ) → Pair whole (suc (as_load l)) (as_store p) observed → as_store q ≤ observed
      then_lowest observed pair =
          let in_part = pair_kept (suc (as_load l)) (as_store p) observed pair in
          let same_missing : Pair part (suc l) p (via.stores.kept observed) =
          rw (past l, via.stores.kept_number p) at in_part.pair
          in
          let low = is_broken.then_lowest (via.stores.kept observed) same_missing in
          omega (arith, in_part.observed_back, number_le via.stores q (via.stores.kept observed) low)

  broken_part :
      (N l p q : ℕ) → Broken whole N (as_load l) (as_store p) (as_store q) → Broken part (via.loads.kept N) l p q
  broken_part N l p q is_broken = record {
    inside =
        rw (via.loads.kept_number l) at
        (kept_lt via.loads (as_load l) N (via.loads.number_stays l) is_broken.inside);
    none = λ some_choice. is_broken.none (robust_whole N some_choice);
    none_yet = λ some_choice. is_broken.none_yet (robust_whole (suc (as_load l)) (rw (past l) some_choice));
    first = first;
    pair = pair_in_part;
    lowest = λ missing observed pair. number_order via.stores p missing (is_broken.lowest _ _ (in_whole _ _ pair));
    then_lowest = λ observed pair. number_order via.stores q observed (is_broken.then_lowest _ (in_whole _ _ pair));
  }
    where
      first : (n : ℕ) → n ≤ l → Robust part n
      first n early =
          let robust_then = is_broken.first (as_load n) (number_le via.loads n l early) in
          rw (via.loads.kept_number n) at (robust_part (as_load n) robust_then)

      pair_in_part : Pair part (suc l) p q
      pair_in_part =
          rw (past l, via.stores.kept_number p, via.stores.kept_number q) at
          (pair_kept (suc (as_load l)) _ _ is_broken.pair).pair

      in_whole :
          (missing observed : ℕ) → Pair part (suc l) missing observed
          → Pair whole (suc (as_load l)) (as_store missing) (as_store observed)
      in_whole missing observed pair = pair_at (suc (as_load l)) missing observed (rw (past l) pair)

  -- GAPS MOVE NO RULING: a ruling is exact of the part exactly if, with its event numbers carried over, it is exact of
  -- the whole
  pub exact_both :
      (N : ℕ) (v : Ruling)
      → Exact part (via.loads.kept N) v ↔ Exact whole N (carry_by via.loads.number via.stores.number v)
  exact_both N (robust c) = (least_whole N c, least_part N c)
  exact_both N (broken load missing observed) =
      (broken_whole N load missing observed, broken_part N load missing observed)
