-- Choices of a part of a trace and of the whole (specs/Embedding.antt). A choice that explains the whole explains, in
-- what it gives the part's threads, the part. If two parts cover the whole, a choice that explains both explains it.
-- In order: finished stretches; one part, `explains_part`; two parts that cover the whole, `explains_whole`.
use Prim.Native.Nat.{ℕ, ◌≤◌, ◌<◌}
use native.Mathlib.Omega.{arith}
use mathlib.Core.Path.{◌≡◌, sym, ◌∙◌}
use mathlib.Core.Bool.{true, false, cond}
use mathlib.Core.Logic.{◌⊎◌, inl, inr, ◌≢◌, ◌↔◌}
use lib.Dec.{ltb}
use borrow.Author.Tests.{lt-ltb, le-ltb}
use Rattle.record.specs.declared.events.Event.{Event}
use Rattle.model.specs.Trace.{source, commit?, load?, Issue, stretch, commits}
use Rattle.model.specs.HappensBefore.{Before}
use Rattle.model.specs.Choice.{Choice, In, finished, Closed, Counted, Observes, Forbids, ExplainsLoad, Explains}
use Rattle.model.specs.Embedding.{Naming, Near, Embedding, Finds, Apart, Cover, restricted}
use Rattle.model.proofs.Searching.{less?, test}
use Rattle.model.proofs.Ordering.{before_first}
use Rattle.model.proofs.Unchanged.{count_away}
use Rattle.model.proofs.EmbeddedTrace.{stretch_loads, stretch_commits, commits_kept}
use Rattle.model.proofs.EmbeddedMachine.{counted_at, counted_kept}
use Rattle.model.proofs.CountedLoads.{counted_is_load}
use Rattle.model.proofs.EmbeddedLoads.{store_kept, before_at, before_kept, in_at, observes_at_lem}
use Rattle.model.proofs.EmbeddedLoads.{forbids_at_lem, observes_kept, forbids_kept}

-- ---- finished stretches

-- an event that is no crash adds nothing to the stretches before its own
near_commits :
    (ev : ℕ → Event) (m n j t : ℕ) → Near ev m n → j < stretch ev n → commits ev m j t ≡ commits ev n j t
near_commits ev m n j t (inl same) over = rw same
near_commits ev m n j t (inr (one_more, no_crash)) over =
    rw one_more (count_away ev (commit? ev) n j t (λ _ in_j _. omega arith))

module _
    {threads_by locations_by : Naming} {part whole : ℕ → Event} (via : Embedding threads_by locations_by part whole) where
  pub finished_kept :
      (N j t : ℕ) → threads_by.own? (threads_by.into t) ≡ true
      → finished whole N j (threads_by.into t) ≡ finished part (via.loads.kept N) j t
  unfolding finished
  finished_kept N j t own = rw (stretch_loads via N) (by_order (less? j (stretch part (via.loads.kept N))))
    where
      by_order :
          (j < stretch part (via.loads.kept N)) ⊎ (stretch part (via.loads.kept N) ≤ j)
          → cond (ltb j (stretch part (via.loads.kept N))) (commits whole N j (threads_by.into t)) 0
          ≡ cond (ltb j (stretch part (via.loads.kept N))) (commits part (via.loads.kept N) j t) 0
      by_order (inl over) =
          let over_commits : j < stretch part (via.commits.kept N) =
          omega (arith, stretch_loads via N, stretch_commits via N)
          in
          rw (lt-ltb j _ over)
          (commits_kept via N j t own ∙ sym (near_commits part _ _ j t (via.commit_near N) over_commits))
      by_order (inr not_over) = rw (le-ltb j _ not_over)

  -- ---- one part

  -- a store of the part, in the whole
  in_kept :
      (c : Choice) (p : ℕ) → via.stores.gap? p ≡ false → Issue whole p
      → In whole c p ↔ In part (restricted threads_by c) (via.stores.kept p)
  in_kept c p stays store =
      rw (via.stores.number_kept p stays) at (in_at via c (via.stores.kept p) (store_kept via stays store))

  -- what a load of the part observes is a store
  observed_store : Finds part → (l s : ℕ) → load? part l ≡ true → Observes part l s → Issue part s
  observed_store finds l s loads observes =
      let some : source part l ≢ 0 = λ none. observes.some_store (sym observes.from ∙ none) in
      record { test = rw observes.from at (finds.source_store l loads some) }

  module _ (apart : Apart via) (N : ℕ) (c : Choice) where
    -- a choice that explains the whole explains the part
    pub explains_part : Explains whole N c → Explains part (via.loads.kept N) (restricted threads_by c)
    explains_part explains = record {
      fits = λ j t. fits j t (test (threads_by.own? (threads_by.into t)));
      closed = closed;
      loads = λ l counts. at_load l (counted_is_load part counts) (explains.loads _ (counted_at via apart counts));
    }
      where
        d : Choice
        d = restricted threads_by c

        fits :
            (j t : ℕ)
            → (threads_by.own? (threads_by.into t) ≡ true) ⊎ (threads_by.own? (threads_by.into t) ≡ false)
            → d j t ≤ finished part (via.loads.kept N) j t
        fits j t (inl own) = rw (own, ← finished_kept N j t own) (explains.fits j (threads_by.into t))
        fits j t (inr other) = rw other (omega arith)

        closed : Closed part d
        closed p q before q_in =
            (in_at via c p (before_first part before)).0
            (explains.closed _ _ (before_at via before) ((in_at via c q before.store).1 q_in))

        at_load :
            (l : ℕ) → load? part l ≡ true → ExplainsLoad whole c (via.loads.number l) → ExplainsLoad part d l
        at_load l loads at_l = record {
          observed_are_in = λ s observes.
              (in_at via c s (observed_store apart.finds l s loads observes)).0
              (at_l.observed_are_in _ (observes_at_lem via apart l loads s observes));
          forbidden_out = λ p forbids p_in.
              at_l.forbidden_out _ (forbids_at_lem via apart l loads p forbids)
              ((in_at via c p forbids.store).1 p_in);
        }

  -- what a choice does in the whole, if it explains the part in what it gives the part's threads
  module _ (N : ℕ) (c : Choice) (explains : Explains part (via.loads.kept N) (restricted threads_by c)) where
    fits_side : (j u : ℕ) → threads_by.own? u ≡ true → c j u ≤ finished whole N j u
    fits_side j u own =
        let t = threads_by.back u in
        let is_u : threads_by.into t ≡ u = threads_by.into_back u own in
        let own_t : threads_by.own? (threads_by.into t) ≡ true = rw is_u own in
        let fits_t : c j (threads_by.into t) ≤ finished part (via.loads.kept N) j t =
        rw own_t at (explains.fits j t)
        in
        let fits_u : c j (threads_by.into t) ≤ finished whole N j (threads_by.into t) =
        rw (finished_kept N j t own_t) fits_t
        in
        rw is_u at fits_u

    closed_side : (p q : ℕ) → Before whole p q → In whole c q → via.stores.gap? q ≡ false → In whole c p
    closed_side p q before q_in stays =
        let inside = before_kept via stays before in
        (in_kept c p inside.stays (before_first whole before)).1
        (explains.closed _ _ inside.holds ((in_kept c q stays before.store).0 q_in))

    load_side :
        Apart via → (l : ℕ) → Counted part (via.loads.kept N) l → ExplainsLoad whole c (via.loads.number l)
    load_side apart l counts = record { observed_are_in = observed_are_in; forbidden_out = forbidden_out }
      where
        loads : load? part l ≡ true
        loads = counted_is_load part counts

        observed_are_in : (s : ℕ) → Observes whole (via.loads.number l) s → In whole c s
        observed_are_in s observes =
            let in_part = observes_kept via apart l loads s observes in
            let store = observed_store apart.finds l _ loads in_part.holds in
            rw (via.stores.number_kept s in_part.stays) at
            ((in_at via c _ store).1 ((explains.loads l counts).observed_are_in _ in_part.holds))

        forbidden_out : (p : ℕ) → Forbids whole (via.loads.number l) p → In whole c p → ⊥
        forbidden_out p forbids p_in =
            let in_part = forbids_kept via apart l loads p forbids in
            (explains.loads l counts).forbidden_out _ in_part.holds
            ((in_kept c p in_part.stays forbids.store).0 p_in)

-- ---- two parts that cover the whole

module _
    {left_threads left_locations right_threads right_locations : Naming} {first second whole : ℕ → Event}
    {left : Embedding left_threads left_locations first whole}
    {right : Embedding right_threads right_locations second whole} (cover : Cover left right) where
  -- A CHOICE THAT EXPLAINS BOTH PARTS EXPLAINS THE WHOLE
  pub explains_whole :
      Apart left → Apart right → (N : ℕ) (c : Choice) → Explains first (left.loads.kept N) (restricted left_threads c)
      → Explains second (right.loads.kept N) (restricted right_threads c) → Explains whole N c
  explains_whole left_apart right_apart N c in_first in_second = record {
    fits = λ j u. fits j u (cover.each_thread u);
    closed = λ p q before q_in. closed p q before q_in (cover.each_store q before.store.test);
    loads = λ l counts. loads l counts (cover.each_load l (counted_is_load whole counts));
  }
    where
      fits : (j u : ℕ) → (left_threads.own? u ≡ true) ⊎ (right_threads.own? u ≡ true) → c j u ≤ finished whole N j u
      fits j u (inl own) = fits_side left N c in_first j u own
      fits j u (inr own) = fits_side right N c in_second j u own

      closed :
          (p q : ℕ) → Before whole p q → In whole c q
          → (left.stores.gap? q ≡ false) ⊎ (right.stores.gap? q ≡ false) → In whole c p
      closed p q before q_in (inl stays) = closed_side left N c in_first p q before q_in stays
      closed p q before q_in (inr stays) = closed_side right N c in_second p q before q_in stays

      loads :
          (l : ℕ) → Counted whole N l → (left.loads.gap? l ≡ false) ⊎ (right.loads.gap? l ≡ false)
          → ExplainsLoad whole c l
      loads l counts (inl stays) =
          rw (left.loads.number_kept l stays) at
          (load_side left N c in_first left_apart _ (counted_kept left left_apart stays counts))
      loads l counts (inr stays) =
          rw (right.loads.number_kept l stays) at
          (load_side right N c in_second right_apart _ (counted_kept right right_apart stays counts))
