-- What the loads that count as of an event do to the marks, one after the other. `Due` says which of them are due yet:
-- with what these forbid, observe and ask for, the marks say what the definitions say of one event more. So where none
-- is due the marks are the next event's, and an event as of which no load counts has none due from the start.
-- In order: `Due`, its start, its step and its end; the chain that a load found; what a load does that walks it, or the
-- part of it that is not marked yet, `load_says`.
use Prim.Native.Nat.{ℕ, zero, suc, ◌≤◌, ◌<◌, max}
use native.Mathlib.Omega.{arith}
use mathlib.Core.Path.{◌≡◌, refl, sym, ◌∙◌}
use mathlib.Core.Bool.{Bool, true, false, cond, ◌&&◌, ◌||◌, not}
use mathlib.Core.Logic.{◌⊎◌, inl, inr, ◌≢◌}
use mathlib.Core.List.{List, [], ◌∷◌}
use lib.Dec.{eqb}
use lib.ListN.{length}
use borrow.Author.Tests.{eqb-true, eq-eqb, ne_eqb}
use Rattle.record.specs.declared.events.Event.{Event}
use Rattle.model.specs.Search.{any, member}
use Rattle.model.specs.Trace.{location, source, commit?, Commit, stretch}
use Rattle.model.specs.Machine.{committed, countable, counting, commit_of}
use Rattle.model.specs.Stores.{head_of, passed, lands_at, landed, marked?}
use Rattle.model.specs.Rules.{Accepted}
use Rattle.model.specs.Choice.{Choice}
use Rattle.model.specs.Clocks.{vc}
use Rattle.model.specs.Verdict.{observes?, observed?, closure}
use Rattle.model.proofs.Searching.{false_true, test, same?, less?, both, parts, or_cases, or_left, or_right, eqb_same}
use Rattle.model.proofs.Searching.{greatest}
use Rattle.model.proofs.Acceptance.{prefix, event_bound, FromPast, countable_source}
use Rattle.model.proofs.Counting.{stretch_mono, earlier_stretch}
use Rattle.model.proofs.Committed.{CommitOf, commit_of_lem}
use Rattle.model.proofs.Effects.{Effect, effect, effect_is, commit_effect}
use Rattle.model.proofs.Closure.{observes→, observed→, clock_in_closure}
use Rattle.model.proofs.RulingSteps.{observed_step, raise, closure_step, Over}
use Rattle.model.proofs.ChainOrder.{landed_length, chain_earlier, event_marks}
use Rattle.area.specs.Cells.{get_row}
use Rattle.area.specs.Rows.{Linked, Rows}
use Rattle.marks.specs.declared.cells.Marks.{Marks}
use Rattle.marks.specs.Marking.{walked, seen_from, loaded}
use Rattle.marks.specs.Testing.{walk_hits}
use Rattle.marks.specs.Matching.{Says, Judging}
use Rattle.marks.proofs.Says.{Fit, fits, says_same, see_says}
use Rattle.marks.proofs.Walking.{AllFit, regroup, Walked, walk_along}
use Rattle.marks.proofs.Segments.{from, from_linked, from_length, from_fit}

module _ (ev : ℕ → Event) where
  -- ---- what is due

  -- the chain that load k found
  abbrev pub chain : ℕ → List ℕ
  chain k = landed ev k (location ev k)

  -- p stands in it before k's source
  abbrev pub chained : ℕ → ℕ → Bool
  chained k p = passed (source ev k) p (chain k)

  -- F, O and C with what load k forbids, observes and asks for
  abbrev pub also_marks : ℕ → (ℕ → Bool) → ℕ → Bool
  also_marks k F p = chained k p || F p

  abbrev pub also_sees : ℕ → (ℕ → Bool) → ℕ → Bool
  also_sees k O q = observes? ev k q || O q

  abbrev pub also_asks : ℕ → Choice → Choice
  also_asks k C j t = max (C j t) (raise ev k j t)

  -- the loads ks are due: with them F, O and C are those of the first n + 1 events
  pub record Due (n : ℕ) (ks : List ℕ) (F O : ℕ → Bool) (C : Choice) : Type 0 where
    pub marks : (p : ℕ) → (any (λ k. chained k p) ks || F p) ≡ marked? ev (suc n) p
    pub sees : (q : ℕ) → (any (λ k. observes? ev k q) ks || O q) ≡ observed? ev (suc n) q
    pub asks : (j t : ℕ) → max (C j t) (greatest (λ k. raise ev k j t) ks) ≡ closure ev (suc n) j t
    -- the choice covers the clocks of what is observed so far
    pub covers : (q t : ℕ) → O q ≡ true → vc ev q t ≤ C (stretch ev q) t

  pub due_start :
      (n : ℕ) → Accepted ev (suc n) → Due n (counting ev n) (marked? ev n) (observed? ev n) (closure ev n)
  due_start n accepted = record {
    marks = λ p. event_marks ev (suc n) accepted n p (omega arith);
    sees = λ q. sym (observed_step ev n q);
    asks = λ j t. sym (closure_step ev n j t accepted);
    covers = λ q t seen. by_order q t seen (less? (closure ev n (stretch ev q) t) (vc ev q t));
  }
    where
      by_order :
          (q t : ℕ) → observed? ev n q ≡ true
          → (closure ev n (stretch ev q) t < vc ev q t) ⊎ (vc ev q t ≤ closure ev n (stretch ev q) t)
          → vc ev q t ≤ closure ev n (stretch ev q) t
      by_order q t seen (inr covered) = covered
      by_order q t seen (inl above) =
          let observed = observed→ ev n q seen in
          let part = prefix ev (suc n) n accepted (omega arith) in
          absurd (omega (arith, clock_in_closure ev n part q t (closure ev n (stretch ev q) t) observed above))

  max_regroup : (a b c : ℕ) → max (max a b) c ≡ max a (max b c)
  max_regroup a b c = omega arith

  pub due_next :
      (n k : ℕ) (ks : List ℕ) (F O : ℕ → Bool) (C : Choice) → Due n (k ∷ ks) F O C
      → Due n ks (also_marks k F) (also_sees k O) (also_asks k C)
  unfolding any greatest
  due_next n k ks F O C due = record {
    marks = λ p. regroup (chained k p) (any (λ i. chained i p) ks) (F p) ∙ due.marks p;
    sees = λ q. regroup (observes? ev k q) (any (λ i. observes? ev i q) ks) (O q) ∙ due.sees q;
    asks = λ j t. max_regroup (C j t) (raise ev k j t) (greatest (λ i. raise ev i j t) ks) ∙ due.asks j t;
    covers = λ q t seen. by_case q t (or_cases (observes? ev k q) (O q) seen);
  }
    where
      by_case :
          (q t : ℕ) → (observes? ev k q ≡ true) ⊎ (O q ≡ true)
          → vc ev q t ≤ max (C (stretch ev q) t) (raise ev k (stretch ev q) t)
      by_case q t (inr before) = omega (arith, due.covers q t before)
      by_case q t (inl now) =
          let it = observes→ ev k q now in
          let asked : raise ev k (stretch ev q) t ≡ vc ev q t =
          rw (it.from, ne_eqb q 0 it.some_store, eqb_same (stretch ev q))
          in
          omega arith

  -- where none is due
  module _ (n : ℕ) (F O : ℕ → Bool) (C : Choice) (due : Due n [] F O C) where
    pub all_marked : (p : ℕ) → F p ≡ marked? ev (suc n) p
    unfolding any
    all_marked p = due.marks p

    pub all_seen : (q : ℕ) → O q ≡ observed? ev (suc n) q
    unfolding any
    all_seen q = due.sees q

    pub all_asked : (j t : ℕ) → C j t ≡ closure ev (suc n) j t
    unfolding greatest
    all_asked j t = nothing (C j t) ∙ due.asks j t
      where
        nothing : (c : ℕ) → c ≡ max c 0
        nothing c = omega arith

    pub due_end : (m : Marks) → Says ev F O C m → Judging ev (suc n) m
    due_end m = says_same ev all_marked all_seen all_asked

  -- what is marked so far is marked
  pub marked_so_far :
      {n : ℕ} {ks : List ℕ} {F O : ℕ → Bool} {C : Choice} → Due n ks F O C
      → (p : ℕ) → F p ≡ true → marked? ev (suc n) p ≡ true
  marked_so_far {n} {ks} due p marked = sym (due.marks p) ∙ or_right (any (λ k. chained k p) ks) _ marked

  -- ---- a load that counts as of event n, and the rows l as the event leaves them

  landed_stands :
      (n d x : ℕ) → d < n → lands_at ev x d ≡ true → member (committed ev d) (landed ev n x) ≡ true
  unfolding landed any
  landed_stands zero d x early lands = absurd (omega arith)
  landed_stands (suc n) d x early lands = by_last (same? d n) (test (lands_at ev x n)) (landed_stands n d x)
    where
      by_last :
          (d ≡ n) ⊎ (d ≢ n) → (lands_at ev x n ≡ true) ⊎ (lands_at ev x n ≡ false)
          → (d < n → lands_at ev x d ≡ true → member (committed ev d) (landed ev n x) ≡ true)
          → member (committed ev d) (cond (lands_at ev x n) (committed ev n ∷ landed ev n x) (landed ev n x)) ≡ true
      by_last (inl is_n) (inr fails) earlier = false_true (sym fails ∙ rw is_n at lands)
      by_last (inl is_n) (inl also) earlier = rw (also, is_n) (or_left _ _ (eqb_same (committed ev n)))
      by_last (inr differs) (inl also) earlier =
          rw also (or_right (eqb (committed ev d) (committed ev n)) _ (earlier (omega arith) lands))
      by_last (inr differs) (inr fails) earlier = rw fails (earlier (omega arith) lands)

  pub record Found (n : ℕ) (l : List ℕ) (k : ℕ) : Type 0 where
    pub not_later : k ≤ n
    pub is_countable : countable ev k ≡ true
    pub rows : Rows ev (suc n) l
    pub links : Linked l (head_of (chain k)) (chain k)

  module _ (n : ℕ) (l : List ℕ) (k : ℕ) (accepted : Accepted ev (suc n)) (found : Found n l k) where
    abbrev s : ℕ
    s = source ev k

    abbrev h : ℕ
    h = head_of (chain k)

    -- each store of its chain has its row and numbers
    all_fit : (m : ℕ) → m ≤ k → AllFit ev (suc n) (landed ev m (location ev k))
    unfolding landed
    all_fit zero early = tt
    all_fit (suc m) early = by_test (test (lands_at ev (location ev k) m)) (all_fit m (omega arith))
      where
        by_test :
            (lands_at ev (location ev k) m ≡ true) ⊎ (lands_at ev (location ev k) m ≡ false)
            → AllFit ev (suc n) (landed ev m (location ev k))
            → AllFit ev (suc n) (cond (lands_at ev (location ev k) m) (committed ev m ∷ landed ev m (location ev k))
            (landed ev m (location ev k)))
        by_test (inr fails) earlier = rw fails earlier
        by_test (inl lands) earlier =
            rw lands (fits ev (suc n) (suc n) (committed ev m) accepted (omega arith) over, earlier)
          where
            both_hold : (commit? ev m ≡ true) × (eqb (location ev (committed ev m)) (location ev k) ≡ true)
            both_hold = parts (commit? ev m) _ lands

            commits : Commit ev m
            commits = record { test = both_hold.0 }

            inside : k < suc n
            inside = omega (arith, found.not_later)

            it : Effect ev m (committed ev m)
            it = effect ev (suc n) m accepted (omega arith) commits

            over : Over ev (suc n) (committed ev m)
            over =
                let before_k =
                chain_earlier ev (suc n) accepted k inside found.is_countable m (committed ev m) early commits it
                (eqb-true _ _ both_hold.1)
                in
                record {
                  store = it.own.store;
                  early = omega (arith, it.early);
                  over = omega (arith, before_k, stretch_mono ev k (suc n) (omega arith));
                }

    inside : k < suc n
    inside = omega (arith, found.not_later)

    pub source_fits_lem : s ≢ 0 → Fit ev (suc n) s
    source_fits_lem some =
        let from = countable_source ev (suc n) accepted k inside found.is_countable some in
        fits ev (suc n) (suc n) s accepted (omega (arith, inside))
        (record {
          store = from.store;
          early = omega (arith, inside, earlier_stretch ev s k from.earlier);
          over = omega (arith, from.earlier, stretch_mono ev k (suc n) (omega (arith, inside)));
        })

    -- it stands in the chain
    pub source_stands : source ev k ≢ 0 → member (source ev k) (chain k) ≡ true
    source_stands some = rw is_s at (landed_stands k d (location ev k) commit.inside lands)
      where
        past : FromPast ev k s
        past = countable_source ev (suc n) accepted k inside found.is_countable some

        d : ℕ
        d = commit_of ev k s

        commit : CommitOf ev k s d
        commit = commit_of_lem ev k s past.committed

        is_s : committed ev d ≡ s
        is_s =
            effect_is ev d s
            (commit_effect ev (suc n) k d s accepted (omega (arith, inside)) past.store commit)

        lands : lands_at ev (location ev k) d ≡ true
        lands =
            both (commit? ev d) _ commit.commits_it_lem.test
            (eq-eqb (location ev (committed ev d)) (location ev k) (rw is_s past.to_it))

    -- ---- what the load does

    -- the links from `first` on spell stores that have their rows and numbers
    pub record Segment (first : ℕ) (ps : List ℕ) : Type 0 where
      pub links : Linked l first ps
      pub fit : AllFit ev (suc n) ps
      pub short : length ps ≤ 2048

    pub whole : Segment (head_of (chain k)) (chain k)
    whole =
        let short = landed_length ev k (location ev k) in
        let few = event_bound ev (suc n) accepted k inside in
        record { links = found.links; fit = all_fit k (omega arith); short = omega arith }

    pub segment : (d : ℕ) → (d ≢ 0 → member d (chain k) ≡ true) → Segment d (from d (chain k))
    segment d stands = record {
      links = from_linked l d h (chain k) whole.links stands;
      fit = from_fit d ev (suc n) (chain k) whole.fit;
      short = omega (arith, whole.short, from_length d (chain k));
    }

    module _ (F O : ℕ → Bool) (C : Choice) (m : Marks) (says : Says ev F O C m) where
      pub load_walk :
          (first : ℕ) (ps : List ℕ) → Segment first ps
          → Walked ev O C (source ev k) ps F (walked 2048 l m first (source ev k))
          (walk_hits 2048 l m.cut first (source ev k))
      load_walk first ps it =
          walk_along ev O C s (suc n) l found.rows ps 2048 m first F it.links it.fit it.short says

      sees_none : s ≡ 0 → (q : ℕ) → O q ≡ also_sees k O q
      unfolding observes?
      sees_none none q = rw none (by_test (test (eqb 0 q)))
        where
          by_test : (eqb 0 q ≡ true) ⊎ (eqb 0 q ≡ false) → O q ≡ (eqb 0 q && not (eqb q 0) || O q)
          by_test (inl is_0) = rw (is_0, eq-eqb q 0 (sym (eqb-true 0 q is_0)))
          by_test (inr some) = rw some

      sees_source : s ≢ 0 → (q : ℕ) → (eqb s q || O q) ≡ also_sees k O q
      unfolding observes?
      sees_source some q = by_equality (same? s q)
        where
          by_equality : (s ≡ q) ⊎ (s ≢ q) → (eqb s q || O q) ≡ (eqb s q && not (eqb q 0) || O q)
          by_equality (inl is_q) = rw (eq-eqb s q is_q, ne_eqb q 0 (λ is_0. some (is_q ∙ is_0)))
          by_equality (inr differs) = rw (ne_eqb s q differs)

      asks_none : s ≡ 0 → (j t : ℕ) → C j t ≡ also_asks k C j t
      asks_none none j t = rw (eq-eqb s 0 none) (omega arith)

      asks_source :
          s ≢ 0 → (j t : ℕ) → cond (eqb (stretch ev s) j) (max (C j t) (vc ev s t)) (C j t) ≡ also_asks k C j t
      asks_source some j t = rw (ne_eqb s 0 some) (by_test (eqb (stretch ev s) j) (C j t) (vc ev s t))
        where
          by_test : (b : Bool) (c v : ℕ) → cond b (max c v) c ≡ max c (cond b v 0)
          by_test true c v = refl
          by_test false c v = omega arith

      -- walked from `first` on, where that marks what the load forbids
      pub load_says :
          (first : ℕ) (ps : List ℕ) → Segment first ps
          → ((p : ℕ) → (passed (source ev k) p ps || F p) ≡ also_marks k F p)
          → Says ev (also_marks k F) (also_sees k O) (also_asks k C) (loaded l m first (source ev k))
      unfolding loaded
      load_says first ps it marks = by_source (same? s 0)
        where
          after_walk : Marks
          after_walk = walked 2048 l m first s

          says_walked : Says ev (also_marks k F) O C after_walk
          says_walked = says_same ev marks (λ q. refl) (λ j t. refl) (load_walk first ps it).says

          by_source :
              (s ≡ 0) ⊎ (s ≢ 0)
              → Says ev (also_marks k F) (also_sees k O) (also_asks k C)
              (cond (eqb s 0) after_walk (seen_from l after_walk s (get_row l s 10)))
          by_source (inl none) =
              rw (eq-eqb s 0 none) (says_same ev (λ p. refl) (sees_none none) (asks_none none) says_walked)
          by_source (inr some) =
              rw (ne_eqb s 0 some)
              (says_same ev (λ p. refl) (sees_source some) (asks_source some)
              (see_says ev (suc n) l found.rows s (source_fits_lem some) (also_marks k F) O C after_walk says_walked))
