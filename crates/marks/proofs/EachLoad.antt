-- The loads that count as of an event, one after the other: `Part` says what the marks say while some of them are due
-- yet. A load that repeats the one noted at its location adds nothing; any other is walked and noted. A load of a close
-- that found the chain of the one noted is walked on from the noted source, where walks ended so far, if its own source
-- is older; if not, all that it forbids is marked.
-- In order: one load that repeats, and one that is walked; a load of a close, `held_next`; all of them, `held_all_lem`.
use Prim.Native.Nat.{ℕ, suc, ◌*◌, ◌≤◌, ◌<◌}
use native.Mathlib.Omega.{arith}
use mathlib.Core.Path.{◌≡◌, refl, sym, ◌∙◌}
use mathlib.Core.Bool.{Bool, true, false, ◌||◌, not}
use mathlib.Core.Logic.{◌⊎◌, inl, inr, ◌≢◌}
use mathlib.Core.List.{List, [], ◌∷◌}
use lib.Dec.{eqb, ltb}
use lib.ListN.{length-set}
use borrow.Author.Tests.{eqb-true, eqb-false, ne_eqb, ltb-true, lt-ltb, not-true}
use Rattle.std.specs.Prelude.{None}
use Rattle.record.specs.declared.events.Event.{Event}
use Rattle.model.specs.Search.{any, member}
use Rattle.model.specs.Trace.{location, source}
use Rattle.model.specs.Machine.{counts}
use Rattle.model.specs.Stores.{head_of, passed}
use Rattle.model.specs.Rules.{Accepted}
use Rattle.model.specs.Choice.{Choice}
use Rattle.model.specs.Verdict.{observes?}
use Rattle.model.proofs.Searching.{false_true, test, less?, parts, or_cases, or_left, or_right, eqb_same}
use Rattle.model.proofs.Acceptance.{countable_crosses}
use Rattle.model.proofs.Ranges.{load_has_location, location_bound}
use Rattle.model.proofs.CountedLoads.{counts_as_of}
use Rattle.model.proofs.Closure.{observes→, →observes}
use Rattle.model.proofs.RulingSteps.{raise, raised→}
use Rattle.area.specs.Cells.{committed_at}
use Rattle.area.specs.Rows.{Linked, Falls, Rows}
use Rattle.marks.specs.declared.cells.Marks.{Marks}
use Rattle.marks.specs.Marks.{location_cell, last_in, source_in}
use Rattle.marks.specs.Marking.{loaded}
use Rattle.marks.specs.Judged.{repeated, noted, walked_over, older_in, start_of, deepest_of, walked_from, held_from}
use Rattle.marks.specs.Matching.{Reached, Says, Loads}
use Rattle.marks.proofs.Counts.{Kept, loaded_keeps}
use Rattle.marks.proofs.Says.{pointwise}
use Rattle.marks.proofs.Segments.{from, passed_stands, fit_stands, passed_newer, adds_nothing, walks_on}
use Rattle.marks.proofs.Segments.{from_stops}
use Rattle.marks.proofs.Stepping.{chain, chained, also_marks, also_sees, also_asks, Due, due_next, Found}
use Rattle.marks.proofs.Stepping.{source_stands, Segment, whole, segment, load_says}
use Rattle.marks.proofs.Noting.{says_there, reached_more, loads_later, noted_reached, repeats_noted, noted_loads}

-- a test that passes only where another does adds nothing to it
absorbed : (a c : Bool) → (a ≡ true → c ≡ true) → c ≡ (a || c)
absorbed true c then = then refl
absorbed false c then = refl

absorbed_before : (a b c : Bool) → (a ≡ true → c ≡ true) → (b || c) ≡ (a || b || c)
absorbed_before true true c then = refl
absorbed_before true false c then = then refl
absorbed_before false b c then = refl

fails : (a : Bool) → a ≢ true → a ≡ false
fails true not_so = absurd (not_so refl)
fails false not_so = refl

module _ (ev : ℕ → Event) where
  -- the loads ks are due yet, with F, O and C of those before, and none of these has been recorded as breaking
  pub record Part (n : ℕ) (ks : List ℕ) (F O : ℕ → Bool) (C : Choice) (m : Marks) : Type 0 where
    pub due : Due ev n ks F O C
    pub says : Says ev F O C m
    pub loads : Loads ev (suc n) F O m
    pub unbroken : m.broken ≡ None

  -- with some F, O and C
  pub record SomePart (n : ℕ) (ks : List ℕ) (m : Marks) : Type 0 where
    pub F : ℕ → Bool
    pub O : ℕ → Bool
    pub C : Choice
    pub part : Part n ks F O C m

  -- load k repeats the load noted at its location
  abbrev pub again? : Marks → ℕ → Bool
  again? m k = repeated m (head_of (chain ev k)) (location ev k) (source ev k)

  -- load k by the rows l, walked from the head; and of a close, walked from `first` on and noted with the source `back`
  abbrev pub walked_one : List ℕ → Marks → ℕ → Marks
  walked_one l m k = walked_over l m (head_of (chain ev k)) (location ev k) (source ev k)

  abbrev walked_back : List ℕ → Marks → ℕ → ℕ → ℕ → Marks
  walked_back l m k first back = walked_from l m first (head_of (chain ev k)) (location ev k) (source ev k) back

  -- load k, of a close
  abbrev pub held_one : List ℕ → Marks → ℕ → Marks
  held_one l m k = held_from l m (head_of (chain ev k)) (location ev k) (source ev k)

  -- ---- one load

  module _
      (n : ℕ) (l : List ℕ) (k : ℕ) (ks : List ℕ) (accepted : Accepted ev (suc n)) (found : Found ev n l k)
      (F O : ℕ → Bool) (C : Choice) (m : Marks) (part : Part n (k ∷ ks) F O C m) where
    abbrev h : ℕ
    h = head_of (chain ev k)

    abbrev x : ℕ
    x = location ev k

    abbrev s : ℕ
    s = source ev k

    x_there : location ev k < 256
    x_there =
        location_bound ev (suc n) accepted k (omega (arith, found.not_later))
        (load_has_location ev (countable_crosses ev k found.is_countable).loads)

    abbrev F' : ℕ → Bool
    F' = also_marks ev k F

    abbrev O' : ℕ → Bool
    O' = also_sees ev k O

    abbrev C' : Choice
    C' = also_asks ev k C

    due_then : Due ev n ks F' O' C'
    due_then = due_next ev n k ks F O C part.due

    -- it repeats the load noted, and adds nothing to F, O and C
    module _ (again : again? m k ≡ true) where
      reached : Reached F O (chain ev k) s
      reached = repeats_noted ev n k accepted found.not_later x_there F O m part.loads again

      same_f : (p : ℕ) → F p ≡ F' p
      same_f p = absorbed (chained ev k p) (F p) (reached.marked p)

      same_o : (q : ℕ) → O q ≡ O' q
      same_o q = absorbed (observes? ev k q) (O q) seen
        where
          seen : observes? ev k q ≡ true → O q ≡ true
          seen passes =
              let observes = observes→ ev k q passes in
              rw observes.from at (reached.observed (λ none. observes.some_store (sym observes.from ∙ none)))

      same_c : (j t : ℕ) → C j t ≡ C' j t
      same_c j t = by_order (less? (C j t) (raise ev k j t))
        where
          by_order : (C j t < raise ev k j t) ⊎ (raise ev k j t ≤ C j t) → C j t ≡ C' j t
          by_order (inr covered) = omega arith
          by_order (inl above) =
              let asked = raised→ ev k j t (C j t) above in
              let covered = part.due.covers s t (reached.observed asked.observes.some_store) in
              let in_j = asked.in_j in
              absurd (omega (arith, asked.in_clock, (rw in_j at covered)))

      pub again_next : Part n ks F O C m
      again_next = record {
        due =
            pointwise ev (Due ev n ks) (λ p. sym (same_f p)) (λ q. sym (same_o q)) (λ j t. sym (same_c j t)) due_then;
        says = part.says;
        loads = part.loads;
        unbroken = part.unbroken;
      }

    -- ---- any other is walked and noted

    more_f : (p : ℕ) → F p ≡ true → F' p ≡ true
    more_f p in_f = or_right (chained ev k p) _ in_f

    more_o : (q : ℕ) → O q ≡ true → O' q ≡ true
    more_o q in_o = or_right (observes? ev k q) _ in_o

    -- the walk from `first` on marks what the load forbids, and walks have come to `back` then
    record Walk (first back : ℕ) (ps : List ℕ) : Type 0 where
      along : Segment ev n l k accepted found first ps
      marks : (p : ℕ) → (passed (source ev k) p ps || F p) ≡ also_marks ev k F p
      reached : Reached (also_marks ev k F) (also_sees ev k O) (chain ev k) back

    -- noting a load leaves what the marks say
    says_noted :
        {F O : ℕ → Bool} {C : Choice} (v : Marks) (back : ℕ) → Says ev F O C v → Says ev F O C (noted v h x back)
    says_noted v back =
        says_there ev v _ _ v.broken (length-set v.last (location_cell x) h)
        (length-set v.source (location_cell x) back)

    walk_next : (first back : ℕ) (ps : List ℕ) → Walk first back ps → Part n ks F' O' C' (walked_back l m k first back)
    walk_next first back ps walk = record {
      due = due_then;
      says =
          load_says ev n l k accepted found F O C before (says_noted m back part.says) first ps walk.along
          walk.marks;
      loads =
          loads_later ev (suc n) (suc n) F' F' O' O' (omega arith) (λ p in_f. in_f) (λ q in_o. in_o) before _
          (λ y few. rw kept.0 refl) (λ y few. rw kept.1 refl)
          (noted_loads ev n k accepted found.not_later x_there F O m part.loads back walk.reached
          part.says.last_size part.says.source_size);
      unbroken = kept.2 ∙ part.unbroken;
    }
      where
        before : Marks
        before = noted m h x back

        kept : Kept before (loaded l before first s)
        kept = loaded_keeps l before first s

    -- back to its own source
    reached_source : Reached F' O' (chain ev k) s
    reached_source = record {
      marked = λ p passes. or_left _ _ passes;
      observed = λ some. or_left _ _ (→observes ev k s (record { from = refl; some_store = some }));
      stands = source_stands ev n l k accepted found;
    }

    from_head : Walk h s (chain ev k)
    from_head = record { along = whole ev n l k accepted found; marks = λ p. refl; reached = reached_source }

    -- a load that counts as of its own event is walked from the head, and noted behind that
    pub whole_next : Part n ks (also_marks ev k F) (also_sees ev k O) (also_asks ev k C) (walked_one l m k)
    whole_next = record {
      due = due_then;
      says = says_noted after s says_after;
      loads =
          noted_loads ev n k accepted found.not_later x_there F O after
          (loads_later ev (suc n) (suc n) F F O O (omega arith) (λ p in_f. in_f) (λ q in_o. in_o) m after
          (λ y few. rw kept.0 refl) (λ y few. rw kept.1 refl) part.loads)
          s reached_source says_after.last_size says_after.source_size;
      unbroken = kept.2 ∙ part.unbroken;
    }
      where
        kept : Kept m (loaded l m h s)
        kept = loaded_keeps l m h s

        after : Marks
        after = loaded l m h s

        says_after : Says ev F' O' C' after
        says_after =
            load_says ev n l k accepted found F O C m part.says h (chain ev k) from_head.along from_head.marks

    -- ---- a load of a close that found the chain of the one noted, whose source is d

    module _
        (b : ℕ) (falls : Falls l b (chain ev k))
        (same : eqb (last_in m (location ev k)) (head_of (chain ev k)) ≡ true) where
      abbrev d : ℕ
      d = source_in m x

      to_d : Reached F O (chain ev k) d
      to_d = noted_reached ev n k accepted found.not_later x_there F O m part.loads same

      -- what stands before a store is a store, and was committed after it
      before : (p q : ℕ) → passed p q (chain ev k) ≡ true → q ≢ 0
      before p q passes none =
          let fit =
          fit_stands ev (suc n) q (chain ev k) (whole ev n l k accepted found).fit
          (passed_stands p q (chain ev k) passes)
          in
          omega (arith, fit.from_1)

      newer :
          (p q : ℕ) → member p (chain ev k) ≡ true → passed p q (chain ev k) ≡ true
          → committed_at l p < committed_at l q
      newer p q stands passes = passed_newer l b p q (chain ev k) falls stands passes

      -- its source is older: it is walked on from d
      on_from : older_in l s d ≡ true → Walk d s (from d (chain ev k))
      on_from older = record {
        along = segment ev n l k accepted found d to_d.stands;
        marks = λ p. rw (walks_on s d p (chain ev k) s_behind) (with_noted p);
        reached = reached_source;
      }
        where
          both_hold : (not (eqb d 0) ≡ true) × ((eqb s 0 || ltb (committed_at l s) (committed_at l d)) ≡ true)
          both_hold = parts (not (eqb d 0)) _ older

          not_before :
              (eqb s 0 ≡ true) ⊎ (ltb (committed_at l s) (committed_at l d) ≡ true) → passed d s (chain ev k) ≢ true
          not_before (inl none) passes = before d s passes (eqb-true s 0 none)
          not_before (inr sooner) passes =
              let some_d : d ≢ 0 = eqb-false d 0 (not-true _ both_hold.0) in
              omega (arith, ltb-true (committed_at l s) (committed_at l d) sooner, newer d s (to_d.stands some_d) passes)

          s_behind : passed d s (chain ev k) ≡ false
          s_behind = fails _ (not_before (or_cases (eqb s 0) _ both_hold.1))

          with_noted :
              (p : ℕ)
              → (passed s p (from d (chain ev k)) || F p)
              ≡ (passed d p (chain ev k) || passed s p (from d (chain ev k)) || F p)
          with_noted p = absorbed_before (passed d p (chain ev k)) _ (F p) (to_d.marked p)

      -- it is not older: nothing is walked
      at_once : older_in l s d ≡ false → Walk s d (from s (chain ev k))
      at_once not_older = record {
        along = segment ev n l k accepted found s (source_stands ev n l k accepted found);
        marks = λ p.
            rw (from_stops s p (chain ev k))
            (absorbed (chained ev k p) (F p)
            (λ passes. to_d.marked p (adds_nothing s d p (chain ev k) d_behind passes)));
        reached = reached_more more_f more_o to_d;
      }
        where
          d_behind : passed s d (chain ev k) ≡ false
          d_behind = fails _ not_before
            where
              not_before : passed s d (chain ev k) ≢ true
              not_before passes =
                  let some_d = before s d passes in
                  by_source (test (eqb s 0)) some_d
                where
                  by_source : (eqb s 0 ≡ true) ⊎ (eqb s 0 ≡ false) → d ≢ 0 → ⊥
                  by_source (inl none) some_d = false_true (sym not_older ∙ rw (none, ne_eqb d 0 some_d))
                  by_source (inr some) some_d =
                      let sooner =
                      newer s d (source_stands ev n l k accepted found (eqb-false s 0 some)) passes
                      in
                      false_true (sym not_older ∙ rw (some, ne_eqb d 0 some_d, lt-ltb _ _ sooner))

    -- THE MARKS AFTER A LOAD OF A CLOSE
    pub held_next : (b : ℕ) → Falls l b (chain ev k) → SomePart n ks (held_one l m k)
    held_next b falls = by_again (test (again? m k))
      where
        first : ℕ
        first = start_of l m h x s

        back : ℕ
        back = deepest_of l m h x s

        same_head : Bool
        same_head = eqb (last_in m x) h

        older : Bool
        older = older_in l s (source_in m x)

        by_age :
            same_head ≡ true → (older ≡ true) ⊎ (older ≡ false) → Part n ks F' O' C' (walked_back l m k first back)
        by_age same (inl is_older) = rw (same, is_older) (walk_next _ _ _ (on_from b falls same is_older))
        by_age same (inr not_older) = rw (same, not_older) (walk_next _ _ _ (at_once b falls same not_older))

        by_chain : (same_head ≡ true) ⊎ (same_head ≡ false) → Part n ks F' O' C' (walked_back l m k first back)
        by_chain (inl same) = by_age same (test older)
        by_chain (inr other) = rw other (walk_next _ _ _ from_head)

        by_again : (again? m k ≡ true) ⊎ (again? m k ≡ false) → SomePart n ks (held_one l m k)
        by_again (inl again) = rw again (record { F = F; O = O; C = C; part = again_next again })
        by_again (inr new) = rw new (record { F = F'; O = O'; C = C'; part = by_chain (test same_head) })

  -- ---- all loads of a close

  -- the rows l, and what they hold of the chain that load k found
  abbrev pub Area : ℕ → List ℕ → ℕ → Type 0
  Area n l k =
      Rows ev (suc n) l × Linked l (head_of (chain ev k)) (chain ev k) × Falls l (16 * n) (chain ev k)

  -- load k counts as of event n
  pub found_it :
      (n : ℕ) (l : List ℕ) (k : ℕ) → counts ev n k ≡ true → Rows ev (suc n) l
      → Linked l (head_of (chain ev k)) (chain ev k) → Found ev n l k
  found_it n l k here rows links =
      let it = counts_as_of ev n k here in
      record { not_later = it.not_later; is_countable = it.is_countable; rows = rows; links = links }

  unfoldable pub held_all : List ℕ → List ℕ → Marks → Marks
  held_all l [] m = m
  held_all l (k ∷ ks) m = held_all l ks (held_one l m k)

  module _
      (n : ℕ) (l : List ℕ) (accepted : Accepted ev (suc n)) (area : (k : ℕ) → counts ev n k ≡ true → Area n l k) where
    pub held_all_lem :
        (ks : List ℕ) (m : Marks) → ((k : ℕ) → member k ks ≡ true → counts ev n k ≡ true)
        → SomePart n ks m → SomePart n [] (held_all l ks m)
    unfolding held_all any
    held_all_lem [] m all some = some
    held_all_lem (k ∷ ks) m all some =
        let here = all k (or_left (eqb k k) _ (eqb_same k)) in
        let (rows, links, falls) = area k here in
        held_all_lem ks (held_one l m k) (λ i there. all i (or_right (eqb i k) _ there))
        (held_next n l k ks accepted (found_it n l k here rows links) some.F some.O some.C m some.part
        (16 * n) falls)
