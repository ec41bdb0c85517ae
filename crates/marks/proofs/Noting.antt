-- What is noted at each location, in its two numbers: `Loads` says that walks along the chain with that head have come
-- to that source, so what stands before it is marked (F) and it is observed (O); and noting a load keeps that. The head
-- of the chain that a load found names the whole chain.
-- In order: the start; what notes nothing; a load that found the chain of the one noted; the load is noted.
use Prim.Native.Nat.{ℕ, suc, ◌≤◌, ◌<◌}
use native.Mathlib.Omega.{arith}
use mathlib.Core.Path.{◌≡◌, sym, ◌∙◌}
use mathlib.Core.Bool.{Bool, true}
use mathlib.Core.Logic.{◌⊎◌, inl, inr, ◌≢◌}
use mathlib.Core.List.{List}
use lib.ListN.{length}
use lib.Dec.{eqb}
use lib.Seq.{get_or-set_same, get_or-set_other}
use borrow.Author.Tests.{eqb-true}
use Rattle.std.specs.Prelude.{Option}
use Rattle.record.specs.declared.events.Event.{Event}
use Rattle.model.specs.Trace.{location, source}
use Rattle.model.specs.Stores.{head_of, passed, landed}
use Rattle.model.specs.Rules.{Accepted}
use Rattle.model.specs.Choice.{Choice}
use Rattle.model.specs.Verdict.{observes?}
use Rattle.model.proofs.Searching.{false_true, same?, less?, parts, or_right}
use Rattle.model.proofs.ChainOrder.{same_chain}
use Rattle.marks.specs.declared.cells.Marks.{Marks}
use Rattle.marks.specs.Marks.{marks_of, location_cell, last_in, source_in}
use Rattle.marks.specs.Judged.{repeated, noted}
use Rattle.marks.specs.Matching.{Reached, Says, Noted, Loads}
use Rattle.marks.proofs.Stepping.{chain, chained, also_marks, also_sees}

-- walks have come there, with more that is marked and observed
pub reached_more :
    {F G O P : ℕ → Bool} {ps : List ℕ} {s : ℕ} → ((p : ℕ) → F p ≡ true → G p ≡ true)
    → ((q : ℕ) → O q ≡ true → P q ≡ true) → Reached F O ps s → Reached G P ps s
reached_more {s = s} more_f more_o it = record {
  marked = λ p passes. more_f p (it.marked p passes);
  observed = λ some. more_o s (it.observed some);
  stands = it.stands;
}

module _ (ev : ℕ → Event) where
  -- where nothing is noted: the empty chain, and no source
  pub loads_start :
      (F O : ℕ → Bool) (m : Marks) → ((x : ℕ) → last_in m x ≡ 0) → ((x : ℕ) → source_in m x ≡ 0) → Loads ev 0 F O m
  unfolding landed passed
  loads_start F O m no_last no_source x there = record {
    k = 0;
    early = omega arith;
    last_is = no_last x;
    reached = record {
      marked = λ p passes. false_true passes;
      observed = λ some. absurd (some (no_source x));
      stands = λ some. absurd (some (no_source x));
    };
  }

  -- ---- what notes nothing

  -- the marks say the same with other loads noted, and another that breaks the trace
  pub says_there :
      {F O : ℕ → Bool} {C : Choice} (m : Marks) (last source : List ℕ) (broken : Option ℕ)
      → length last ≡ length m.last → length source ≡ length m.source → Says ev F O C m
      → Says ev F O C (marks_of m.cut m.low last source broken m.flags)
  says_there m last source broken same_last same_source says = record {
    cut_size = says.cut_size;
    low_size = says.low_size;
    last_size = same_last ∙ says.last_size;
    source_size = same_source ∙ says.source_size;
    flags_size = says.flags_size;
    flags = says.flags;
    cuts = says.cuts;
    lows = says.lows;
    lowest = says.lowest;
  }

  -- the loads noted stay so after more events, with more that is marked and observed
  module _
      (n k : ℕ) (F G O P : ℕ → Bool) (within : n ≤ k)
      (more_f : (p : ℕ) → F p ≡ true → G p ≡ true) (more_o : (q : ℕ) → O q ≡ true → P q ≡ true) where
    noted_there :
        (x : ℕ) (m v : Marks) → last_in v x ≡ last_in m x → source_in v x ≡ source_in m x → Noted ev n x F O m
        → Noted ev k x G P v
    noted_there x m v same_last same_source it = record {
      k = it.k;
      early = omega (arith, it.early);
      last_is = same_last ∙ it.last_is;
      reached = rw same_source (reached_more more_f more_o it.reached);
    }

    pub loads_later :
        (m v : Marks) → ((x : ℕ) → x < 256 → last_in v x ≡ last_in m x)
        → ((x : ℕ) → x < 256 → source_in v x ≡ source_in m x) → Loads ev n F O m → Loads ev k G P v
    loads_later m v same_last same_source loads x there =
        noted_there x m v (same_last x there) (same_source x there) (loads x there)

  -- ---- load k, which counts as of event n

  module _
      (n k : ℕ) (accepted : Accepted ev (suc n)) (not_later : k ≤ n) (x_there : location ev k < 256) (F O : ℕ → Bool)
      (m : Marks) (loads : Loads ev (suc n) F O m) where
    abbrev x : ℕ
    x = location ev k

    abbrev s : ℕ
    s = source ev k

    abbrev h : ℕ
    h = head_of (chain ev k)

    -- a load that found the chain of the one noted
    pub noted_reached :
        eqb (last_in m (location ev k)) (head_of (chain ev k)) ≡ true
        → Reached F O (chain ev k) (source_in m (location ev k))
    noted_reached same = rw same_list at it.reached
      where
        it : Noted ev (suc n) x F O m
        it = loads x x_there

        same_head : head_of (landed ev it.k x) ≡ head_of (landed ev k x)
        same_head = sym it.last_is ∙ eqb-true (last_in m x) h same

        -- the load noted can have come before it or after it
        same_list : landed ev it.k x ≡ landed ev k x
        same_list = by_order (less? k it.k)
          where
            by_order : (k < it.k) ⊎ (it.k ≤ k) → landed ev it.k x ≡ landed ev k x
            by_order (inr earlier) =
                same_chain ev (suc n) it.k k x accepted earlier (omega arith) same_head
            by_order (inl later) =
                sym (same_chain ev (suc n) k it.k x accepted (omega arith) it.early (sym same_head))

    -- and repeats it
    pub repeats_noted :
        repeated m (head_of (chain ev k)) (location ev k) (source ev k) ≡ true
        → Reached F O (chain ev k) (source ev k)
    repeats_noted again =
        let both_hold = parts (eqb (last_in m x) h) _ again in
        rw (eqb-true (source_in m x) s both_hold.1) at (noted_reached both_hold.0)

    -- the load is noted, among the loads that are judged with it, with a source that walks along its chain have come to
    pub noted_loads :
        (back : ℕ) → Reached (also_marks ev k F) (also_sees ev k O) (chain ev k) back
        → length m.last ≡ 256 → length m.source ≡ 256
        → Loads ev (suc n) (also_marks ev k F) (also_sees ev k O)
        (noted m (head_of (chain ev k)) (location ev k) back)
    noted_loads back reached last_size source_size y there = by_location (same? y x)
      where
        after : Marks
        after = noted m h x back

        by_location : (y ≡ x) ⊎ (y ≢ x) → Noted ev (suc n) y (also_marks ev k F) (also_sees ev k O) after
        by_location (inl is_x) = rw is_x (record {
          k = k;
          early = omega arith;
          last_is = get_or-set_same m.last (location_cell x) h 0 (omega (arith, last_size));
          reached = rw (get_or-set_same m.source (location_cell x) back 0 (omega (arith, source_size))) reached;
        })
        by_location (inr differs) =
            noted_there (suc n) (suc n) F (also_marks ev k F) O (also_sees ev k O) (omega arith)
            (λ p in_f. or_right (chained ev k p) _ in_f) (λ q in_o. or_right (observes? ev k q) _ in_o)
            y m after (get_or-set_other m.last (location_cell x) (location_cell y) h 0 apart)
            (get_or-set_other m.source (location_cell x) (location_cell y) back 0 apart) (loads y there)
          where
            apart : location_cell y ≢ location_cell x
            apart same = differs (omega (arith, x_there))
