-- For the fold over a trace: the invariant of judging, its start, its step and its two ends. The loads that count as of
-- an event break the trace exactly if with them there is a pair. After that event the marks stay, and at the end of an
-- accepted trace they give its ruling.
-- In order: `match_judged`, for every event; `match_none`, `match_load` and `match_held`, for an event as of which no
-- load counts, for a load and for a close; `match_start`; the ends, `broken_at_ruling` and `unbroken_robust`.
use Prim.Native.Nat.{ℕ, suc, ◌≤◌, ◌<◌, min}
use native.Mathlib.Omega.{arith}
use mathlib.Core.Path.{◌≡◌, refl, sym, ◌∙◌, ap}
use mathlib.Core.Bool.{Bool, true, false, cond}
use mathlib.Core.Logic.{◌⊎◌, inl, inr}
use mathlib.Core.List.{List, [], ◌∷◌}
use lib.Dec.{eqb}
use lib.ListN.{length, length-replicate}
use Rattle.std.specs.Prelude.{Option, Some, None, is_some, unwrap_or}
use Rattle.record.specs.declared.events.Event.{Event}
use Rattle.model.specs.Search.{some, any, most}
use Rattle.model.specs.Trace.{thread, location, source, stretch}
use Rattle.model.specs.Machine.{countable, counting, counts}
use Rattle.model.specs.Stores.{head_of, marked?}
use Rattle.model.specs.Rules.{Accepted}
use Rattle.model.specs.Choice.{Choice, robust, broken, finished}
use Rattle.model.specs.Verdict.{forbidden?, observed?, bad?, closure, ruling_of}
use Rattle.model.specs.Answers.{sum, percent, cut_of, share_of}
use Rattle.model.proofs.Searching.{false_true, test, same_test, or_left, eqb_same}
use Rattle.model.proofs.Roles.{one_kind, begin_no_load}
use Rattle.model.proofs.Acceptance.{prefix, begins}
use Rattle.model.proofs.RulingSteps.{Over, marked_over, hit→, →hit, hit_is_bad, bad_has_hit}
use Rattle.model.proofs.RulingSteps.{robust_ruling, broken_ruling}
use Rattle.area.specs.Rows.{Linked, HeldLinked, Rows}
use Rattle.area.proofs.ReadBack.{cleared_at}
use Rattle.marks.specs.declared.cells.Marks.{Marks}
use Rattle.marks.specs.Marks.{marks_of, no_marks, thread_cell, location_cell, flag_cell}
use Rattle.marks.specs.Testing.{load_hits, missing_by, observed_by}
use Rattle.marks.specs.Judged.{with_breaking, judged, all_held, pair_in, judged_held}
use Rattle.marks.specs.Ending.{copied, stores_in}
use Rattle.marks.specs.Matching.{Judging, Loads, Unbroken, BrokenAt, MarksMatch}
use Rattle.marks.proofs.Stepping.{chain, also_marks, also_sees, also_asks, due_start, Found}
use Rattle.marks.proofs.Stepping.{all_marked, all_seen, all_asked, due_end, marked_so_far}
use Rattle.marks.proofs.Breaking.{Hit, pair→, →pair, load_hits→, →load_hits}
use Rattle.marks.proofs.Noting.{loads_start, says_there, loads_later}
use Rattle.marks.proofs.Finding.{missing_is, observed_is}
use Rattle.marks.proofs.Closing.{cut_is, stores_in_is, share_is}
use Rattle.marks.proofs.EachLoad.{Part, SomePart, again?, walked_one, Area, found_it}
use Rattle.marks.proofs.EachLoad.{again_next, whole_next, held_all_lem}
use Rattle.marks.proofs.HeldLoads.{held_in_turn}

module _ (ev : ℕ → Event) where
  -- no load has broken the trace, and one has
  match_unbroken : (n : ℕ) (m : Marks) → m.broken ≡ None → Unbroken ev n m → MarksMatch ev n m
  match_unbroken n m none so_far = record {
    none_yet = λ _. so_far;
    early = λ load is. false_true (ap is_some (sym none ∙ is));
    broken_at = λ load is. false_true (ap is_some (sym none ∙ is));
  }

  match_broken :
      (n load : ℕ) (m : Marks) → m.broken ≡ Some load → load < n → BrokenAt ev load m → MarksMatch ev n m
  match_broken n load m is_load early broken_at = record {
    none_yet = λ none. false_true (ap is_some (sym none ∙ is_load));
    early = λ it is. rw (same it is) early;
    broken_at = λ it is. rw (same it is) broken_at;
  }
    where
      same : (it : ℕ) → m.broken ≡ Some it → it ≡ load
      same it is = ap (λ (o : Option ℕ). unwrap_or o 0) (sym is ∙ is_load)

  -- cleared marks
  unbroken_start : Unbroken ev 0 no_marks
  unfolding marked? forbidden? observed? closure bad? some most
  unbroken_start = record {
    judging = record {
      cut_size = length-replicate {A = ℕ} 64 0;
      low_size = length-replicate {A = ℕ} 64 0;
      last_size = length-replicate {A = ℕ} 256 0;
      source_size = length-replicate {A = ℕ} 256 0;
      flags_size = length-replicate {A = ℕ} 2048 0;
      flags = λ e to_2048. cleared_at 2048 (flag_cell e);
      cuts = λ j t from_1 to_7 there. cleared_at 64 (thread_cell j t);
      lows = λ j t from_1 to_7 there some. absurd (some (cleared_at 64 (thread_cell j t)));
      lowest = λ j t from_1 to_7 there p in_f. false_true in_f;
    };
    no_pair = refl;
    loads =
        loads_start ev (marked? ev 0) (observed? ev 0) no_marks (λ x. cleared_at 256 (location_cell x))
        (λ x. cleared_at 256 (location_cell x));
  }

  hit_bad : (N : ℕ) → Accepted ev N → Hit ev (marked? ev N) (closure ev N) → bad? ev N ≡ true
  hit_bad N accepted hit =
      hit_is_bad ev N accepted hit.p (→hit ev N accepted hit.p hit.in_f hit.inside)

  -- ---- the event

  module _
      (n : ℕ) (accepted : Accepted ev (suc n)) (m : Marks) (none : m.broken ≡ None)
      (so_far : Unbroken ev n m) where
    start : Part ev n (counting ev n) (marked? ev n) (observed? ev n) (closure ev n) m
    start = record {
      due = due_start ev n accepted;
      says = so_far.judging;
      loads =
          loads_later ev n (suc n) _ _ _ _ (omega arith) (λ p in_f. in_f) (λ q in_o. in_o) m m
          (λ x few. refl) (λ x few. refl) so_far.loads;
      unbroken = none;
    }

    -- there was no pair before
    no_hit : Hit ev (marked? ev n) (closure ev n) → false ≡ true
    no_hit hit = sym so_far.no_pair ∙ hit_bad n (prefix ev (suc n) n accepted (omega arith)) hit

    -- none is due, and `breaks` says whether there is a pair
    module _
        (F O : ℕ → Bool) (C : Choice) (after : Marks) (end : Part ev n [] F O C after) (breaks : Bool)
        (told : breaks ≡ true → Hit ev F C) (tells : Hit ev F C → breaks ≡ true) where
      same_f : (p : ℕ) → F p ≡ marked? ev (suc n) p
      same_f = all_marked ev n F O C end.due

      same_c : (j t : ℕ) → C j t ≡ closure ev (suc n) j t
      same_c = all_asked ev n F O C end.due

      judging_after : Judging ev (suc n) after
      judging_after = due_end ev n F O C end.due after end.says

      loads_after : Loads ev (suc n) (marked? ev (suc n)) (observed? ev (suc n)) after
      loads_after =
          loads_later ev (suc n) (suc n) F _ O _ (omega arith) (λ p in_f. sym (same_f p) ∙ in_f)
          (λ q in_o. sym (all_seen ev n F O C end.due q) ∙ in_o) after after
          (λ x few. refl) (λ x few. refl) end.loads

      -- the event breaks the trace exactly if there is a pair with it
      breaks_is_bad : breaks ≡ bad? ev (suc n)
      breaks_is_bad = same_test _ _ to_bad from_bad
        where
          to_bad : breaks ≡ true → bad? ev (suc n) ≡ true
          to_bad passes =
              let hit = told passes in
              hit_bad (suc n) accepted
              (record {
                p = hit.p;
                in_f = sym (same_f hit.p) ∙ hit.in_f;
                inside = omega (arith, hit.inside, same_c (stretch ev hit.p) (thread ev hit.p));
              })

          from_bad : bad? ev (suc n) ≡ true → breaks ≡ true
          from_bad bad =
              let (p, hit) = bad_has_hit ev (suc n) accepted bad in
              let (marked, inside) = hit→ ev (suc n) accepted p hit in
              tells
              (record {
                p = p;
                in_f = same_f p ∙ marked;
                inside = omega (arith, inside, same_c (stretch ev p) (thread ev p));
              })

      unbroken_event : breaks ≡ false → Unbroken ev (suc n) after
      unbroken_event holds = record {
        judging = judging_after;
        no_pair = sym breaks_is_bad ∙ holds;
        loads = loads_after;
      }

      broken_event :
          breaks ≡ true → BrokenAt ev n (marks_of after.cut after.low after.last after.source (Some n) after.flags)
      broken_event passes = record {
        accepted = accepted;
        no_pair_before = so_far.no_pair;
        pair = sym breaks_is_bad ∙ passes;
        judging = says_there ev after after.last after.source (Some n) refl refl judging_after;
      }

      match_judged : MarksMatch ev (suc n) (with_breaking n breaks after)
      match_judged = by_test (test breaks)
        where
          by_test : (breaks ≡ true) ⊎ (breaks ≡ false) → MarksMatch ev (suc n) (with_breaking n breaks after)
          by_test (inr holds) = rw holds (match_unbroken (suc n) after end.unbroken (unbroken_event holds))
          by_test (inl passes) = rw passes (match_broken (suc n) n _ refl (omega arith) (broken_event passes))

  -- the marks stay behind the event that broke the trace
  match_behind :
      (n load : ℕ) (m : Marks) → m.broken ≡ Some load → MarksMatch ev n m → MarksMatch ev (suc n) m
  match_behind n load m is_load matching =
      match_broken (suc n) load m is_load (omega (arith, matching.early load is_load)) (matching.broken_at load is_load)

  -- they stay where what is due adds nothing
  match_same :
      (n : ℕ) (m : Marks) → Accepted ev (suc n) → MarksMatch ev n m
      → ((so_far : Unbroken ev n m) → m.broken ≡ None
      → Part ev n [] (marked? ev n) (observed? ev n) (closure ev n) m)
      → MarksMatch ev (suc n) m
  match_same n m accepted matching end = by_broken m.broken refl
    where
      by_broken : (recorded : Option ℕ) → m.broken ≡ recorded → MarksMatch ev (suc n) m
      by_broken (Some load) is_load = match_behind n load m is_load matching
      by_broken None none =
          let so_far = matching.none_yet none in
          match_judged n accepted m none so_far (marked? ev n) (observed? ev n) (closure ev n) m (end so_far none) false
          (λ never. false_true never) (no_hit n accepted m none so_far)

  -- AN EVENT AS OF WHICH NO LOAD COUNTS
  pub match_none :
      (n : ℕ) (m : Marks) → Accepted ev (suc n) → counting ev n ≡ [] → MarksMatch ev n m → MarksMatch ev (suc n) m
  match_none n m accepted nothing matching =
      match_same n m accepted matching (λ so_far none. rw nothing at (start n accepted m none so_far))

  -- A LOAD THAT COUNTS AS OF ITS OWN EVENT
  module _
      (n : ℕ) (l : List ℕ) (accepted : Accepted ev (suc n)) (alone : counting ev n ≡ n ∷ []) (rows : Rows ev (suc n) l)
      (links : Linked l (head_of (chain ev n)) (chain ev n)) (m : Marks) (matching : MarksMatch ev n m) where
    abbrev h : ℕ
    h = head_of (chain ev n)

    abbrev x : ℕ
    x = location ev n

    abbrev s : ℕ
    s = source ev n

    found : Found ev n l n
    unfolding any
    found = found_it ev n l n (rw alone (or_left (eqb n n) _ (eqb_same n))) rows links

    load_due :
        (so_far : Unbroken ev n m) → m.broken ≡ None
        → Part ev n (n ∷ []) (marked? ev n) (observed? ev n) (closure ev n) m
    load_due so_far none = rw alone at (start n accepted m none so_far)

    walked_load :
        m.broken ≡ None
        → MarksMatch ev (suc n) (with_breaking n (load_hits l m h s) (walked_one ev l m n))
    walked_load none =
        match_judged n accepted m none so_far F' (also_sees ev n (observed? ev n)) C' _ end (load_hits l m h s)
        (load_hits→ ev n l n accepted found (marked? ev n) (observed? ev n) (closure ev n) over m so_far.judging)
        (λ hit.
        by_hit
        (→load_hits ev n l n accepted found (marked? ev n) (observed? ev n) (closure ev n) over m so_far.judging
        hit))
      where
        so_far : Unbroken ev n m
        so_far = matching.none_yet none

        F' : ℕ → Bool
        F' = also_marks ev n (marked? ev n)

        C' : Choice
        C' = also_asks ev n (closure ev n)

        end : Part ev n [] F' (also_sees ev n (observed? ev n)) C' (walked_one ev l m n)
        end =
            whole_next ev n l n [] accepted found (marked? ev n) (observed? ev n) (closure ev n) m
            (load_due so_far none)

        over : (p : ℕ) → F' p ≡ true → Over ev (suc n) p
        over p marked = marked_over ev (suc n) p (marked_so_far ev end.due p marked)

        by_hit : Hit ev (marked? ev n) (closure ev n) ⊎ (load_hits l m h s ≡ true) → load_hits l m h s ≡ true
        by_hit (inl before) = false_true (no_hit n accepted m none so_far before)
        by_hit (inr now) = now

    pub match_load : MarksMatch ev (suc n) (judged l m (head_of (chain ev n)) (location ev n) (source ev n) n)
    unfolding judged
    match_load = by_tests (test (again? ev m n)) m.broken refl
      where
        by_tests :
            (again? ev m n ≡ true) ⊎ (again? ev m n ≡ false) → (recorded : Option ℕ) → m.broken ≡ recorded
            → MarksMatch ev (suc n)
            (cond (again? ev m n) m
            (cond (is_some recorded) m (with_breaking n (load_hits l m h s) (walked_one ev l m n))))
        by_tests (inl again) recorded is =
            rw again
            (match_same n m accepted matching
            (λ so_far none.
            again_next ev n l n [] accepted found (marked? ev n) (observed? ev n) (closure ev n) m
            (load_due so_far none) again))
        by_tests (inr new) None none = rw new (walked_load none)
        by_tests (inr new) (Some load) is_load = rw new (match_behind n load m is_load matching)

  -- THE LOADS OF A CLOSE
  module _
      (n : ℕ) (l : List ℕ) (accepted : Accepted ev (suc n)) (area : (k : ℕ) → counts ev n k ≡ true → Area ev n l k)
      (newest : ℕ) (links : HeldLinked ev l newest (counting ev n)) (few : length (counting ev n) ≤ 2048)
      (m : Marks) (matching : MarksMatch ev n m) where
    all_held_lem :
        m.broken ≡ None
        → MarksMatch ev (suc n) (with_breaking n (pair_in (all_held 2048 l m newest)) (all_held 2048 l m newest))
    all_held_lem none =
        match_judged n accepted m none so_far end.F end.O end.C after end.part (pair_in after)
        (pair→ ev (suc n) accepted end.F end.O end.C over after end.part.says)
        (→pair ev (suc n) accepted end.F end.O end.C over after end.part.says)
      where
        so_far : Unbroken ev n m
        so_far = matching.none_yet none

        after : Marks
        after = all_held 2048 l m newest

        end : SomePart ev n [] after
        end =
            rw (held_in_turn ev l (counting ev n) 2048 m newest links few)
            (held_all_lem ev n l accepted area (counting ev n) m (λ k here. here)
            (record { F = marked? ev n; O = observed? ev n; C = closure ev n; part = start n accepted m none so_far }))

        over : (p : ℕ) → end.F p ≡ true → Over ev (suc n) p
        over p marked = marked_over ev (suc n) p (marked_so_far ev end.part.due p marked)

    pub match_held : MarksMatch ev (suc n) (judged_held l m newest n)
    unfolding judged_held
    match_held = by_broken m.broken refl
      where
        by_broken :
            (recorded : Option ℕ) → m.broken ≡ recorded
            → MarksMatch ev (suc n)
            (cond (is_some recorded) m
            (with_breaking n (pair_in (all_held 2048 l m newest)) (all_held 2048 l m newest)))
        by_broken None none = all_held_lem none
        by_broken (Some load) is_load = match_behind n load m is_load matching

  -- ---- the start

  -- no load counts as of the begin of an accepted trace
  none_at_begin : Accepted ev 1 → counting ev 0 ≡ []
  unfolding counting countable
  none_at_begin accepted =
      let begun = begins ev 1 accepted (omega arith) in
      rw (begin_no_load ev 0 begun, one_kind ev 0 1 16 (omega arith) begun)

  pub match_start : Accepted ev 1 → MarksMatch ev 1 no_marks
  match_start accepted =
      match_none 0 no_marks accepted (none_at_begin accepted) (match_unbroken 0 no_marks refl unbroken_start)

  -- ---- the ends of an accepted trace of N events

  -- the rows of fewer events
  rows_earlier : (n k : ℕ) (l : List ℕ) → n ≤ k → Rows ev k l → Rows ev n l
  rows_earlier n k l within rows = record {
    room = rows.room;
    stores = λ p early. rows.stores p (omega arith);
    others = λ p from_1 early. rows.others p from_1 (omega arith);
    signals = λ s early. rows.signals s (omega arith);
    no_signals = λ p from_1 early. rows.no_signals p from_1 (omega arith);
  }

  -- a load broke it
  pub broken_at_ruling :
      (N : ℕ) (l : List ℕ) (m : Marks) → Accepted ev N → Rows ev N l → MarksMatch ev N m → (load : ℕ)
      → m.broken ≡ Some load
      → let missing = missing_by l m (suc load) in
      ruling_of ev N ≡ broken load missing (observed_by l m.flags (suc load) missing)
  broken_at_ruling N l m accepted rows matching load is_load =
      let broke = matching.broken_at load is_load in
      let first_rows = rows_earlier (suc load) N l (matching.early load is_load) rows in
      let missing = missing_is ev (suc load) broke.accepted l first_rows m broke.judging in
      let observed = observed_is ev (suc load) broke.accepted l first_rows m broke.judging broke.pair in
      rw (missing, observed)
      (broken_ruling ev N load accepted (matching.early load is_load) broke.no_pair_before broke.pair)

  -- none did
  pub record RobustEnd (N : ℕ) (m : Marks) : Type 0 where
    pub ruling : ruling_of ev N ≡ robust (closure ev N)
    pub cut : (out : List ℕ) → length out ≡ 56 → copied 56 m.cut out ≡ cut_of (closure ev N)
    pub stores_in_lem : stores_in m.cut ≡ sum (cut_of (closure ev N))
    pub share :
        min (percent (sum (cut_of (closure ev N))) (sum (cut_of (finished ev N)))) 65535
        ≡ share_of (closure ev N) (finished ev N)

  pub unbroken_robust : (N : ℕ) (m : Marks) → Accepted ev N → Unbroken ev N m → RobustEnd N m
  unbroken_robust N m accepted so_far = record {
    ruling = robust_ruling ev N so_far.no_pair;
    cut = cut_is ev N m so_far.judging;
    stores_in_lem = stores_in_is ev N m so_far.judging;
    share = share_is ev N accepted;
  }
