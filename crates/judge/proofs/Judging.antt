-- The marks over an event that passes, where the machine has taken its step. The loads that count as of the event are
-- judged by the chains that they found, which the rows spell as the step leaves them: a counted load is judged by the
-- head of its location's committed stores, and any other event leaves the marks.
-- In order: the event's number; the marks after it; the head that a counted load found, by its kind; the marks after an
-- event that does not count and after one that does.
use mathlib.Core.Path.{◌≡◌, refl, sym, ap, ◌∙◌}
use mathlib.Core.Bool.{Bool, true, false, cond, ◌&&◌, ◌||◌, not}
use mathlib.Core.List.{List, [], ◌∷◌}
use mathlib.Core.Logic.{◌≢◌}
use Prim.Native.Nat.{ℕ, suc, ◌-◌, ◌*◌, ◌≤◌, ◌<◌}
use native.Mathlib.Omega.{arith}
use borrow.Author.Tests.{ne_eqb}
use lib.Dec.{eqb}
use lib.ListN.{get_or}
use Rattle.record.specs.declared.events.Event.{Event}
use Rattle.record.specs.declared.events.Fields.{Fields}
use Rattle.record.specs.Fields.{fields_of}
use Rattle.model.specs.Trace.{kind, is, thread, location, outcome, commit?, close?}
use Rattle.model.specs.Machine.{committed, opened, countable, held, counting, counts}
use Rattle.model.specs.Stores.{head_of, landed}
use Rattle.model.specs.Search.{any}
use Rattle.model.proofs.Searching.{false_true, parts, eqb_same}
use Rattle.model.proofs.Roles.{one_kind}
use Rattle.model.proofs.Acceptance.{countable_crosses, event_bound}
use Rattle.model.proofs.CountedLoads.{counting_length}
use Rattle.model.proofs.Ranges.{load_has_location, location_bound}
use Rattle.model.proofs.StorePlaces.{committed_itself}
use Rattle.model.proofs.Unchanged.{landed_away, landed_here}
use Rattle.model.proofs.CountedLoads.{counts_as_of}
use Rattle.area.specs.Cells.{get_row, event_at}
use Rattle.area.specs.Rows.{Linked}
use Rattle.area.proofs.Chains.{linked_head, linked_earlier, falls_less, falls_earlier}
use Rattle.machine.specs.Tables.{last_cell, last_in, held_in}
use Rattle.machine.specs.Twin.{World}
use Rattle.machine.specs.Sim.{some?, Sim}
use Rattle.machine.proofs.Closing.{last_is}
use Rattle.marks.specs.declared.cells.Marks.{Marks}
use Rattle.marks.specs.Judged.{judged, judged_held}
use Rattle.marks.specs.Matching.{MarksMatch}
use Rattle.marks.proofs.Stepping.{chain}
use Rattle.marks.proofs.EachLoad.{Area}
use Rattle.marks.proofs.Matched.{match_none, match_load, match_held}
use Rattle.judge.specs.Judging.{Stepped}

module _ (ev : ℕ → Event) (n : ℕ) (w : World) (sim : Sim ev n w) where
  -- the number of the event is the one whose row begins here
  pub event_here : event_at w.state.row ≡ n
  event_here = omega (arith, sim.numbers.row_is, sim.limits.begun)

-- ---- the marks after the event, by the definitions

module _
    (ev : ℕ → Event) (n k : ℕ) (counts' : Bool) (tables work : List ℕ)
    (stepped : Stepped ev n k counts' tables work) where
  -- the location of a counted load is below 256
  located : (l : ℕ) → l ≤ n → countable ev l ≡ true → location ev l < 256
  located l not_later is_countable =
      location_bound ev (suc n) stepped.accepted l (omega arith)
      (load_has_location ev (countable_crosses ev l is_countable).loads)

  -- what the step leaves of the chain that a load found: commits add to its front only
  pub found : (l : ℕ) → counts ev n l ≡ true → Area ev n work l
  found l here =
      let it = counts_as_of ev n l here in
      let chain_then = stepped.chains (location ev l) (located l it.not_later it.is_countable) in
      let not_later : l ≤ suc n = omega (arith, it.not_later) in (
        stepped.rows,
        linked_earlier ev work (location ev l) l (suc n) _ not_later chain_then.links,
        falls_less work (16 * (suc n - 1)) (16 * n) (chain ev l) (omega arith)
            (falls_earlier ev work (location ev l) l (suc n) _ not_later chain_then.falls),
      )

-- ---- which loads count as of the event

-- none, if the machine says so
none_counts : (ls : List ℕ) → some? ls ≡ false → ls ≡ []
none_counts [] none = refl
none_counts (l ∷ ls) none = false_true (sym none)

-- of an event that is no close, the load itself
module _ (ev : ℕ → Event) (n : ℕ) (other : kind ev n ≢ 16) (some : some? (counting ev n) ≡ true) where
  at_once : Bool
  at_once = countable ev n && not (opened ev n (thread ev n))

  itself_counts : (countable ev n ≡ true) × (counting ev n ≡ n ∷ [])
  unfolding counting at_once
  itself_counts = by_test at_once refl (rw (ne_eqb (kind ev n) 16 other) at some)
    where
      by_test :
          (b : Bool) → at_once ≡ b → some? (cond at_once (n ∷ []) []) ≡ true
          → (countable ev n ≡ true)
          × (cond (close? ev n && eqb (outcome ev n) 1) (held ev n (thread ev n)) (cond at_once (n ∷ []) []) ≡ n ∷ [])
      by_test false is there = false_true (rw is at there)
      by_test true is there =
          ((parts (countable ev n) _ is).0, rw (ne_eqb (kind ev n) 16 other, is) refl)

-- of a close that counts, those that its thread holds
module _ (ev : ℕ → Event) (n : ℕ) (close : kind ev n ≡ 16) (some : some? (counting ev n) ≡ true) where
  held_count : counting ev n ≡ held ev n (thread ev n)
  unfolding counting countable
  held_count = by_outcome (eqb (outcome ev n) 1) refl
    where
      by_outcome : (b : Bool) → eqb (outcome ev n) 1 ≡ b → counting ev n ≡ held ev n (thread ev n)
      by_outcome true is = rw (close, is)
      by_outcome false is = false_true (rw (close, is) at some)

-- ---- the head that a counted load of location x found

or_left : (a b : Bool) → (a || b) ≡ true → b ≡ false → a ≡ true
or_left true b either not_b = refl
or_left false b either not_b = false_true (sym not_b ∙ either)

module _
    (ev : ℕ → Event) (n k x : ℕ) (tables work : List ℕ) (stepped : Stepped ev n k true tables work) (load : k ≢ 16)
    (at_x : location ev n ≡ x) where
  counts_itself : countable ev n ≡ true
  counts_itself = (itself_counts ev n (λ is. load (sym stepped.kind_is ∙ is)) stepped.counts_is).0

  x_small : x < 256
  x_small = omega (arith, at_x, located ev n k true tables work stepped n (omega arith) counts_itself)

  -- an event of kind 4 commits nothing
  pub head_stays : k ≢ 12 → last_in tables x ≡ head_of (landed ev n x)
  head_stays other =
      last_is ev (suc n) tables work stepped.chains x x_small
      ∙ ap head_of (landed_away ev n x (λ commits _. false_true (sym no_commit ∙ commits.test)))
    where
      not_12 : is ev 12 n ≡ false
      not_12 = ne_eqb (kind ev n) 12 (λ is_12. other (sym stepped.kind_is ∙ is_12))

      no_commit : commit? ev n ≡ false
      no_commit =
          let load = (countable_crosses ev n counts_itself).loads in
          let is_4 = or_left (is ev 4 n) (is ev 12 n) load.test not_12 in
          rw (one_kind ev n 4 3 (omega arith) is_4, not_12)

  -- one of kind 12 commits its own store, which then heads the chain, and links to the head that it found
  pub head_linked : k ≡ 12 → get_row work n 14 ≡ head_of (landed ev n x)
  head_linked is_12 = linked_head work _ (landed ev n x) linked.1
    where
      kind_12 : kind ev n ≡ 12
      kind_12 = stepped.kind_is ∙ is_12

      takes_itself : committed ev n ≡ n
      takes_itself =
          committed_itself ev (suc n) n stepped.accepted (omega arith) (rw kind_12 refl)
          (record { test = rw kind_12 refl })

      chain_is : landed ev (suc n) x ≡ n ∷ landed ev n x
      chain_is = rw (takes_itself, at_x) at (landed_here ev n (record { test = rw kind_12 refl }))

      linked : Linked work (get_or tables (last_cell x) 0) (n ∷ landed ev n x)
      linked = rw chain_is at (stepped.chains x x_small).links

-- ---- THE MARKS AFTER THE EVENT, by what the code does

module _ (ev : ℕ → Event) (n k : ℕ) (tables work : List ℕ) (m : Marks) (matching : MarksMatch ev n m) where
  pub match_uncounted : Stepped ev n k false tables work → MarksMatch ev (suc n) m
  match_uncounted stepped =
      match_none ev n m stepped.accepted (none_counts (counting ev n) stepped.counts_is) matching

  module _ (stepped : Stepped ev n k true tables work) (f : Fields) (fields_are : fields_of (ev n) ≡ f) where
    -- a load, with the head that it found
    pub match_itself :
        k ≢ 16 → (h : ℕ) → h ≡ head_of (landed ev n f.location) → (m' : Marks)
        → m' ≡ judged work m h f.location f.source n → MarksMatch ev (suc n) m'
    unfolding any
    match_itself load h head_is m' marks_are =
        let alone = (itself_counts ev n (λ is. load (sym stepped.kind_is ∙ is)) stepped.counts_is).1 in
        let here : counts ev n n ≡ true = rw (alone, eqb_same n) refl in
        let (rows, links, _) = found ev n k true tables work stepped n here in
        rw (marks_are, head_is, ← fields_are)
        (match_load ev n work stepped.accepted alone rows links m matching)

    -- a close, with the newest load that its thread holds
    pub match_close :
        k ≡ 16 → (e : ℕ) → e ≡ held_in tables f.thread → (m' : Marks) → m' ≡ judged_held work m e n
        → MarksMatch ev (suc n) m'
    match_close is_16 e e_is m' marks_are =
        let close : kind ev n ≡ 16 = stepped.kind_is ∙ is_16 in
        let few = event_bound ev (suc n) stepped.accepted n (omega arith) in
        let newest : e ≡ held_in tables (thread ev n) =
        e_is ∙ ap (λ (g : Fields). held_in tables g.thread) (sym fields_are)
        in
        rw marks_are
        (match_held ev n work stepped.accepted (found ev n k true tables work stepped) e
        (rw (held_count ev n close stepped.counts_is, newest) (stepped.held_are (rw close refl)))
        (counting_length ev n few) m matching)
