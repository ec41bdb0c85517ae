-- What a step answers, by the rules in their order: a number that is not 0 turns the event away and all is as it was,
-- else the event passes. And the load rule's three cases.
use mathlib.Core.Path.{◌≡◌, refl, sym, ap, ◌∙◌}
use mathlib.Core.Bool.{Bool, true, false, ◌&&◌, not}
use mathlib.Core.Logic.{◌≢◌}
use mathlib.Core.List.{List}
use Prim.Native.Nat.{ℕ, ◌<◌}
use native.Mathlib.Omega.{arith}
use borrow.Author.Tests.{eqb-true, eq-eqb, ne_eqb}
use lib.Dec.{eqb, leb}
use lib.ListN.{set}
use lib.Seq.{get_or-set_other}
use Rattle.record.specs.Tests.{◌gives◌else◌}
use Rattle.model.proofs.Searching.{false_true}
use Rattle.area.specs.Cells.{no_store, joined}
use Rattle.std.specs.Prelude.{Result, Ok}
use Rattle.machine.specs.declared.forbidden.Forbidden.{Forbidden}
use Rattle.machine.specs.declared.forbidden.Forbidden.TheVariants.{NoBegin, UnknownKind, LaterBegin, OutOfRange}
use Rattle.machine.specs.declared.forbidden.Forbidden.TheVariants.{NoThread, NoLocation, WrongSource, EmptyQueue}
use Rattle.machine.specs.declared.forbidden.Forbidden.TheVariants.{QueueNotEmpty, SwitchedAlready, PastLimit}
use Rattle.machine.specs.declared.forbidden.Forbidden.TheVariants.{NoSignal, NoOutcome}
use Rattle.machine.specs.Forbidden.{number_of, turned_by}
use Rattle.machine.specs.declared.state.Machine.{Machine}
use Rattle.machine.specs.declared.state.Step.{Step}
use Rattle.machine.specs.Tables.{thread_cell, source_cell}
use Rattle.machine.specs.Threads.{thread_of, of_thread}
use Rattle.machine.specs.Regions.{region_of, plain_in}
use Rattle.machine.specs.Twin.{State, World, state_of, world, thread_at, ticked, admits, admitted}
use Rattle.machine.specs.Twin.{waiting_in, waiting_w, here_w, crossing_w, fits_w}
use Rattle.machine.specs.Turning.{place_refusal, on_place, load_rule, locked_rule}
use Rattle.machine.specs.Turning.{at_once_w, holds_w, counted_w}
use Rattle.machine.specs.Effects.{pass_with, meet_w, held_tables, held_work, cross_w, load_w, exchanged_tables}
use Rattle.machine.specs.Effects.{aside_tables, aside_work, exchanged_work, locked_w}
use Rattle.machine.specs.Outcomes.{Outcome, counted_by, state_after, outcome, turned, by_rule, only_o, plain_o, across_o}
use Rattle.machine.specs.Outcomes.{memory_o, load_o, locked_o}
use Rattle.machine.proofs.TableLaws.{plain_is}

-- ---- answers

-- no rule has number 0
pub number_some : (e : Forbidden) → eqb (number_of e) 0 ≡ false
number_some NoBegin = refl
number_some UnknownKind = refl
number_some LaterBegin = refl
number_some OutOfRange = refl
number_some NoThread = refl
number_some NoLocation = refl
number_some WrongSource = refl
number_some EmptyQueue = refl
number_some QueueNotEmpty = refl
number_some SwitchedAlready = refl
number_some PastLimit = refl
number_some NoSignal = refl
number_some NoOutcome = refl

pub number_not_0 : (e : Forbidden) → number_of e ≢ 0
number_not_0 e is = false_true (sym (number_some e) ∙ eq-eqb (number_of e) 0 is)

-- where one of the tests of the place fails, the number is that of a rule
refusal_is_some : (threads row t : ℕ) → place_refusal threads row t ≢ 0
refusal_is_some threads row t = by_tests (leb 32768 row) (leb threads t)
  where
    by_tests : (late none : Bool) → ◌≢◌ {A = ℕ} (late gives 13 else none gives 7 else 8) 0
    by_tests true none is = omega arith
    by_tests false true is = omega arith
    by_tests false false is = omega arith

-- an outcome by a rule has the rule's number
pub rule_told : (k : ℕ) (w after : World) (counted : Bool) → (by_rule k w counted after).refusal ≡ k
unfolding by_rule
rule_told k w after counted = by_test (eqb k 0) refl
  where
    by_test :
        (none : Bool) → eqb k 0 ≡ none
        → (none gives record { refusal = 0; counted = counted; after = after } else turned k w).refusal ≡ k
    by_test true is = sym (eqb-true k 0 is)
    by_test false is = refl

-- ---- the load rule, behind the tests of the place

module _ (w : World) (t x s : ℕ) where
  -- a store waits
  pub load_waits :
      ((later : ℕ) → on_place w.state t x later ≡ later) → (p : ℕ) → p ≡ waiting_w w t x → p ≢ 0
      → only_o w t s p ≡ load_o w t x s
  unfolding fits_w load_w
  load_waits on p p_is some = rw (on _, ← p_is, ne_eqb p 0 some) refl

  -- none does: the load is the load rule's
  by_load_rule :
      waiting_w w t x ≡ 0 → memory_o w t x s ≡ by_rule (load_rule w t x s) w (counted_w w t x) (load_w w t x s)
  unfolding fits_w load_w
  by_load_rule none = by_here (here_w w x) refl
    where
      by_here :
          (here : Bool) → here_w w x ≡ here
          → memory_o w t x s ≡ by_rule (load_rule w t x s) w (counted_w w t x) (load_w w t x s)
      by_here true is = rw (none, is) refl
      by_here false is = rw (none, is) refl

  pub load_memory_is :
      ((later : ℕ) → on_place w.state t x later ≡ later) → waiting_w w t x ≡ 0 → memory_o w t x s ≡ load_o w t x s
  load_memory_is on none = by_load_rule none ∙ rw (on (load_rule w t x s)) refl

  -- ---- a locked operation

  module _
      (on : (later : ℕ) → on_place w.state t x later ≡ later)
      (none : (thread_at w t).oldest ≡ 0) where
    none_waits : waiting_w w t x ≡ 0
    unfolding waiting_in
    none_waits = rw none refl

    its_rule : on_place w.state t x (locked_rule w t x s) ≡ load_rule w t x s
    its_rule = on _ ∙ rw none refl

    module _ (o : Outcome) (o_is : o ≡ memory_o w t x s) where
      number_is : load_rule w t x s ≡ o.refusal
      number_is =
          sym
          (ap (λ (p : Outcome). p.refusal) (o_is ∙ by_load_rule none_waits)
          ∙ rule_told (load_rule w t x s) w (load_w w t x s) (counted_w w t x))

      -- the load rule turns it away
      pub locked_refused : o.refusal ≢ 0 → o ≡ locked_o w t x s
      unfolding by_rule
      locked_refused some =
          let rule_some = ne_eqb (load_rule w t x s) 0 (λ is. some (sym number_is ∙ is)) in
          o_is ∙ (by_load_rule none_waits ∙ rw (its_rule, rule_some) refl)

      loaded : o.refusal ≡ 0 → o ≡ record { refusal = 0; counted = counted_w w t x; after = load_w w t x s }
      unfolding by_rule
      loaded passes_it = o_is ∙ (by_load_rule none_waits ∙ rw (number_is ∙ passes_it) refl)

-- a load is followed by the next event
pub load_ticks : (w : World) (t x s : ℕ) → (load_w w t x s).state ≡ ticked w.state
unfolding load_w cross_w meet_w
load_ticks w t x s = by_tests (crossing_w w t x) (holds_w w t)
  where
    by_tests :
        (crosses holds : Bool)
        → (crosses gives
        (holds gives
        world (ticked w.state) (held_tables (set w.tables (source_cell x) s) w.state.row t)
        (held_work (set w.tables (source_cell x) s) (no_store w.work w.state.row) w.state.row t x s) else
        world (ticked w.state) (set w.tables (source_cell x) s) (no_store w.work w.state.row)) else
        pass_with w (joined 8 w.work s (thread_cell t 0) w.tables)).state
        ≡ ticked w.state
    by_tests true true = refl
    by_tests true false = refl
    by_tests false holds = refl

-- the load passes, and the store follows
pub locked_passes :
    (m : Machine) (tables l : List ℕ) (t x s : ℕ)
    → ((later : ℕ) → on_place (state_of m) t x later ≡ later)
    → (thread_of tables t).oldest ≡ 0
    → (r : Step) (tables₁ l₁ : List ℕ)
    → outcome m (Ok r) tables₁ l₁ ≡ memory_o (world (state_of m) tables l) t x s
    → (tables₂ l₂ : List ℕ) → tables₂ ≡ exchanged_tables tables₁ m.row t x m.stretch
    → l₂ ≡ exchanged_work tables₁ l₁ m.row t x s m.stretch
    → outcome m (Ok r) tables₂ l₂ ≡ locked_o (world (state_of m) tables l) t x s
unfolding by_rule locked_w ticked
locked_passes m tables l t x s on none r tables₁ l₁ is tables₂ l₂ tables_are l_is =
    let w = world (state_of m) tables l in
    let after = loaded w t x s on none (outcome m (Ok r) tables₁ l₁) is refl in
    let counted_is : r.counted ≡ counted_w w t x = ap (λ (o : Outcome). o.counted) after in
    let world_is : world (state_after m (Ok r)) tables₁ l₁ ≡ load_w w t x s = ap (λ (o : Outcome). o.after) after in
    let tables_loaded : tables₁ ≡ (load_w w t x s).tables = ap (λ (v : World). v.tables) world_is in
    let l_loaded : l₁ ≡ (load_w w t x s).work = ap (λ (v : World). v.work) world_is in
    let rule_is : on_place (state_of m) t x (locked_rule w t x s) ≡ 0 =
    its_rule w t x s on none ∙ number_is w t x s on none (outcome m (Ok r) tables₁ l₁) is
    in
    let state_is : state_after m (Ok r) ≡ ticked (state_of m) =
    ap (λ (v : World). v.state) world_is ∙ load_ticks w t x s
    in
    ap (λ (st : State). record { refusal = 0; counted = r.counted; after = world st tables₂ l₂ }) state_is
    ∙ rw (rule_is, counted_is, tables_are, l_is, ← tables_loaded, ← l_loaded) refl

-- a crossing load's source is noted if it may be
module _ (j row : ℕ) (tables l : List ℕ) (x s : ℕ) where
  pub source_noted : admits j row tables l x s ≡ true → admitted j row tables l x s ≡ set tables (source_cell x) s
  unfolding admitted
  source_noted on = rw on refl

  pub source_not_noted : admits j row tables l x s ≡ false → admitted j row tables l x s ≡ tables
  unfolding admitted
  source_not_noted off = rw off refl

-- which changes no thread
pub skip_stays :
    (tables : List ℕ) (t x s : ℕ) → t < 8 → (thread_of (set tables (source_cell x) s) t).skip ≡ (thread_of tables t).skip
unfolding thread_of
skip_stays tables t x s few =
    rw (get_or-set_other tables (source_cell x) (thread_cell t 12) s 0 (λ same. omega arith)) refl

pub region_stays :
    (tables : List ℕ) (t x s : ℕ) → t < 8 → region_of (set tables (source_cell x) s) t ≡ region_of tables t
unfolding region_of
region_stays tables t x s few =
    rw (
      get_or-set_other tables (source_cell x) (thread_cell t 12) s 0 (λ same. omega arith),
      get_or-set_other tables (source_cell x) (thread_cell t 13) s 0 (λ same. omega arith),
    )
    refl

-- whether its thread is in no skip and not open is asked behind that
pub plain_stays :
    (tables : List ℕ) (t x s : ℕ) → t < 8
    → plain_in (set tables (source_cell x) s) t ≡ (not (thread_of tables t).skip && not (region_of tables t).opened)
unfolding thread_of region_of
plain_stays tables t x s few =
    rw (get_or-set_other tables (source_cell x) (thread_cell t 12) s 0 (λ same. omega arith))
    (plain_is (of_thread tables t 12))

-- what the steps' proofs cite
pub ruleset of_steps = (number_some, source_noted, plain_stays, skip_stays)

-- ---- a crossing load, behind the step r that does not hold it yet

module _
    (m : Machine) (tables l : List ℕ) (t x s : ℕ) (few : t < 8) (r : Result Step Forbidden) (tables₁ l₁ : List ℕ)
    (is : outcome m r tables₁ l₁ ≡ plain_o (world (state_of m) tables l) t x s) where
  abbrev before : World
  before = world (state_of m) tables l

  abbrev noted : List ℕ
  noted = set tables (source_cell x) s

  abbrev fits : Bool
  fits = admits m.stretch m.row tables l x s

  abbrev skips : Bool
  skips = (thread_of tables t).skip

  abbrev opens : Bool
  opens = (region_of tables t).opened

  -- what it left, if the source may be
  left_by :
      (b : Bool) → fits ≡ b
      → outcome m r tables₁ l₁
      ≡ by_rule (b gives 0 else 9) before (at_once_w before t) (pass_with before noted)
  left_by b fits_is = is ∙ rw fits_is refl

  -- it counts, so its thread is in no skip and not open
  pub at_once : counted_by r ≡ true → outcome m r tables₁ l₁ ≡ across_o before t x s
  unfolding cross_w by_rule
  at_once counts = by_test fits refl skips refl opens refl
    where
      by_test :
          (b : Bool) → fits ≡ b → (skip : Bool) → skips ≡ skip → (open_now : Bool) → opens ≡ open_now
          → outcome m r tables₁ l₁ ≡ across_o before t x s
      by_test true on false no_skip false shut = is ∙ rw (on, no_skip, shut) refl
      by_test false off skip skip_is open_now open_is = is ∙ rw off refl
      by_test true on true in_skip open_now open_is = is ∙ rw (on, in_skip) refl
      by_test true on false no_skip true is_open =
          let counted_is : counted_by r ≡ false =
          ap (λ (o : Outcome). o.counted) (left_by true on) ∙ rw (no_skip, is_open) refl
          in
          false_true (sym counted_is ∙ counts)

  -- it does not: then it is turned away, in a skip, or held
  pub aside :
      counted_by r ≡ false → (tables₂ l₂ : List ℕ) → tables₂ ≡ aside_tables tables₁ m.row t (turned_by r)
      → l₂ ≡ aside_work tables₁ l₁ m.row t x s (turned_by r) → outcome m r tables₂ l₂ ≡ across_o before t x s
  unfolding cross_w by_rule aside_tables aside_work
  aside no_count tables₂ l₂ tables_are l_is = by_test fits refl skips refl opens refl
    where
      -- the step's answer with other tables and another work area
      with_tables : List ℕ → List ℕ → Outcome → Outcome
      with_tables v k o =
          record { refusal = o.refusal; counted = o.counted; after = world o.after.state v k }

      left :
          {A : Type 0} (read : Outcome → A) (b : Bool) → fits ≡ b
          → read (outcome m r tables₁ l₁)
          ≡ read (by_rule (b gives 0 else 9) before (at_once_w before t) (pass_with before noted))
      left read b fits_is = ap read (left_by b fits_is)

      by_test :
          (b : Bool) → fits ≡ b → (skip : Bool) → skips ≡ skip → (open_now : Bool) → opens ≡ open_now
          → outcome m r tables₂ l₂ ≡ across_o before t x s
      by_test false off skip skip_is open_now open_is =
          let refused = left (λ (o : Outcome). o.refusal) false off in
          let tables₁_are = left (λ (o : Outcome). o.after.tables) false off in
          let l₁_is = left (λ (o : Outcome). o.after.work) false off in
          let tables₂_are : tables₂ ≡ tables = tables_are ∙ rw (refused, tables₁_are) refl in
          let l₂_is : l₂ ≡ l = l_is ∙ rw (refused, l₁_is) refl in
          left (with_tables tables₂ l₂) false off ∙ rw (off, tables₂_are, l₂_is) refl
      by_test true on true in_skip open_now open_is =
          let passed_it = left (λ (o : Outcome). o.refusal) true on in
          let tables₁_are = left (λ (o : Outcome). o.after.tables) true on in
          let l₁_is = left (λ (o : Outcome). o.after.work) true on in
          let skip₁ : (thread_of tables₁ t).skip ≡ true = rw tables₁_are (skip_stays tables t x s few ∙ in_skip) in
          let tables₂_are : tables₂ ≡ noted = tables_are ∙ rw (passed_it, skip₁, tables₁_are) refl in
          let l₂_is : l₂ ≡ no_store l m.row = l_is ∙ rw (passed_it, skip₁, l₁_is) refl in
          left (with_tables tables₂ l₂) true on ∙ rw (on, in_skip, tables₂_are, l₂_is) refl
      by_test true on false no_skip true is_open =
          let passed_it = left (λ (o : Outcome). o.refusal) true on in
          let tables₁_are = left (λ (o : Outcome). o.after.tables) true on in
          let l₁_is = left (λ (o : Outcome). o.after.work) true on in
          let skip₁ : (thread_of tables₁ t).skip ≡ false = rw tables₁_are (skip_stays tables t x s few ∙ no_skip) in
          let tables₂_are : tables₂ ≡ held_tables noted m.row t = tables_are ∙ rw (passed_it, skip₁, tables₁_are) refl in
          let l₂_is : l₂ ≡ held_work noted (no_store l m.row) m.row t x s =
          l_is ∙ rw (passed_it, skip₁, tables₁_are, l₁_is) refl
          in
          left (with_tables tables₂ l₂) true on ∙ rw (on, no_skip, is_open, tables₂_are, l₂_is) refl
      by_test true on false no_skip false shut =
          let counted_is : counted_by r ≡ true =
          left (λ (o : Outcome). o.counted) true on ∙ rw (no_skip, shut) refl
          in
          false_true (sym no_count ∙ counted_is)
