-- What is read of the machine's tables after each change of them. A thread's row, and each table, has positions of its
-- own, so that a change leaves all the others.
-- In order: a thread's state after a skip, an issue and a commit; a finished stretch.
use mathlib.Core.Path.{◌≡◌, refl, sym, ◌∙◌}
use mathlib.Core.Bool.{Bool, true, false, ◌&&◌, not, and-false}
use mathlib.Core.List.{List}
use mathlib.Core.Logic.{◌⊎◌, inl, inr, ◌≢◌}
use Prim.Native.Nat.{ℕ, zero, suc, ◌+◌, ◌*◌, ◌/◌, ◌%◌, ◌≤◌, ◌<◌}
use native.Mathlib.Omega.{arith}
use borrow.Author.Tests.{eq-eqb, ne_eqb, ltb-true, le-leb, lt-leb, leb-true}
use lib.Dec.{eqb, ltb, leb}
use lib.ListN.{length, get_or, set, length-set}
use lib.Seq.{get_or-set_same}
use Rattle.model.proofs.Searching.{same?, same_test}
use Rattle.area.specs.Cells.{event_at}
use Rattle.machine.specs.declared.threads.Thread.{Thread}
use Rattle.machine.specs.Tables.{last_cell, commits_cell, newest_cell, stretch_cell}
use Rattle.machine.specs.Threads.{fresh, issued_t, committed_t, skipped_t, crashed_t, thread_of, of_thread}
use Rattle.machine.specs.Threads.{put_issued, put_committed, skip_set, put_skip, unseen, restarted}
use Rattle.machine.specs.declared.regions.Region.{Region}
use Rattle.machine.specs.Regions.{held_r, closed, crashed_r, region_of, open_set, put_region, put_held}
use Rattle.machine.specs.Effects.{issued_tables, finished_thread, finished}
use Rattle.machine.proofs.Storing.{Same, Elsewhere, set_leaves, column_after, run, run_size, run_leaves, run_in}

-- ---- a thread's state

-- it is in columns 8 to 12
pub thread_same :
    (tables tables' : List ℕ) (t : ℕ) → Same (16 * t + 8) (16 * t + 13) tables tables'
    → thread_of tables' t ≡ thread_of tables t
unfolding thread_of
thread_same tables tables' t same =
    let column : (k : ℕ) → 8 ≤ k → k < 13 → of_thread tables' t k ≡ of_thread tables t k =
    λ k low high. same (16 * t + k) (omega arith) (omega arith)
    in
    rw (
      column 8 (omega arith) (omega arith),
      column 9 (omega arith) (omega arith),
      column 10 (omega arith) (omega arith),
      column 11 (omega arith) (omega arith),
      column 12 (omega arith) (omega arith),
    )
    refl

-- a row of zeros is the state as a stretch starts
pub thread_fresh : (tables : List ℕ) (t : ℕ) → ((k : ℕ) → k < 13 → of_thread tables t k ≡ 0) → thread_of tables t ≡ fresh
unfolding thread_of
thread_fresh tables t none =
    rw (
      none 8 (omega arith),
      none 9 (omega arith),
      none 10 (omega arith),
      none 11 (omega arith),
      none 12 (omega arith),
    )
    refl

-- ---- column 12: the skip, 1, and the open state, 2

module _ (c : ℕ) where
  -- the skip is changed, and the open state stays
  skip_back : (b : Bool) → not (eqb (skip_set c b % 2) 0) ≡ b
  skip_back true = rw (ne_eqb ((c / 2 * 2 + 1) % 2) 0 (λ is. omega arith)) refl
  skip_back false = rw (eq-eqb ((c / 2 * 2) % 2) 0 (omega arith)) refl

  open_stays : (b : Bool) → leb 2 (skip_set c b) ≡ leb 2 c
  open_stays b = same_test _ _ (to_old b) (from_old b)
    where
      to_old : (b : Bool) → leb 2 (skip_set c b) ≡ true → leb 2 c ≡ true
      to_old true is = le-leb 2 c (omega (arith, leb-true 2 (c / 2 * 2 + 1) is))
      to_old false is = le-leb 2 c (omega (arith, leb-true 2 (c / 2 * 2) is))

      from_old : (b : Bool) → leb 2 c ≡ true → leb 2 (skip_set c b) ≡ true
      from_old true is = le-leb 2 (c / 2 * 2 + 1) (omega (arith, leb-true 2 c is))
      from_old false is = le-leb 2 (c / 2 * 2) (omega (arith, leb-true 2 c is))

  -- the open state is changed, and the skip stays
  open_back : (b : Bool) → leb 2 (open_set c b) ≡ b
  open_back true = le-leb 2 (c % 2 + 2) (omega arith)
  open_back false = lt-leb 2 (c % 2) (omega arith)

  skip_stays : (b : Bool) → open_set c b % 2 ≡ c % 2
  skip_stays true = omega arith
  skip_stays false = omega arith

  -- neither
  pub plain_is : eqb c 0 ≡ (not (not (eqb (c % 2) 0)) && not (leb 2 c))
  plain_is = by_number (same? c 0) (same? c 1)
    where
      by_number : (c ≡ 0) ⊎ (c ≢ 0) → (c ≡ 1) ⊎ (c ≢ 1) → eqb c 0 ≡ (not (not (eqb (c % 2) 0)) && not (leb 2 c))
      by_number (inl is_0) _ = rw is_0 refl
      by_number (inr some) (inl is_1) = rw is_1 refl
      by_number (inr some) (inr more) =
          rw (ne_eqb c 0 some, le-leb 2 c (omega arith)) (sym (and-false (not (not (eqb (c % 2) 0)))))

-- of the threads' rows only the state of thread t is changed, to s
pub record Replaced (tables tables' : List ℕ) (t : ℕ) (s : Thread) : Type 0 where
  pub size : length tables' ≡ length tables
  pub own : thread_of tables' t ≡ s
  pub others : (u : ℕ) → u < 8 → t ≢ u → Same (16 * u + 8) (16 * u + 13) tables tables'
  pub seen_same : (u : ℕ) → u < 8 → Same (16 * u) (16 * u + 8) tables tables'
  pub regions_same : (u : ℕ) → u < 8 → region_of tables' u ≡ region_of tables u

-- ---- a thread's region

-- it is in columns 12 and 13
pub region_same :
    (tables tables' : List ℕ) (t : ℕ) → Same (16 * t + 12) (16 * t + 14) tables tables'
    → region_of tables' t ≡ region_of tables t
unfolding region_of
region_same tables tables' t same =
    rw (same (16 * t + 12) (omega arith) (omega arith), same (16 * t + 13) (omega arith) (omega arith)) refl

-- two zeros are a region that is closed
pub region_closed :
    (tables : List ℕ) (t : ℕ) → of_thread tables t 12 ≡ 0 → of_thread tables t 13 ≡ 0 → region_of tables t ≡ closed
unfolding region_of
region_closed tables t not_open none = rw (not_open, none) refl

-- of the threads' rows only the region of thread t is changed, to r
pub record Reopened (tables tables' : List ℕ) (t : ℕ) (r : Region) : Type 0 where
  pub size : length tables' ≡ length tables
  pub own : region_of tables' t ≡ r
  pub state_same : thread_of tables' t ≡ thread_of tables t
  pub leaves : Elsewhere (16 * t + 12) (16 * t + 14) tables tables'

module _ (tables : List ℕ) (t : ℕ) (few : t < 8) (size : length tables ≡ 3008) where
  -- the other numbers of the threads' rows are as they were
  replaced_of :
      (tables' : List ℕ) (s : Thread) → length tables' ≡ length tables → thread_of tables' t ≡ s
      → region_of tables' t ≡ region_of tables t
      → ((i : ℕ) → i < 128 → (16 * t + 8 ≤ i → i < 16 * t + 13 → ⊥) → get_or tables' i 0 ≡ get_or tables i 0)
      → Replaced tables tables' t s
  replaced_of tables' s same_size own same_region leaves = record {
    size = same_size;
    own = own;
    others = λ u low differ i from below. leaves i (omega arith) (λ from' below'. differ (omega arith));
    seen_same = λ u low i from below. leaves i (omega arith) (λ from' below'. omega arith);
    regions_same = λ u low. by_thread u low (same? t u);
  }
    where
      by_thread : (u : ℕ) → u < 8 → (t ≡ u) ⊎ (t ≢ u) → region_of tables' u ≡ region_of tables u
      by_thread u low (inl is) = rw (← is) same_region
      by_thread u low (inr differ) =
          region_same tables tables' u (λ i from below. leaves i (omega arith) (λ from' below'. differ (omega arith)))

  row_inside : leb (16 * t + 16) (length tables) ≡ true
  row_inside = le-leb (16 * t + 16) (length tables) (omega arith)

  -- a column of the state is in the thread's part
  column_apart : (i k : ℕ) → (16 * t + 8 ≤ i → i < 16 * t + 13 → ⊥) → 8 ≤ k → k < 13 → 16 * t + k ≢ i
  column_apart i k apart low high same = apart (omega arith) (omega arith)

  -- ---- an open or a close

  pub reopened : (r : Region) → Reopened tables (put_region tables t r) t r
  unfolding thread_of region_of put_region
  reopened r = record {
    size = simp length-set;
    own = simp (column_after, length-set, row_inside, open_back);
    state_same = simp (column_after, length-set, row_inside, skip_stays);
    leaves = λ i apart.
        let not_12 : 16 * t + 12 ≢ i = λ same. apart (omega arith) (omega arith) in
        let not_13 : 16 * t + 13 ≢ i = λ same. apart (omega arith) (omega arith) in
        simp (set_leaves, not_12, not_13);
  }

  -- ---- a held load: the newest of the region

  pub held_size : (r : Region) → length (put_held tables t r) ≡ length tables
  unfolding put_held
  held_size r = simp length-set

  pub held_own : (e : ℕ) → region_of (put_held tables t (held_r (region_of tables t) e)) t ≡ held_r (region_of tables t) e
  unfolding region_of put_held held_r
  held_own e = simp (column_after, row_inside)

  pub held_leaves : (r : Region) (i : ℕ) → 16 * t + 13 ≢ i → get_or (put_held tables t r) i 0 ≡ get_or tables i 0
  unfolding put_held
  held_leaves r i differ = simp set_leaves

  -- ---- a skip on or off

  module _ (on : Bool) where
    abbrev new_skip : Thread
    new_skip = skipped_t (thread_of tables t) on

    skip_leaves : Elsewhere (16 * t + 8) (16 * t + 13) tables (put_skip tables t new_skip)
    unfolding put_skip
    skip_leaves i apart = simp (set_leaves, column_apart i 12 apart (omega arith) (omega arith))

    pub skip_replaced : Replaced tables (put_skip tables t new_skip) t new_skip
    unfolding thread_of region_of put_skip skipped_t
    skip_replaced =
        replaced_of _ _ (simp length-set) (simp (column_after, row_inside, skip_back))
        (simp (column_after, row_inside, open_stays)) (λ i _. skip_leaves i)

    pub skip_beyond : (i : ℕ) → 128 ≤ i → get_or (put_skip tables t new_skip) i 0 ≡ get_or tables i 0
    skip_beyond i high = skip_leaves i (λ from below. omega arith)

  -- ---- an issue at location x, of the event whose row begins at `row`

  module _ (row x : ℕ) (small : x < 256) where
    abbrev with_thread : List ℕ
    with_thread = put_issued tables t (issued_t (thread_of tables t) (event_at row))

    abbrev issued : List ℕ
    issued = issued_tables tables row t x

    issued_size : length issued ≡ length tables
    unfolding issued_tables put_issued
    issued_size = simp length-set

    issued_leaves :
        (i : ℕ) → (16 * t + 8 ≤ i → i < 16 * t + 13 → ⊥) → newest_cell x t ≢ i → get_or issued i 0 ≡ get_or tables i 0
    unfolding issued_tables put_issued
    issued_leaves i apart differ =
        simp (
          set_leaves,
          column_apart i 8 apart (omega arith) (omega arith),
          column_apart i 9 apart (omega arith) (omega arith),
          column_apart i 10 apart (omega arith) (omega arith),
        )

    -- the newest store at the location is noted in no thread's row
    newest_apart : (k : ℕ) → ltb k 16 ≡ true → newest_cell x t ≢ 16 * t + k
    newest_apart k low same = omega (arith, ltb-true k 16 low)

    pub issued_replaced : Replaced tables issued t (issued_t (thread_of tables t) (event_at row))
    unfolding thread_of region_of issued_tables put_issued issued_t
    issued_replaced =
        replaced_of _ _ issued_size (simp (set_leaves, newest_apart, column_after, length-set, row_inside))
        (simp (set_leaves, newest_apart, column_after, length-set, row_inside))
        (λ i low apart. issued_leaves i apart (λ same. omega arith))

    pub issued_beyond : (i : ℕ) → 128 ≤ i → newest_cell x t ≢ i → get_or issued i 0 ≡ get_or tables i 0
    issued_beyond i high differ = issued_leaves i (λ from below. omega arith) differ

    pub issued_newest : get_or issued (newest_cell x t) 0 ≡ event_at row
    unfolding issued_tables
    issued_newest =
        let same_size = length-set with_thread (newest_cell x t) (event_at row) in
        get_or-set_same with_thread (newest_cell x t) (event_at row) 0 (omega (arith, same_size, issued_size))

  -- ---- a commit of store p, of location x, in stretch j, after which `next` is the oldest store

  module _ (p x j next : ℕ) (small : x < 256) where
    abbrev with_head : List ℕ
    with_head = set tables (last_cell x) p

    abbrev headed : List ℕ
    headed = set with_head (stretch_cell x) j

    abbrev new_committed : Thread
    new_committed = committed_t (thread_of tables t) next

    abbrev after : List ℕ
    after = put_committed headed t new_committed

    -- the chain's head is in no thread's row
    head_apart : (k : ℕ) → ltb k 16 ≡ true → last_cell x ≢ 16 * t + k
    head_apart k low same = omega (arith, ltb-true k 16 low)

    stretch_apart : (k : ℕ) → ltb k 16 ≡ true → stretch_cell x ≢ 16 * t + k
    stretch_apart k low same = omega (arith, ltb-true k 16 low)

    thread_leaves : Elsewhere (16 * t + 8) (16 * t + 13) headed after
    unfolding put_committed
    thread_leaves i apart =
        simp (
          set_leaves,
          column_apart i 8 apart (omega arith) (omega arith),
          column_apart i 11 apart (omega arith) (omega arith),
        )

    headed_leaves : (i : ℕ) → last_cell x ≢ i → stretch_cell x ≢ i → get_or headed i 0 ≡ get_or tables i 0
    headed_leaves i not_last not_stretch = simp set_leaves

    pub committed_replaced : Replaced tables after t new_committed
    unfolding thread_of region_of put_committed committed_t
    committed_replaced =
        replaced_of _ _ (simp length-set)
        (simp (column_after, set_leaves, head_apart, stretch_apart, length-set, row_inside))
        (simp (column_after, set_leaves, head_apart, stretch_apart, length-set, row_inside))
        (λ i low apart. thread_leaves i apart ∙ headed_leaves i (λ same. omega arith) (λ same. omega arith))

    -- a number that is in no thread's row
    behind_thread : (i : ℕ) → 128 ≤ i → get_or after i 0 ≡ get_or headed i 0
    behind_thread i high = thread_leaves i (λ from below. omega arith)

    pub committed_beyond :
        (i : ℕ) → 128 ≤ i → last_cell x ≢ i → stretch_cell x ≢ i → get_or after i 0 ≡ get_or tables i 0
    committed_beyond i high not_last not_stretch = behind_thread i high ∙ headed_leaves i not_last not_stretch

    pub committed_last : get_or after (last_cell x) 0 ≡ p
    committed_last =
        behind_thread (last_cell x) (omega arith)
        ∙ set_leaves with_head (stretch_cell x) j (last_cell x) (λ same. omega arith)
        ∙ get_or-set_same tables (last_cell x) p 0 (omega arith)

    pub committed_stretch : get_or after (stretch_cell x) 0 ≡ j
    committed_stretch =
        behind_thread (stretch_cell x) (omega arith)
        ∙ get_or-set_same with_head (stretch_cell x) j 0 (omega (arith, length-set tables (last_cell x) p))

-- ---- a finished stretch

-- a thread that a crash has met has a row of zeros
abbrev zeros : ℕ → ℕ
zeros _ = 0

restarted_is :
    (tables : List ℕ) (t : ℕ) (old : Thread) (region : Region)
    → put_held (restarted tables t (crashed_t old)) t (crashed_r region) ≡ run (16 * t) 14 zeros tables
unfolding restarted put_held unseen run
restarted_is tables t old region = refl

-- stretch j is finished for threads 0 to k - 1
pub record Finished (k : ℕ) (tables tables' : List ℕ) (j : ℕ) : Type 0 where
  pub size : length tables' ≡ length tables
  pub restarts : (t : ℕ) → t < k → (u : ℕ) → u < 14 → of_thread tables' t u ≡ 0
  pub notes : (t : ℕ) → t < k → get_or tables' (commits_cell j t) 0 ≡ of_thread tables t 11
  pub later : Same (16 * k) 128 tables tables'
  pub leaves :
      (i : ℕ) → 128 ≤ i → ((t : ℕ) → t < k → commits_cell j t ≢ i) → get_or tables' i 0 ≡ get_or tables i 0

module _ (tables : List ℕ) (j : ℕ) (room : length tables ≡ 3008) (from_one : 1 ≤ j) (to_seven : j ≤ 7) where
  -- one thread more
  finished_more :
      (k : ℕ) (so_far : List ℕ) → k < 8 → Finished k tables so_far j
      → Finished (suc k) tables (finished_thread so_far j k) j
  unfolding finished_thread thread_of
  finished_more k so_far few before =
      rw (restarted_is noted k (thread_of so_far k) (region_of so_far k))
      (record {
        size = run_size (16 * k) zeros noted 14 ∙ noted_size;
        restarts = λ t below u low. last_or_earlier_row t below u low (same? t k);
        notes = λ t below. last_or_earlier_count t below (same? t k);
        later = λ i low high.
            beside_row i (λ from below. omega arith) ∙ beside_count i (λ same. omega arith)
            ∙ before.later i (omega arith) high;
        leaves = λ i high other.
            beside_row i (λ from below. omega arith) ∙ beside_count i (other k (omega arith))
            ∙ before.leaves i high (λ t below. other t (omega arith));
      })
    where
      noted : List ℕ
      noted = set so_far (commits_cell j k) (of_thread so_far k 11)

      noted_size : length noted ≡ length tables
      noted_size = length-set so_far _ _ ∙ before.size

      after : List ℕ
      after = run (16 * k) 14 zeros noted

      beside_row : Elsewhere (16 * k) (16 * k + 14) noted after
      beside_row = run_leaves (16 * k) zeros noted 14

      beside_count : (i : ℕ) → commits_cell j k ≢ i → get_or noted i 0 ≡ get_or so_far i 0
      beside_count i differ = set_leaves so_far (commits_cell j k) (of_thread so_far k 11) i differ

      last_or_earlier_row : (t : ℕ) → t < suc k → (u : ℕ) → u < 14 → (t ≡ k) ⊎ (t ≢ k) → of_thread after t u ≡ 0
      last_or_earlier_row t below u low (inl is) =
          rw is (run_in (16 * k) zeros noted 14 u (omega (arith, noted_size)) low)
      last_or_earlier_row t below u low (inr differs) =
          beside_row (16 * t + u) (λ from to. omega arith) ∙ beside_count (16 * t + u) (λ same. omega arith)
          ∙ before.restarts t (omega arith) u low

      last_or_earlier_count :
          (t : ℕ) → t < suc k → (t ≡ k) ⊎ (t ≢ k) → get_or after (commits_cell j t) 0 ≡ of_thread tables t 11
      last_or_earlier_count t below (inl is) =
          rw is
          (beside_row (commits_cell j k) (λ from to. omega arith)
          ∙ get_or-set_same so_far (commits_cell j k) (of_thread so_far k 11) 0 (omega (arith, before.size))
          ∙ before.later (16 * k + 11) (omega arith) (omega arith))
      last_or_earlier_count t below (inr differs) =
          beside_row (commits_cell j t) (λ from to. omega arith)
          ∙ beside_count (commits_cell j t) (λ same. differs (omega arith))
          ∙ before.notes t (omega arith)

  pub finished_is : (k : ℕ) → k ≤ 8 → Finished k tables (finished k tables j) j
  unfolding finished
  finished_is zero few = record {
    size = refl;
    restarts = λ t below. absurd (omega arith);
    notes = λ t below. absurd (omega arith);
    later = λ i low high. refl;
    leaves = λ i high other. refl;
  }
  finished_is (suc t) few = finished_more t (finished t tables j) few (finished_is t (omega arith))
