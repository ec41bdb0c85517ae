-- What is read of the work area after an event: an issue writes columns 0 to 12 of its store's row, a signal the clock
-- and its stretch, any other event the two numbers that say that it is neither, and the rows of earlier events stay,
-- but for the two links.
-- `row` is where the row of event n begins.
use mathlib.Core.Path.{◌≡◌, refl, sym, ap, ◌∙◌}
use mathlib.Core.Bool.{true, cond}
use mathlib.Core.List.{List}
use mathlib.Core.Logic.{◌≢◌}
use Prim.Native.Nat.{ℕ, ◌+◌, ◌*◌, ◌%◌, ◌≤◌, ◌<◌}
use native.Mathlib.Omega.{arith}
use borrow.Author.Tests.{ne_eqb, lt-ltb, le-leb}
use lib.Dec.{eqb, leb}
use lib.ListN.{length, get_or, set, length-set}
use Rattle.area.specs.Cells.{row_start, get_row, put_row, event_at, no_store}
use Rattle.area.proofs.ReadBack.{start_is, rows_apart, length_put, put_same, put_row_lem, put_column}
use Rattle.area.proofs.ReadBack.{set_here, set_column, set_elsewhere}
use Rattle.machine.specs.Tables.{last_cell}
use Rattle.machine.specs.Threads.{of_thread}
use Rattle.machine.specs.Regions.{region_of}
use Rattle.machine.specs.Effects.{clocked, with_clock, with_store, held_work}
use Rattle.machine.proofs.Storing.{Elsewhere, set_leaves, column_after, run, run_size, run_leaves, run_in}

-- event n is no store and no signal, and all else that rows hold, but for the links of chains, is as it was
pub record NoStore (n : ℕ) (l l' : List ℕ) : Type 0 where
  pub size : length l' ≡ length l
  pub none : get_row l' n 10 ≡ 0
  pub no_signal : get_row l' n 11 ≡ 0
  pub earlier : (p k : ℕ) → 1 ≤ p → p < n → k < 13 → get_row l' p k ≡ get_row l p k

-- a store into a chain's link adds nothing to that
pub link_no_store :
    (n p c v : ℕ) (l l' : List ℕ) → 13 ≤ c → c < 16 → NoStore n l l' → NoStore n l (put_row l' p c v)
link_no_store n p c v l l' from below it = record {
  size = length_put l' p c v ∙ it.size;
  none = put_column l' p c v n 10 below (omega arith) (λ same. omega arith) ∙ it.none;
  no_signal = put_column l' p c v n 11 below (omega arith) (λ same. omega arith) ∙ it.no_signal;
  earlier = λ q k from_one early low.
      put_column l' p c v q k below (omega arith) (λ same. omega arith) ∙ it.earlier q k from_one early low;
}

-- event n is a store: c is the count of its thread t, x its location, j its stretch. It is linked from store g, if
-- there is one, and all else that the rows of earlier events hold, but for the links of chains, is as it was
pub record Stored (n g t c x j : ℕ) (seen_by : ℕ → ℕ) (l l' : List ℕ) : Type 0 where
  pub size : length l' ≡ length l
  pub clock_is : (u : ℕ) → u < 8 → get_row l' n u ≡ cond (eqb t u) c (seen_by u)
  pub thread_is : get_row l' n 8 ≡ t
  pub location_is : get_row l' n 9 ≡ x
  pub stretch_is : get_row l' n 10 ≡ j
  pub no_signal : get_row l' n 11 ≡ 0
  pub no_next : get_row l' n 12 ≡ 0
  pub linked : 1 ≤ g → g < n → get_row l' g 12 ≡ n
  pub other_links : (p : ℕ) → 1 ≤ p → p < n → g ≢ p → get_row l' p 12 ≡ get_row l p 12
  pub earlier : (p k : ℕ) → 1 ≤ p → p < n → k < 12 → get_row l' p k ≡ get_row l p k

-- event n is a signal of thread t, which has issued c stores, in stretch j; all else that rows hold is as it was
pub record Signalled (n t c j : ℕ) (seen_by : ℕ → ℕ) (l l' : List ℕ) : Type 0 where
  pub size : length l' ≡ length l
  pub clock_is : (u : ℕ) → u < 8 → get_row l' n u ≡ cond (eqb t u) c (seen_by u)
  pub is_no_store : get_row l' n 10 ≡ 0
  pub stretch_is : get_row l' n 11 ≡ j
  pub earlier : (p k : ℕ) → 1 ≤ p → p < n → get_row l' p k ≡ get_row l p k

-- it is, also seen from where it was no store yet
pub stored_behind :
    {n g t c x j : ℕ} {seen_by : ℕ → ℕ} (l l₁ l' : List ℕ) → NoStore n l l₁ → Stored n g t c x j seen_by l₁ l'
    → Stored n g t c x j seen_by l l'
stored_behind l l₁ l' none it = record {
  size = it.size ∙ none.size;
  clock_is = it.clock_is;
  thread_is = it.thread_is;
  location_is = it.location_is;
  stretch_is = it.stretch_is;
  no_signal = it.no_signal;
  no_next = it.no_next;
  linked = it.linked;
  other_links = λ p from_one early differs.
      it.other_links p from_one early differs ∙ none.earlier p 12 from_one early (omega arith);
  earlier = λ p k from_one early low.
      it.earlier p k from_one early low ∙ none.earlier p k from_one early (omega arith);
}

module _ (row n : ℕ) (begins : row + 16 ≡ 16 * n) (to_last : n ≤ 2048) where
  -- a link in its own row adds nothing to that
  pub link_stored :
      {g t c x j : ℕ} {seen_by : ℕ → ℕ} (b v : ℕ) (l l' : List ℕ) → 13 ≤ b → b < 16 → Stored n g t c x j seen_by l l'
      → Stored n g t c x j seen_by l (set l' (row + b) v)
  link_stored b v l l' from below it = record {
    size = length-set l' (row + b) v ∙ it.size;
    clock_is = λ u low. column n u (omega arith) ∙ it.clock_is u low;
    thread_is = column n 8 (omega arith) ∙ it.thread_is;
    location_is = column n 9 (omega arith) ∙ it.location_is;
    stretch_is = column n 10 (omega arith) ∙ it.stretch_is;
    no_signal = column n 11 (omega arith) ∙ it.no_signal;
    no_next = column n 12 (omega arith) ∙ it.no_next;
    linked = λ some early. column _ 12 (omega arith) ∙ it.linked some early;
    other_links = λ p from_one early differs. column p 12 (omega arith) ∙ it.other_links p from_one early differs;
    earlier = λ p k from_one early low. column p k (omega arith) ∙ it.earlier p k from_one early low;
  }
    where
      column : (p k : ℕ) → k < 13 → get_row (set l' (row + b) v) p k ≡ get_row l' p k
      column p k low = set_column l' row n begins to_last b v p k below (omega arith) (λ same. omega arith)

  -- ---- an event that is no store

  pub no_store_is : (l : List ℕ) → 32768 ≤ length l → NoStore n l (no_store l row)
  no_store_is l room = record {
    size = length-set first _ _ ∙ length-set l _ _;
    none =
        set_column first row n begins to_last 11 0 n 10 (omega arith) (omega arith) (λ same. omega arith)
        ∙ set_here l row n begins to_last 10 0 room (omega arith);
    no_signal = set_here first row n begins to_last 11 0 (rw (length-set l (row + 10) 0) room) (omega arith);
    earlier = λ p k from_one early low.
        elsewhere first 11 p k from_one early low (omega arith) ∙ elsewhere l 10 p k from_one early low (omega arith);
  }
    where
      first : List ℕ
      first = set l (row + 10) 0

      elsewhere :
          (l₁ : List ℕ) (u p k : ℕ) → 1 ≤ p → p < n → k < 13 → u < 16 → get_row (set l₁ (row + u) 0) p k ≡ get_row l₁ p k
      elsewhere l₁ u p k from_one early low inside =
          set_elsewhere l₁ row n begins to_last u 0 p k inside (omega arith) from_one (omega arith)
          (λ same. omega arith)

  -- nothing of earlier rows
  pub no_store_earlier :
      (l : List ℕ) (p k : ℕ) → 1 ≤ p → p < n → k < 16 → get_row (no_store l row) p k ≡ get_row l p k
  no_store_earlier l p k from_one early low =
      set_elsewhere (set l (row + 10) 0) row n begins to_last 11 0 p k (omega arith) low from_one (omega arith)
      (λ same. omega arith)
      ∙ set_elsewhere l row n begins to_last 10 0 p k (omega arith) low from_one (omega arith) (λ same. omega arith)

  -- the links of chains are in another column
  pub no_store_behind : (l : List ℕ) (p k : ℕ) → 13 ≤ k → k < 16 → get_row (no_store l row) p k ≡ get_row l p k
  no_store_behind l p k from below =
      set_column (set l (row + 10) 0) row n begins to_last 11 0 p k (omega arith) below (λ same. omega arith)
      ∙ set_column l row n begins to_last 10 0 p k (omega arith) below (λ same. omega arith)

  -- ---- a load that is held

  -- it is no store, and its row has its location, its source, the head of its chain and the load held before it
  pub record HeldHere (x s h b : ℕ) (l l' : List ℕ) : Type 0 where
    pub is_no_store : NoStore n l l'
    pub location_is : get_row l' n 9 ≡ x
    pub source_is : get_row l' n 13 ≡ s
    pub head_is : get_row l' n 14 ≡ h
    pub before_is : get_row l' n 15 ≡ b
    pub earlier : (p k : ℕ) → 1 ≤ p → p < n → k < 16 → get_row l' p k ≡ get_row l p k

  pub held_here :
      (tables : List ℕ) (t x s : ℕ) (l : List ℕ) → 32768 ≤ length l
      → HeldHere x s (get_or tables (last_cell x) 0) (region_of tables t).newest l
      (held_work tables (no_store l row) row t x s)
  unfolding held_work
  held_here tables t x s l room = record {
    is_no_store = record {
      size = size_4 ∙ none.size;
      none =
          column l₃ 15 b n 10 (omega arith) (omega arith) (λ same. omega arith)
          ∙ column l₂ 14 h n 10 (omega arith) (omega arith) (λ same. omega arith)
          ∙ column l₁ 13 s n 10 (omega arith) (omega arith) (λ same. omega arith)
          ∙ column l₀ 9 x n 10 (omega arith) (omega arith) (λ same. omega arith)
          ∙ none.none;
      no_signal =
          column l₃ 15 b n 11 (omega arith) (omega arith) (λ same. omega arith)
          ∙ column l₂ 14 h n 11 (omega arith) (omega arith) (λ same. omega arith)
          ∙ column l₁ 13 s n 11 (omega arith) (omega arith) (λ same. omega arith)
          ∙ column l₀ 9 x n 11 (omega arith) (omega arith) (λ same. omega arith)
          ∙ none.no_signal;
      earlier = λ p k from_one early low. rows p k from_one early (omega arith);
    };
    location_is =
        column l₃ 15 b n 9 (omega arith) (omega arith) (λ same. omega arith)
        ∙ column l₂ 14 h n 9 (omega arith) (omega arith) (λ same. omega arith)
        ∙ column l₁ 13 s n 9 (omega arith) (omega arith) (λ same. omega arith)
        ∙ set_here l₀ row n begins to_last 9 x (rw none.size room) (omega arith);
    source_is =
        column l₃ 15 b n 13 (omega arith) (omega arith) (λ same. omega arith)
        ∙ column l₂ 14 h n 13 (omega arith) (omega arith) (λ same. omega arith)
        ∙ set_here l₁ row n begins to_last 13 s (rw (length-set l₀ (row + 9) x, none.size) room) (omega arith);
    head_is =
        column l₃ 15 b n 14 (omega arith) (omega arith) (λ same. omega arith)
        ∙ set_here l₂ row n begins to_last 14 h
        (rw (length-set l₁ (row + 13) s, length-set l₀ (row + 9) x, none.size) room) (omega arith);
    before_is =
        set_here l₃ row n begins to_last 15 b
        (rw (length-set l₂ (row + 14) h, length-set l₁ (row + 13) s, length-set l₀ (row + 9) x, none.size) room)
        (omega arith);
    earlier = rows;
  }
    where
      none : NoStore n l (no_store l row)
      none = no_store_is l room

      h : ℕ
      h = get_or tables (last_cell x) 0

      b : ℕ
      b = (region_of tables t).newest

      l₀ : List ℕ
      l₀ = no_store l row

      l₁ : List ℕ
      l₁ = set l₀ (row + 9) x

      l₂ : List ℕ
      l₂ = set l₁ (row + 13) s

      l₃ : List ℕ
      l₃ = set l₂ (row + 14) h

      size_4 : length (set l₃ (row + 15) b) ≡ length l₀
      size_4 =
          length-set l₃ (row + 15) b ∙ length-set l₂ (row + 14) h ∙ length-set l₁ (row + 13) s
          ∙ length-set l₀ (row + 9) x

      column :
          (l₁ : List ℕ) (u v p k : ℕ) → u < 16 → k < 16 → u ≢ k → get_row (set l₁ (row + u) v) p k ≡ get_row l₁ p k
      column l₁ = set_column l₁ row n begins to_last

      elsewhere :
          (l₁ : List ℕ) (u v p k : ℕ) → u < 16 → 1 ≤ p → p < n → k < 16
          → get_row (set l₁ (row + u) v) p k ≡ get_row l₁ p k
      elsewhere l₁ u v p k inside from_one early low =
          set_elsewhere l₁ row n begins to_last u v p k inside low from_one (omega arith) (λ same. omega arith)

      rows :
          (p k : ℕ) → 1 ≤ p → p < n → k < 16 → get_row (set l₃ (row + 15) b) p k ≡ get_row l p k
      rows p k from_one early low =
          elsewhere l₃ 15 b p k (omega arith) from_one early low
          ∙ elsewhere l₂ 14 h p k (omega arith) from_one early low
          ∙ elsewhere l₁ 13 s p k (omega arith) from_one early low
          ∙ elsewhere l₀ 9 x p k (omega arith) from_one early low
          ∙ no_store_earlier l p k from_one early low

  -- ---- a row with a clock

  pub event_is : event_at row ≡ n
  event_is = omega arith

  -- a column of row n, by its position
  at_row : (l : List ℕ) (k : ℕ) → k < 16 → get_row l n k ≡ get_or l (row + k) 0
  unfolding get_row
  at_row l k low =
      let there : row_start n + k % 16 ≡ row + k = omega (arith, start_is n (omega arith) to_last) in
      rw there refl

  module _ (tables : List ℕ) (t c : ℕ) (few : t < 8) where
    -- what the thread has seen is a run of numbers
    abbrev seen_by : ℕ → ℕ
    seen_by u = of_thread tables t u

    module _ (l : List ℕ) where
      abbrev with_seen : List ℕ
      with_seen = run row 8 seen_by l

      clocked_is : clocked 8 tables t row l ≡ with_seen
      unfolding clocked run
      clocked_is = refl

      clock_size : length (with_clock tables t row c l) ≡ length l
      unfolding with_clock
      clock_size = rw clocked_is (simp (length-set, run_size row seen_by l 8))

      -- columns 0 to 7 are written
      clock_leaves : Elsewhere row (row + 8) l (with_clock tables t row c l)
      unfolding with_clock
      clock_leaves i apart =
          rw clocked_is
          (set_leaves with_seen (row + t) c i (λ same. apart (omega arith) (omega arith))
          ∙ run_leaves row seen_by l 8 i (λ low high. apart low high))

      clock_in :
          32768 ≤ length l → (u : ℕ) → u < 8
          → get_or (with_clock tables t row c l) (row + u) 0 ≡ cond (eqb t u) c (seen_by u)
      unfolding with_clock
      clock_in room u low =
          let inside : leb (row + 16) (length with_seen) ≡ true =
          le-leb (row + 16) (length with_seen) (omega (arith, run_size row seen_by l 8))
          in
          rw clocked_is
          (column_after with_seen row t c u inside (lt-ltb t 16 (omega arith))
          ∙ ap (cond (eqb t u) c) (run_in row seen_by l 8 u (omega arith) low))

      clock_room : 32768 ≤ length l → leb (row + 16) (length (with_clock tables t row c l)) ≡ true
      clock_room room = le-leb (row + 16) _ (omega (arith, clock_size))

    -- ---- a signal's row

    module _ (j : ℕ) (l : List ℕ) where
      abbrev signalled : List ℕ
      signalled = set (set (with_clock tables t row c l) (row + 10) 0) (row + 11) j

      signalled_leaves : Elsewhere row (row + 12) l signalled
      signalled_leaves i apart =
          let not_at : (k : ℕ) → k < 12 → row + k ≢ i = λ k low same. apart (omega arith) (omega arith) in
          simp (set_leaves, not_at 10 (omega arith), not_at 11 (omega arith))
          (clock_leaves l i (λ low high. apart low (omega arith)))

      signalled_earlier : (p k : ℕ) → 1 ≤ p → p < n → get_row signalled p k ≡ get_row l p k
      unfolding get_row
      signalled_earlier p k from_one early =
          signalled_leaves (row_start p + k % 16) (λ low high. omega (arith, start_is p from_one (omega arith)))

      pub signalled_is : 32768 ≤ length l → Signalled n t c j seen_by l signalled
      signalled_is room = record {
        size = simp (length-set, clock_size l);
        clock_is = λ u low.
            at_row signalled u (omega arith)
            ∙ simp (
              column_after,
              length-set,
              clock_room l room,
              ne_eqb 10 u (λ same. omega arith),
              ne_eqb 11 u (λ same. omega arith),
              clock_in l room u low,
            );
        is_no_store = at_row signalled 10 (omega arith) ∙ simp (column_after, length-set, clock_room l room);
        stretch_is = at_row signalled 11 (omega arith) ∙ simp (column_after, length-set, clock_room l room);
        earlier = signalled_earlier;
      }

    -- ---- a store's row

    module _ (x j g : ℕ) (l : List ℕ) where
      abbrev linked : List ℕ
      linked = put_row l g 12 (event_at row)

      abbrev after : List ℕ
      after = with_store tables t row c x j linked

      -- the positions of the row's columns 0 to 12 are written
      written_leaves : Elsewhere row (row + 13) linked after
      unfolding with_store
      written_leaves i apart =
          let not_at : (k : ℕ) → k < 13 → row + k ≢ i = λ k low same. apart (omega arith) (omega arith) in
          simp (
            set_leaves,
            not_at 8 (omega arith),
            not_at 9 (omega arith),
            not_at 10 (omega arith),
            not_at 11 (omega arith),
            not_at 12 (omega arith),
          )
          (clock_leaves linked i (λ low high. apart low (omega arith)))

      -- not the rows of earlier events, which are as the link left them
      written_earlier : (p k : ℕ) → 1 ≤ p → p < n → get_row after p k ≡ get_row linked p k
      unfolding get_row
      written_earlier p k from_one early =
          written_leaves (row_start p + k % 16) (λ low high. omega (arith, start_is p from_one (omega arith)))

      -- nor what stands behind column 12
      pub written_beside : (p k : ℕ) → 13 ≤ k → k < 16 → get_row after p k ≡ get_row l p k
      unfolding get_row row_start
      written_beside p k from below =
          written_leaves (row_start p + k % 16) (λ low high. omega arith)
          ∙ put_column l g 12 (event_at row) p k (omega arith) below (λ same. omega arith)

      -- of earlier rows at most column 12 is written
      pub written_rows :
          (p k : ℕ) → 1 ≤ p → p < n → k < 16 → k ≢ 12 → get_row after p k ≡ get_row l p k
      written_rows p k from_one early low other =
          written_earlier p k from_one early
          ∙ put_column l g 12 (event_at row) p k (omega arith) low (λ same. other (sym same))

      pub stored_is : 32768 ≤ length l → g ≤ 2048 → Stored n g t c x j seen_by l after
      unfolding with_store
      stored_is room g_to_last = record {
        size = (simp (length-set, clock_size linked)) ∙ linked_size;
        no_next = at_row after 12 (omega arith) ∙ simp (column_after, length-set, inside);
        no_signal = at_row after 11 (omega arith) ∙ simp (column_after, length-set, inside);
        stretch_is = at_row after 10 (omega arith) ∙ simp (column_after, length-set, inside);
        location_is = at_row after 9 (omega arith) ∙ simp (column_after, length-set, inside);
        thread_is = at_row after 8 (omega arith) ∙ simp (column_after, length-set, inside);
        clock_is = λ u low.
            at_row after u (omega arith)
            ∙ simp (
              column_after,
              length-set,
              inside,
              ne_eqb 8 u (λ same. omega arith),
              ne_eqb 9 u (λ same. omega arith),
              ne_eqb 10 u (λ same. omega arith),
              ne_eqb 11 u (λ same. omega arith),
              ne_eqb 12 u (λ same. omega arith),
              clock_in linked linked_room u low,
            );
        linked = λ some early.
            written_earlier g 12 some early ∙ put_same l g 12 (event_at row) room ∙ event_is;
        other_links = λ p from_one early differs.
            written_earlier p 12 from_one early
            ∙ put_row_lem l g 12 (event_at row) p 12 (omega arith) (omega arith)
            (rows_apart g p g_to_last from_one (omega arith) differs);
        earlier = λ p k from_one early low.
            written_earlier p k from_one early
            ∙ put_column l g 12 (event_at row) p k (omega arith) (omega arith) (λ same. omega arith);
      }
        where
          linked_size : length linked ≡ length l
          linked_size = length_put l g 12 (event_at row)

          linked_room : 32768 ≤ length linked
          linked_room = rw linked_size room

          inside : leb (row + 16) (length (with_clock tables t row c linked)) ≡ true
          inside = clock_room linked linked_room
