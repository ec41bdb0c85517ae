-- What a reader has to believe of this crate, in the papers' order:
--   Search         `bit`, `any` and `member` (what counts as of an event), `last`
--   Trace, Machine, Rules, HappensBefore, Choice
--   Reading        `event_in`, `refusal_in`, `events`, `Found`, `ends_at`, `record_at`, `AcceptedWith`,
--                  `TurnedAwayWith`; of `begun_reading` that empty bytes are turned away
--   Windows        but for what computes
--   CacheLines
--   Answers        but for `fault_of`
--   Judge          the buffers: `small_work`, `wrong_cut`, `cleared`, `work_after`, `order_work_after`; of `judge_of`,
--                  `cut_after` and `order_of` that 14 and 15 come first; of `reading_standing` that the trace's refusal
--                  is next; of `store?` and `standing` that then comes 16
--   Demand
-- and, for theorems that no contract cites, Memory, Flushes, Locked, of Reading `first_events`, `encode` and
-- `BeginsOtherwise`, and of Windows `PlaceIn`, `Has` and `Reaches`.
--
-- What only computes, and the theorem that says what:
--   Search         `some`, `first_from`, `first`, `most`: proofs/Searching.antt
--   Clocks         happens-before: `clock_is_happens_before`, `covers_exactly`
--   Verdict        `ruling_of` and all that it is made of: `exact`
--   Windows        `brings?`, `behind`, `last_covered`, `window_of`: `window_is`
--   Answers        `fault_of`: `fault_is`
--   Reading        `passing?`, `stop`, `Reading`, `reading_at`, `reading_of`: `accepted_exactly`, `turned_away_exactly`
--   Judge          `ruled_answer`, `ruled_cut`, `reading_answer`, `reading_cut`, the rest of `judge_of` and
--                  `cut_after`: `judged_as_demanded`, `refused_as_demanded`; `before?`, the rest of `order_of` and
--                  `standing`: `before_exactly`, `ordered_as_demanded`
--
-- Neither: Embedding, which proofs here speak of, and Stores, which the private contracts of the judge's layers cite.
pub mod Search
pub mod Trace
pub mod Machine
pub mod Rules
pub mod HappensBefore
pub mod Choice
pub mod Memory
pub mod Flushes
pub mod Locked
pub mod Reading
pub mod Windows
pub mod CacheLines
pub mod Answers
pub mod Demand
pub mod Clocks
pub mod Verdict
pub mod Embedding
pub mod Stores
pub mod Judge
