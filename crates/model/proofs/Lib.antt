-- Laws and theorems about the definitions. The theorems that others cite: `clock_is_happens_before`, `clock_is_handed`
-- (Clocks), `window_is`, `window_unique`, `window_places`, `observed_has_window` (WindowPlaces), `some_window`
-- (FlushPlaces), `before_committed` (Committed), `committed_first`, `no_memory` (CacheLines), `exact`, `unique`,
-- `broken_stays`, `named_load_counts`, `nothing_least`, `only_nothing` (Exactness), `min_explains`, `max_explains`
-- (Lattice), `held_exactly` (Holding), `counts_by` (CountedLoads), `exact_same` (Prefixes), `fault_same`
-- (WindowPrefixes), `explains_is_replay` (Replay), `accepted_exactly`, `turned_away_exactly`, `new_gets_3`
-- (TurnedAway), `no_records_exactly`, `no_bytes_judged`, `no_bytes_filled`, `begun_away_exactly`,
-- `begun_accepted_exactly`, `judged_1_exactly` (NoBytes), `ordered_as_demanded`, `no_bytes_refused` (Queries),
-- `judged_as_demanded` (Demanded), `cut_rest` (CutPlaces), `broken_as_trace`, `robust_before_load` (TakenAsTrace),
-- `accepted_encoded` (AcceptedBytes), `flushes_move_no_verdict` (FlushNeutral), `replaced_accepted` (ReplacedRules),
-- `replaced_exact` (Replacements), `none_left`, `all_replaced_exact` (Unlocked), `replaced_verdict`,
-- `all_replaced_verdict` (ReplacedBytes), `refusals_14_and_15` (BufferSizes), `cases_1_to_11` (Cases),
-- `errors_of_the_trade` (CasesOfTrade), `windows_as_worked` (CasesOfWindows), `locked_as_worked` (CasesOfLocked),
-- `handed_as_worked` (CasesOfHandOver), `one_line_as_worked` (CasesOfOneLine), `no_bytes_as_worked` (CasesOfNoBytes),
-- `checksums_as_worked`, `checksum_bytes_as_worked` (CasesOfChecksums), `refusals_1_to_5` (NoTrace) and
-- `random_sessions` (RandomSessions).
-- What has a premise `Accepted` or `AcceptedWith` covers empty bytes, a trace with N = 0, but for what also asks
-- `0 < N`: `begins`, `first_is_no_store_no_commit`, `store_not_0`, `signal_not_0` (Acceptance), `some_version`,
-- `some_thread`, `few_threads`, `few_locations` (Limits), `no_store_refused` (Queries).
pub mod Searching
pub mod Induction
pub mod Tabulating
pub mod Faults
pub mod Counting
pub mod Roles
pub mod Ordering
pub mod ClockSteps
pub mod Clocks
pub mod WindowPlaces
pub mod Acceptance
pub mod Limits
pub mod StorePlaces
pub mod Unchanged
pub mod LoadRule
pub mod Committed
pub mod Effects
pub mod Ranges
pub mod Holding
pub mod CountedLoads
pub mod FlushPlaces
pub mod Closure
pub mod CacheLines
pub mod Pairs
pub mod Exactness
pub mod RulingSteps
pub mod ChainOrder
pub mod Lattice
pub mod Agreement
pub mod Prefixes
pub mod WindowPrefixes
pub mod Replay
pub mod Numberings
pub mod EmbeddedTrace
pub mod EmbeddedMachine
pub mod EmbeddedRules
pub mod EmbeddedLoads
pub mod EmbeddedChoices
pub mod EmbeddedRuling
pub mod EmbeddedWindows
pub mod Moving
pub mod AcceptedLists
pub mod Taking
pub mod Removing
pub mod TurnedAway
pub mod NoBytes
pub mod Queries
pub mod Demanded
pub mod CutPlaces
pub mod TakenAsTrace
pub mod Encoding
pub mod AcceptedBytes
pub mod Carrying
pub mod RemovedBytes
pub mod FlushNeutral
pub mod Spreading
pub mod Replacing
pub mod ReplacedRules
pub mod Replacements
pub mod Unlocked
pub mod ReplacedBytes
pub mod Sessions
pub mod BufferSizes
pub mod Cases
pub mod CasesOfTrade
pub mod CasesOfWindows
pub mod CasesOfLocked
pub mod CasesOfHandOver
pub mod CasesOfOneLine
pub mod CasesOfNoBytes
pub mod CasesOfChecksums
pub mod NoTrace
pub mod RandomSessions
pub mod Mapped
