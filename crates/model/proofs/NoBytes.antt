-- Document 02, job 6: "For judging, empty bytes mean a trace with no events: robust, all-zero cut, share 100, `events
-- 0`. Other calls still turn it away. Answers: 1 in judging only for bytes that begin with some other record."
-- Empty bytes end where record 0 would start, so they are accepted with no records, and of no events the ruling, the
-- cut and the share compute.
-- In order: accepted with no records; what is answered and left in the cut buffer; what calls about a whole trace other
-- than judging make of the bytes; refusal 1 of judging. The order query on no bytes is `no_bytes_refused` of Queries.
use Prim.Native.Nat.{ℕ, ◌≤◌, ◌<◌}
use native.Mathlib.Omega.{arith}
use mathlib.Core.Path.{◌≡◌, refl, sym, ◌∙◌}
use mathlib.Core.Bool.{Bool, true, false, ◌&&◌, not, and-false}
use mathlib.Core.Logic.{◌⊎◌, inl, inr, ◌≢◌, ◌↔◌}
use mathlib.Core.List.{List, [], ◌∷◌}
use lib.ListN.{length, replicate}
use lib.Dec.{eqb}
use borrow.Author.Tests.{eqb-true, eqb-false, eq-eqb, ne_eqb, not-true}
use Rattle.record.specs.declared.events.Event.{Event}
use Rattle.record.specs.Events.{kind_of}
use Rattle.record.specs.Parts.{start}
use Rattle.record.specs.Versions.{known_in}
use Rattle.record.specs.Reading.{read_at}
use Rattle.record.specs.Tests.{◌gives◌else◌}
use Rattle.record.proofs.Frames.{clash, Answers, an_event, a_refusal}
use Rattle.record.proofs.Starts.{start_inside, one_past_end, read_at_answers}
use Rattle.model.specs.Search.{some, first, first_from, most}
use Rattle.model.specs.Trace.{kind, version, new?, begin?, stretch, count}
use Rattle.model.specs.Rules.{Rules, pass, ◌refuses◌else◌, answer, rules, refusal}
use Rattle.model.specs.Choice.{Ruling, robust, broken, finished}
use Rattle.model.specs.Verdict.{bad?, closure, ruling_of}
use Rattle.model.specs.Reading.{events, refused_by, record_at, stop, Reading, accepted, turned_away}
use Rattle.model.specs.Reading.{reading_of, begun_reading, AcceptedWith, TurnedAwayWith, BeginsOtherwise}
use Rattle.model.specs.Answers.{tabulate, cut_of, sum, share_of}
use Rattle.model.specs.Answers as answers
use Rattle.model.specs.Judge.{small_work, wrong_cut, ruled_answer, reading_answer, reading_cut, judge_of, cut_after}
use Rattle.model.proofs.Searching.{false_true, same?, less?, parts}
use Rattle.model.proofs.TurnedAway.{ends_there, in_trace_one, unread_there, forbidden_there, passing_there}
use Rattle.model.proofs.TurnedAway.{ended→}
use Rattle.model.proofs.TurnedAway.{four_bytes_each, accepted_exactly, turned_away_exactly}

-- ---- accepted with no records

module _ (bytes : List ℕ) where
  pub no_records_exactly : AcceptedWith bytes 0 ↔ (length bytes ≡ 0)
  unfolding start
  no_records_exactly = (λ whole. sym (ended→ bytes 0 whole.ends), accepted_so)
    where
      accepted_so : length bytes ≡ 0 → AcceptedWith bytes 0
      accepted_so none = record {
        all_pass = λ e l. absurd (omega arith);
        ends = ends_there bytes 0 (omega (arith, start_inside bytes 0));
      }

  -- a record, accepted or turned away, takes some bytes
  accepted_some : (N : ℕ) → 0 < N → AcceptedWith bytes N → length bytes ≢ 0
  accepted_some N some_record whole none =
      omega (arith, four_bytes_each bytes N whole.all_pass, start_inside bytes N)

  away_some : (k e : ℕ) → TurnedAwayWith bytes k e → length bytes ≢ 0
  away_some k e away none =
      let ended = ends_there bytes e (omega (arith, start_inside bytes e)) in
      let number = away.number in
      clash cc

-- ---- what is answered, and what becomes of the cut buffer

is_empty : (bytes : List ℕ) → length bytes ≡ 0 → bytes ≡ []
is_empty [] none = refl
is_empty (b ∷ bytes) none = absurd (omega arith)

no_bytes_robust : reading_answer [] (reading_of []) ≡ answers.robust 0 100
unfolding reading_of stop record_at first first_from start ruling_of bad? some share_of cut_of tabulate sum closure most
    finished stretch count
no_bytes_robust = refl

no_bytes_zero : (cut : List ℕ) → reading_cut [] cut (reading_of []) ≡ replicate 56 0
unfolding reading_of stop record_at first first_from start ruling_of bad? some cut_of tabulate closure most
no_bytes_zero cut = refl

pub no_bytes_answer : (bytes : List ℕ) → length bytes ≡ 0 → reading_answer bytes (reading_of bytes) ≡ answers.robust 0 100
no_bytes_answer bytes none = rw (is_empty bytes none) no_bytes_robust

pub no_bytes_cut :
    (bytes : List ℕ) → length bytes ≡ 0 → (cut : List ℕ) → reading_cut bytes cut (reading_of bytes) ≡ replicate 56 0
no_bytes_cut bytes none cut = rw (is_empty bytes none) (no_bytes_zero cut)

-- NO BYTES ARE JUDGED ROBUST, WITH NO EVENTS, A SHARE OF 100 AND A CUT OF ZEROS; 14 AND 15 COME FIRST
pub no_bytes_judged :
    (work cut : ℕ)
    → judge_of [] work cut
    ≡ (small_work work gives answers.refused 14 0 else wrong_cut cut gives answers.refused 15 0 else answers.robust 0 100)
unfolding judge_of
no_bytes_judged work cut = rw no_bytes_robust refl

pub no_bytes_filled :
    (work : ℕ) (cut : List ℕ)
    → cut_after [] work cut
    ≡ (small_work work gives cut else wrong_cut (length cut) gives cut else replicate 56 0)
unfolding cut_after
no_bytes_filled work cut = rw (no_bytes_zero cut) refl

-- ---- what other calls make of the bytes

module _ (bytes : List ℕ) where
  pub begun_none : length bytes ≡ 0 → begun_reading bytes ≡ turned_away 1 0
  unfolding begun_reading
  begun_none none = rw (eq-eqb (length bytes) 0 none)

  -- bytes that are there are to every call what they are to judging
  pub begun_some : length bytes ≢ 0 → begun_reading bytes ≡ reading_of bytes
  unfolding begun_reading
  begun_some some = rw (ne_eqb (length bytes) 0 some)

  pub begun_away : (k e : ℕ) → TurnedAwayWith bytes k e → begun_reading bytes ≡ turned_away k e
  begun_away k e away = begun_some (away_some bytes k e away) ∙ (turned_away_exactly bytes k e).1 away

  pub begun_accepted_exactly : (N : ℕ) → (begun_reading bytes ≡ accepted N) ↔ (AcceptedWith bytes N × (0 < N))
  begun_accepted_exactly N = (to (same? (length bytes) 0), from)
    where
      to :
          (length bytes ≡ 0) ⊎ (length bytes ≢ 0) → begun_reading bytes ≡ accepted N
          → AcceptedWith bytes N × (0 < N)
      to (inl none) is = let away = begun_none none in absurd (clash cc)
      to (inr some) is = (whole, some_record (less? 0 N))
        where
          whole : AcceptedWith bytes N
          whole = (accepted_exactly bytes N).0 (sym (begun_some some) ∙ is)

          some_record : (0 < N) ⊎ (N ≤ 0) → 0 < N
          some_record (inl l) = l
          some_record (inr l) =
              let is_0 : N ≡ 0 = omega arith in
              absurd (some ((no_records_exactly bytes).0 (rw is_0 at whole)))

      from : AcceptedWith bytes N × (0 < N) → begun_reading bytes ≡ accepted N
      from (whole, some_record) =
          begun_some (accepted_some bytes N some_record whole) ∙ (accepted_exactly bytes N).1 whole

  -- turned away for a record of theirs, or with 1 because they are empty
  abbrev Away : ℕ → ℕ → Type 0
  Away k e = TurnedAwayWith bytes k e ⊎ ((length bytes ≡ 0) × (k ≡ 1) × (e ≡ 0))

  pub begun_away_exactly : (k e : ℕ) → (begun_reading bytes ≡ turned_away k e) ↔ Away k e
  begun_away_exactly k e = (to (same? (length bytes) 0), from)
    where
      to : (length bytes ≡ 0) ⊎ (length bytes ≢ 0) → begun_reading bytes ≡ turned_away k e → Away k e
      to (inl none) is =
          let away = begun_none none in
          let number : k ≡ 1 = cc in
          let there : e ≡ 0 = cc in
          inr (none, number, there)
      to (inr some) is = inl ((turned_away_exactly bytes k e).0 (sym (begun_some some) ∙ is))

      from : Away k e → begun_reading bytes ≡ turned_away k e
      from (inl away) = begun_away k e away
      from (inr (none, number, there)) = begun_none none ∙ rw (number, there) refl

-- ---- refusal 1 of judging

-- none of these rules refuses with 1
abbrev none_by1 : Rules → Bool
none_by1 pass = true
none_by1 (b refuses k else r) = not (eqb k 1) && none_by1 r

not_by_1 : (r : Rules) → none_by1 r ≡ true → answer r ≢ 1
unfolding answer
not_by_1 pass others is = omega arith
not_by_1 (true refuses k else r) others is =
    eqb-false k 1 (not-true _ (parts (not (eqb k 1)) (none_by1 r) others).0) is
not_by_1 (false refuses k else r) others is = not_by_1 r (parts (not (eqb k 1)) (none_by1 r) others).1 is

second_by_1 : (a b : Bool) (r : Rules) → none_by1 r ≡ true → answer (a refuses 3 else b refuses 1 else r) ≡ 1 → b ≡ true
unfolding answer
second_by_1 true b r others is = absurd (omega arith)
second_by_1 false true r others is = refl
second_by_1 false false r others is = absurd (not_by_1 r others is)

-- the first record's kind is known, whatever the version
first_known : (ev : ℕ → Event) → new? ev 0 ≡ false
first_known ev = and-false (not (known_in (version ev) (kind ev 0)))

-- the second of all rules is the only one with that number
pub no_begin_first : (ev : ℕ → Event) (n : ℕ) → refusal ev n ≡ 1 → (n ≡ 0) × (begin? ev n ≡ false)
unfolding rules
no_begin_first ev n is =
    let both_hold = parts (eqb n 0) (not (begin? ev n)) (second_by_1 _ _ _ refl is) in
    (eqb-true n 0 both_hold.0, not-true _ both_hold.1)

module _ (bytes : List ℕ) where
  begins_otherwise : (e : ℕ) → TurnedAwayWith bytes 1 e → BeginsOtherwise bytes × (e ≡ 0)
  unfolding start events
  begins_otherwise e away =
      by_answer (same? (start bytes e) (length bytes)) (read_at_answers bytes (start bytes e))
    where
      found : record_at bytes e ≡ refused_by 1
      found = away.number

      by_answer :
          (start bytes e ≡ length bytes) ⊎ (start bytes e ≢ length bytes) → Answers (read_at bytes (start bytes e))
          → BeginsOtherwise bytes × (e ≡ 0)
      by_answer (inl ended) answers = let none = ends_there bytes e ended in absurd (clash cc)
      by_answer (inr inside) (a_refusal k low high is) =
          let there = unread_there bytes e k 0 inside is (λ z. omega arith) in
          let number : k ≡ 1 = in_trace_one bytes e k (cc) in
          absurd (inside (omega (arith, start_inside bytes e, one_past_end bytes (start bytes e) 0 (rw number at is))))
      by_answer (inr inside) (an_event x next is) = by_rules (same? (refusal (events bytes) e) 0)
        where
          first_record : (e ≡ 0) × (begin? (events bytes) e ≡ false) → BeginsOtherwise bytes × (e ≡ 0)
          first_record (is_0, no_begin) = (
            record {
              other = x;
              next = next;
              is_read = rw is_0 at is;
              no_begin = λ is_1. false_true (sym no_begin ∙ rw (is, is_1) refl);
            },
            is_0,
          )

          by_rules : (refusal (events bytes) e ≡ 0) ⊎ (refusal (events bytes) e ≢ 0) → BeginsOtherwise bytes × (e ≡ 0)
          by_rules (inl passes) = let there = passing_there bytes e x next is passes in absurd (clash cc)
          by_rules (inr some_number) =
              let there = forbidden_there bytes e x next is (refusal (events bytes) e) refl some_number in
              let number : refusal (events bytes) e ≡ 1 = cc in
              first_record (no_begin_first (events bytes) e number)

  otherwise_away : BeginsOtherwise bytes → TurnedAwayWith bytes 1 0
  unfolding start events rules answer
  otherwise_away it = record {
    earlier_pass = λ i l. absurd (omega arith);
    number =
        forbidden_there bytes 0 it.other it.next it.is_read 1
        (rw (first_known (events bytes), it.is_read, ne_eqb (kind_of it.other) 1 it.no_begin) refl)
        (λ z. omega arith);
  }

  -- "1 IN JUDGING ONLY FOR BYTES THAT BEGIN WITH SOME OTHER RECORD", AND FOR ALL OF THESE
  pub judged_1_exactly :
      (work cut e : ℕ)
      → (judge_of bytes work cut ≡ answers.refused 1 e)
      ↔ ((small_work work ≡ false) × (wrong_cut cut ≡ false) × BeginsOtherwise bytes × (e ≡ 0))
  unfolding judge_of
  judged_1_exactly work cut e = (to (small_work work) (wrong_cut cut) refl refl, from)
    where
      ruled : (N : ℕ) (v : Ruling) → ruled_answer (events bytes) N v ≢ answers.refused 1 e
      ruled N (robust c) is = clash cc
      ruled N (broken load missing observed) is = clash cc

      by_reading :
          (r : Reading) → reading_of bytes ≡ r → reading_answer bytes r ≡ answers.refused 1 e
          → BeginsOtherwise bytes × (e ≡ 0)
      by_reading (accepted N) reading is = absurd (ruled N (ruling_of (events bytes) N) is)
      by_reading (turned_away k i) reading is =
          let number : k ≡ 1 = cc in
          let there : i ≡ e = cc in
          begins_otherwise e ((turned_away_exactly bytes 1 e).0 (rw (number, there) at reading))

      to :
          (small wrong : Bool) → small_work work ≡ small → wrong_cut cut ≡ wrong
          → (small gives answers.refused 14 0 else
          wrong gives answers.refused 15 0 else
          reading_answer bytes (reading_of bytes)) ≡ answers.refused 1 e
          → (small ≡ false) × (wrong ≡ false) × BeginsOtherwise bytes × (e ≡ 0)
      to true wrong s w is = absurd (clash cc)
      to false true s w is = absurd (clash cc)
      to false false s w is =
          let (otherwise, is_0) = by_reading (reading_of bytes) refl is in
          (refl, refl, otherwise, is_0)

      from :
          (small_work work ≡ false) × (wrong_cut cut ≡ false) × BeginsOtherwise bytes × (e ≡ 0)
          → judge_of bytes work cut ≡ answers.refused 1 e
      from (large, right, it, is_0) =
          rw (large, right, (turned_away_exactly bytes 1 0).1 (otherwise_away it), is_0) refl
