-- The parts that a line is put together from, one behind the other, are the line, and the lines of the first j
-- stretches with one more are those of j + 1.
use Prim.Native.Nat.{ℕ, ◌+◌, ◌≤◌, min}
use native.Mathlib.Omega.{arith}
use native.Mathlib.Numerals.{add-one}
use mathlib.Core.Path.{◌≡◌, sym}
use mathlib.Core.List.{List, [], ◌∷◌, ◌++◌, append_assoc, append-nil}
use Rattle.model.specs.Answers.{tabulate}
use Rattle.report.specs.Decimal.{digits}
use Rattle.report.specs.Lines.{ascii, spaced, line, count_at, counts_of, cut_line, cut_lines}
use Rattle.report.specs.Lines.{robust_lines}
use Rattle.report.specs.declared.page.Page.{Page}
use Rattle.report.specs.Page.{Puts}
use Rattle.report.proofs.Pages.{nothing_put}

-- ---- a line

pub text_alone : (text : List ℕ) → text ++ (10 ∷ []) ≡ line text []
unfolding line spaced
text_alone text = simp append-nil

pub one_number : (text : List ℕ) (v : ℕ) → text ++ (32 ∷ digits v) ++ (10 ∷ []) ≡ line text (v ∷ [])
unfolding line spaced
one_number text v = simp append-nil

pub two_numbers :
    (text : List ℕ) (u v : ℕ) → text ++ (32 ∷ digits u) ++ (32 ∷ digits v) ++ (10 ∷ []) ≡ line text (u ∷ v ∷ [])
unfolding line spaced
two_numbers text u v = regrouped (32 ∷ digits u) (32 ∷ digits v)
  where
    regrouped : (a b : List ℕ) → text ++ a ++ b ++ (10 ∷ []) ≡ text ++ (a ++ (b ++ [])) ++ (10 ∷ [])
    regrouped a b = simp (append-nil, append_assoc)

pub number_and_more :
    (text : List ℕ) (v : ℕ) (vs : List ℕ)
    → text ++ (32 ∷ digits v) ++ spaced vs ++ (10 ∷ []) ≡ line text (v ∷ vs)
unfolding line spaced
number_and_more text v vs = simp append_assoc

-- ---- the counts of a cut line

-- one number more behind others
spaced_more : (vs : List ℕ) (v : ℕ) → spaced (vs ++ (v ∷ [])) ≡ spaced vs ++ (32 ∷ digits v)
unfolding spaced
spaced_more [] v = simp append-nil
spaced_more (x ∷ vs) v = simp (spaced_more vs v, append_assoc)

pub no_counts : (p : Page) (cut : List ℕ) (j : ℕ) → Puts p (spaced (counts_of cut 0 j)) 0 p
unfolding tabulate spaced
no_counts p cut j = nothing_put p

pub next_count :
    (cut : List ℕ) (t j : ℕ)
    → spaced (counts_of cut t j) ++ (32 ∷ digits (count_at cut j t)) ≡ spaced (counts_of cut (t + 1) j)
unfolding tabulate
next_count cut t j = rw (add-one t) (sym (spaced_more (counts_of cut t j) (count_at cut j t)))

-- ---- the cut lines

pub no_cut_lines : (p : Page) (cut : List ℕ) (n : ℕ) → Puts p (cut_lines cut n 0) 0 p
unfolding cut_lines
no_cut_lines p cut n = nothing_put p

pub next_cut_line : (cut : List ℕ) (n j : ℕ) → cut_lines cut n j ++ cut_line cut n (j + 1) ≡ cut_lines cut n (j + 1)
unfolding cut_lines
next_cut_line cut n j = rw (add-one j)

-- more than 8 threads count as 8 and more than 7 stretches as 7, however often that is said
pub bounded_once :
    (events share n f : ℕ) {m g : ℕ} {cut counts : List ℕ} → counts ≡ cut → m ≡ min n 8 → g ≡ min f 7
    → robust_lines events share m g counts ≡ robust_lines events share n f cut
unfolding robust_lines
bounded_once events share n f same threads finished =
    let n_is : min (min n 8) 8 ≡ min n 8 = omega arith in
    let f_is : min (min f 7) 7 ≡ min f 7 = omega arith in
    rw (same, threads, finished, n_is, f_is)

-- the parts of a robust trace's report, for numbers within the bounds
pub bounded :
    (events share n f : ℕ) (cut : List ℕ) → n ≤ 8 → f ≤ 7
    → line (ascii "events") (events ∷ []) ++ line (ascii "verdict robust") [] ++ cut_lines cut n f
    ++ line (ascii "share") (share ∷ [])
    ≡ robust_lines events share n f cut
unfolding robust_lines
bounded events share n f cut threads finished =
    let n_is : min n 8 ≡ n = omega arith in
    let f_is : min f 7 ≡ f = omega arith in
    rw (n_is, f_is)
