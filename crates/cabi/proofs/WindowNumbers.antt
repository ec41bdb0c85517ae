-- The numbers of windows are the fields of their structs, one window after the other; of none 0 and 0.
use Rattle.std.proofs.Common.{◌≡◌, ℕ, List, [], ◌∷◌, ◌++◌, map, flat_map, length, slice_index_or}
use Rattle.std.proofs.Common.{Option, Some, None, refl, arith}
use Rattle.model.specs.declared.Window.{Window}
use Rattle.model.specs.declared.Windows.{Windows}
use Rattle.model.specs.Answers.{window_answer, windows_answer}
use Rattle.cabi.specs.Answers.{window_numbers, windows_numbers}

abbrev pub fields_of : Option Window → List ℕ
fields_of None = 0 ∷ 0 ∷ []
fields_of (Some w) = w.first ∷ w.last ∷ []

pub window_numbers_lem : (w : Option Window) → window_numbers (window_answer w) ≡ fields_of w
window_numbers_lem None = refl
window_numbers_lem (Some w) = refl

one_after_other :
    (ws : List (Option Window)) → windows_numbers (map window_answer ws) ≡ flat_map (λ x. x) (map fields_of ws)
one_after_other [] = refl
one_after_other (w ∷ ws) = rw (window_numbers_lem w, one_after_other ws) refl

pub windows_numbers_lem :
    (w : Windows) → windows_numbers (windows_answer w) ≡ flat_map (λ x. x) (map fields_of w.threads)
windows_numbers_lem w = one_after_other w.threads

-- the two numbers of a window in front of those of the others
behind :
    (w : Option Window) (rest rest' : List ℕ) → rest ≡ rest'
    → slice_index_or (fields_of w) 0 0 ∷ slice_index_or (fields_of w) 1 0 ∷ rest ≡ fields_of w ++ rest'
behind None rest rest' is = rw is refl
behind (Some w) rest rest' is = rw is refl

-- of eight windows the two numbers of each, one by one
pub sixteen :
    (ws : List (Option Window)) → length ws ≡ 8 → (vs : List (List ℕ)) → vs ≡ map fields_of ws
    → slice_index_or (slice_index_or vs 0 []) 0 0 ∷ slice_index_or (slice_index_or vs 0 []) 1 0
    ∷ slice_index_or (slice_index_or vs 1 []) 0 0 ∷ slice_index_or (slice_index_or vs 1 []) 1 0
    ∷ slice_index_or (slice_index_or vs 2 []) 0 0 ∷ slice_index_or (slice_index_or vs 2 []) 1 0
    ∷ slice_index_or (slice_index_or vs 3 []) 0 0 ∷ slice_index_or (slice_index_or vs 3 []) 1 0
    ∷ slice_index_or (slice_index_or vs 4 []) 0 0 ∷ slice_index_or (slice_index_or vs 4 []) 1 0
    ∷ slice_index_or (slice_index_or vs 5 []) 0 0 ∷ slice_index_or (slice_index_or vs 5 []) 1 0
    ∷ slice_index_or (slice_index_or vs 6 []) 0 0 ∷ slice_index_or (slice_index_or vs 6 []) 1 0
    ∷ slice_index_or (slice_index_or vs 7 []) 0 0 ∷ slice_index_or (slice_index_or vs 7 []) 1 0 ∷ []
    ≡ flat_map (λ x. x) (map fields_of ws)
sixteen (a ∷ b ∷ c ∷ d ∷ e ∷ f ∷ g ∷ h ∷ []) eight vs is =
    rw is
    (behind a _ _ (behind b _ _ (behind c _ _ (behind d _ _
    (behind e _ _ (behind f _ _ (behind g _ _ (behind h _ _ refl))))))))
sixteen [] eight vs is = absurd (omega (arith, eight))
sixteen (a ∷ []) eight vs is = absurd (omega (arith, eight))
sixteen (a ∷ b ∷ []) eight vs is = absurd (omega (arith, eight))
sixteen (a ∷ b ∷ c ∷ []) eight vs is = absurd (omega (arith, eight))
sixteen (a ∷ b ∷ c ∷ d ∷ []) eight vs is = absurd (omega (arith, eight))
sixteen (a ∷ b ∷ c ∷ d ∷ e ∷ []) eight vs is = absurd (omega (arith, eight))
sixteen (a ∷ b ∷ c ∷ d ∷ e ∷ f ∷ []) eight vs is = absurd (omega (arith, eight))
sixteen (a ∷ b ∷ c ∷ d ∷ e ∷ f ∷ g ∷ []) eight vs is = absurd (omega (arith, eight))
sixteen (a ∷ b ∷ c ∷ d ∷ e ∷ f ∷ g ∷ h ∷ i ∷ ws) eight vs is = absurd (omega (arith, eight))
