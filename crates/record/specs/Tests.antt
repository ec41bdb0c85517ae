-- Tests made in order, each with what it gives: `test₁ gives a else test₂ gives b else c`.
use Rattle.std.specs.Prelude.{Bool, true, false}

abbrev pub ◌gives◌else◌ : {A : Type 0} → Bool → A → A → A
◌gives◌else◌ true a b = a
◌gives◌else◌ false a b = b

infixr 1 ◌gives◌else◌
