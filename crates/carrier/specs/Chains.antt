-- Frames put one after another.
use Rattle.std.specs.Prelude.{◌≡◌, ℕ, List, [], ◌∷◌}

abbrev pub PutsAll : {S : Type 0} → (S → List ℕ → S → Type 0) → S → List (List ℕ) → S → Type 0
PutsAll puts s [] t = s ≡ t
PutsAll {S = S} puts s (f ∷ fs) t = (m : S) × puts s f m × PutsAll puts m fs t
