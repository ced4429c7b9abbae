-- Half octets.
use Rattle.std.specs.Prelude.{ℕ, ◌+◌, ◌*◌, ◌/◌, ◌%◌, ◌<◌, List, [], ◌∷◌}

-- the half octets of octets, the low half of each first
abbrev pub halves : List ℕ → List ℕ
halves [] = []
halves (o ∷ os) = o % 16 ∷ o / 16 ∷ halves os

-- the octets that have these halves
abbrev pub paired : List ℕ → List ℕ
paired [] = []
paired (a ∷ []) = a ∷ []
paired (a ∷ b ∷ hs) = (a + 16 * b) ∷ paired hs

-- each is a half octet
abbrev pub Small : List ℕ → Type 0
Small [] = Unit {0}
Small (h ∷ hs) = (h < 16) × Small hs
