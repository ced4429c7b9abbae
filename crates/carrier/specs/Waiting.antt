-- What waits in a carrier: after a put nothing but what waited and that frame, after a take nothing new.
use Rattle.std.specs.Prelude.{◌≡◌, ℕ, ◌≤◌, ◌⊎◌, List, [], ◌∷◌, length, Some, None, Option}
use Rattle.elements.specs.declared.node.NodeNumber.{NodeNumber}
use Rattle.carrier.specs.Octets.{destination_of}

abbrev pub In : List ℕ → List (List ℕ) → Type 0
In x [] = ⊥
In x (y ∷ ys) = (x ≡ y) ⊎ In x ys

-- nothing waits
abbrev pub Empty : List (List ℕ) → Type 0
Empty waiting = waiting ≡ []

-- 11 to 64 octets
abbrev pub Sized : List ℕ → Type 0
Sized f = (11 ≤ length f) × (length f ≤ 64)

-- after a put of f
abbrev pub Adds : List (List ℕ) → List ℕ → List (List ℕ) → Type 0
Adds before f after = (x : List ℕ) → In x after → In x before ⊎ ((x ≡ f) × Sized f)

-- what a take for a node answers waited, and is destined for it
abbrev pub Gives : List (List ℕ) → NodeNumber → Option (List ℕ) → Type 0
Gives before n None = Unit {0}
Gives before n (Some f) = In f before × (destination_of f ≡ n)

-- nothing new waits
abbrev pub Leaves : List (List ℕ) → List (List ℕ) → Type 0
Leaves before after = (x : List ℕ) → In x after → In x before
