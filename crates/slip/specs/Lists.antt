-- What a take answers and leaves, by mode.
use Rattle.std.specs.Prelude.{◌≡◌, ℕ, ◌<◌, Bool, true, false, if◌then◌else◌, List, [], ◌∷◌, length, Some, None, Option, MatchOption, IfSome, slice_get}
use Rattle.elements.specs.declared.node.NodeNumber.{NodeNumber}
use Rattle.carrier.specs.declared.datagram.Datagram.{Datagram}
use Rattle.carrier.specs.Datagrams.{octets_in}
use Rattle.queue.specs.Lists.{is_for, first_for, without_first}
use Rattle.slip.specs.declared.script.Mode.{Mode}
use Rattle.slip.specs.declared.script.Mode.TheVariants.{GiveOldest, GiveNewest, GiveAndKeepOldest, LoseOldest}

-- is any of these for the node?
abbrev pub any_for : NodeNumber → List (List ℕ) → Bool
any_for n [] = false
any_for n (f ∷ fs) = if is_for n f then true else any_for n fs

abbrev pub last_for : NodeNumber → List (List ℕ) → Option (List ℕ)
last_for n [] = None
last_for n (f ∷ fs) = if any_for n fs then last_for n fs else if is_for n f then Some f else None

abbrev pub without_last : NodeNumber → List (List ℕ) → List (List ℕ)
without_last n [] = []
without_last n (f ∷ fs) = if any_for n fs then f ∷ without_last n fs else if is_for n f then fs else f ∷ fs

-- the newest frame for a node stands at r, or none does
abbrev pub Newest : NodeNumber → List Datagram → Option ℕ → Type 0
Newest n ds r = MatchOption r
    ((k : ℕ) → IfSome (slice_get ds k) (λ d. is_for n (octets_in d) ≡ false))
    (λ i. (i < length ds) × IfSome (slice_get ds i) (λ d. is_for n (octets_in d) ≡ true) × ((k : ℕ) → i < k → IfSome (slice_get ds k) (λ d. is_for n (octets_in d) ≡ false)))

abbrev pub answer_by : Mode → NodeNumber → List (List ℕ) → Option (List ℕ)
answer_by GiveOldest n fs = first_for n fs
answer_by GiveNewest n fs = last_for n fs
answer_by GiveAndKeepOldest n fs = first_for n fs
answer_by LoseOldest n fs = None

abbrev pub left_by : Mode → NodeNumber → List (List ℕ) → List (List ℕ)
left_by GiveOldest n fs = without_first n fs
left_by GiveNewest n fs = without_last n fs
left_by GiveAndKeepOldest n fs = fs
left_by LoseOldest n fs = without_first n fs
