-- Elements of a list at their places.
use Rattle.std.proofs.Common.{◌≡◌, ℕ, ◌<◌, ◌≤◌, Bool, false, List, length, get_or, set, None, arith}
use Rattle.std.specs.List.{refill, position, position_or_len}
use Rattle.std.proofs.lemmas.Grind.{common_steps}
use Rattle.std.proofs.lemmas.List.Sums.{fails_before_first}

-- one element written through a slice of all of them
pub written : {X : Type 0} (xs : List X) (i : ℕ) (y : X) → refill (length xs) xs (set xs i y) ≡ set xs i y
written xs i y = grind (arith, common_steps)

-- where no first one passes, none does
pub none_passes : {X : Type 0} (p : X → Bool) (xs : List X) → position p xs ≡ None → (i : ℕ) (d : X) → i < length xs → p (get_or xs i d) ≡ false
none_passes p xs at i d l =
    let past : length xs ≤ position_or_len p xs = grind (arith, common_steps) in
    fails_before_first p xs i d (omega arith)
