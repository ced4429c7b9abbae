-- A list of which one element is changed: the one at a place, or the first that passes.
use Rattle.std.proofs.Common.{◌≡◌, ℕ, zero, suc, ◌<◌, ◌≤◌, Bool, true, false, ◌&&◌, List, [], ◌∷◌, map, length, get_or, set, take, slice_get, Some, None, sym, refl, ap, ◌∙◌, arith}
use Rattle.std.specs.List.{list_all, find, position, position_or_len}
use Rattle.std.proofs.lemmas.Bool.{cond-true, cond-false}
use Rattle.std.proofs.lemmas.Grind.{common_steps}
use Rattle.std.proofs.lemmas.List.Folds.{find_at}
use Rattle.std.proofs.lemmas.List.Quantifiers.{position-Some}
use Rattle.std.proofs.lemmas.Option.{slice_get_past}
use Rattle.sgsn.specs.Peers.{change_at, change_first}

module _ {X : Type 0} where
  -- a write of what the one there becomes
  pub set_changed : (f : X → X) (xs : List X) (i : ℕ) (d : X) → set xs i (f (get_or xs i d)) ≡ change_at i f xs
  set_changed f [] i d = refl
  set_changed f (x ∷ xs) zero d = refl
  set_changed f (x ∷ xs) (suc i) d = ap (λ t. x ∷ t) (set_changed f xs i d)

  pub take_changed : (n : ℕ) (f : X → X) (xs : List X) (i : ℕ) → take n (change_at i f xs) ≡ change_at i f (take n xs)
  take_changed zero f xs i = refl
  take_changed (suc n) f [] i = refl
  take_changed (suc n) f (x ∷ xs) zero = refl
  take_changed (suc n) f (x ∷ xs) (suc i) = ap (λ t. x ∷ t) (take_changed n f xs i)

  -- what a change keeps of each
  pub map_changed : {Y : Type 0} (h : X → Y) (f : X → X) → ((x : X) → h (f x) ≡ h x) → (xs : List X) (i : ℕ) → map h (change_at i f xs) ≡ map h xs
  map_changed h f keeps [] i = refl
  map_changed h f keeps (x ∷ xs) zero = ap (λ y. y ∷ map h xs) (keeps x)
  map_changed h f keeps (x ∷ xs) (suc i) = ap (λ t. h x ∷ t) (map_changed h f keeps xs i)

  pub all_changed : (t : X → Bool) (f : X → X) → ((x : X) → t (f x) ≡ t x) → (xs : List X) (i : ℕ) → list_all t (change_at i f xs) ≡ list_all t xs
  all_changed t f keeps [] i = refl
  all_changed t f keeps (x ∷ xs) zero = ap (λ b. b && list_all t xs) (keeps x)
  all_changed t f keeps (x ∷ xs) (suc i) = ap (λ b. t x && b) (all_changed t f keeps xs i)

  module _ (t : X → Bool) where
    pub found_at : (xs : List X) (i : ℕ) → position t xs ≡ Some i → find t xs ≡ slice_get xs i
    found_at xs i e = let same : position_or_len t xs ≡ i = grind (arith, common_steps) in find_at t xs ∙ ap (slice_get xs) same

    pub none_found : (xs : List X) → position t xs ≡ None → find t xs ≡ None
    none_found xs e = let past : length xs ≤ position_or_len t xs = grind (arith, common_steps) in find_at t xs ∙ slice_get_past xs (position_or_len t xs) past

    -- the one there passes, and none before it
    abbrev FirstAt : List X → ℕ → X → Type 0
    FirstAt xs i d = (i < length xs) × (t (get_or xs i d) ≡ true) × ((k : ℕ) → k < i → t (get_or xs k d) ≡ false)

    first_changed : (f g : X → X) (xs : List X) (i : ℕ) (d : X) → FirstAt xs i d → f (get_or xs i d) ≡ g (get_or xs i d) → change_at i f xs ≡ change_first t g xs
    first_changed f g [] i d p e = refl
    first_changed f g (x ∷ xs) zero d p e = ap (λ y. y ∷ xs) e ∙ sym (cond-true (t x) (g x ∷ xs) (x ∷ change_first t g xs) p.1)
    first_changed f g (x ∷ xs) (suc i) d p e =
        ap (λ l. x ∷ l) (first_changed f g xs i d (omega (arith, p.0), p.1, (λ k lt. p.2 (suc k) (omega arith))) e)
        ∙ sym (cond-false (t x) (g x ∷ xs) (x ∷ change_first t g xs) (p.2 zero (omega arith)))

    -- a change of the one there is the change of the first that passes, where both do the same to it
    pub changed_at : (f g : X → X) (xs : List X) (i : ℕ) (d : X) → position t xs ≡ Some i → f (get_or xs i d) ≡ g (get_or xs i d) → change_at i f xs ≡ change_first t g xs
    changed_at f g xs i d e same = first_changed f g xs i d (position-Some t xs i d e) same
