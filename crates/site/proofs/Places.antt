-- One of several is changed, and the others stay.
use Rattle.std.proofs.Common.{◌≡◌, ℕ, zero, suc, ◌+◌, ◌<◌, Bool, true, false, not, cond, ◌||◌, List, [], ◌∷◌, ◌++◌, length, map, take, drop, get_or, set, Some, sym, refl, ap, subst, ◌∙◌, arith}
use Rattle.std.specs.List.{list_any, position, position_or_len}
use Rattle.std.proofs.lemmas.List.{get_or-map, map-set, set-get_or, set_split, get_or-set_same, length-map}
use Rattle.std.proofs.lemmas.List.Quantifiers.{position-Some}
use Rattle.std.proofs.lemmas.Option.{none-some}

module _ {X Y C : Type 0} (f : X → Y) (P : Y → C → Y → C → Type 0) (xs : List X) (i : ℕ) (o new : X) (c d : C) (lt : i < length xs) (makes : P (f (get_or xs i o)) c (f new) d) (x : Y) where
  before : get_or (map f xs) i x ≡ f (get_or xs i o)
  before = get_or-map f xs i o x lt

  after : get_or (map f (set xs i new)) i x ≡ f new
  after = ap (λ l. get_or l i x) (map-set f xs i new) ∙ get_or-set_same (map f xs) i (f new) x (omega (arith, lt, length-map xs f))

  pub one_changed : P (get_or (map f xs) i x) c (get_or (map f (set xs i new)) i x) d × (map f (set xs i new) ≡ set (map f xs) i (get_or (map f (set xs i new)) i x))
  one_changed = (subst (λ y. P y c (get_or (map f (set xs i new)) i x) d) (sym before) (subst (λ y. P (f (get_or xs i o)) c y d) (sym after) makes), map-set f xs i new ∙ ap (set (map f xs) i) (sym after))

-- a list, parted at one of its entries
pub parted : {Y : Type 0} (ys : List Y) (i : ℕ) (d : Y) → i < length ys → ys ≡ take i ys ++ get_or ys i d ∷ drop (suc i) ys
parted ys i d lt = sym (set-get_or ys i d) ∙ set_split ys i (get_or ys i d) lt

-- a test that looks at the image passes where it passes in the list of the images
pub position_map : {X Y : Type 0} (f : X → Y) (p : Y → Bool) (xs : List X) → position_or_len (λ x. p (f x)) xs ≡ position_or_len p (map f xs)
position_map f p [] = refl
position_map f p (x ∷ xs) = ap (λ n. cond (not (p (f x))) (1 + n) 0) (position_map f p xs)

-- where the first one passes
pub found_at : {Y : Type 0} (p : Y → Bool) (ys : List Y) (i : ℕ) → position p ys ≡ Some i → (i < length ys) × ((d : Y) → p (get_or ys i d) ≡ true)
found_at p [] i e = absurd (none-some i e)
found_at p (y ∷ ys) i e = ((position-Some p (y ∷ ys) i y e).0, λ d. (position-Some p (y ∷ ys) i d e).1)

-- where none passes, a test for any fails
pub none_any : {Y : Type 0} (p : Y → Bool) (ys : List Y) → ((i : ℕ) (d : Y) → i < length ys → p (get_or ys i d) ≡ false) → list_any p ys ≡ false
none_any p [] h = refl
none_any p (y ∷ ys) h = ap (λ b. b || list_any p ys) (h zero y (omega arith)) ∙ none_any p ys (λ i d lt. h (suc i) d (omega (arith, lt)))
