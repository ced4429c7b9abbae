-- A test that every record passes: of one of them, and after a store and a change of each.
use Rattle.std.proofs.Common.{◌≡◌, Bool, true, List, [], ◌∷◌, map, Some, refl, arith}
use Rattle.std.proofs.lemmas.Bool.{and_parts, and_from}
use Rattle.std.proofs.lemmas.Bool.Decides.{nat_tests}
use Rattle.std.proofs.lemmas.Option.{none-some}
use Rattle.std.specs.List.{list_all}
use Rattle.imsi.specs.declared.Imsi.{Imsi}
use Rattle.directory.specs.Lookup.{at, stored}

pub all_at : {R : Type 0} (w : R → Imsi) (p : R → Bool) (xs : List R) (i : Imsi) (r : R) → list_all p xs ≡ true → at w xs i ≡ Some r → p r ≡ true
all_at w p [] i r f e = absurd (none-some r e)
all_at w p (x ∷ xs) i r f e = grind (arith, nat_tests, all_at w p xs i r)

pub all_stored : {R : Type 0} (w : R → Imsi) (p : R → Bool) (r : R) (xs : List R) → list_all p xs ≡ true → p r ≡ true → list_all p (stored w r xs) ≡ true
all_stored w p r [] f g = and_from _ _ g refl
all_stored w p r (x ∷ xs) f g = grind (arith, nat_tests, all_stored w p r xs)

pub all_map : {R : Type 0} (p : R → Bool) (f : R → R) (xs : List R) → ((r : R) → p r ≡ true → p (f r) ≡ true) → list_all p xs ≡ true → list_all p (map f xs) ≡ true
all_map p f [] keeps g = refl
all_map p f (x ∷ xs) keeps g =
    let parts = and_parts (p x) (list_all p xs) g in
    and_from _ _ (keeps x parts.0) (all_map p f xs keeps parts.1)
