-- Where the first frame for a node stands, it is what a take gives, and without it the others are left.
use Rattle.std.proofs.Common.{◌≡◌, ℕ, zero, suc, ◌<◌, Bool, true, false, List, [], ◌∷◌, map, length, get_or, Some, None, refl, ap, ◌∙◌, arith}
use Rattle.std.specs.List.{remove}
use Rattle.std.proofs.lemmas.List.Quantifiers.{position-Some}
use Rattle.elements.specs.declared.node.NodeNumber.{NodeNumber}
use Rattle.carrier.specs.declared.datagram.Datagram.{Datagram}
use Rattle.carrier.specs.Datagrams.{octets_in}
use Rattle.carrier.proofs.Elements.{none_passes}
use Rattle.queue.specs.Lists.{is_for, place, first_for, without_first}

module _ (n : NodeNumber) where
  abbrev mine : Datagram → Bool
  mine d = is_for n (octets_in d)

  found : (i : ℕ) (xs : List Datagram) (x : Datagram) → i < length xs → mine (get_or xs i x) ≡ true → ((k : ℕ) → k < i → mine (get_or xs k x) ≡ false) → (Some (octets_in (get_or xs i x)) ≡ first_for n (map octets_in xs)) × (map octets_in (remove xs i) ≡ without_first n (map octets_in xs))
  found i [] x l t f = absurd (omega arith)
  found zero (y ∷ ys) x l t f = rw t (refl, refl)
  found (suc i) (y ∷ ys) x l t f =
      let r = found i ys x (omega arith) t (λ k lt. f (suc k) (omega arith)) in
      let no : mine y ≡ false = f 0 (omega arith) in
      rw no (r.0, ap (λ gs. octets_in y ∷ gs) r.1)

  missed : (xs : List Datagram) → ((k : ℕ) (d : Datagram) → k < length xs → mine (get_or xs k d) ≡ false) → (None ≡ first_for n (map octets_in xs)) × (map octets_in xs ≡ without_first n (map octets_in xs))
  missed [] f = (refl, refl)
  missed (y ∷ ys) f =
      let r = missed ys (λ k d lt. f (suc k) d (omega arith)) in
      let no : mine y ≡ false = f 0 y (omega arith) in
      rw no (r.0, ap (λ gs. octets_in y ∷ gs) r.1)

  pub taken : (xs : List Datagram) (i : ℕ) (x : Datagram) → place n xs ≡ Some i → x ≡ get_or xs i x → (Some (octets_in x) ≡ first_for n (map octets_in xs)) × (map octets_in (remove xs i) ≡ without_first n (map octets_in xs))
  taken xs i x at is =
      let p = position-Some mine xs i x at in
      let r = found i xs x p.0 p.1 p.2 in
      (ap (λ y. Some (octets_in y)) is ∙ r.0, r.1)

  pub untaken : (xs : List Datagram) → place n xs ≡ None → (None ≡ first_for n (map octets_in xs)) × (map octets_in xs ≡ without_first n (map octets_in xs))
  untaken xs at = missed xs (none_passes mine xs at)
