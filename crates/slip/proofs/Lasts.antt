-- Where the newest frame for a node stands, it is what a take of the newest gives, and without it the others are left.
use Rattle.std.proofs.Common.{◌≡◌, ℕ, zero, suc, ◌<◌, Bool, true, false, cond, List, [], ◌∷◌, map, length, get_or, IfSome, Some, None, refl, ap, arith}
use Rattle.std.specs.List.{remove, slice_get}
use Rattle.elements.specs.declared.node.NodeNumber.{NodeNumber}
use Rattle.carrier.specs.declared.datagram.Datagram.{Datagram}
use Rattle.carrier.specs.Datagrams.{octets_in}
use Rattle.queue.specs.Lists.{is_for}
use Rattle.slip.specs.Lists.{Newest, any_for, last_for, without_last}

module _ (n : NodeNumber) where
  abbrev At : Bool → List Datagram → ℕ → Type 0
  At b xs i = IfSome (slice_get xs i) (λ d. is_for n (octets_in d) ≡ b)

  none_for : (xs : List Datagram) → ((k : ℕ) → At false xs k) → any_for n (map octets_in xs) ≡ false
  none_for [] f = refl
  none_for (y ∷ ys) f =
      let no : is_for n (octets_in y) ≡ false = f 0 in
      rw no (none_for ys (λ k. f (suc k)))

  any_by : (b r : Bool) → r ≡ true → cond b true r ≡ true
  any_by true r e = refl
  any_by false r e = e

  any_at : (i : ℕ) (xs : List Datagram) → i < length xs → At true xs i → any_for n (map octets_in xs) ≡ true
  any_at i [] l t = absurd (omega arith)
  any_at zero (y ∷ ys) l t = rw t refl
  any_at (suc i) (y ∷ ys) l t = any_by (is_for n (octets_in y)) (any_for n (map octets_in ys)) (any_at i ys (omega arith) t)

  found : (i : ℕ) (xs : List Datagram) (x : Datagram) → x ≡ get_or xs i x → i < length xs → At true xs i → ((k : ℕ) → i < k → At false xs k) → (Some (octets_in x) ≡ last_for n (map octets_in xs)) × (map octets_in (remove xs i) ≡ without_last n (map octets_in xs))
  found i [] x e l t f = absurd (omega arith)
  found zero (y ∷ ys) x e l t f =
      let rest = none_for ys (λ k. f (suc k) (omega arith)) in
      rw (rest, t) (ap (λ z. Some (octets_in z)) e, refl)
  found (suc i) (y ∷ ys) x e l t f =
      let r = found i ys x e (omega arith) t (λ k lt. f (suc k) (omega arith)) in
      let any = any_at i ys (omega arith) t in
      rw any (r.0, ap (λ gs. octets_in y ∷ gs) r.1)

  pub taken : (xs : List Datagram) (i : ℕ) (x : Datagram) → Newest n xs (Some i) → x ≡ get_or xs i x → (Some (octets_in x) ≡ last_for n (map octets_in xs)) × (map octets_in (remove xs i) ≡ without_last n (map octets_in xs))
  taken xs i x (l, t, f) e = found i xs x e l t f

  pub untaken : (xs : List Datagram) → Newest n xs None → (None ≡ last_for n (map octets_in xs)) × (map octets_in xs ≡ without_last n (map octets_in xs))
  untaken [] f = (refl, refl)
  untaken (y ∷ ys) f =
      let rest = none_for ys (λ k. f (suc k)) in
      let no : is_for n (octets_in y) ≡ false = f 0 in
      rw (rest, no) (refl, refl)
