-- The row of a route: what is known of it where it stands, and where there is none.
use Rattle.std.proofs.Common.{◌≡◌, ℕ, zero, suc, ◌<◌, ◌≤◌, Bool, true, false, ◌&&◌, ltb, List, [], ◌∷◌, ◌++◌, length, get_or, take, set, if◌then◌else◌, Some, None, refl, ap, sym, ◌∙◌, subst, arith, length-take-le, get_or-take}
use lib.Seq.{take-set-lt}
use Rattle.std.proofs.lemmas.Bool.{lt-ltb}
use Rattle.std.proofs.lemmas.List.Quantifiers.{position-Some}
use Rattle.elements.specs.declared.node.NodeNumber.{NodeNumber}
use Rattle.carrier.proofs.Elements.{none_passes}
use Rattle.gate.specs.declared.pairs.Pair.{Pair}
use Rattle.gate.specs.Rows.{is_of, row, spot, last_given_in, known, fresh, noted}

-- the row that is read where there is none
abbrev pub blank : Pair
blank = row (record { number = 0 }) (record { number = 0 }) 0

and_true : (b : Bool) → b ≡ (b && true)
and_true true = refl
and_true false = refl

module _ (a b : NodeNumber) (k : ℕ) where
  found : (i : ℕ) (ps : List Pair) (d : Pair) → i < length ps → is_of a b (get_or ps i d) ≡ true → ((j : ℕ) → j < i → is_of a b (get_or ps j d) ≡ false) → (known ps a b ≡ true) × (last_given_in ps a b ≡ (get_or ps i d).stamp) × (noted ps a b k ≡ set ps i (row a b k))
  found i [] d l t f = absurd (omega arith)
  found zero (p ∷ ps) d l t f = rw t (refl, refl, refl)
  found (suc i) (p ∷ ps) d l t f =
      let r = found i ps d (omega arith) t (λ j lt. f (suc j) (omega arith)) in
      let no : is_of a b p ≡ false = f 0 (omega arith) in
      rw no (r.0, r.1, ap (λ qs. p ∷ qs) r.2)

  missed : (ps : List Pair) → ((j : ℕ) (d : Pair) → j < length ps → is_of a b (get_or ps j d) ≡ false) → (known ps a b ≡ false) × (last_given_in ps a b ≡ 0) × (noted ps a b k ≡ ps ++ row a b k ∷ [])
  missed [] f = (refl, refl, refl)
  missed (p ∷ ps) f =
      let r = missed ps (λ j d lt. f (suc j) d (omega arith)) in
      let no : is_of a b p ≡ false = f 0 p (omega arith) in
      rw no (r.0, r.1, ap (λ qs. p ∷ qs) r.2)

  known_row : (ps : List Pair) (i : ℕ) → spot a b ps ≡ Some i → (ltb (get_or ps i blank).stamp k ≡ fresh ps a b k) × (set ps i (row a b k) ≡ noted ps a b k)
  known_row ps i at =
      let p = position-Some (is_of a b) ps i blank at in
      let r = found i ps blank p.0 p.1 p.2 in
      (rw (r.0, r.1) (and_true _), sym r.2)

  -- the same of the first n of some rows
  pub row_in_front : (rows : List Pair) (n i : ℕ) → n ≤ length rows → spot a b (take n rows) ≡ Some i → (ltb (get_or rows i blank).stamp k ≡ fresh (take n rows) a b k) × (take n (set rows i (row a b k)) ≡ noted (take n rows) a b k)
  row_in_front rows n i le at =
      let ps = take n rows in
      let p = position-Some (is_of a b) ps i blank at in
      let small : i < n = subst (λ l. i < l) (length-take-le n rows le) p.0 in
      let r = known_row ps i at in
      (ap (λ q. ltb q.stamp k) (sym (get_or-take n rows i blank small)) ∙ r.0, take-set-lt n rows i (row a b k) small ∙ r.1)

  -- t says whether a new row found room
  pub new_row : (t : Bool) (ps qs : List Pair) → spot a b ps ≡ None → 0 < k → ltb (length ps) 16 ≡ t → (t ≡ true → qs ≡ ps ++ row a b k ∷ []) → (t ≡ false → qs ≡ ps) → (t ≡ fresh ps a b k) × (qs ≡ (if t then noted ps a b k else ps))
  new_row true ps qs at p l y n = let r = missed ps (none_passes (is_of a b) ps at) in (rw (r.0, r.1, l, lt-ltb 0 k p) refl, y refl ∙ sym r.2)
  new_row false ps qs at p l y n = let r = missed ps (none_passes (is_of a b) ps at) in (rw (r.0, r.1, l, lt-ltb 0 k p) refl, n refl)
