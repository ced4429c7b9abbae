-- The first slot that passes: what is read of it and written there, and what is so where there is none.
use Rattle.std.proofs.Common.{◌≡◌, ℕ, zero, suc, ◌<◌, ◌≤◌, Bool, true, false, cond, ltb, List, [], ◌∷◌, ◌++◌, length, get_or, set, Some, None, Option, refl, sym, ap, ◌∙◌, arith}
use Rattle.std.proofs.lemmas.Bool.{lt-ltb, le-ltb}
use Rattle.std.proofs.lemmas.List.Quantifiers.{position-Some}
use Rattle.elements.specs.declared.node.NodeNumber.{NodeNumber}
use Rattle.carrier.specs.declared.datagram.Datagram.{Datagram}
use Rattle.carrier.specs.declared.route.Route.{Route}
use Rattle.carrier.specs.Datagrams.{octets_in}
use Rattle.carrier.specs.Octets.{route_of}
use Rattle.carrier.proofs.Elements.{none_passes}
use Rattle.mailbox.specs.declared.slot.Slot.{Slot}
use Rattle.mailbox.specs.Model.{Takes}
use Rattle.mailbox.specs.Slots.{slot, held_by, is_of, pair_of, waits_for, any, place, first, change, distinct, renewed, emptied, noted}
use Rattle.mailbox.specs.Pairs.{distinct_same, emptied_keeps}

module _ (p : Slot → Bool) (g : Slot → Slot) where
  found : (i : ℕ) (es : List Slot) (x : Slot) → i < length es → p (get_or es i x) ≡ true → ((j : ℕ) → j < i → p (get_or es j x) ≡ false) → (any p es ≡ true) × (first p es ≡ Some (held_by (get_or es i x))) × (change p g es ≡ set es i (g (get_or es i x)))
  found i [] x l t f = absurd (omega arith)
  found zero (e ∷ es) x l t f = rw t (refl, refl, refl)
  found (suc i) (e ∷ es) x l t f =
      let r = found i es x (omega arith) t (λ j lt. f (suc j) (omega arith)) in
      let no : p e ≡ false = f 0 (omega arith) in
      rw no (r.0, r.1, ap (λ fs. e ∷ fs) r.2)

  missed : (es : List Slot) → ((j : ℕ) (x : Slot) → j < length es → p (get_or es j x) ≡ false) → (any p es ≡ false) × (first p es ≡ None) × (change p g es ≡ es)
  missed [] f = (refl, refl, refl)
  missed (e ∷ es) f =
      let r = missed es (λ j x lt. f (suc j) x (omega arith)) in
      let no : p e ≡ false = f 0 e (omega arith) in
      rw no (r.0, r.1, ap (λ fs. e ∷ fs) r.2)

  there : (es : List Slot) (i : ℕ) (x : Slot) → place p es ≡ Some i → (any p es ≡ true) × (first p es ≡ Some (held_by (get_or es i x))) × (change p g es ≡ set es i (g (get_or es i x)))
  there es i x at =
      let q = position-Some p es i x at in
      found i es x q.0 q.1 q.2

  nowhere : (es : List Slot) → place p es ≡ None → (any p es ≡ false) × (first p es ≡ None) × (change p g es ≡ es)
  nowhere es at = missed es (none_passes p es at)

module _ (d : Datagram) (es : List Slot) where
  -- the slot of its route is the one of its pair
  pub place_of : (r : Route) (s o : Option ℕ) → r ≡ route_of (octets_in d) → s ≡ place (is_of r.source r.destination) es → s ≡ o → place (pair_of (octets_in d)) es ≡ o
  place_of r s o e at is = ap (λ (q : Route). place (is_of q.source q.destination) es) (sym e) ∙ sym at ∙ is

  pub renews : (i : ℕ) (x : Slot) → place (pair_of (octets_in d)) es ≡ Some i → x ≡ get_or es i x → set es i (renewed d x) ≡ noted d es
  renews i x at is =
      let r = there (pair_of (octets_in d)) (renewed d) es i x at in
      let n : noted d es ≡ change (pair_of (octets_in d)) (renewed d) es = ap (λ b. cond b (change (pair_of (octets_in d)) (renewed d) es) (cond (ltb (length es) 16) (es ++ slot d 0 ∷ []) es)) r.0 in
      ap (λ e. set es i (renewed d e)) is ∙ sym (n ∙ r.2)

  unknown : place (pair_of (octets_in d)) es ≡ None → noted d es ≡ cond (ltb (length es) 16) (es ++ slot d 0 ∷ []) es
  unknown at = ap (λ b. cond b (change (pair_of (octets_in d)) (renewed d) es) (cond (ltb (length es) 16) (es ++ slot d 0 ∷ []) es)) (nowhere (pair_of (octets_in d)) (renewed d) es at).0

  pub adds_slot : place (pair_of (octets_in d)) es ≡ None → length es < 16 → es ++ slot d 0 ∷ [] ≡ noted d es
  adds_slot at l = sym (unknown at ∙ ap (λ b. cond b (es ++ slot d 0 ∷ []) es) (lt-ltb _ 16 l))

  pub loses : place (pair_of (octets_in d)) es ≡ None → 16 ≤ length es → es ≡ noted d es
  loses at l = sym (unknown at ∙ ap (λ b. cond b (es ++ slot d 0 ∷ []) es) (le-ltb _ 16 l))

module _ (n : NodeNumber) (es : List Slot) where
  module _ (i : ℕ) (x : Slot) (at : place (waits_for n) es ≡ Some i) (is : x ≡ get_or es i x) where
    emptied_there : set es i (emptied x) ≡ change (waits_for n) emptied es
    emptied_there = ap (λ e. set es i (emptied e)) is ∙ sym (there (waits_for n) emptied es i x at).2

    pub takes_first : Takes es n (Some (held_by x)) (set es i (emptied x))
    takes_first = (ap (λ e. Some (held_by e)) is ∙ sym (there (waits_for n) emptied es i x at).1, emptied_there)

    pub keeps_apart : distinct es ≡ true → distinct (set es i (emptied x)) ≡ true
    keeps_apart q = ap distinct emptied_there ∙ distinct_same (waits_for n) emptied (emptied_keeps n) es ∙ q

  pub takes_none : place (waits_for n) es ≡ None → Takes es n None es
  takes_none at = let r = nowhere (waits_for n) emptied es at in (sym r.1, sym r.2)
