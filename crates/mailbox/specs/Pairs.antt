-- No two slots are of one pair: neither a put nor a take changes that.
use Rattle.std.specs.Prelude.{◌≡◌, ℕ, Bool, true, false, cond, ◌&&◌, List, [], ◌∷◌, ◌++◌, length, ◌==◌, nat_lt, refl}
use Rattle.std.proofs.Common.{sym, ap, ◌∙◌, ⊎_elim}
use Rattle.std.proofs.lemmas.Bool.{eqb-true, eqb-false, eq-eqb, ne_eqb, and_parts, cases_Bool, false≢true, true≢false}
use Rattle.elements.specs.declared.node.NodeNumber.{NodeNumber}
use Rattle.elements.specs.Nodes.{same_node}
use Rattle.carrier.specs.declared.datagram.Datagram.{Datagram}
use Rattle.carrier.specs.Datagrams.{octets_in}
use Rattle.carrier.specs.Nodes.{same_node_lem}
use Rattle.carrier.specs.Octets.{source_of, destination_of, stamp_of}
use Rattle.mailbox.specs.declared.slot.Slot.{Slot}
use Rattle.mailbox.specs.Slots.{slot, held_by, is_of, pair_of, waits_for, any, change, distinct, renewed, emptied, noted}

-- of one pair
abbrev pub Same : Slot → Slot → Type 0
Same e f = (source_of (held_by e) ≡ source_of (held_by f)) × (destination_of (held_by e) ≡ destination_of (held_by f))

pub is_same : (a b : NodeNumber) (e f : Slot) → Same e f → is_of a b e ≡ is_of a b f
is_same a b e f (p, q) = ap (λ z. same_node z a && same_node (destination_of (held_by e)) b) p ∙ ap (λ z. same_node (source_of (held_by f)) a && same_node z b) q

of_same : (es : List Slot) (e f : Slot) → Same e f → any (pair_of (held_by e)) es ≡ any (pair_of (held_by f)) es
of_same es e f (p, q) = ap (λ z. any (is_of z (destination_of (held_by e))) es) p ∙ ap (λ z. any (is_of (source_of (held_by f)) z) es) q

-- one slot changed that stays of its pair
module _ (p : Slot → Bool) (g : Slot → Slot) (keeps : (e : Slot) → p e ≡ true → Same (g e) e) where
  any_by : (c : Bool) (a b : NodeNumber) (e : Slot) (es : List Slot) → p e ≡ c → any (is_of a b) (change p g es) ≡ any (is_of a b) es → any (is_of a b) (cond c (g e ∷ es) (e ∷ change p g es)) ≡ any (is_of a b) (e ∷ es)
  any_by true a b e es t rest = ap (λ z. cond z true (any (is_of a b) es)) (is_same a b (g e) e (keeps e t))
  any_by false a b e es t rest = ap (λ z. cond (is_of a b e) true z) rest

  any_same : (a b : NodeNumber) (es : List Slot) → any (is_of a b) (change p g es) ≡ any (is_of a b) es
  any_same a b [] = refl
  any_same a b (e ∷ es) = any_by (p e) a b e es refl (any_same a b es)

  distinct_by : (c : Bool) (e : Slot) (es : List Slot) → p e ≡ c → distinct (change p g es) ≡ distinct es → distinct (cond c (g e ∷ es) (e ∷ change p g es)) ≡ distinct (e ∷ es)
  distinct_by true e es t rest = ap (λ z. cond z false (distinct es)) (of_same es (g e) e (keeps e t))
  distinct_by false e es t rest = ap (λ z. cond z false (distinct (change p g es))) (any_same (source_of (held_by e)) (destination_of (held_by e)) es) ∙ ap (λ z. cond (any (pair_of (held_by e)) es) false z) rest

  pub distinct_same : (es : List Slot) → distinct (change p g es) ≡ distinct es
  distinct_same [] = refl
  distinct_same (e ∷ es) = distinct_by (p e) e es refl (distinct_same es)

pub emptied_keeps : (n : NodeNumber) (e : Slot) → waits_for n e ≡ true → Same (emptied e) e
emptied_keeps n e t = (refl, refl)

renewed_by : (c : Bool) (d : Datagram) (e : Slot) → pair_of (octets_in d) e ≡ true → Same (cond c (slot d e.given) e) e × ((cond c (slot d e.given) e).given ≡ e.given)
renewed_by true d e t = let a = and_parts _ _ t in ((sym (same_node_lem _ _ a.0), sym (same_node_lem _ _ a.1)), refl)
renewed_by false d e t = ((refl, refl), refl)

pub renewed_keeps : (d : Datagram) (e : Slot) → pair_of (octets_in d) e ≡ true → Same (renewed d e) e × ((renewed d e).given ≡ e.given)
renewed_keeps d e t = renewed_by (nat_lt (stamp_of (held_by e)) (stamp_of (octets_in d))) d e t

-- a slot of a new pair behind them
eqb_swap : (a b : ℕ) → (a == b) ≡ (b == a)
eqb_swap a b =
    ⊎_elim
    (λ t. t ∙ sym (eq-eqb b a (sym (eqb-true a b t))))
    (λ f. f ∙ sym (ne_eqb b a (λ e. eqb-false a b f (sym e))))
    (cases_Bool (a == b))

swapped : (a b c d : ℕ) (t : (a == c && b == d) ≡ false) → (c == a && d == b) ≡ false
swapped a b c d t = ap (λ x. x && (d == b)) (eqb_swap c a) ∙ ap (λ x. (a == c) && x) (eqb_swap d b) ∙ t

any_more : (a b : NodeNumber) (x : Slot) (es : List Slot) → is_of a b x ≡ false → any (is_of a b) (es ++ x ∷ []) ≡ any (is_of a b) es
any_more a b x [] n = ap (λ z. cond z true false) n
any_more a b x (e ∷ es) n = ap (λ z. cond (is_of a b e) true z) (any_more a b x es n)

new_by : (b c : Bool) (x e : Slot) (es : List Slot) → pair_of (held_by x) e ≡ b → any (pair_of (held_by e)) es ≡ c → cond b true (any (pair_of (held_by x)) es) ≡ false → cond c false (distinct es) ≡ true → (any (pair_of (held_by x)) es ≡ false → distinct es ≡ true → distinct (es ++ x ∷ []) ≡ true) → distinct (e ∷ es ++ x ∷ []) ≡ true
new_by true c x e es t u n q rest = absurd (true≢false n)
new_by false true x e es t u n q rest = absurd (false≢true q)
new_by false false x e es t u n q rest =
    let a = source_of (held_by e) in
    let b = destination_of (held_by e) in
    let k : is_of a b x ≡ false = swapped a.number b.number (source_of (held_by x)).number (destination_of (held_by x)).number t in
    ap (λ z. cond z false (distinct (es ++ x ∷ []))) (any_more a b x es k ∙ u) ∙ rest n q

new_distinct : (x : Slot) (es : List Slot) → any (pair_of (held_by x)) es ≡ false → distinct es ≡ true → distinct (es ++ x ∷ []) ≡ true
new_distinct x [] n q = refl
new_distinct x (e ∷ es) n q = new_by (pair_of (held_by x) e) (any (pair_of (held_by e)) es) x e es refl refl n q (new_distinct x es)

noted_by : (b c : Bool) (d : Datagram) (es : List Slot) → any (pair_of (octets_in d)) es ≡ b → distinct es ≡ true → distinct (cond b (change (pair_of (octets_in d)) (renewed d) es) (cond c (es ++ slot d 0 ∷ []) es)) ≡ true
noted_by true c d es t q = distinct_same (pair_of (octets_in d)) (renewed d) (λ e u. (renewed_keeps d e u).0) es ∙ q
noted_by false true d es t q = new_distinct (slot d 0) es t q
noted_by false false d es t q = q

pub noted_distinct : (d : Datagram) (es : List Slot) → distinct es ≡ true → distinct (noted d es) ≡ true
noted_distinct d es q = noted_by (any (pair_of (octets_in d)) es) (nat_lt (length es) 16) d es refl q
