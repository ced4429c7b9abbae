-- The stamps last given: a put leaves them, and a take moves that of the pair of what it gives.
use Rattle.std.specs.Prelude.{◌≡◌, ℕ, ◌<◌, Bool, true, false, cond, ◌&&◌, List, [], ◌∷◌, ◌++◌, length, Some, None, Option, ◌≢◌, nat_lt, refl}
use Rattle.std.proofs.Common.{sym, ap, subst, ◌∙◌, ⊎_elim}
use Rattle.std.proofs.lemmas.Bool.{ltb-true, and_parts, and_from, cases_Bool, false≢true}
use Rattle.std.proofs.lemmas.Option.{none-some, same_Some}
use Rattle.elements.specs.declared.node.NodeNumber.{NodeNumber}
use Rattle.elements.specs.Nodes.{same_node}
use Rattle.carrier.specs.declared.datagram.Datagram.{Datagram}
use Rattle.carrier.specs.Datagrams.{octets_in}
use Rattle.carrier.specs.Octets.{source_of, destination_of, stamp_of}
use Rattle.carrier.specs.Order.{Still, Moves}
use Rattle.mailbox.specs.declared.slot.Slot.{Slot}
use Rattle.mailbox.specs.Model.{arrived, Puts, Takes}
use Rattle.mailbox.specs.Slots.{slot, held_by, is_of, pair_of, waits_for, any, first, change, distinct, last_given_in, renewed, emptied}
use Rattle.carrier.specs.Nodes.{same_node_lem, own_node}
use Rattle.mailbox.specs.Pairs.{is_same, renewed_keeps}

-- a put gives nothing
changed_by : (c : Bool) (d : Datagram) (a b : NodeNumber) (e : Slot) (es : List Slot) → pair_of (octets_in d) e ≡ c → last_given_in (change (pair_of (octets_in d)) (renewed d) es) a b ≡ last_given_in es a b → last_given_in (cond c (renewed d e ∷ es) (e ∷ change (pair_of (octets_in d)) (renewed d) es)) a b ≡ last_given_in (e ∷ es) a b
changed_by true d a b e es t rest =
    let k = renewed_keeps d e t in
    ap (λ z. cond z (renewed d e).given (last_given_in es a b)) (is_same a b (renewed d e) e k.0) ∙ ap (λ z. cond (is_of a b e) z (last_given_in es a b)) k.1
changed_by false d a b e es t rest = ap (λ z. cond (is_of a b e) e.given z) rest

changed : (d : Datagram) (a b : NodeNumber) (es : List Slot) → last_given_in (change (pair_of (octets_in d)) (renewed d) es) a b ≡ last_given_in es a b
changed d a b [] = refl
changed d a b (e ∷ es) = changed_by (pair_of (octets_in d) e) d a b e es refl (changed d a b es)

none_by : (b : Bool) → ◌≡◌ {A = ℕ} (cond b 0 0) 0
none_by true = refl
none_by false = refl

pushed : (d : Datagram) (a b : NodeNumber) (es : List Slot) → last_given_in (es ++ slot d 0 ∷ []) a b ≡ last_given_in es a b
pushed d a b [] = none_by (is_of a b (slot d 0))
pushed d a b (e ∷ es) = ap (λ z. cond (is_of a b e) e.given z) (pushed d a b es)

noted_by : (b c : Bool) (d : Datagram) (es : List Slot) → Still (last_given_in es) (last_given_in (cond b (change (pair_of (octets_in d)) (renewed d) es) (cond c (es ++ slot d 0 ∷ []) es)))
noted_by true c d es u v = changed d u v es
noted_by false true d es u v = pushed d u v es
noted_by false false d es u v = refl

arrived_still : (r : Option Datagram) (es : List Slot) → Still (last_given_in es) (last_given_in (arrived r es))
arrived_still None es u v = refl
arrived_still (Some d) es u v = noted_by (any (pair_of (octets_in d)) es) (nat_lt (length es) 16) d es u v

pub still : (es fs : List Slot) (o : List ℕ) → Puts es o fs → Still (last_given_in es) (last_given_in fs)
still es fs o (r, e, q) u v = ap (λ z. last_given_in z u v) q ∙ arrived_still r es u v

-- a slot is of its own pair, and of no other
is_own : (e : Slot) → pair_of (held_by e) e ≡ true
is_own e = and_from _ _ (own_node (source_of (held_by e))) (own_node (destination_of (held_by e)))

is_other : (a b u v : NodeNumber) → (u ≡ a → v ≢ b) → (same_node a u && same_node b v) ≡ false
is_other a b u v ne = ⊎_elim (λ t. let p = and_parts (same_node a u) (same_node b v) t in absurd (ne (sym (same_node_lem a u p.0)) (sym (same_node_lem b v p.1)))) (λ f. f) (cases_Bool (same_node a u && same_node b v))

any_behind : (b r : Bool) → r ≡ true → cond b true r ≡ true
any_behind true r t = refl
any_behind false r t = t

-- what is found is of a pair that is there
first_by : (b : Bool) (p : Slot → Bool) (e : Slot) (es : List Slot) (f : List ℕ) → (Some f ≡ first p es → any (pair_of f) es ≡ true) → Some f ≡ cond b (Some (held_by e)) (first p es) → any (pair_of f) (e ∷ es) ≡ true
first_by true p e es f rest q =
    let s = same_Some f (held_by e) q in
    subst (λ z. any (pair_of z) (e ∷ es) ≡ true) (sym s) (ap (λ b. cond b true (any (pair_of (held_by e)) es)) (is_own e))
first_by false p e es f rest q = any_behind (pair_of f e) (any (pair_of f) es) (rest q)

first_there : (p : Slot → Bool) (es : List Slot) (f : List ℕ) → Some f ≡ first p es → any (pair_of f) es ≡ true
first_there p [] f q = absurd (none-some f (sym q))
first_there p (e ∷ es) f q = first_by (p e) p e es f (first_there p es f) q

apart_by : (b : Bool) (e : Slot) (es : List Slot) (f : List ℕ) → pair_of f e ≡ b → any (pair_of f) es ≡ true → any (pair_of (held_by e)) es ≡ false → b ≡ false
apart_by true e es f t y n =
    let a = and_parts _ _ t in
    let s : any (pair_of (held_by e)) es ≡ any (pair_of f) es = ap (λ z. any (is_of z (destination_of (held_by e))) es) (same_node_lem _ _ a.0) ∙ ap (λ z. any (is_of (source_of f) z) es) (same_node_lem _ _ a.1) in
    sym y ∙ sym s ∙ n
apart_by false e es f t y n = refl

-- a take moves the pair of what it gives
abbrev Given : List Slot → NodeNumber → List ℕ → Type 0
Given es n f = Some f ≡ first (waits_for n) es → distinct es ≡ true → Moves (last_given_in es) (Some f) (last_given_in (change (waits_for n) emptied es))

given_by : (b c : Bool) (n : NodeNumber) (e : Slot) (es : List Slot) (f : List ℕ) → waits_for n e ≡ b → any (pair_of (held_by e)) es ≡ c → Given es n f → Some f ≡ cond b (Some (held_by e)) (first (waits_for n) es) → cond c false (distinct es) ≡ true → Moves (last_given_in (e ∷ es)) (Some f) (last_given_in (cond b (emptied e ∷ es) (e ∷ change (waits_for n) emptied es)))
given_by b true n e es f t u rest q w = absurd (false≢true w)
given_by true false n e es f t u rest q w =
    let s = same_Some f (held_by e) q in
    let a = and_parts _ _ t in
    let o = held_by e in
    let m : Moves (last_given_in (e ∷ es)) (Some o) (last_given_in (emptied e ∷ es)) = (
      subst (λ b. cond b e.given (last_given_in es (source_of o) (destination_of o)) < stamp_of o) (sym (is_own e)) (ltb-true _ _ a.1),
      ap (λ b. cond b (stamp_of o) (last_given_in es (source_of o) (destination_of o))) (is_own e),
      λ x y ne. let k : is_of x y e ≡ false = is_other _ _ x y ne in ap (λ b. cond b (stamp_of o) (last_given_in es x y)) k ∙ sym (ap (λ b. cond b e.given (last_given_in es x y)) k),
    ) in
    subst (λ g. Moves (last_given_in (e ∷ es)) (Some g) (last_given_in (emptied e ∷ es))) (sym s) m
given_by false false n e es f t u rest q w =
    let m = rest q w in
    let k : pair_of f e ≡ false = apart_by (pair_of f e) e es f refl (first_there (waits_for n) es f q) u in (
      subst (λ b. cond b e.given (last_given_in es (source_of f) (destination_of f)) < stamp_of f) (sym k) m.0,
      ap (λ b. cond b e.given (last_given_in (change (waits_for n) emptied es) (source_of f) (destination_of f))) k ∙ m.1,
      λ x y ne. ap (λ z. cond (is_of x y e) e.given z) (m.2 x y ne),
    )

gave : (es : List Slot) (n : NodeNumber) (f : List ℕ) → Given es n f
gave [] n f q w = absurd (none-some f (sym q))
gave (e ∷ es) n f q w = given_by (waits_for n e) (any (pair_of (held_by e)) es) n e es f refl refl (gave es n f) q w

none_left_by : (b : Bool) (n : NodeNumber) (e : Slot) (es : List Slot) → (None ≡ first (waits_for n) es → change (waits_for n) emptied es ≡ es) → None ≡ cond b (Some (held_by e)) (first (waits_for n) es) → cond b (emptied e ∷ es) (e ∷ change (waits_for n) emptied es) ≡ e ∷ es
none_left_by true n e es rest q = absurd (none-some (held_by e) q)
none_left_by false n e es rest q = ap (λ z. e ∷ z) (rest q)

none_left : (n : NodeNumber) (es : List Slot) → None ≡ first (waits_for n) es → change (waits_for n) emptied es ≡ es
none_left n [] q = refl
none_left n (e ∷ es) q = none_left_by (waits_for n e) n e es (none_left n es) q

pub moves : (es fs : List Slot) (n : NodeNumber) (r : Option (List ℕ)) → distinct es ≡ true → Takes es n r fs → Moves (last_given_in es) r (last_given_in fs)
moves es fs n None w (q, t) = λ u v. ap (λ z. last_given_in z u v) (t ∙ none_left n es q)
moves es fs n (Some f) w (q, t) = subst (λ z. Moves (last_given_in es) (Some f) (last_given_in z)) (sym t) (gave es n f q w)
