-- What the gate gives moves its pair's latest stamp up to its own, and no other's.
use Rattle.std.specs.Prelude.{◌≡◌, ℕ, Bool, true, false, cond, ◌⊎◌, List, [], ◌∷◌, Some, None, Ok, Err, Option, Result, ◌≢◌, refl}
use Rattle.std.proofs.Common.{sym, ap, subst, ◌∙◌, inl, inr, ⊎_elim}
use Rattle.std.proofs.lemmas.Bool.{ltb-true, and_from, and_parts, cases_Bool}
use Rattle.elements.specs.declared.fault.Fault.{Fault}
use Rattle.elements.specs.declared.node.NodeNumber.{NodeNumber}
use Rattle.elements.specs.Nodes.{same_node}
use Rattle.elements.proofs.Chains.{then_ok, same_ok}
use Rattle.messages.specs.Reading.{message_at}
use Rattle.frames.specs.declared.frame.Frame.{Frame}
use Rattle.frames.specs.Format.{frame_in, header_read}
use Rattle.frames.proofs.Headers.{header_read_lem}
use Rattle.carrier.specs.Octets.{source_of, destination_of, stamp_of}
use Rattle.carrier.specs.Nodes.{same_node_lem, own_node}
use Rattle.carrier.specs.Order.{Moves}
use Rattle.gate.specs.declared.pairs.Pair.{Pair}
use Rattle.gate.specs.Passing.{Heard, Passed}
use Rattle.gate.specs.Rows.{is_of, row, last_given_in, fresh, noted}

is_own : (a b : NodeNumber) (k : ℕ) → is_of a b (row a b k) ≡ true
is_own a b k = and_from _ _ (own_node a) (own_node b)

-- the pair's own latest stamp is the new one
own_by : (t : Bool) (a b : NodeNumber) (k : ℕ) (p : Pair) (ps : List Pair) → is_of a b p ≡ t → last_given_in (noted ps a b k) a b ≡ k → last_given_in (cond t (row a b k ∷ ps) (p ∷ noted ps a b k)) a b ≡ k
own_by true a b k p ps t rest = ap (λ c. cond c k (last_given_in ps a b)) (is_own a b k)
own_by false a b k p ps t rest = ap (λ c. cond c p.stamp (last_given_in (noted ps a b k) a b)) t ∙ rest

own : (a b : NodeNumber) (k : ℕ) (ps : List Pair) → last_given_in (noted ps a b k) a b ≡ k
own a b k [] = ap (λ c. cond c k 0) (is_own a b k)
own a b k (p ∷ ps) = own_by (is_of a b p) a b k p ps refl (own a b k ps)

-- a row that is of a to b is of no other pair
not_both : (a b u v : NodeNumber) (p : Pair) → is_of a b p ≡ true → (u ≡ a → v ≢ b) → is_of u v p ≡ false
not_both a b u v p t ne =
    let x = and_parts (same_node p.route.source a) (same_node p.route.destination b) t in
    ⊎_elim
    (λ o.
    let y = and_parts (same_node p.route.source u) (same_node p.route.destination v) o in
    absurd (ne (sym (same_node_lem p.route.source u y.0) ∙ same_node_lem p.route.source a x.0) (sym (same_node_lem p.route.destination v y.1) ∙ same_node_lem p.route.destination b x.1)))
    (λ f. f)
    (cases_Bool (is_of u v p))

other_by : (t : Bool) (a b : NodeNumber) (k : ℕ) (u v : NodeNumber) (p : Pair) (ps : List Pair) → is_of a b p ≡ t → (u ≡ a → v ≢ b) → last_given_in (noted ps a b k) u v ≡ last_given_in ps u v → last_given_in (cond t (row a b k ∷ ps) (p ∷ noted ps a b k)) u v ≡ last_given_in (p ∷ ps) u v
other_by true a b k u v p ps t ne rest = ap (λ c. cond c k (last_given_in ps u v)) (not_both a b u v (row a b k) (is_own a b k) ne) ∙ sym (ap (λ c. cond c p.stamp (last_given_in ps u v)) (not_both a b u v p t ne))
other_by false a b k u v p ps t ne rest = ap (λ l. cond (is_of u v p) p.stamp l) rest

other : (a b : NodeNumber) (k : ℕ) (u v : NodeNumber) (ps : List Pair) → (u ≡ a → v ≢ b) → last_given_in (noted ps a b k) u v ≡ last_given_in ps u v
other a b k u v [] ne = ap (λ c. cond c k 0) (not_both a b u v (row a b k) (is_own a b k) ne)
other a b k u v (p ∷ ps) ne = other_by (is_of a b p) a b k u v p ps refl ne (other a b k u v ps ne)

-- what a frame says in front is what stands in its octets
pub record Front (o : List ℕ) (f : Frame) : Type 0 where
  pub source : source_of o ≡ f.source
  pub destination : destination_of o ≡ f.destination
  pub stamp : stamp_of o ≡ f.stamp

pub front : (o : List ℕ) (f : Frame) → frame_in o ≡ Ok f → Front o f
front o f r =
    let a = then_ok (header_read o) _ f r in
    let h = header_read_lem o a.0 a.1 in
    let b = then_ok (message_at o 10) _ f a.2 in
    let is = same_ok _ f b.2 in
    record {
      source = ap (λ x. x.source) h.is ∙ ap (λ (x : Frame). x.source) is;
      destination = ap (λ x. x.destination) h.is ∙ ap (λ (x : Frame). x.destination) is;
      stamp = ap (λ x. x.stamp) h.is ∙ ap (λ (x : Frame). x.stamp) is;
    }

still : (ps qs : List Pair) (r : Option (List ℕ)) → r ≡ None → qs ≡ ps → Moves (last_given_in ps) r (last_given_in qs)
still ps qs r e q = subst (λ o. Moves (last_given_in ps) o (last_given_in qs)) (sym e) (λ a b. ap (λ z. last_given_in z a b) q)

given_by : (t : Bool) (ps qs : List Pair) (o : List ℕ) (r : Option (List ℕ)) → fresh ps (source_of o) (destination_of o) (stamp_of o) ≡ t → r ≡ cond t (Some o) None → qs ≡ cond t (noted ps (source_of o) (destination_of o) (stamp_of o)) ps → Moves (last_given_in ps) r (last_given_in qs)
given_by true ps qs o r t e q =
    let l = and_parts _ _ t in
    let m : Moves (last_given_in ps) (Some o) (last_given_in (noted ps (source_of o) (destination_of o) (stamp_of o))) = (ltb-true _ _ l.0, own (source_of o) (destination_of o) (stamp_of o) ps, λ u v ne. other (source_of o) (destination_of o) (stamp_of o) u v ps ne) in
    subst (λ x. Moves (last_given_in ps) x (last_given_in qs)) (sym e) (subst (λ z. Moves (last_given_in ps) (Some o) (last_given_in z)) (sym q) m)
given_by false ps qs o r t e q = still ps qs r e q

heard : (ps qs : List Pair) (o : List ℕ) (x : Result Frame Fault) (r : Option (List ℕ)) → frame_in o ≡ x → Heard ps o x r qs → Moves (last_given_in ps) r (last_given_in qs)
heard ps qs o (Err d) r k h = still ps qs r h.0 h.1
heard ps qs o (Ok f) r k h =
    let w = front o f k in
    let P : NodeNumber → NodeNumber → ℕ → Type 0 = λ a b n. (r ≡ cond (fresh ps a b n) (Some o) None) × (qs ≡ cond (fresh ps a b n) (noted ps a b n) ps) in
    let z : P (source_of o) (destination_of o) (stamp_of o) = subst (λ a. P a (destination_of o) (stamp_of o)) (sym w.source) (subst (λ b. P f.source b (stamp_of o)) (sym w.destination) (subst (λ n. P f.source f.destination n) (sym w.stamp) h)) in
    given_by (fresh ps (source_of o) (destination_of o) (stamp_of o)) ps qs o r refl z.0 z.1

pub moved : (ps qs : List Pair) (came r : Option (List ℕ)) → Passed ps came r qs → Moves (last_given_in ps) r (last_given_in qs)
moved ps qs None r h = still ps qs r h.0 h.1
moved ps qs (Some o) r h = heard ps qs o (frame_in o) r refl h

-- what passes is what came, or nothing passes
passed_by : (t : Bool) (o : List ℕ) (r : Option (List ℕ)) → r ≡ cond t (Some o) None → (r ≡ Some o) ⊎ (r ≡ None)
passed_by true o r e = inl e
passed_by false o r e = inr e

passed_heard : (ps qs : List Pair) (o : List ℕ) (x : Result Frame Fault) (r : Option (List ℕ)) → Heard ps o x r qs → (r ≡ Some o) ⊎ (r ≡ None)
passed_heard ps qs o (Err d) r h = inr h.0
passed_heard ps qs o (Ok f) r h = passed_by (fresh ps f.source f.destination f.stamp) o r h.0

pub passed : (ps qs : List Pair) (came r : Option (List ℕ)) → Passed ps came r qs → (r ≡ came) ⊎ (r ≡ None)
passed ps qs None r h = inl h.0
passed ps qs (Some o) r h = passed_heard ps qs o (frame_in o) r h
