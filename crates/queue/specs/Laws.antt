-- What a queue does is what a carrier may do.
use Rattle.std.specs.Prelude.{◌≡◌, ℕ, Bool, true, false, cond, ◌||◌, ◌⊎◌, List, [], ◌∷◌, ◌++◌, length, Some, None, Option, nat_lt, refl}
use Rattle.std.proofs.Common.{inl, inr, ⊎_elim}
use Rattle.std.proofs.lemmas.Bool.{ltb-false, or_parts}
use Rattle.elements.specs.declared.node.NodeNumber.{NodeNumber}
use Rattle.carrier.specs.Datagrams.{travelling}
use Rattle.carrier.specs.Nodes.{same_node_lem}
use Rattle.carrier.specs.Waiting.{In, Sized, Adds, Gives, Leaves}
use Rattle.queue.specs.Lists.{is_for, first_for, without_first, pushed, added}

in_push : (fs : List (List ℕ)) (f x : List ℕ) → In x (fs ++ f ∷ []) → In x fs ⊎ (x ≡ f)
in_push [] f x h = ⊎_elim inr absurd h
in_push (g ∷ fs) f x h = ⊎_elim (λ e. inl (inl e)) (λ i. ⊎_elim (λ j. inl (inr j)) inr (in_push fs f x i)) h

-- what travels has 11 to 64 octets
travels_by : (b : Bool) (f : List ℕ) (fs : List (List ℕ)) (x : List ℕ) → (nat_lt (length f) 11 || nat_lt 64 (length f)) ≡ b → In x (pushed fs (cond b None (Some f))) → In x fs ⊎ ((x ≡ f) × Sized f)
travels_by true f fs x p h = inl h
travels_by false f fs x p h = let q = or_parts (nat_lt (length f) 11) (nat_lt 64 (length f)) p in ⊎_elim inl (λ e. inr (e, (ltb-false _ _ q.0, ltb-false _ _ q.1))) (in_push fs f x h)

added_by : (b : Bool) (f : List ℕ) (fs : List (List ℕ)) (x : List ℕ) → In x (cond b (pushed fs (travelling f)) fs) → In x fs ⊎ ((x ≡ f) × Sized f)
added_by true f fs x h = travels_by (nat_lt (length f) 11 || nat_lt 64 (length f)) f fs x refl h
added_by false f fs x h = inl h

pub adds : (f : List ℕ) (fs : List (List ℕ)) → Adds fs f (added f fs)
adds f fs x h = added_by (nat_lt (length fs) 512) f fs x h

pub later : (n : NodeNumber) (g : List ℕ) (fs : List (List ℕ)) (r : Option (List ℕ)) → Gives fs n r → Gives (g ∷ fs) n r
later n g fs None h = tt
later n g fs (Some f) h = (inr h.0, h.1)

pub gives_by : (b : Bool) (n : NodeNumber) (g : List ℕ) (fs : List (List ℕ)) (r : Option (List ℕ)) → is_for n g ≡ b → Gives fs n r → Gives (g ∷ fs) n (cond b (Some g) r)
gives_by true n g fs r t rest = (inl refl, same_node_lem _ n t)
gives_by false n g fs r t rest = later n g fs r rest

pub gives : (n : NodeNumber) (fs : List (List ℕ)) → Gives fs n (first_for n fs)
gives n [] = tt
gives n (g ∷ fs) = gives_by (is_for n g) n g fs (first_for n fs) refl (gives n fs)

pub leaves_by : (b : Bool) (g : List ℕ) (fs rs : List (List ℕ)) (x : List ℕ) → (In x rs → In x fs) → In x (cond b fs (g ∷ rs)) → In x (g ∷ fs)
leaves_by true g fs rs x rest h = inr h
leaves_by false g fs rs x rest h = ⊎_elim inl (λ i. inr (rest i)) h

pub leaves : (n : NodeNumber) (fs : List (List ℕ)) → Leaves fs (without_first n fs)
leaves n [] x h = h
leaves n (g ∷ fs) x h = leaves_by (is_for n g) g fs (without_first n fs) x (leaves n fs x) h
