-- Records that are changed so that no VLR is surer, and that nothing more is asked.
use Rattle.std.proofs.Common.{◌≡◌, ℕ, Bool, true, false, cond, ltb, List, [], ◌∷◌, map, Some, None, Option, refl, sym, ap, ◌∙◌, subst, arith}
use Rattle.std.proofs.lemmas.Bool.{true≢false, cond_both}
use Rattle.std.proofs.lemmas.Option.{none-some}
use Rattle.imsi.specs.declared.Imsi.{Imsi}
use Rattle.elements.specs.declared.node.NodeNumber.{NodeNumber}
use Rattle.elements.specs.declared.node.VlrNumber.{VlrNumber}
use Rattle.carrier.specs.Nodes.{own_node}
use Rattle.directory.specs.Order.{rank_of, same}
use Rattle.directory.specs.Lookup.{at}
use Rattle.station.specs.declared.mark.Mark.{Mark}
use Rattle.station.specs.declared.mark.Mark.TheVariants as mark
use Rattle.station.specs.Marks.{doubted}
use Rattle.context.specs.declared.context.Context.{Context}
use Rattle.context.specs.declared.errand.Verdict.{Verdict}
use Rattle.context.specs.Answering.{let_go}
use Rattle.context.specs.Contexts.{whose, doubtful, doubtful_at, sure_at}
use Rattle.law.specs.Tables.{mark_in, errand_in}
use Rattle.law.specs.Sound.{asked_in}

-- no VLR is sure where a mark is none, or unsure
pub none_unsure : (n : VlrNumber) → mark.None ≡ mark.Confirmed n → ⊥
none_unsure n e = let z : ◌≡◌ {A = ℕ} 0 1 = cc in omega arith

pub unsure_unsure : (w n : VlrNumber) → mark.Unsure w ≡ mark.Confirmed n → ⊥
unsure_unsure w n e = let z : ◌≡◌ {A = ℕ} 0 1 = cc in omega arith

pub doubted_unsure : (k : Mark VlrNumber) (n : VlrNumber) → doubted k ≡ mark.Confirmed n → ⊥
doubted_unsure mark.None n e = none_unsure n e
doubted_unsure (mark.Confirmed w) n e = unsure_unsure w n e
doubted_unsure (mark.Unsure w) n e = unsure_unsure w n e

-- one record, before and after
pub record Quieter (r r2 : Context) : Type 0 where
  pub mobile : whose r2 ≡ whose r
  pub sure : (n : VlrNumber) → r2.mark ≡ mark.Confirmed n → r.mark ≡ mark.Confirmed n
  pub asking : (a : NodeNumber) (n : ℕ) → asked_in a r2.errand ≡ Some n → asked_in a r.errand ≡ Some n

pub same_record : (r : Context) → Quieter r r
same_record r = record { mobile = refl; sure = λ n h. h; asking = λ a n h. h }

pub quieter_doubtful : (r : Context) → Quieter r (doubtful r)
quieter_doubtful r = record { mobile = refl; sure = λ n h. absurd (doubted_unsure r.mark n h); asking = λ a n h. h }

pub quieter_doubtful_at : (w : VlrNumber) (r : Context) → Quieter r (doubtful_at w r)
quieter_doubtful_at w r = cond_both (sure_at w r.mark) (doubtful r) r (Quieter r) (λ e. quieter_doubtful r) (λ e. same_record r)

-- no VLR serves the mobile any more, and it has its verdict
pub quieter_go : (b : Bool) (w : Verdict) (r : Context) → Quieter r (let_go b w r)
quieter_go b w r = record { mobile = refl; sure = λ n h. absurd (none_unsure n h); asking = λ a n h. absurd (none-some n h) }

-- all records, before and after
abbrev pub AllQuieter : List Context → List Context → Type 0
AllQuieter [] [] = Unit {0}
AllQuieter [] (y ∷ ys) = ⊥
AllQuieter (x ∷ xs) [] = ⊥
AllQuieter (x ∷ xs) (y ∷ ys) = Quieter x y × AllQuieter xs ys

pub quieter_map : (f : Context → Context) → ((r : Context) → Quieter r (f r)) → (xs : List Context) → AllQuieter xs (map f xs)
quieter_map f each [] = tt
quieter_map f each (x ∷ xs) = (each x, quieter_map f each xs)

pub same_records : (xs : List Context) → AllQuieter xs xs
same_records [] = tt
same_records (x ∷ xs) = (same_record x, same_records xs)

pub quieter_twice : (xs ys zs : List Context) → AllQuieter xs ys → AllQuieter ys zs → AllQuieter xs zs
quieter_twice [] [] [] p q = tt
quieter_twice [] [] (z ∷ zs) p q = absurd q
quieter_twice [] (y ∷ ys) zs p q = absurd p
quieter_twice (x ∷ xs) [] zs p q = absurd p
quieter_twice (x ∷ xs) (y ∷ ys) [] p q = absurd q
quieter_twice (x ∷ xs) (y ∷ ys) (z ∷ zs) p q = (
  record { mobile = q.0.mobile ∙ p.0.mobile; sure = λ n h. p.0.sure n (q.0.sure n h); asking = λ a n h. p.0.asking a n (q.0.asking a n h) },
  quieter_twice xs ys zs p.1 q.1,
)

-- what a mobile's record says, before and after
pub record FoundQuieter (o o2 : Option Context) : Type 0 where
  pub sure : (n : VlrNumber) → mark_in o2 ≡ mark.Confirmed n → mark_in o ≡ mark.Confirmed n
  pub asking : (a : NodeNumber) (n : ℕ) → asked_in a (errand_in o2) ≡ Some n → asked_in a (errand_in o) ≡ Some n

found_cond : (a b : Bool) (x y : Context) (o o2 : Option Context) → Quieter x y → FoundQuieter o o2 → FoundQuieter (cond a (Some x) (cond b None o)) (cond a (Some y) (cond b None o2))
found_cond true b x y o o2 q f = record { sure = q.sure; asking = q.asking }
found_cond false true x y o o2 q f = record { sure = λ n h. h; asking = λ a n h. h }
found_cond false false x y o o2 q f = f

pub found_quieter : (xs ys : List Context) (m : Imsi) → AllQuieter xs ys → FoundQuieter (at whose xs m) (at whose ys m)
found_quieter [] [] m p = record { sure = λ n h. h; asking = λ a n h. h }
found_quieter [] (y ∷ ys) m p = absurd p
found_quieter (x ∷ xs) [] m p = absurd p
found_quieter (x ∷ xs) (y ∷ ys) m p =
    subst (λ i. FoundQuieter (cond (same m (whose x)) (Some x) (cond (ltb (rank_of m) (rank_of (whose x))) None (at whose xs m))) (cond (same m i) (Some y) (cond (ltb (rank_of m) (rank_of i)) None (at whose ys m)))) (sym p.0.mobile)
    (found_cond (same m (whose x)) (ltb (rank_of m) (rank_of (whose x))) x y (at whose xs m) (at whose ys m) p.0 (found_quieter xs ys m p.1))

-- no record says that this VLR is sure
abbrev pub NoneSure : NodeNumber → List Context → Type 0
NoneSure a [] = Unit {0}
NoneSure a (x ∷ xs) = (x.mark ≡ mark.Confirmed (record { node = a }) → ⊥) × NoneSure a xs

pub unsure_map : (a : NodeNumber) (f : Context → Context) → ((r : Context) → (f r).mark ≡ mark.Confirmed (record { node = a }) → ⊥) → (xs : List Context) → NoneSure a (map f xs)
unsure_map a f each [] = tt
unsure_map a f each (x ∷ xs) = (each x, unsure_map a f each xs)

pub unsure_quieter : (a : NodeNumber) (xs ys : List Context) → AllQuieter xs ys → NoneSure a xs → NoneSure a ys
unsure_quieter a [] [] p u = tt
unsure_quieter a [] (y ∷ ys) p u = absurd p
unsure_quieter a (x ∷ xs) [] p u = absurd p
unsure_quieter a (x ∷ xs) (y ∷ ys) p u = ((λ h. u.0 (p.0.sure _ h)), unsure_quieter a xs ys p.1 u.1)

unsure_cond : (a : NodeNumber) (b c : Bool) (x : Context) (o : Option Context) → (x.mark ≡ mark.Confirmed (record { node = a }) → ⊥) → (mark_in o ≡ mark.Confirmed (record { node = a }) → ⊥) → mark_in (cond b (Some x) (cond c None o)) ≡ mark.Confirmed (record { node = a }) → ⊥
unsure_cond a true c x o u w h = u h
unsure_cond a false true x o u w h = none_unsure _ h
unsure_cond a false false x o u w h = w h

pub found_unsure : (a : NodeNumber) (xs : List Context) (m : Imsi) → NoneSure a xs → mark_in (at whose xs m) ≡ mark.Confirmed (record { node = a }) → ⊥
found_unsure a [] m u h = none_unsure _ h
found_unsure a (x ∷ xs) m u h = unsure_cond a (same m (whose x)) (ltb (rank_of m) (rank_of (whose x))) x (at whose xs m) u.0 (found_unsure a xs m u.1) h

pub doubtful_nowhere : (n : VlrNumber) (r : Context) → (doubtful r).mark ≡ mark.Confirmed n → ⊥
doubtful_nowhere n r h = doubted_unsure r.mark n h

pub doubtful_there : (w : VlrNumber) (r : Context) → (doubtful_at w r).mark ≡ mark.Confirmed (record { node = w.node }) → ⊥
doubtful_there w r = cond_both (sure_at w r.mark) (doubtful r) r (λ x. x.mark ≡ mark.Confirmed (record { node = w.node }) → ⊥)
    (λ e. doubtful_nowhere _ r)
    (λ e h. true≢false (sym (own_node w.node) ∙ ap (sure_at w) (sym h) ∙ e))
