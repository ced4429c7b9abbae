-- Looking a record up by IMSI after each change.
use Rattle.std.proofs.Common.{◌≡◌, ℕ, zero, suc, Bool, true, false, cond, ltb, List, [], ◌∷◌, map, get_or, set, Some, None, Ok, Err, Option, sym, refl, ap, ◌∙◌, ⊎_elim, arith}
use Rattle.std.specs.List.{insert}
use Rattle.std.proofs.lemmas.Bool.{cases_Bool, lt-ltb, ltb-true, true≢false}
use Rattle.std.proofs.lemmas.Option.{none-some, same_Some}
use Rattle.std.proofs.lemmas.Bool.Decides.{nat_tests}
use Rattle.imsi.specs.declared.Imsi.{Imsi}
use Rattle.std.specs.Option.{option_map}
use Rattle.directory.specs.Order.{rank_of, same}
use Rattle.directory.specs.Search.{Sought}
use Rattle.directory.specs.Lookup.{at, stored}

pub same_self : (m : Imsi) → same m m ≡ true
same_self m = grind (arith, nat_tests)

pub same_eq : (m n : Imsi) → m ≡ n → same m n ≡ true
same_eq m n e = ap (same m) (sym e) ∙ same_self m

pub same_true : (m n : Imsi) → same m n ≡ true → m ≡ n
same_true m n e =
    let p : m.digits ≡ n.digits = grind (arith, nat_tests) in
    let q : m.value ≡ n.value = grind (arith, nat_tests) in
    (λ i. record { digits = p i; value = q i })

pub same_ne : (m n : Imsi) → (m ≡ n → ⊥) → same m n ≡ false
same_ne m n ne = ⊎_elim (λ t. absurd (ne (same_true m n t))) (λ f. f) (cases_Bool (same m n))

cond_is : {X : Type 0} (b c : Bool) (x y : X) → b ≡ c → cond b x y ≡ cond c x y
cond_is b c x y e = ap (λ d. cond d x y) e

-- both tests of one step
step : {X : Type 0} (a b c d : Bool) (x y z : X) → a ≡ c → b ≡ d → cond a x (cond b y z) ≡ cond c x (cond d y z)
step a b c d x y z p q = (λ i. cond (p i) x (cond (q i) y z))

module _ {R : Type 0} (w : R → Imsi) where
  less : Imsi → R → Bool
  less m x = ltb (rank_of m) (rank_of (w x))

  -- what a search answers is what the list has
  pub at_found : (xs : List R) (m : Imsi) (i : ℕ) → Sought w m xs (Ok i) → (d : R) → at w xs m ≡ Some (get_or xs i d)
  at_found [] m i s d = absurd (omega (arith, s.0))
  at_found (x ∷ xs) m zero s d = cond_is (same m (w x)) true (Some x) (cond (ltb (rank_of m) (rank_of (w x))) None (at w xs m)) (s.2 x)
  at_found (x ∷ xs) m (suc i) s d =
      let p = s.1 zero x (omega arith) in
      step (same m (w x)) (ltb (rank_of m) (rank_of (w x))) false false (Some x) None (at w xs m) p.0 p.1
      ∙ at_found xs m i (omega (arith, s.0), (λ k c h. s.1 (suc k) c (omega arith)), s.2) d

  pub at_missing : (xs : List R) (m : Imsi) (i : ℕ) → Sought w m xs (Err i) → at w xs m ≡ None
  at_missing [] m i s = refl
  at_missing (x ∷ xs) m zero s =
      let p = s.2 x (omega arith) in
      step (same m (w x)) (ltb (rank_of m) (rank_of (w x))) false true (Some x) None (at w xs m) p.0 p.1
  at_missing (x ∷ xs) m (suc i) s =
      let p = s.1 zero x (omega arith) in
      step (same m (w x)) (ltb (rank_of m) (rank_of (w x))) false false (Some x) None (at w xs m) p.0 p.1
      ∙ at_missing xs m i (omega (arith, s.0), (λ k c h. s.1 (suc k) c (omega arith)), (λ c h. s.2 c (omega arith)))

  -- the record found is of the IMSI
  pub at-whose : (xs : List R) (m : Imsi) (r : R) → at w xs m ≡ Some r → w r ≡ m
  at-whose [] m r e = absurd (none-some r e)
  at-whose (x ∷ xs) m r e = ⊎_elim
      (λ t. ap w (sym (same_Some x r (sym (cond_is (same m (w x)) true (Some x) (cond (ltb (rank_of m) (rank_of (w x))) None (at w xs m)) t) ∙ e))) ∙ sym (same_true m (w x) t))
      (λ f. ⊎_elim
      (λ t. absurd (none-some r (sym (step (same m (w x)) (ltb (rank_of m) (rank_of (w x))) false true (Some x) None (at w xs m) f t) ∙ e)))
      (λ g. at-whose xs m r (sym (step (same m (w x)) (ltb (rank_of m) (rank_of (w x))) false false (Some x) None (at w xs m) f g) ∙ e))
      (cases_Bool (ltb (rank_of m) (rank_of (w x)))))
      (cases_Bool (same m (w x)))

  pub stored_set : (xs : List R) (r : R) (i : ℕ) → Sought w (w r) xs (Ok i) → set xs i r ≡ stored w r xs
  stored_set [] r i s = absurd (omega (arith, s.0))
  stored_set (x ∷ xs) r zero s = sym (cond_is (same (w r) (w x)) true (r ∷ xs) (cond (ltb (rank_of (w r)) (rank_of (w x))) (r ∷ x ∷ xs) (x ∷ stored w r xs)) (s.2 x))
  stored_set (x ∷ xs) r (suc i) s =
      let p = s.1 zero x (omega arith) in
      ap (λ t. x ∷ t) (stored_set xs r i (omega (arith, s.0), (λ k c h. s.1 (suc k) c (omega arith)), s.2))
      ∙ sym (step (same (w r) (w x)) (ltb (rank_of (w r)) (rank_of (w x))) false false (r ∷ xs) (r ∷ x ∷ xs) (x ∷ stored w r xs) p.0 p.1)

  pub stored_inserted : (xs : List R) (r : R) (i : ℕ) → Sought w (w r) xs (Err i) → insert xs i r ≡ stored w r xs
  stored_inserted [] r zero s = refl
  stored_inserted [] r (suc i) s = absurd (omega (arith, s.0))
  stored_inserted (x ∷ xs) r zero s =
      let p = s.2 x (omega arith) in
      sym (step (same (w r) (w x)) (ltb (rank_of (w r)) (rank_of (w x))) false true (r ∷ xs) (r ∷ x ∷ xs) (x ∷ stored w r xs) p.0 p.1)
  stored_inserted (x ∷ xs) r (suc i) s =
      let p = s.1 zero x (omega arith) in
      ap (λ t. x ∷ t) (stored_inserted xs r i (omega (arith, s.0), (λ k c h. s.1 (suc k) c (omega arith)), (λ c h. s.2 c (omega arith))))
      ∙ sym (step (same (w r) (w x)) (ltb (rank_of (w r)) (rank_of (w x))) false false (r ∷ xs) (r ∷ x ∷ xs) (x ∷ stored w r xs) p.0 p.1)

  -- the record written
  pub at-stored_same : (r : R) (xs : List R) → at w (stored w r xs) (w r) ≡ Some r
  at-stored_same r [] = cond_is (same (w r) (w r)) true (Some r) (cond (ltb (rank_of (w r)) (rank_of (w r))) None None) (same_self (w r))
  at-stored_same r (x ∷ xs) =
      let a = same (w r) (w x) in
      let b = ltb (rank_of (w r)) (rank_of (w x)) in
      let front : (ys : List R) → at w (r ∷ ys) (w r) ≡ Some r = λ ys. cond_is (same (w r) (w r)) true (Some r) (cond (ltb (rank_of (w r)) (rank_of (w r))) None (at w ys (w r))) (same_self (w r)) in
      ⊎_elim
      (λ t. ap (λ l. at w l (w r)) (cond_is a true (r ∷ xs) (cond b (r ∷ x ∷ xs) (x ∷ stored w r xs)) t) ∙ front xs)
      (λ f. ⊎_elim
      (λ t. ap (λ l. at w l (w r)) (step a b false true (r ∷ xs) (r ∷ x ∷ xs) (x ∷ stored w r xs) f t) ∙ front (x ∷ xs))
      (λ g. ap (λ l. at w l (w r)) (step a b false false (r ∷ xs) (r ∷ x ∷ xs) (x ∷ stored w r xs) f g)
      ∙ step a b false false (Some x) None (at w (stored w r xs) (w r)) f g ∙ at-stored_same r xs)
      (cases_Bool b))
      (cases_Bool a)

  -- another
  pub at-stored_other : (r : R) (xs : List R) (m : Imsi) → (m ≡ w r → ⊥) → at w (stored w r xs) m ≡ at w xs m
  at-stored_other r [] m ne = step (same m (w r)) (ltb (rank_of m) (rank_of (w r))) false (ltb (rank_of m) (rank_of (w r))) (Some r) None None (same_ne m (w r) ne) refl ∙ both (ltb (rank_of m) (rank_of (w r)))
    where
      both : (b : Bool) → ◌≡◌ {A = Option R} (cond b None None) None
      both true = refl
      both false = refl
  at-stored_other r (x ∷ xs) m ne =
      let a = same (w r) (w x) in
      let b = ltb (rank_of (w r)) (rank_of (w x)) in
      let mr = ltb (rank_of m) (rank_of (w r)) in
      let mx = ltb (rank_of m) (rank_of (w x)) in
      let nr = same_ne m (w r) ne in
      ⊎_elim
      (λ t. let q = same_true (w r) (w x) t in
      ap (λ l. at w l m) (cond_is a true (r ∷ xs) (cond b (r ∷ x ∷ xs) (x ∷ stored w r xs)) t)
      ∙ step (same m (w r)) mr false mx (Some r) None (at w xs m) nr (ap (λ y. ltb (rank_of m) (rank_of y)) q)
      ∙ sym (cond_is (same m (w x)) false (Some x) (cond mx None (at w xs m)) (ap (same m) (sym q) ∙ nr)))
      (λ f. ⊎_elim
      (λ t. ap (λ l. at w l m) (step a b false true (r ∷ xs) (r ∷ x ∷ xs) (x ∷ stored w r xs) f t)
      ∙ cond_is (same m (w r)) false (Some r) (cond mr None (at w (x ∷ xs) m)) nr
      ∙ ⊎_elim
      (λ u. cond_is mr true None (at w (x ∷ xs) m) u
      ∙ sym (step (same m (w x)) mx false true (Some x) None (at w xs m)
      (same_ne m (w x) (λ e. let h = ltb-true (rank_of m) (rank_of (w r)) u in let k = ltb-true (rank_of (w r)) (rank_of (w x)) t in let y = ap rank_of e in omega arith))
      (lt-ltb (rank_of m) (rank_of (w x)) (let h = ltb-true (rank_of m) (rank_of (w r)) u in let k = ltb-true (rank_of (w r)) (rank_of (w x)) t in omega arith))))
      (λ u. cond_is mr false None (at w (x ∷ xs) m) u)
      (cases_Bool mr))
      (λ g. ap (λ l. at w l m) (step a b false false (r ∷ xs) (r ∷ x ∷ xs) (x ∷ stored w r xs) f g)
      ∙ ap (λ o. cond (same m (w x)) (Some x) (cond mx None o)) (at-stored_other r xs m ne))
      (cases_Bool b))
      (cases_Bool a)

  -- the law of a write
  pub at-stored : (r : R) (xs : List R) (m : Imsi) → at w (stored w r xs) m ≡ cond (same m (w r)) (Some r) (at w xs m)
  at-stored r xs m = ⊎_elim
      (λ t. ap (at w (stored w r xs)) (same_true m (w r) t) ∙ at-stored_same r xs ∙ sym (cond_is (same m (w r)) true (Some r) (at w xs m) t))
      (λ f. at-stored_other r xs m (λ e. true≢false (sym (same_eq m (w r) e) ∙ f)) ∙ sym (cond_is (same m (w r)) false (Some r) (at w xs m) f))
      (cases_Bool (same m (w r)))

  -- the law of a change of every record
  mapped_cond : (f : R → R) (a b : Bool) (x : R) (o : Option R) → cond a (Some (f x)) (cond b None (option_map f o)) ≡ option_map f (cond a (Some x) (cond b None o))
  mapped_cond f true b x o = refl
  mapped_cond f false true x o = refl
  mapped_cond f false false x o = refl

  pub at-map : (f : R → R) → ((x : R) → w (f x) ≡ w x) → (xs : List R) (m : Imsi) → at w (map f xs) m ≡ option_map f (at w xs m)
  at-map f keeps [] m = refl
  at-map f keeps (x ∷ xs) m = (λ i. cond (same m (keeps x i)) (Some (f x)) (cond (ltb (rank_of m) (rank_of (keeps x i))) None (at-map f keeps xs m i))) ∙ mapped_cond f (same m (w x)) (ltb (rank_of m) (rank_of (w x))) x (at w xs m)
