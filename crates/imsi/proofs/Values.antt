-- Digits and the number that they write.
use Rattle.std.proofs.Common.{◌≡◌, ℕ, zero, suc, ◌+◌, ◌*◌, ◌/◌, ◌%◌, ◌^◌, ◌<◌, cond, ltb, List, [], ◌∷◌, ◌++◌, length, get_or, take, drop, Some, None, sym, refl, ap, ◌∙◌, subst, ⊎_elim, pow-suc, add-one, arith}
use native.Mathlib.Nat.{div-div-eq-div-mul}
use Rattle.std.proofs.lemmas.List.{length-take, length-drop, get_or-take, get_or-drop, at_drop_more}
use Rattle.std.proofs.lemmas.Option.{none-some}
use Rattle.std.proofs.lemmas.Bool.{cond-true, cond-false, lt-ltb, ltb-true, cases_Bool}
use Rattle.imsi.specs.Spelling.{valued, digits}

pub grown : (v j d : ℕ) → v < 10 ^ j → d < 10 → v * 10 + d < 10 ^ (j + 1)
grown v j d h l = rw (add-one j, pow-suc 10 j) (omega arith)

-- one digit more: what is left gives the value
pub step : (hs : List ℕ) (n j v : ℕ) → j < n → n < length hs → valued v (drop j (take n (drop 1 hs))) ≡ cond (ltb (get_or hs (j + 1) 0) 10) (valued (v * 10 + get_or hs (j + 1) 0) (drop (j + 1) (take n (drop 1 hs)))) None
step hs n j v l m =
    let long : j < length (take n (drop 1 hs)) = simp (length-take, length-drop) (omega arith) in
    let there : get_or (take n (drop 1 hs)) j 0 ≡ get_or hs (j + 1) 0 = get_or-take n (drop 1 hs) j 0 l ∙ get_or-drop 1 hs j 0 ∙ ap (λ k. get_or hs k 0) (omega arith) in
    at_drop_more (valued v) (take n (drop 1 hs)) j 0 long ∙ ap (λ d. cond (ltb d 10) (valued (v * 10 + d) (drop (j + 1) (take n (drop 1 hs)))) None) there

valued_push : (acc n d : ℕ) (xs : List ℕ) → valued acc xs ≡ Some n → d < 10 → valued acc (xs ++ d ∷ []) ≡ Some (n * 10 + d)
valued_push acc n d [] e h = let same : acc ≡ n = cc in cond-true _ _ _ (lt-ltb d 10 h) ∙ ap (λ m. Some (m * 10 + d)) same
valued_push acc n d (x ∷ xs) e h =
    ⊎_elim
    (λ t. cond-true _ _ _ t ∙ valued_push (acc * 10 + x) n d xs (sym (cond-true _ _ _ t) ∙ e) h)
    (λ f. absurd (none-some n (sym (cond-false _ _ _ f) ∙ e)))
    (cases_Bool (ltb x 10))

pub valued-digits : (k v : ℕ) → v < 10 ^ k → valued 0 (digits k v) ≡ Some v
valued-digits zero v h = let e : 0 ≡ v = omega arith in ap Some e
valued-digits (suc k) v h =
    let p : v < 10 ^ k * 10 = subst (λ n. v < n) (pow-suc 10 k) h in
    let q : v / 10 < 10 ^ k = omega arith in
    let e : v / 10 * 10 + v % 10 ≡ v = omega arith in
    valued_push 0 (v / 10) (v % 10) (digits k (v / 10)) (valued-digits k (v / 10) q) (omega arith) ∙ ap Some e

digits_first : (k v : ℕ) → digits (suc k) v ≡ v / 10 ^ k % 10 ∷ digits k v
digits_first zero v = let e : v % 10 ≡ v / 1 % 10 = omega arith in ap (λ d. d ∷ []) e
digits_first (suc k) v =
    let e : v / 10 / 10 ^ k ≡ v / 10 ^ suc k = div-div-eq-div-mul v 10 (10 ^ k) ∙ ap (λ m. v / m) (omega (arith, pow-suc 10 k)) in
    ap (λ t. t ++ v % 10 ∷ []) (digits_first k (v / 10)) ∙ ap (λ n. n % 10 ∷ digits (suc k) v) e

-- digits that write v after acc are the last digits of v, and acc is what stands before them
pub digits-valued : (ds : List ℕ) (acc v : ℕ) → valued acc ds ≡ Some v → (digits (length ds) v ≡ ds) × (v / 10 ^ length ds ≡ acc)
digits-valued [] acc v e = let s : acc ≡ v = cc in (refl, omega arith)
digits-valued (d ∷ ds) acc v e =
    ⊎_elim
    (λ t.
    let small = ltb-true d 10 t in
    let ih = digits-valued ds (acc * 10 + d) v (sym (cond-true _ _ _ t) ∙ e) in
    let q = ih.1 in
    let first : v / 10 ^ length ds % 10 ≡ d = omega arith in
    let up : v / 10 ^ suc (length ds) ≡ v / 10 ^ length ds / 10 = ap (λ m. v / m) (pow-suc 10 (length ds)) ∙ sym (div-div-eq-div-mul v (10 ^ length ds) 10) in
    (digits_first (length ds) v ∙ (λ i. first i ∷ ih.0 i), omega arith))
    (λ f. absurd (none-some v (sym (cond-false _ _ _ f) ∙ e)))
    (cases_Bool (ltb d 10))
