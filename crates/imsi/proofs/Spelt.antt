-- The halves that are written: their number and size, and how the writer's sixteen halves hold them.
use Rattle.std.proofs.Common.{◌≡◌, ℕ, zero, suc, ◌+◌, ◌-◌, ◌*◌, ◌/◌, ◌%◌, ◌≤◌, eqb, [], ◌∷◌, ◌++◌, length, replicate, sym, refl, ap, ◌∙◌, ⊎_elim, append_assoc, arith}
use Rattle.std.proofs.lemmas.List.{length-append}
use Rattle.std.proofs.lemmas.Bool.{cond-true, cond-false, cond_both, eq-eqb, ne_eqb, eqb-true, eqb-false, cases_eq}
use Rattle.imsi.specs.Halves.{paired, Small}
use Rattle.imsi.specs.Spelling.{digits, spelt, filled, imsi_octets}
use Rattle.imsi.proofs.Nibbles.{Small-++, length-paired, paired-++}

pub Small-digits : (k v : ℕ) → Small (digits k v)
Small-digits zero v = tt
Small-digits (suc k) v = Small-++ (digits k (v / 10)) (v % 10 ∷ []) (Small-digits k (v / 10)) (omega arith, tt)

pub Small-spelt : (k v : ℕ) → Small (spelt k v)
Small-spelt k v =
    let odd : Small (9 ∷ digits k v) = (omega arith, Small-digits k v) in
    let even : Small (1 ∷ digits k v ++ 15 ∷ []) = (omega arith, Small-++ (digits k v) (15 ∷ []) (Small-digits k v) (omega arith, tt)) in
    cond_both (eqb (k % 2) 1) (9 ∷ digits k v) (1 ∷ digits k v ++ 15 ∷ []) Small (λ _. odd) (λ _. even)

pub length-digits : (k v : ℕ) → length (digits k v) ≡ k
length-digits zero v = refl
length-digits (suc k) v = let e = length-digits k (v / 10) in length-append (digits k (v / 10)) (v % 10 ∷ []) ∙ omega arith

pub length-spelt : (k v : ℕ) → length (spelt k v) ≡ 2 * (k / 2 + 1)
length-spelt k v =
    let long = length-digits k v in
    cond_both (eqb (k % 2) 1) (9 ∷ digits k v) (1 ∷ digits k v ++ 15 ∷ []) (λ t. length t ≡ 2 * (k / 2 + 1))
    (λ e. let o = eqb-true (k % 2) 1 e in omega arith)
    (λ e. let o = eqb-false (k % 2) 1 e in let m = length-append (digits k v) (15 ∷ []) in omega arith)

pub length-octets : (k v : ℕ) → length (imsi_octets k v) ≡ k / 2 + 1
length-octets k v = length-paired (spelt k v) (k / 2 + 1) (length-spelt k v)

-- halves of F only make octets FF
pub paired-filler : (m n : ℕ) → m ≡ 2 * n → paired (replicate m 15) ≡ replicate n 255
paired-filler zero zero e = refl
paired-filler zero (suc n) e = absurd (omega arith)
paired-filler (suc m) zero e = absurd (omega arith)
paired-filler (suc zero) (suc n) e = absurd (omega arith)
paired-filler (suc (suc m)) (suc n) e = ap (λ t. 255 ∷ t) (paired-filler m n (omega arith))

-- the writer's halves are those that spell the number, and F after them
filled_is : (k v : ℕ) → k ≤ 15 → filled k v ≡ spelt k v ++ replicate (2 * (7 - k / 2)) 15
filled_is k v h =
    let ds = digits k v in
    ⊎_elim
    (λ odd.
    let n : 15 - k ≡ 2 * (7 - k / 2) = omega arith in
    let m : 1 + 8 * (k % 2) ≡ 9 = omega arith in
    (λ i. m i ∷ ds ++ replicate (n i) 15) ∙ ap (λ t. t ++ replicate (2 * (7 - k / 2)) 15) (sym (cond-true _ _ _ (eq-eqb (k % 2) 1 odd))))
    (λ even.
    let n : 15 - k ≡ suc (2 * (7 - k / 2)) = omega arith in
    let m : 1 + 8 * (k % 2) ≡ 1 = omega arith in
    (λ i. m i ∷ ds ++ replicate (n i) 15)
    ∙ ap (λ t. 1 ∷ t) (sym (append_assoc ds (15 ∷ []) (replicate (2 * (7 - k / 2)) 15)))
    ∙ ap (λ t. t ++ replicate (2 * (7 - k / 2)) 15) (sym (cond-false _ _ _ (ne_eqb (k % 2) 1 even))))
    (cases_eq (k % 2) 1)

pub octets_filled : (k v : ℕ) → k ≤ 15 → paired (filled k v) ≡ imsi_octets k v ++ replicate (8 - (k / 2 + 1)) 255
octets_filled k v h =
    let n : 7 - k / 2 ≡ 8 - (k / 2 + 1) = omega arith in
    ap paired (filled_is k v h)
    ∙ paired-++ (spelt k v) (replicate (2 * (7 - k / 2)) 15) (k / 2 + 1) (length-spelt k v)
    ∙ ap (λ t. imsi_octets k v ++ t) (paired-filler (2 * (7 - k / 2)) (7 - k / 2) refl ∙ ap (λ m. replicate m 255) n)
