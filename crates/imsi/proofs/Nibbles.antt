-- Half octets: where each stands, how many there are, and pairing as the inverse of splitting.
use Rattle.std.proofs.Common.{◌≡◌, ℕ, zero, suc, ◌+◌, ◌*◌, ◌/◌, ◌%◌, List, [], ◌∷◌, ◌++◌, length, get_or, refl, ap, arith}
use Rattle.imsi.specs.Halves.{halves, paired, Small}

pub half_low : (os : List ℕ) (k i : ℕ) → k ≡ 2 * i → get_or (halves os) k 0 ≡ get_or os i 0 % 16
half_low [] k i e = refl
half_low (o ∷ os) zero zero e = refl
half_low (o ∷ os) zero (suc i) e = absurd (omega arith)
half_low (o ∷ os) (suc k) zero e = absurd (omega arith)
half_low (o ∷ os) (suc zero) (suc i) e = absurd (omega arith)
half_low (o ∷ os) (suc (suc k)) (suc i) e = half_low os k i (omega arith)

pub half_high : (os : List ℕ) (k i : ℕ) → k ≡ 2 * i + 1 → get_or (halves os) k 0 ≡ get_or os i 0 / 16
half_high [] k i e = refl
half_high (o ∷ os) zero i e = absurd (omega arith)
half_high (o ∷ os) (suc zero) zero e = refl
half_high (o ∷ os) (suc zero) (suc i) e = absurd (omega arith)
half_high (o ∷ os) (suc (suc k)) zero e = absurd (omega arith)
half_high (o ∷ os) (suc (suc k)) (suc i) e = half_high os k i (omega arith)

pub length-halves : (os : List ℕ) → length (halves os) ≡ 2 * length os
length-halves [] = refl
length-halves (o ∷ os) = let e = length-halves os in omega arith

pub length-paired : (hs : List ℕ) (n : ℕ) → length hs ≡ 2 * n → length (paired hs) ≡ n
length-paired [] n e = omega arith
length-paired (a ∷ []) n e = absurd (omega arith)
length-paired (a ∷ b ∷ hs) zero e = absurd (omega arith)
length-paired (a ∷ b ∷ hs) (suc n) e = ap suc (length-paired hs n (omega arith))

pub paired-++ : (hs ts : List ℕ) (n : ℕ) → length hs ≡ 2 * n → paired (hs ++ ts) ≡ paired hs ++ paired ts
paired-++ [] ts n e = refl
paired-++ (a ∷ []) ts n e = absurd (omega arith)
paired-++ (a ∷ b ∷ hs) ts zero e = absurd (omega arith)
paired-++ (a ∷ b ∷ hs) ts (suc n) e = ap (λ t. (a + 16 * b) ∷ t) (paired-++ hs ts n (omega arith))

pub halves-paired : (hs : List ℕ) (n : ℕ) → Small hs → length hs ≡ 2 * n → halves (paired hs) ≡ hs
halves-paired [] n s e = refl
halves-paired (a ∷ []) n s e = absurd (omega arith)
halves-paired (a ∷ b ∷ hs) zero s e = absurd (omega arith)
halves-paired (a ∷ b ∷ hs) (suc n) s e =
    let p = s.0 in
    let q = s.1.0 in
    let low : (a + 16 * b) % 16 ≡ a = omega arith in
    let high : (a + 16 * b) / 16 ≡ b = omega arith in
    λ i. low i ∷ high i ∷ halves-paired hs n s.1.1 (omega arith) i

pub paired-halves : (os : List ℕ) → paired (halves os) ≡ os
paired-halves [] = refl
paired-halves (o ∷ os) = let e : o % 16 + 16 * (o / 16) ≡ o = omega arith in λ i. e i ∷ paired-halves os i

pub Small-++ : (xs ys : List ℕ) → Small xs → Small ys → Small (xs ++ ys)
Small-++ [] ys a b = b
Small-++ (x ∷ xs) ys a b = (a.0, Small-++ xs ys a.1 b)
