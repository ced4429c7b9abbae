-- Octets that are made from the last one back, two digits at a time.
use Rattle.std.proofs.Common.{◌≡◌, ℕ, suc, ◌+◌, ◌-◌, ◌*◌, ◌/◌, ◌%◌, ◌<◌, ◌≤◌, List, [], ◌∷◌, ◌++◌, length, drop, set, replicate, sym, ap, ◌∙◌, append_assoc, arith}
use Rattle.std.proofs.lemmas.List.{drop-set, drop-replicate}
use Rattle.imsi.specs.Halves.{paired}
use Rattle.imsi.specs.Spelling.{digits, filled}
use Rattle.imsi.proofs.Nibbles.{paired-++}
use Rattle.imsi.proofs.Spelt.{length-digits, paired-filler}

last_two : (j v : ℕ) → digits (suc (suc j)) v ≡ digits j (v / 100) ++ (v / 10 % 10 ∷ v % 10 ∷ [])
last_two j v =
    let e : v / 10 / 10 ≡ v / 100 = omega arith in
    append_assoc (digits j (v / 10 / 10)) (v / 10 % 10 ∷ []) (v % 10 ∷ []) ∙ ap (λ w. digits j w ++ (v / 10 % 10 ∷ v % 10 ∷ [])) e

tens : (n : ℕ) → n % 100 / 10 ≡ n / 10 % 10
tens n =
    let d : n / 10 ≡ 10 * (n / 100) + n % 100 / 10 = omega arith in
    let s : n % 100 / 10 < 10 = omega arith in
    omega arith

ones : (n : ℕ) → n % 100 % 10 ≡ n % 10
ones n = let d : n ≡ 100 * (n / 100) + n % 100 = omega arith in omega arith

-- one octet more from the back
pub pair_turn : (os : List ℕ) (m i l left : ℕ) (all : List ℕ) → i ≡ suc l → 1 ≤ l → l < length os → paired (m ∷ digits (2 * i - 1) left) ++ drop i os ≡ all → paired (m ∷ digits (2 * l - 1) (left / 100)) ++ drop l (set os l (left % 100 / 10 + 16 * (left % 100 % 10))) ≡ all
pair_turn os m i l left all e some h inv =
    let ds = digits (2 * l - 1) (left / 100) in
    let a = left / 10 % 10 in
    let b = left % 10 in
    let two : 2 * i - 1 ≡ suc (suc (2 * l - 1)) = omega arith in
    let long : length (m ∷ ds) ≡ 2 * l = omega (arith, length-digits (2 * l - 1) (left / 100)) in
    let octet : left % 100 / 10 + 16 * (left % 100 % 10) ≡ a + 16 * b = λ t. tens left t + 16 * ones left t in
    let next : l + 1 ≡ i = omega arith in
    let front : paired (m ∷ digits (2 * i - 1) left) ≡ paired (m ∷ ds) ++ (a + 16 * b) ∷ [] = ap (λ n. paired (m ∷ digits n left)) two ∙ ap (λ t. paired (m ∷ t)) (last_two (2 * l - 1) left) ∙ paired-++ (m ∷ ds) (a ∷ b ∷ []) l long in
    ap (λ t. paired (m ∷ ds) ++ t) (drop-set os l (left % 100 / 10 + 16 * (left % 100 % 10)) h ∙ (λ t. octet t ∷ drop (next t) os))
    ∙ sym (append_assoc (paired (m ∷ ds)) ((a + 16 * b) ∷ []) (drop i os))
    ∙ ap (λ t. t ++ drop i os) (sym front)
    ∙ inv

pub odd_start : (k v i : ℕ) → k % 2 ≡ 1 → k ≤ 15 → i ≡ (k + 1) / 2 → paired ((1 + 8 * (k % 2)) ∷ digits (2 * i - 1) v) ++ drop i (replicate 8 255) ≡ paired (filled k v)
odd_start k v i odd few e =
    let m = 1 + 8 * (k % 2) in
    let all : 2 * i - 1 ≡ k = omega arith in
    let long : length (m ∷ digits k v) ≡ 2 * i = omega (arith, length-digits k v) in
    (λ t. paired (m ∷ digits (all t) v) ++ drop-replicate i 8 255 t)
    ∙ ap (λ t. paired (m ∷ digits k v) ++ t) (sym (paired-filler (15 - k) (8 - i) (omega arith)))
    ∙ sym (paired-++ (m ∷ digits k v) (replicate (15 - k) 15) i long)

pub even_start : (k v i : ℕ) → k % 2 ≡ 0 → 1 ≤ k → k ≤ 15 → i ≡ (k + 1) / 2 → paired ((1 + 8 * (k % 2)) ∷ digits (2 * i - 1) (v / 10)) ++ drop i (set (replicate 8 255) (k / 2) (240 + v % 10)) ≡ paired (filled k v)
even_start k v i even some few e =
    let m = 1 + 8 * (k % 2) in
    let b = v % 10 in
    let ds = digits (2 * i - 1) (v / 10) in
    let rest : List ℕ = replicate (14 - k) 15 in
    let half : i ≡ k / 2 = omega arith in
    let all : suc (2 * i - 1) ≡ k = omega arith in
    let filler : 15 - k ≡ suc (14 - k) = omega arith in
    let long : length (m ∷ ds) ≡ 2 * i = omega (arith, length-digits (2 * i - 1) (v / 10)) in
    let octet : 240 + b ≡ b + 16 * 15 = omega arith in
    let few8 : k / 2 < length {A = ℕ} (replicate 8 255) = omega arith in
    let behind : drop (k / 2 + 1) (replicate 8 255) ≡ paired rest = drop-replicate (k / 2 + 1) 8 255 ∙ sym (paired-filler (14 - k) (8 - (k / 2 + 1)) (omega arith)) in
    ap (λ n. paired (m ∷ ds) ++ drop n (set (replicate 8 255) (k / 2) (240 + b))) half
    ∙ ap (λ t. paired (m ∷ ds) ++ t) (drop-set (replicate 8 255) (k / 2) (240 + b) few8 ∙ (λ t. octet t ∷ behind t))
    ∙ sym (paired-++ (m ∷ ds) (b ∷ 15 ∷ rest) i long)
    ∙ ap (λ t. paired (m ∷ t)) (sym (append_assoc ds (b ∷ []) (15 ∷ rest)))
    ∙ (λ t. paired (m ∷ digits (all t) v ++ replicate (sym filler t) 15))

-- the first octet
pub pair_end : (os : List ℕ) (m i left : ℕ) (all : List ℕ) → i ≡ 1 → 0 < length os → paired (m ∷ digits (2 * i - 1) left) ++ drop i os ≡ all → set os 0 (m + 16 * (left % 10)) ≡ all
pair_end os m i left all e h inv = drop-set os 0 (m + 16 * (left % 10)) h ∙ ap (λ n. paired (m ∷ digits (2 * n - 1) left) ++ drop n os) (sym e) ∙ inv
