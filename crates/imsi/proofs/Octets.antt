-- Digits that are taken octet by octet.
use Rattle.std.proofs.Common.{◌≡◌, ℕ, ◌+◌, ◌*◌, ◌/◌, ◌%◌, ◌^◌, ◌<◌, ◌≤◌, List, length, get_or, take, drop, None, sym, ap, ◌∙◌, subst, arith}
use native.Mathlib.Nat.{pow-le-pow_right}
use Rattle.std.proofs.lemmas.List.{get_or-take, get_or-drop}
use Rattle.std.proofs.lemmas.Bool.{cond-true, cond-false, lt-ltb, le-ltb}
use Rattle.imsi.specs.Halves.{halves}
use Rattle.imsi.specs.Spelling.{valued}
use Rattle.imsi.proofs.Nibbles.{length-halves, half_low, half_high}
use Rattle.imsi.proofs.Values.{step, grown}

-- the n halves after the first
abbrev pub ahead : List ℕ → ℕ → List ℕ
ahead os n = take n (drop 1 (halves os))

behind_first : (os : List ℕ) (m j : ℕ) → j < m → get_or (take m (drop 1 os)) j 0 ≡ get_or os (j + 1) 0
behind_first os m j l = get_or-take m (drop 1 os) j 0 l ∙ get_or-drop 1 os j 0 ∙ ap (λ k. get_or os k 0) (omega arith)

pub digit_on : (os : List ℕ) (n j v d : ℕ) → j < n → n < 2 * length os → get_or (halves os) (j + 1) 0 ≡ d → d < 10 → valued v (drop j (ahead os n)) ≡ valued (v * 10 + d) (drop (j + 1) (ahead os n))
digit_on os n j v d l m e h =
    let long = length-halves os in
    let small : get_or (halves os) (j + 1) 0 < 10 = omega arith in
    step (halves os) n j v l (omega arith) ∙ cond-true _ _ _ (lt-ltb (get_or (halves os) (j + 1) 0) 10 small) ∙ ap (λ x. valued (v * 10 + x) (drop (j + 1) (ahead os n))) e

pub digit_off : (os : List ℕ) (n j v d : ℕ) → j < n → n < 2 * length os → get_or (halves os) (j + 1) 0 ≡ d → 10 ≤ d → valued v (drop j (ahead os n)) ≡ None
digit_off os n j v d l m e h =
    let long = length-halves os in
    let large : 10 ≤ get_or (halves os) (j + 1) 0 = omega arith in
    step (halves os) n j v l (omega arith) ∙ cond-false _ _ _ (le-ltb (get_or (halves os) (j + 1) 0) 10 large)

-- the halves of the octet at place j behind the first
pub low_at : (os : List ℕ) (m j d : ℕ) → j < m → d ≡ get_or (take m (drop 1 os)) j 0 % 16 → get_or (halves os) (2 * j + 1 + 1) 0 ≡ d
low_at os m j d l e = half_low os (2 * j + 1 + 1) (j + 1) (omega arith) ∙ ap (λ o. o % 16) (sym (behind_first os m j l)) ∙ sym e

pub high_at : (os : List ℕ) (m j d : ℕ) → j < m → d ≡ get_or (take m (drop 1 os)) j 0 / 16 → get_or (halves os) (2 * j + 1 + 1 + 1) 0 ≡ d
high_at os m j d l e = half_high os (2 * j + 1 + 1 + 1) (j + 1) (omega arith) ∙ ap (λ o. o / 16) (sym (behind_first os m j l)) ∙ sym e

-- both of them
pub pair_on : (os : List ℕ) (n j v lo hi : ℕ) → 2 * j + 2 < n → n < 2 * length os → get_or (halves os) (2 * j + 1 + 1) 0 ≡ lo → lo < 10 → get_or (halves os) (2 * j + 1 + 1 + 1) 0 ≡ hi → hi < 10 → valued v (drop (2 * j + 1) (ahead os n)) ≡ valued (v * 100 + (lo * 10 + hi)) (drop (2 * (j + 1) + 1) (ahead os n))
pair_on os n j v lo hi l m low a high b =
    let value : (v * 10 + lo) * 10 + hi ≡ v * 100 + (lo * 10 + hi) = omega arith in
    let place : 2 * j + 1 + 1 + 1 ≡ 2 * (j + 1) + 1 = omega arith in
    digit_on os n (2 * j + 1) v lo (omega arith) m low a
    ∙ digit_on os n (2 * j + 1 + 1) (v * 10 + lo) hi (omega arith) m high b
    ∙ (λ t. valued (value t) (drop (place t) (ahead os n)))

pub pair_grown : (v j lo hi : ℕ) → v < 10 ^ (2 * j + 1) → lo < 10 → hi < 10 → v * 100 + (lo * 10 + hi) < 10 ^ (2 * (j + 1) + 1)
pair_grown v j lo hi h l k =
    let both = grown (v * 10 + lo) (2 * j + 1 + 1) hi (grown v (2 * j + 1) lo h l) k in
    let place : 2 * j + 1 + 1 + 1 ≡ 2 * (j + 1) + 1 = omega arith in
    let there : (v * 10 + lo) * 10 + hi < 10 ^ (2 * (j + 1) + 1) = subst (λ m. (v * 10 + lo) * 10 + hi < 10 ^ m) place both in
    omega arith

pub pair_room : (v j : ℕ) → v < 10 ^ j → j ≤ 13 → v < 10000000000000
pair_room v j h l = let p : 10 ^ j ≤ 10 ^ 13 = pow-le-pow_right (omega arith) l in omega arith
