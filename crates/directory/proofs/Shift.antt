-- Records moved up to make room for one.
use Rattle.std.proofs.Common.{◌≡◌, ℕ, suc, ◌-◌, ◌<◌, List, [], ◌∷◌, ◌++◌, length, get_or, take, drop, set, sym, ap, ◌∙◌, arith, drop-cons}
use Rattle.std.specs.List.{insert}
use Rattle.std.proofs.Math.Seq.{set-append_seam}
use Rattle.std.proofs.lemmas.List.{take-take, take_rest, drop-take, drop_all, length-drop, length-take-le, append-nil}

-- once the places from i on are turned by one, the write at i inserts
pub rotated : {X : Type 0} (xs part new : List X) (i : ℕ) (e : X) → i < length xs → part ≡ take (length xs - i) (drop i xs)
    → new ≡ drop (length part - 1) part ++ take (length part - 1) part
    → set (take i xs ++ (new ++ drop (length xs - i) (drop i xs))) i e ≡ insert (take (length xs - 1) xs) i e
rotated {X} xs part new i e lt whole is =
    let m = length xs - i - 1 in
    let size : length (drop i xs) ≡ length xs - i = length-drop i xs in
    let front : length (take i xs) ≡ i = length-take-le i xs (omega arith) in
    let rest : part ≡ drop i xs = whole ∙ take_rest xs i in
    let place : length part - 1 ≡ m = omega (arith, ap length rest) in
    let last = get_or (drop i xs) m e in
    let behind : List X = drop i (take (length xs - 1) xs) in
    let turned : drop m (drop i xs) ≡ last ∷ [] = drop-cons (drop i xs) m e (omega arith) ∙ ap (λ t. last ∷ t) (drop_all (suc m) (drop i xs) (omega arith)) in
    let moved : take m (drop i xs) ≡ behind = sym (drop-take i m xs) ∙ ap (λ k. drop i (take k xs)) (omega arith) in
    let all : new ≡ last ∷ behind = is ∙ (λ t. drop (place t) (rest t) ++ take (place t) (rest t)) ∙ (λ t. turned t ++ moved t) in
    let nothing : drop (length xs - i) (drop i xs) ≡ [] = drop_all (length xs - i) (drop i xs) (omega arith) in
    ap (λ l. set (take i xs ++ l) i e) ((λ t. all t ++ nothing t) ∙ append-nil (last ∷ behind))
    ∙ ap (λ k. set (take i xs ++ last ∷ behind) k e) (sym front)
    ∙ set-append_seam (take i xs) last behind e
    ∙ ap (λ l. l ++ e ∷ behind) (sym (take-take i (length xs - 1) xs (omega arith)))
