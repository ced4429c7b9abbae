-- The first places of a slice after a write, an insertion and a change.
use Rattle.std.proofs.Common.{◌≡◌, ℕ, zero, suc, ◌+◌, ◌-◌, ◌<◌, ◌≤◌, List, [], ◌∷◌, ◌++◌, map, length, take, drop, set, refl, ap, ◌∙◌, arith}
use native.Mathlib.Nat.{sub-zero}
use Rattle.std.specs.List.{insert}
use Rattle.std.proofs.lemmas.List.{take-take, take_at, length-take-le}
use Rattle.std.proofs.lemmas.List.Edits.{length-insert}

-- the first n + 1 places, after an entry went in at i among the first n
pub inserted_records : {X : Type 0} (n : ℕ) (ps last rest : List X) (i : ℕ) (e : X) → n < length ps → i ≤ n
    → last ≡ insert (take (length (take (n + 1 - 0) ps) - 1) (take (n + 1 - 0) ps)) i e
    → (length last ≡ n + 1) × (take (n + 1) (last ++ rest) ≡ insert (take n ps) i e)
inserted_records n ps last rest i e lt le h =
    let part = take (n + 1 - 0) ps in
    let len : length part ≡ n + 1 - 0 = length-take-le (n + 1 - 0) ps (omega arith) in
    let q : length part - 1 ≡ n = omega arith in
    let short : length (take n ps) ≡ n = length-take-le n ps (omega arith) in
    let is : last ≡ insert (take n ps) i e = h ∙ ap (λ l. insert l i e) (ap (λ m. take m part) q ∙ take-take n (n + 1 - 0) ps (omega arith)) in
    let size : length last ≡ n + 1 = ap length is ∙ omega (arith, length-insert (take n ps) i e (omega arith)) in
    (size, take_at last rest (n + 1) size ∙ is)

pub take_of_set : {X : Type 0} (n : ℕ) (l : List X) (i : ℕ) (a : X) → take n (set l i a) ≡ set (take n l) i a
take_of_set zero [] i a = refl
take_of_set zero (x ∷ xs) zero a = refl
take_of_set zero (x ∷ xs) (suc i) a = refl
take_of_set (suc n) [] i a = refl
take_of_set (suc n) (x ∷ xs) zero a = refl
take_of_set (suc n) (x ∷ xs) (suc i) a = ap (λ t. x ∷ t) (take_of_set n xs i a)

-- all places, after a change of each of the first n
pub changed_places : {X : Type 0} (f : X → X) (n : ℕ) (ps last : List X) → last ≡ map f (take (n - 0) ps) → last ++ drop (n - 0) ps ≡ map f (take n ps) ++ drop n ps
changed_places f n ps last h = ap (λ l. l ++ drop (n - 0) ps) h ∙ ap (λ k. map f (take k ps) ++ drop k ps) (sub-zero n)
