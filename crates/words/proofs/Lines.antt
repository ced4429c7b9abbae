-- Reading a line from its front: what was read so far, and what the rest gives.
use Rattle.std.proofs.Common.{◌≡◌, ℕ, ◌-◌, ◌<◌, ◌≤◌, true, false, cond, eqb, List, [], ◌∷◌, ◌++◌, length, get_or, take, drop, Some, None, Ok, Err, Option, Result, sym, refl, ap, ◌∙◌, append_assoc, arith, ne_eqb, length-append}
use Rattle.std.proofs.lemmas.List.{take_all}
use Rattle.words.specs.declared.line.BadLine.{BadLine}
use Rattle.words.specs.declared.line.BadLine.TheVariants.{TooLong}
use Rattle.words.specs.Hexadecimal.{is_blank, digit_in, joined, lone_digit, octet_in, followed_by, octets_in}

-- these octets, and then what else is read
abbrev pub behind : List ℕ → Result (List ℕ) BadLine → Result (List ℕ) BadLine
behind xs (Err e) = Err e
behind xs (Ok ys) = Ok (xs ++ ys)

-- what follows an octet, if there was room for it
abbrev others : ℕ → List ℕ → Result (List ℕ) BadLine
others room cs = cond (eqb room 0) (Err TooLong) (octets_in (room - 1) cs)

-- a blank in front changes nothing
pub past_blank : (rest : List ℕ) (room : ℕ) → true ≡ is_blank (get_or rest 0 0) → octets_in room rest ≡ octets_in room (take (length rest - 1) (drop 1 rest))
past_blank [] room e = refl
past_blank (a ∷ []) room e = ap (λ v. cond v (Ok []) (Err (lone_digit a))) (sym e)
past_blank (a ∷ b ∷ cs) room e =
    let k : length (b ∷ cs) ≤ length (a ∷ b ∷ cs) - 1 = omega arith in
    let t : take (length (a ∷ b ∷ cs) - 1) (b ∷ cs) ≡ b ∷ cs = take_all _ (b ∷ cs) k in
    ap (λ v. cond v (octets_in room (b ∷ cs)) (followed_by (octet_in a b) (others room cs))) (sym e) ∙ ap (octets_in room) (sym t)

-- a digit beside no digit is no octet
never : (d : Option ℕ) (o : ℕ) → joined d None ≡ Ok o → ⊥
never None o e = let z : ◌≡◌ {A = ℕ} 0 1 = cc in omega arith
never (Some h) o e = let z : ◌≡◌ {A = ℕ} 0 1 = cc in omega arith

-- an octet in front, where there is room for it
pub past_octet : (rest : List ℕ) (room o : ℕ) → 0 < room → is_blank (get_or rest 0 0) ≡ false → octet_in (get_or rest 0 0) (get_or rest 1 0) ≡ Ok o → octets_in room rest ≡ followed_by (Ok o) (octets_in (room - 1) (take (length rest - 2) (drop 2 rest)))
past_octet [] room o p n e = absurd (never None o e)
past_octet (a ∷ []) room o p n e = absurd (never (digit_in a) o e)
past_octet (a ∷ b ∷ cs) room o p n e =
    let k : length cs ≤ length (a ∷ b ∷ cs) - 2 = omega arith in
    let t : take (length (a ∷ b ∷ cs) - 2) cs ≡ cs = take_all _ cs k in
    let z : eqb room 0 ≡ false = ne_eqb room 0 (omega arith) in
    ap (λ v. cond v (octets_in room (b ∷ cs)) (followed_by (octet_in a b) (others room cs))) n
    ∙ ap (λ r. followed_by r (others room cs)) e
    ∙ ap (λ v. followed_by (Ok o) (cond v (Err TooLong) (octets_in (room - 1) cs))) z
    ∙ ap (λ ds. followed_by (Ok o) (octets_in (room - 1) ds)) (sym t)

-- what was read grows by the octet in front
pub shift : (xs : List ℕ) (o : ℕ) (r : Result (List ℕ) BadLine) → behind xs (followed_by (Ok o) r) ≡ behind (xs ++ o ∷ []) r
shift xs o (Err e) = refl
shift xs o (Ok ys) = ap Ok (sym (append_assoc xs (o ∷ []) ys))

-- the octet in front goes behind those that were read, where there is room for it
pub read_more : (rest xs ys : List ℕ) (o : ℕ) → length xs < 128 → ys ≡ xs ++ o ∷ [] → is_blank (get_or rest 0 0) ≡ false → octet_in (get_or rest 0 0) (get_or rest 1 0) ≡ Ok o → behind xs (octets_in (128 - length xs) rest) ≡ behind ys (octets_in (128 - length ys) (take (length rest - 2) (drop 2 rest)))
read_more rest xs ys o small grown n e =
    let room : 0 < 128 - length xs = omega arith in
    let less : 128 - length xs - 1 ≡ 128 - length (xs ++ o ∷ []) = omega (arith, length-append xs (o ∷ [])) in
    let tail = take (length rest - 2) (drop 2 rest) in
    ap (behind xs) (past_octet rest (128 - length xs) o room n e)
    ∙ shift xs o (octets_in (128 - length xs - 1) tail)
    ∙ ap (λ k. behind (xs ++ o ∷ []) (octets_in k tail)) less
    ∙ ap (λ zs. behind zs (octets_in (128 - length zs) tail)) (sym grown)
