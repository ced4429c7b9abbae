-- Reading and writing an IMSI undo each other.
use Rattle.std.proofs.Common.{◌≡◌, ℕ, zero, suc, ◌+◌, ◌-◌, ◌*◌, ◌/◌, ◌%◌, ◌^◌, ◌<◌, ◌≤◌, true, ◌&&◌, eqb, ltb, leb, List, [], ◌∷◌, ◌++◌, length, get_or, take, replicate, Some, None, Option, sym, refl, ap, ◌∙◌, subst, ⊎_elim, mod-lt, pow-suc, div-add-mod', arith}
use Rattle.std.proofs.lemmas.Option.{none-some}
use Rattle.std.proofs.lemmas.List.{take_at, take_all, get_or_at, length-take-le, take_more}
use Rattle.std.proofs.lemmas.Bool.{cond-true, cond-false, eq-eqb, ne_eqb, eqb-true, lt-ltb, ltb-true, le-leb, leb-true, and_parts, and_from, cases_eq, cases_Bool}
use Rattle.imsi.specs.declared.Imsi.{Imsi}
use Rattle.imsi.specs.declared.writing.ImsiOctets.{ImsiOctets}
use Rattle.imsi.specs.Halves.{halves, paired}
use Rattle.imsi.specs.Spelling.{valued, digits, counted, after, in_halves, imsi_in, spelt, imsi_octets, lawful_imsi, Spells, ReadsExactly}
use Rattle.imsi.specs.Written.{octet_count, written_of, spelling_of, ReadBack}
use Rattle.imsi.proofs.Nibbles.{length-halves, length-paired, halves-paired, paired-halves}
use Rattle.imsi.proofs.Values.{valued-digits, digits-valued}
use Rattle.imsi.proofs.Spelt.{Small-spelt, length-spelt, length-digits, length-octets}

pub record Lawful (k v : ℕ) : Type 0 where
  pub some : 1 ≤ k
  pub few : k ≤ 15
  pub below : v < 10 ^ k

pub lawful_parts : (k v : ℕ) → lawful_imsi k v ≡ true → Lawful k v
lawful_parts k v e =
    let a = and_parts (leb 1 k) _ e in
    let b = and_parts (leb k 15) _ a.1 in
    record { some = leb-true 1 k a.0; few = leb-true k 15 b.0; below = ltb-true v (10 ^ k) b.1 }

pub lawful_from : (k v : ℕ) → 1 ≤ k → k ≤ 15 → v < 10 ^ k → lawful_imsi k v ≡ true
lawful_from k v a b c = and_from _ _ (le-leb 1 k a) (and_from _ _ (le-leb k 15 b) (lt-ltb v (10 ^ k) c))

-- written, then read
in_spelt : (k v n : ℕ) → n ≡ k / 2 + 1 → 1 ≤ k → v < 10 ^ k → in_halves n (spelt k v) ≡ Some (k, v)
in_spelt k v n size some below =
    let ds = digits k v in
    let long = length-digits k v in
    ⊎_elim
    (λ odd.
    let c : 2 * n - 1 ≡ k = omega arith in
    ap (in_halves n) (cond-true _ _ _ (eq-eqb (k % 2) 1 odd)) ∙ ap (λ m. after m (9 ∷ ds)) c ∙ ap (λ t. counted k (valued 0 t)) (take_all k ds (omega arith)) ∙ ap (counted k) (valued-digits k v below))
    (λ even.
    let c : 2 * n - 2 ≡ k = omega arith in
    let d : 2 * n - 1 ≡ suc k = omega arith in
    let last = eq-eqb _ 15 (ap (λ m. get_or (1 ∷ ds ++ 15 ∷ []) m 0) d ∙ get_or_at ds 15 [] 0 k long) in
    ap (in_halves n) (cond-false _ _ _ (ne_eqb (k % 2) 1 even))
    ∙ cond-true _ _ _ (and_from (ltb 1 n) (eqb (get_or (1 ∷ ds ++ 15 ∷ []) (2 * n - 1) 0) 15) (lt-ltb 1 n (omega arith)) last)
    ∙ ap (λ m. after m (1 ∷ ds ++ 15 ∷ [])) c
    ∙ ap (λ t. counted k (valued 0 t)) (take_at ds (15 ∷ []) k long)
    ∙ ap (counted k) (valued-digits k v below))
    (cases_eq (k % 2) 1)

pub read_written : (k v : ℕ) → lawful_imsi k v ≡ true → imsi_in (imsi_octets k v) ≡ Some (k, v)
read_written k v law =
    let l = lawful_parts k v law in
    let l1 = l.some in
    let l2 = l.few in
    let size = length-spelt k v in
    let long = length-octets k v in
    cond-true _ _ _ (and_from _ _ (le-leb 1 (length (imsi_octets k v)) (omega arith)) (le-leb (length (imsi_octets k v)) 8 (omega arith)))
    ∙ (λ i. in_halves (length-paired (spelt k v) (k / 2 + 1) size i) (halves-paired (spelt k v) (k / 2 + 1) (Small-spelt k v) size i))
    ∙ in_spelt k v (k / 2 + 1) refl l.some l.below

-- read, then written
uncounted : (n k v : ℕ) (o : Option ℕ) → counted n o ≡ Some (k, v) → (n ≡ k) × (o ≡ Some v)
uncounted n k v None e = absurd (none-some (k, v) e)
uncounted n k v (Some w) e = let p : ◌≡◌ {A = ℕ × ℕ} (n, w) (k, v) = cc in (ap (λ (t : ℕ × ℕ). t.0) p, ap (λ (t : ℕ × ℕ). Some t.1) p)

tens_pos : (k : ℕ) → 0 < 10 ^ k
tens_pos zero = omega arith
tens_pos (suc k) = let h = tens_pos k in rw (pow-suc 10 k) (omega arith)

under : (v m : ℕ) → 0 < m → v / m ≡ 0 → v < m
under v m h e = let a = div-add-mod' v m in let b = ap (λ q. q * m + v % m) e in let r = mod-lt v h in omega arith

record Found (n k v : ℕ) (hs : List ℕ) : Type 0 where
  is : spelt k v ≡ hs
  below : v < 10 ^ k
  size : k / 2 + 1 ≡ n
  some : 1 ≤ k

odd_in : (n k v : ℕ) (hs : List ℕ) → 1 ≤ n → length hs ≡ 2 * n - 1 → after (2 * n - 1) (9 ∷ hs) ≡ Some (k, v) → Found n k v (9 ∷ hs)
odd_in n k v hs some long e =
    let got = uncounted (2 * n - 1) k v _ e in
    let size = got.0 in
    let back = digits-valued hs 0 v (ap (valued 0) (sym (take_all (2 * n - 1) hs (omega arith))) ∙ got.1) in
    let le : length hs ≡ k = omega arith in
    let odd : k % 2 ≡ 1 = omega arith in
    record {
      is = cond-true _ _ _ (eq-eqb (k % 2) 1 odd) ∙ ap (λ l. 9 ∷ digits l v) (sym le) ∙ ap (λ t. 9 ∷ t) back.0;
      below = under v (10 ^ k) (tens_pos k) (subst (λ l. v / 10 ^ l ≡ 0) le back.1);
      size = omega arith;
      some = omega arith;
    }

even_in : (n k v : ℕ) (hs : List ℕ) → 1 < n → length hs ≡ 2 * n - 1 → get_or (1 ∷ hs) (2 * n - 1) 0 ≡ 15 → after (2 * n - 2) (1 ∷ hs) ≡ Some (k, v) → Found n k v (1 ∷ hs)
even_in n k v hs many long f e =
    let got = uncounted (2 * n - 2) k v _ e in
    let size = got.0 in
    let back = digits-valued (take (2 * n - 2) hs) 0 v got.1 in
    let le : length (take (2 * n - 2) hs) ≡ k = length-take-le (2 * n - 2) hs (omega arith) ∙ size in
    let even : k % 2 ≡ 1 → ⊥ = λ o. omega arith in
    let at : 2 * n - 1 ≡ suc (2 * n - 2) = omega arith in
    let last : get_or hs (2 * n - 2) 0 ≡ 15 = sym (ap (λ j. get_or (1 ∷ hs) j 0) at) ∙ f in
    let whole : take (2 * n - 2) hs ++ 15 ∷ [] ≡ hs = ap (λ d. take (2 * n - 2) hs ++ d ∷ []) (sym last) ∙ sym (take_more hs (2 * n - 2) 0 (omega arith)) ∙ take_all (2 * n - 2 + 1) hs (omega arith) in
    record {
      is = cond-false _ _ _ (ne_eqb (k % 2) 1 even) ∙ ap (λ l. 1 ∷ digits l v ++ 15 ∷ []) (sym le) ∙ ap (λ t. 1 ∷ t ++ 15 ∷ []) back.0 ∙ ap (λ t. 1 ∷ t) whole;
      below = under v (10 ^ k) (tens_pos k) (subst (λ l. v / 10 ^ l ≡ 0) le back.1);
      size = omega arith;
      some = omega arith;
    }

found_in : (n m k v : ℕ) (hs : List ℕ) → 1 ≤ n → length hs ≡ 2 * n - 1 → in_halves n (m ∷ hs) ≡ Some (k, v) → Found n k v (m ∷ hs)
found_in n m k v hs some long e =
    ⊎_elim
    (λ nine.
    let is = eqb-true m 9 nine in
    subst (λ x. Found n k v (x ∷ hs)) (sym is) (odd_in n k v hs some long (sym (cond-true _ _ _ nine) ∙ e)))
    (λ other. let e1 = sym (cond-false _ _ _ other) ∙ e in
    ⊎_elim
    (λ yes'.
    let a = and_parts (eqb m 1) _ yes' in
    let b = and_parts (ltb 1 n) _ a.1 in
    let is = eqb-true m 1 a.0 in
    let f = eqb-true (get_or (m ∷ hs) (2 * n - 1) 0) 15 b.1 in
    let f1 = subst (λ x. get_or (x ∷ hs) (2 * n - 1) 0 ≡ 15) is f in
    subst (λ x. Found n k v (x ∷ hs)) (sym is) (even_in n k v hs (ltb-true 1 n b.0) long f1 (sym (cond-true _ _ _ yes') ∙ e1)))
    (λ not'. absurd (none-some (k, v) (sym (cond-false _ _ _ not') ∙ e1)))
    (cases_Bool (eqb m 1 && (ltb 1 n && eqb (get_or (m ∷ hs) (2 * n - 1) 0) 15))))
    (cases_Bool (eqb m 9))

found : (os : List ℕ) (k v : ℕ) → 1 ≤ length os → in_halves (length os) (halves os) ≡ Some (k, v) → Found (length os) k v (halves os)
found [] k v h e = absurd (omega arith)
found (o ∷ os) k v h e = let l = length-halves os in found_in (length (o ∷ os)) (o % 16) k v (o / 16 ∷ halves os) h (omega arith) e

pub written_read : (os : List ℕ) (k v : ℕ) → imsi_in os ≡ Some (k, v) → Spells k v os
written_read os k v e =
    ⊎_elim
    (λ t.
    let a = and_parts (leb 1 (length os)) _ t in
    let low = leb-true 1 (length os) a.0 in
    let high = leb-true (length os) 8 a.1 in
    let f = found os k v low (sym (cond-true _ _ _ t) ∙ e) in
    let s = f.size in
    (lawful_from k v f.some (omega arith) f.below, ap paired f.is ∙ paired-halves os))
    (λ f. absurd (none-some (k, v) (sym (cond-false _ _ _ f) ∙ e)))
    (cases_Bool (leb 1 (length os) && leb (length os) 8))

pub exactly : (os : List ℕ) (r : Option (ℕ × ℕ)) → r ≡ imsi_in os → ReadsExactly os r
exactly os r e = record {
  spelt_so = λ k v h. written_read os k v (sym e ∙ h);
  read_so = λ k v h. e ∙ ap imsi_in (sym h.1) ∙ read_written k v h.0;
}

-- what the writer answers begins with the octets that spell a lawful IMSI
pub record Shown (i : Imsi) (w : ImsiOctets) : Type 0 where
  pub lawful : lawful_imsi i.digits i.value ≡ true
  pub count : w.count ≡ octet_count i.digits
  pub octets : take w.count w.octets ≡ imsi_octets i.digits i.value

pub shown : (i : Imsi) (w : ImsiOctets) → Some w ≡ written_of i → Shown i w
shown i w e =
    ⊎_elim
    (λ law.
    let k = i.digits in
    let rest = replicate (8 - octet_count k) 255 in
    let is : ◌≡◌ {A = Option ImsiOctets} (Some w) (Some (spelling_of i)) = e ∙ cond-true _ _ _ law in
    let same : w ≡ spelling_of i = cc in
    record {
      lawful = law;
      count = ap (λ (v : ImsiOctets). v.count) same;
      octets = ap (λ (v : ImsiOctets). take v.count v.octets) same ∙ take_at (imsi_octets k i.value) rest (octet_count k) (length-octets k i.value);
    })
    (λ no-law. absurd (none-some w (sym (cond-false _ _ _ no-law) ∙ sym e)))
    (cases_Bool (lawful_imsi i.digits i.value))

-- and they are read back as what it was given
pub read_back : (i : Imsi) (r : Option ImsiOctets) → r ≡ written_of i → ReadBack i r
read_back i r e w h = let s = shown i w (sym h ∙ e) in ap imsi_in s.octets ∙ read_written i.digits i.value s.lawful
