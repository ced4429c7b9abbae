-- Each element: where its octets stand it is read, and where it is read its octets stand.
use Rattle.std.proofs.Common.{◌≡◌, ℕ, ◌+◌, ◌*◌, ◌/◌, ◌%◌, ◌<◌, ◌≤◌, true, false, List, [], ◌∷◌, ◌++◌, length, get_or, take, drop, Some, Ok, Option, sym, ap, ◌∙◌, add-zero, div-add-mod', arith}
use native.Mathlib.Nat.{div-div-eq-div-mul}
use Rattle.std.proofs.lemmas.List.{length-drop, drop_more, drop-drop, length-append, take_at, take-append-drop, length-take-le}
use Rattle.std.proofs.lemmas.Bool.{cond-true}
use Rattle.std.proofs.lemmas.Bool.Decides.{nat_tests}
use Rattle.imsi.specs.Spelling.{imsi_in, imsi_octets, lawful_imsi}
use Rattle.imsi.proofs.Round.{read_written, written_read, lawful_parts}
use Rattle.imsi.proofs.Spelt.{length-octets}
use Rattle.elements.specs.declared.element.Element.{Element}
use Rattle.elements.specs.declared.element.Element.TheVariants as el
use Rattle.elements.specs.Faults.{lawful_or}
use Rattle.elements.specs.Reading.{next_is, element_at, coded_at, imsi_at, number_at}
use Rattle.elements.specs.Spelling.{imsi_element, octet_element, four_octets}
use Rattle.elements.specs.Table.{identifier_of, least_of, most_of}
use Rattle.elements.proofs.Chains.{then_there, then_ok, found, at-drop, drop_size}

-- the identifier and the length octet
pub next_there : (s xs : List ℕ) (at : ℕ) (e : Element) → drop at s ≡ identifier_of e ∷ xs → next_is s at e ≡ true
next_there s xs at e d =
    let size = drop_size s (identifier_of e ∷ xs) at d (omega arith) in
    let g0 : get_or s at 0 ≡ identifier_of e = ap (λ k. get_or s k 0) (sym (add-zero at)) ∙ at-drop s (identifier_of e ∷ xs) at 0 d in
    grind (arith, nat_tests)

pub next_not : (s xs : List ℕ) (at : ℕ) (e : Element) → drop at s ≡ xs → (get_or xs 0 0 ≡ identifier_of e → ⊥) → next_is s at e ≡ false
next_not s xs at e d n =
    let g0 : get_or s at 0 ≡ get_or xs 0 0 = ap (λ k. get_or s k 0) (sym (add-zero at)) ∙ at-drop s xs at 0 d in
    grind (arith, nat_tests)

pub element_there : (s xs : List ℕ) (at n : ℕ) (e : Element) → drop at s ≡ identifier_of e ∷ n ∷ xs → least_of e ≤ n → n ≤ most_of e → n ≤ length xs → element_at s at e ≡ Ok n
element_there s xs at n e d a b c =
    let size = drop_size s (identifier_of e ∷ n ∷ xs) at d (omega arith) in
    let next = next_there s (n ∷ xs) at e d in
    let g1 : get_or s (at + 1) 0 ≡ n = at-drop s (identifier_of e ∷ n ∷ xs) at 1 d in
    cond-true _ _ _ next ∙ grind (arith, nat_tests)

pub record Stands (s : List ℕ) (at n : ℕ) (e : Element) : Type 0 where
  pub is : drop at s ≡ identifier_of e ∷ n ∷ drop (at + 2) s
  pub low : least_of e ≤ n
  pub high : n ≤ most_of e
  pub inside : at + 2 + n ≤ length s

pub element_read : (s : List ℕ) (at n : ℕ) (e : Element) → element_at s at e ≡ Ok n → Stands s at n e
element_read s at n e r =
    let first : get_or s at 0 ≡ identifier_of e = grind (arith, nat_tests) in
    let count : get_or s (at + 1) 0 ≡ n = grind (arith, nat_tests) in
    let low : least_of e ≤ n = grind (arith, nat_tests) in
    let high : n ≤ most_of e = grind (arith, nat_tests) in
    let inside : at + 2 + n ≤ length s = grind (arith, nat_tests) in
    let two : at + 1 + 1 ≡ at + 2 = omega arith in
    record {
      is = drop_more s at 0 (omega arith) ∙ (λ i. first i ∷ drop (at + 1) s) ∙ ap (λ t. identifier_of e ∷ t) (drop_more s (at + 1) 0 (omega arith) ∙ (λ i. count i ∷ drop (two i) s));
      low = low;
      high = high;
      inside = inside;
    }

-- contents of one octet
pub coded_there : {X : Type 0} (of : ℕ → Option X) (s xs : List ℕ) (at v : ℕ) (e : Element) (x : X) → drop at s ≡ octet_element e v ++ xs → least_of e ≡ 1 → most_of e ≡ 1 → of v ≡ Some x → coded_at of s at e ≡ Ok x
coded_there of s xs at v e x d lo hi h =
    let g2 : get_or s (at + 2) 0 ≡ v = at-drop s (octet_element e v ++ xs) at 2 d in
    then_there _ (element_there s (v ∷ xs) at 1 e d (omega arith) (omega arith) (omega arith)) (ap (λ n. lawful_or (of n) (at + 2)) g2 ∙ ap (λ o. lawful_or o (at + 2)) h)

pub record Coded {X : Type 0} (of : ℕ → Option X) (s : List ℕ) (at : ℕ) (e : Element) (x : X) : Type 0 where
  pub octet : ℕ
  pub stands : of octet ≡ Some x
  pub is : drop at s ≡ octet_element e octet ++ drop (at + 3) s

pub coded_read : {X : Type 0} (of : ℕ → Option X) (s : List ℕ) (at : ℕ) (e : Element) (x : X) → least_of e ≡ 1 → most_of e ≡ 1 → coded_at of s at e ≡ Ok x → Coded of s at e x
coded_read of s at e x lo hi r =
    let got = then_ok (element_at s at e) _ x r in
    let n = got.0 in
    let st = element_read s at n e got.1 in
    let st1 = st.low in
    let st2 = st.high in
    let st3 = st.inside in
    let one : n ≡ 1 = omega arith in
    let more : at + 2 + 1 ≡ at + 3 = omega arith in
    record {
      octet = get_or s (at + 2) 0;
      stands = found (of (get_or s (at + 2) 0)) (at + 2) x got.2;
      is = st.is ∙ ap (λ m. identifier_of e ∷ m ∷ drop (at + 2) s) one ∙ ap (λ t. identifier_of e ∷ 1 ∷ t) (drop_more s (at + 2) 0 (omega arith) ∙ (λ i. get_or s (at + 2) 0 ∷ drop (more i) s));
    }

-- the IMSI
pub imsi_there : (s xs : List ℕ) (at k v : ℕ) → drop at s ≡ imsi_element (record { digits = k; value = v }) ++ xs → lawful_imsi k v ≡ true → imsi_at s at ≡ Ok (k, v)
imsi_there s xs at k v d law =
    let l = lawful_parts k v law in
    let l2 = l.few in
    let n = k / 2 + 1 in
    let long = length-octets k v in
    let more = length-append (imsi_octets k v) xs in
    let contents : take n (drop (at + 2) s) ≡ imsi_octets k v = ap (take n) (sym (drop-drop 2 at s) ∙ ap (drop 2) d) ∙ take_at (imsi_octets k v) xs n long in
    then_there _ (element_there s (imsi_octets k v ++ xs) at n el.Imsi d (omega arith) (omega arith) (omega arith))
    (ap (λ t. lawful_or (imsi_in t) (at + 2)) contents ∙ ap (λ o. lawful_or o (at + 2)) (read_written k v law))

pub record Mobile (s : List ℕ) (at k v : ℕ) : Type 0 where
  pub lawful : lawful_imsi k v ≡ true
  pub is : drop at s ≡ imsi_element (record { digits = k; value = v }) ++ drop (at + 3 + k / 2) s

pub imsi_read : (s : List ℕ) (at k v : ℕ) → imsi_at s at ≡ Ok (k, v) → Mobile s at k v
imsi_read s at k v r =
    let got = then_ok (element_at s at el.Imsi) _ (k, v) r in
    let n = got.0 in
    let st = element_read s at n el.Imsi got.1 in
    let st3 = st.inside in
    let os = take n (drop (at + 2) s) in
    let spells = written_read os k v (found (imsi_in os) (at + 2) (k, v) got.2) in
    let long : length os ≡ n = length-take-le n (drop (at + 2) s) (let d = length-drop (at + 2) s in omega arith) in
    let size : k / 2 + 1 ≡ n = sym (length-octets k v) ∙ ap length spells.1 ∙ long in
    let next : at + 2 + n ≡ at + 3 + k / 2 = omega arith in
    record {
      lawful = spells.0;
      is =
          st.is
          ∙ ap (λ t. 1 ∷ n ∷ t) (sym (take-append-drop n (drop (at + 2) s)))
          ∙ ap (λ m. 1 ∷ m ∷ os ++ drop n (drop (at + 2) s)) (sym size)
          ∙ ap (λ t. 1 ∷ (k / 2 + 1) ∷ t ++ drop n (drop (at + 2) s)) (sym spells.1)
          ∙ ap (λ t. imsi_element (record { digits = k; value = v }) ++ t) (drop-drop n (at + 2) s ∙ ap (λ m. drop m s) next);
    }

-- numbers of four octets
pub four_read : (a b c d : ℕ) → a < 256 → b < 256 → c < 256 → d < 256 → four_octets (a * 16777216 + b * 65536 + c * 256 + d) ≡ a ∷ b ∷ c ∷ d ∷ []
four_read a b c d p q r t =
    let n = a * 16777216 + b * 65536 + c * 256 + d in
    let e0 : n / 16777216 % 256 ≡ a = omega arith in
    let e1 : n / 65536 % 256 ≡ b = omega arith in
    let e2 : n / 256 % 256 ≡ c = omega arith in
    let e3 : n % 256 ≡ d = omega arith in
    λ i. e0 i ∷ e1 i ∷ e2 i ∷ e3 i ∷ []

pub four_value : (n : ℕ) → n < 4294967296 → n / 16777216 % 256 * 16777216 + n / 65536 % 256 * 65536 + n / 256 % 256 * 256 + n % 256 ≡ n
four_value n h =
    let d2 : n / 65536 ≡ n / 256 / 256 = sym (div-div-eq-div-mul n 256 256) in
    let d3 : n / 16777216 ≡ n / 65536 / 256 = sym (div-div-eq-div-mul n 65536 256) in
    let a : n / 256 * 256 + n % 256 ≡ n = div-add-mod' n 256 in
    let b : n / 256 / 256 * 256 + n / 256 % 256 ≡ n / 256 = div-add-mod' (n / 256) 256 in
    let c : n / 65536 / 256 * 256 + n / 65536 % 256 ≡ n / 65536 = div-add-mod' (n / 65536) 256 in
    let top : n / 16777216 < 256 = omega arith in
    let last : n / 16777216 % 256 ≡ n / 16777216 = omega arith in
    omega arith

pub number_there : (s xs : List ℕ) (at n : ℕ) → n < 4294967296 → drop at s ≡ four_octets n ++ xs → number_at s at ≡ n
number_there s xs at n h d =
    let g0 = ap (λ k. get_or s k 0) (sym (add-zero at)) ∙ at-drop s (four_octets n ++ xs) at 0 d in
    let g1 = at-drop s (four_octets n ++ xs) at 1 d in
    let g2 = at-drop s (four_octets n ++ xs) at 2 d in
    let g3 = at-drop s (four_octets n ++ xs) at 3 d in
    (λ i. g0 i * 16777216 + g1 i * 65536 + g2 i * 256 + g3 i) ∙ four_value n h

pub number_read : (s : List ℕ) (at : ℕ) → ((k : ℕ) → get_or s k 0 < 256) → at + 4 ≤ length s → (drop at s ≡ four_octets (number_at s at) ++ drop (at + 4) s) × (number_at s at < 4294967296)
number_read s at o l =
    let o0 = o at in
    let o1 = o (at + 1) in
    let o2 = o (at + 2) in
    let o3 = o (at + 3) in
    let a2 : at + 1 + 1 ≡ at + 2 = omega arith in
    let a3 : at + 2 + 1 ≡ at + 3 = omega arith in
    let a4 : at + 3 + 1 ≡ at + 4 = omega arith in (
      drop_more s at 0 (omega arith)
          ∙ ap (λ t. get_or s at 0 ∷ t) (drop_more s (at + 1) 0 (omega arith) ∙ (λ i. get_or s (at + 1) 0 ∷ drop (a2 i) s))
          ∙ ap (λ t. get_or s at 0 ∷ get_or s (at + 1) 0 ∷ t) (drop_more s (at + 2) 0 (omega arith) ∙ (λ i. get_or s (at + 2) 0 ∷ drop (a3 i) s))
          ∙ ap (λ t. get_or s at 0 ∷ get_or s (at + 1) 0 ∷ get_or s (at + 2) 0 ∷ t) (drop_more s (at + 3) 0 (omega arith) ∙ (λ i. get_or s (at + 3) 0 ∷ drop (a4 i) s))
          ∙ ap (λ t. t ++ drop (at + 4) s) (sym (four_read (get_or s at 0) (get_or s (at + 1) 0) (get_or s (at + 2) 0) (get_or s (at + 3) 0) o0 o1 o2 o3)),
      omega arith,
    )
