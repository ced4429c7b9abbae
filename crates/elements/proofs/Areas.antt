-- Location areas: where their octets stand they are read, and where they are read their octets stand.
use Rattle.std.proofs.Common.{◌≡◌, ℕ, ◌+◌, List, [], ◌∷◌, ◌++◌, length, get_or, drop, Ok, refl, ap, ◌∙◌, subst, arith}
use Rattle.std.proofs.lemmas.List.{drop_more, length-append, get_or_append_left}
use Rattle.elements.specs.declared.area.LocationArea.{LocationArea}
use Rattle.elements.specs.declared.element.Element.{Element}
use Rattle.elements.specs.Reading.{element_at, area_at}
use Rattle.elements.specs.Spelling.{area_element}
use Rattle.elements.specs.Table.{identifier_of, least_of, most_of}
use Rattle.elements.proofs.Chains.{then_there, then_ok, same_ok, at-drop}
use Rattle.elements.proofs.Elements.{element_there, element_read}

-- five octets are these five
five : (xs : List ℕ) → length xs ≡ 5 → (get_or xs 0 0 ∷ get_or xs 1 0 ∷ get_or xs 2 0 ∷ get_or xs 3 0 ∷ get_or xs 4 0 ∷ []) ≡ xs
five [] e = absurd (omega arith)
five (a ∷ []) e = absurd (omega arith)
five (a ∷ b ∷ []) e = absurd (omega arith)
five (a ∷ b ∷ c ∷ []) e = absurd (omega arith)
five (a ∷ b ∷ c ∷ d ∷ []) e = absurd (omega arith)
five (a ∷ b ∷ c ∷ d ∷ f ∷ []) e = refl
five (a ∷ b ∷ c ∷ d ∷ f ∷ g ∷ xs) e = absurd (omega arith)

pub area_there : (s xs : List ℕ) (at : ℕ) (e : Element) (a : LocationArea) → drop at s ≡ area_element e a ++ xs → least_of e ≡ 5 → most_of e ≡ 5 → length a.octets ≡ 5 → area_at s at e ≡ Ok a
area_there s xs at e a d lo hi l =
    let os = a.octets in
    let long = length-append os xs in
    let g2 = at-drop s (area_element e a ++ xs) at 2 d ∙ get_or_append_left os xs 0 0 (omega arith) in
    let g3 = at-drop s (area_element e a ++ xs) at 3 d ∙ get_or_append_left os xs 0 1 (omega arith) in
    let g4 = at-drop s (area_element e a ++ xs) at 4 d ∙ get_or_append_left os xs 0 2 (omega arith) in
    let g5 = at-drop s (area_element e a ++ xs) at 5 d ∙ get_or_append_left os xs 0 3 (omega arith) in
    let g6 = at-drop s (area_element e a ++ xs) at 6 d ∙ get_or_append_left os xs 0 4 (omega arith) in
    then_there _ (element_there s (os ++ xs) at 5 e d (omega arith) (omega arith) (omega arith))
    ((λ i. Ok (record { octets = g2 i ∷ g3 i ∷ g4 i ∷ g5 i ∷ g6 i ∷ [] })) ∙ ap (λ t. Ok (record { octets = t })) (five os l))

pub record Area (s : List ℕ) (at : ℕ) (e : Element) (a : LocationArea) : Type 0 where
  pub long : length a.octets ≡ 5
  pub is : drop at s ≡ area_element e a ++ drop (at + 7) s

pub area_read : (s : List ℕ) (at : ℕ) (e : Element) (a : LocationArea) → least_of e ≡ 5 → most_of e ≡ 5 → area_at s at e ≡ Ok a → Area s at e a
area_read s at e a lo hi r =
    let got = then_ok (element_at s at e) _ a r in
    let n = got.0 in
    let st = element_read s at n e got.1 in
    let st1 = st.low in
    let st2 = st.high in
    let st3 = st.inside in
    let is5 : n ≡ 5 = omega arith in
    let same = same_ok _ a got.2 in
    let a3 : at + 2 + 1 ≡ at + 3 = omega arith in
    let a4 : at + 3 + 1 ≡ at + 4 = omega arith in
    let a5 : at + 4 + 1 ≡ at + 5 = omega arith in
    let a6 : at + 5 + 1 ≡ at + 6 = omega arith in
    let a7 : at + 6 + 1 ≡ at + 7 = omega arith in
    subst (λ w. Area s at e w) same
    (record {
      long = refl;
      is =
          st.is ∙ ap (λ m. identifier_of e ∷ m ∷ drop (at + 2) s) is5
          ∙ ap (λ t. identifier_of e ∷ 5 ∷ t)
          (drop_more s (at + 2) 0 (omega arith) ∙ (λ i. get_or s (at + 2) 0 ∷ drop (a3 i) s)
          ∙ ap (λ t. get_or s (at + 2) 0 ∷ t)
          (drop_more s (at + 3) 0 (omega arith) ∙ (λ i. get_or s (at + 3) 0 ∷ drop (a4 i) s)
          ∙ ap (λ t. get_or s (at + 3) 0 ∷ t)
          (drop_more s (at + 4) 0 (omega arith) ∙ (λ i. get_or s (at + 4) 0 ∷ drop (a5 i) s)
          ∙ ap (λ t. get_or s (at + 4) 0 ∷ t)
          (drop_more s (at + 5) 0 (omega arith) ∙ (λ i. get_or s (at + 5) 0 ∷ drop (a6 i) s)
          ∙ ap (λ t. get_or s (at + 5) 0 ∷ t)
          (drop_more s (at + 6) 0 (omega arith) ∙ (λ i. get_or s (at + 6) 0 ∷ drop (a7 i) s))))));
    })
