-- Elements that may be absent: TMSI and channel. Absent means that another identifier, or none, is next.
use Rattle.std.proofs.Common.{◌≡◌, ℕ, ◌+◌, ◌<◌, ◌≤◌, leb, List, ◌∷◌, ◌++◌, get_or, drop, Some, None, Ok, Option, sym, refl, ap, ◌∙◌, subst, ⊎_elim, arith}
use Rattle.std.proofs.lemmas.List.{drop-drop}
use Rattle.std.proofs.lemmas.Option.{none-some, same_Some}
use Rattle.std.proofs.lemmas.Bool.{cond-true, cond-false, cases_Bool, leb-true, le-leb}
use Rattle.elements.specs.declared.element.Element.TheVariants as el
use Rattle.elements.specs.Reading.{next_is, element_at, coded_at, number_at, after_tmsi, tmsi_at, channel_in, after_channel, channel_at}
use Rattle.elements.specs.Spelling.{octet_element, four_octets, tmsi_element, channel_element}
use Rattle.elements.proofs.Chains.{then_there, then_ok, same_ok}
use Rattle.elements.proofs.Elements.{next_there, next_not, element_there, element_read, coded_there, coded_read, number_there, number_read}

pub tmsi_there : (s xs : List ℕ) (at : ℕ) (t : Option ℕ) → ((n : ℕ) → t ≡ Some n → n < 4294967296) → (get_or xs 0 0 ≡ 2 → ⊥) → drop at s ≡ tmsi_element t ++ xs → tmsi_at s at ≡ Ok t
tmsi_there s xs at None so other d = cond-false _ _ _ (next_not s xs at el.Tmsi d other)
tmsi_there s xs at (Some n) so other d =
    let behind : drop (at + 2) s ≡ four_octets n ++ xs = sym (drop-drop 2 at s) ∙ ap (drop 2) d in
    cond-true _ _ _ (next_there s _ at el.Tmsi d)
    ∙ then_there _ (element_there s (four_octets n ++ xs) at 4 el.Tmsi d (omega arith) (omega arith) (omega arith)) (ap (λ m. Ok (Some m)) (number_there s xs (at + 2) n (so n refl) behind))

pub channel_there : (s xs : List ℕ) (at : ℕ) (c : Option ℕ) → ((n : ℕ) → c ≡ Some n → n ≤ 3) → (get_or xs 0 0 ≡ 12 → ⊥) → drop at s ≡ channel_element c ++ xs → channel_at s at ≡ Ok c
channel_there s xs at None so other d = cond-false _ _ _ (next_not s xs at el.Channel d other)
channel_there s xs at (Some n) so other d =
    cond-true _ _ _ (next_there s _ at el.Channel d) ∙ then_there _ (coded_there channel_in s xs at n el.Channel n d refl refl (cond-true _ _ _ (le-leb n 3 (so n refl)))) refl

pub record Tmsi (s : List ℕ) (at : ℕ) (t : Option ℕ) : Type 0 where
  pub small : (n : ℕ) → t ≡ Some n → n < 4294967296
  pub is : drop at s ≡ tmsi_element t ++ drop (after_tmsi at t) s

pub tmsi_read : (s : List ℕ) (at : ℕ) (t : Option ℕ) → ((k : ℕ) → get_or s k 0 < 256) → tmsi_at s at ≡ Ok t → Tmsi s at t
tmsi_read s at t o r =
    ⊎_elim
    (λ y.
    let got = then_ok (element_at s at el.Tmsi) _ t (sym (cond-true _ _ _ y) ∙ r) in
    let st = element_read s at got.0 el.Tmsi got.1 in
    let st1 = st.low in
    let st2 = st.high in
    let st3 = st.inside in
    let is4 : got.0 ≡ 4 = omega arith in
    let num = number_read s (at + 2) o (omega arith) in
    let six : at + 2 + 4 ≡ at + 6 = omega arith in
    subst (λ w. Tmsi s at w) (same_ok _ t got.2)
    (record {
      small = λ n e. subst (λ m. m < 4294967296) (same_Some (number_at s (at + 2)) n e) num.1;
      is = st.is ∙ ap (λ m. 2 ∷ m ∷ drop (at + 2) s) is4 ∙ ap (λ x. 2 ∷ 4 ∷ x) (num.0 ∙ ap (λ m. four_octets (number_at s (at + 2)) ++ drop m s) six);
    }))
    (λ f. subst (λ w. Tmsi s at w) (same_ok None t (sym (cond-false _ _ _ f) ∙ r)) (record { small = λ n e. absurd (none-some n e); is = refl }))
    (cases_Bool (next_is s at el.Tmsi))

pub record Channel (s : List ℕ) (at : ℕ) (c : Option ℕ) : Type 0 where
  pub small : (n : ℕ) → c ≡ Some n → n ≤ 3
  pub is : drop at s ≡ channel_element c ++ drop (after_channel at c) s

channel_small : (n m : ℕ) → channel_in n ≡ Some m → (n ≡ m) × (m ≤ 3)
channel_small n m e =
    ⊎_elim
    (λ t. let s = same_Some n m (sym (cond-true _ _ _ t) ∙ e) in let l = leb-true n 3 t in (s, omega arith))
    (λ f. absurd (none-some m (sym (cond-false _ _ _ f) ∙ e)))
    (cases_Bool (leb n 3))

pub channel_read : (s : List ℕ) (at : ℕ) (c : Option ℕ) → channel_at s at ≡ Ok c → Channel s at c
channel_read s at c r =
    ⊎_elim
    (λ y.
    let got = then_ok (coded_at channel_in s at el.Channel) _ c (sym (cond-true _ _ _ y) ∙ r) in
    let n = got.0 in
    let cd = coded_read channel_in s at el.Channel n refl refl got.1 in
    let so = channel_small cd.octet n cd.stands in
    subst (λ w. Channel s at w) (same_ok _ c got.2)
    (record {
      small = λ m e. subst (λ k. k ≤ 3) (same_Some n m e) so.1;
      is = cd.is ∙ ap (λ m. octet_element el.Channel m ++ drop (at + 3) s) so.0;
    }))
    (λ f. subst (λ w. Channel s at w) (same_ok None c (sym (cond-false _ _ _ f) ∙ r)) (record { small = λ n e. absurd (none-some n e); is = refl }))
    (cases_Bool (next_is s at el.Channel))
