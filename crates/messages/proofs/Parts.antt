-- The parts that messages share: the type octet, the IMSI, one coded element at the end, alone and after an IMSI.
use Rattle.std.proofs.Common.{◌≡◌, ℕ, ◌+◌, ◌/◌, true, ltb, List, [], ◌∷◌, ◌++◌, length, get_or, drop, Some, Ok, Option, sym, refl, ap, ◌∙◌, subst, ⊎_elim, append-nil, add-zero, arith}
use Rattle.std.proofs.lemmas.List.{length-drop, drop_all, drop_more}
use Rattle.std.proofs.lemmas.Bool.{cond-true, cond-false, lt-ltb, le-ltb, ltb-false, ltb-true, cases_Bool}
use Rattle.imsi.specs.declared.Imsi.{Imsi}
use Rattle.imsi.proofs.Spelt.{length-octets}
use Rattle.elements.specs.declared.element.Element.{Element}
use Rattle.elements.specs.Reading.{coded_at, imsi_at, end_at}
use Rattle.elements.specs.Spelling.{imsi_element, octet_element}
use Rattle.elements.specs.Table.{least_of, most_of}
use Rattle.elements.proofs.Chains.{then_there, then_ok, same_ok, fault_ok, at-drop, drop_size, past}
use Rattle.elements.proofs.Elements.{coded_there, coded_read, imsi_there, imsi_read}
use Rattle.messages.specs.declared.kind.MessageType.{MessageType}
use Rattle.messages.specs.declared.message.Message.{Message}
use Rattle.messages.specs.Kinds.{octet_of, kind_in}
use Rattle.messages.specs.Lawful.{lawful_mobile}
use Rattle.messages.proofs.Types.{kind_there, kind_back}
use Rattle.messages.specs.Reading.{imsi_of, after_imsi, mobile_at, last_at, mobile_and_at, imsi_and_at, body_at, known_or, kind_at, message_at}

-- the type octet chooses
pub type_there : (s xs : List ℕ) (at : ℕ) (k : MessageType) → drop at s ≡ octet_of k ∷ xs → message_at s at ≡ body_at s (at + 1) k
type_there s xs at k d =
    let size = drop_size s (octet_of k ∷ xs) at d (omega arith) in
    let g0 : get_or s at 0 ≡ octet_of k = ap (λ i. get_or s i 0) (sym (add-zero at)) ∙ at-drop s (octet_of k ∷ xs) at 0 d in
    then_there (body_at s (at + 1)) (cond-true _ _ _ (lt-ltb at (length s) (omega arith)) ∙ ap (λ n. known_or (kind_in n) at) g0 ∙ ap (λ o. known_or o at) (kind_there k)) refl

pub type_read : (s : List ℕ) (at : ℕ) (m : Message) → message_at s at ≡ Ok m → (k : MessageType) × (drop at s ≡ octet_of k ∷ drop (at + 1) s) × (body_at s (at + 1) k ≡ Ok m)
type_read s at m r =
    let a = then_ok (kind_at s at) _ m r in
    let k = a.0 in
    ⊎_elim
    (λ t. (k, drop_more s at 0 (ltb-true at (length s) t) ∙ ap (λ n. n ∷ drop (at + 1) s) (sym (kind_back (get_or s at 0) at k (sym (cond-true _ _ _ t) ∙ a.1))), a.2))
    (λ f. fault_ok _ k (sym (cond-false _ _ _ f) ∙ a.1))
    (cases_Bool (ltb at (length s)))

-- the end of the octets
pub end_there : {X : Type 0} (s : List ℕ) (at : ℕ) (x : X) → drop at s ≡ [] → end_at s at x ≡ Ok x
end_there s at x e = let a = length-drop at s in let b = ap length e in cond-false _ _ _ (le-ltb at (length s) (omega arith))

pub end_read : {X : Type 0} (s : List ℕ) (at : ℕ) (x y : X) → end_at s at x ≡ Ok y → (drop at s ≡ []) × (x ≡ y)
end_read s at x y e =
    ⊎_elim
    (λ t. fault_ok _ y (sym (cond-true _ _ _ t) ∙ e))
    (λ f. (drop_all at s (ltb-false at (length s) f), same_ok x y (sym (cond-false _ _ _ f) ∙ e)))
    (cases_Bool (ltb at (length s)))

-- the IMSI
pub imsi_size : (i : Imsi) → length (imsi_element i) ≡ 3 + i.digits / 2
imsi_size i = let l = length-octets i.digits i.value in omega arith

pub mobile_there : (s xs : List ℕ) (at : ℕ) (i : Imsi) → drop at s ≡ imsi_element i ++ xs → lawful_mobile i ≡ true → mobile_at s at ≡ Ok i
mobile_there s xs at i d l = then_there _ (imsi_there s xs at i.digits i.value d l) refl

pub mobile_past : (s xs : List ℕ) (at : ℕ) (i : Imsi) → drop at s ≡ imsi_element i ++ xs → drop (after_imsi at i) s ≡ xs
mobile_past s xs at i d = past s (imsi_element i) xs at (after_imsi at i) d (let z = imsi_size i in omega arith)

pub record Mobile (s : List ℕ) (at : ℕ) (i : Imsi) : Type 0 where
  pub lawful : lawful_mobile i ≡ true
  pub is : drop at s ≡ imsi_element i ++ drop (after_imsi at i) s

pub mobile_read : (s : List ℕ) (at : ℕ) (i : Imsi) → mobile_at s at ≡ Ok i → Mobile s at i
mobile_read s at i r =
    let got = then_ok (imsi_at s at) _ i r in
    let p = got.0 in
    let m = imsi_read s at p.0 p.1 got.1 in
    subst (λ w. Mobile s at w) (same_ok (imsi_of p) i got.2) (record { lawful = m.lawful; is = m.is })

-- one coded element, then the end
pub last_there : {X : Type 0} (of : ℕ → Option X) (e : Element) (s : List ℕ) (at v : ℕ) (x : X) → drop at s ≡ octet_element e v → least_of e ≡ 1 → most_of e ≡ 1 → of v ≡ Some x → last_at of e s at ≡ Ok x
last_there of e s at v x d lo hi h =
    let d1 = d ∙ sym (append-nil (octet_element e v)) in
    then_there _ (coded_there of s [] at v e x d1 lo hi h) (end_there s (at + 3) x (past s (octet_element e v) [] at (at + 3) d1 refl))

pub record Last {X : Type 0} (of : ℕ → Option X) (e : Element) (s : List ℕ) (at : ℕ) (x : X) : Type 0 where
  pub octet : ℕ
  pub stands : of octet ≡ Some x
  pub is : drop at s ≡ octet_element e octet

pub last_read : {X : Type 0} (of : ℕ → Option X) (e : Element) (s : List ℕ) (at : ℕ) (x : X) → least_of e ≡ 1 → most_of e ≡ 1 → last_at of e s at ≡ Ok x → Last of e s at x
last_read of e s at x lo hi r =
    let a = then_ok (coded_at of s at e) _ x r in
    let cd = coded_read of s at e a.0 lo hi a.1 in
    let fin = end_read s (at + 3) a.0 x a.2 in
    let v = cd.octet in
    record {
      octet = v;
      stands = cd.stands ∙ ap Some fin.1;
      is = cd.is ∙ ap (λ t. octet_element e v ++ t) fin.0 ∙ append-nil (octet_element e v);
    }

-- an IMSI before it
pub imsi_and_there : {X : Type 0} (of : ℕ → Option X) (e : Element) (make : Imsi → X → Message) (s : List ℕ) (at v : ℕ) (i : Imsi) (x : X) → drop at s ≡ imsi_element i ++ octet_element e v → lawful_mobile i ≡ true → least_of e ≡ 1 → most_of e ≡ 1 → of v ≡ Some x → imsi_and_at of e make s at ≡ Ok (make i x)
imsi_and_there of e make s at v i x d l lo hi h =
    let value = last_there of e s (after_imsi at i) v x (mobile_past s (octet_element e v) at i d) lo hi h in
    then_there _ (then_there _ (mobile_there s (octet_element e v) at i d l) (then_there _ value refl)) refl

pub record ImsiAnd {X : Type 0} (of : ℕ → Option X) (e : Element) (make : Imsi → X → Message) (s : List ℕ) (at : ℕ) (m : Message) : Type 0 where
  pub imsi : Imsi
  pub value : X
  pub made : make imsi value ≡ m
  pub lawful : lawful_mobile imsi ≡ true
  pub octet : ℕ
  pub stands : of octet ≡ Some value
  pub is : drop at s ≡ imsi_element imsi ++ octet_element e octet

pub imsi_and_read : {X : Type 0} (of : ℕ → Option X) (e : Element) (make : Imsi → X → Message) (s : List ℕ) (at : ℕ) (m : Message) → least_of e ≡ 1 → most_of e ≡ 1 → imsi_and_at of e make s at ≡ Ok m → ImsiAnd of e make s at m
imsi_and_read of e make s at m lo hi r =
    let both = then_ok (mobile_and_at of e s at) _ m r in
    let a = then_ok (mobile_at s at) _ both.0 both.1 in
    let i = a.0 in
    let mo = mobile_read s at i a.1 in
    let b = then_ok (last_at of e s (after_imsi at i)) _ both.0 a.2 in
    let la = last_read of e s (after_imsi at i) b.0 lo hi b.1 in
    record {
      imsi = i;
      value = b.0;
      made = ◌∙◌ {b = make both.0.0 both.0.1} (ap (λ p. make p.0 p.1) (same_ok (i, b.0) both.0 b.2)) (same_ok _ m both.2);
      lawful = mo.lawful;
      octet = la.octet;
      stands = la.stands;
      is = mo.is ∙ ap (λ t. imsi_element i ++ t) la.is;
    }
