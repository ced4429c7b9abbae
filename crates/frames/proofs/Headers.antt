-- What stands in front of the message: lawful headers are read, and what is read is lawful.
use Rattle.std.proofs.Common.{◌≡◌, ℕ, ◌<◌, ◌≤◌, Bool, true, false, cond, not, eqb, ltb, List, ◌∷◌, ◌++◌, length, get_or, drop, Ok, Err, Result, sym, refl, ap, ◌∙◌, ⊎_elim, append_assoc, arith}
use Rattle.std.proofs.lemmas.List.{drop_more}
use Rattle.std.proofs.lemmas.Bool.{cond-true, cond-false, and_from, and_parts, not_from_true, not_from_false, not-false, not-true, le-ltb, ltb-false, eqb-false, ne_eqb, cases_Bool}
use Rattle.elements.specs.declared.fault.Fault.{Fault}
use Rattle.elements.specs.declared.node.NodeNumber.{NodeNumber}
use Rattle.elements.specs.Nodes.{lawful_node, same_node}
use Rattle.elements.specs.Reading.{number_at}
use Rattle.elements.specs.Spelling.{four_octets}
use Rattle.elements.proofs.Chains.{same_ok, fault_ok, past}
use Rattle.elements.proofs.Elements.{number_there, number_read}
use Rattle.frames.specs.declared.frame.Header.{Header}
use Rattle.frames.specs.Format.{lawful_nodes, header_octets, node_at, header_in, header_read}

-- a test that is not passed gives no fault
step : {X : Type 0} (t : Bool) (d : Fault) (y : Result X Fault) (x : X) → cond t (Err d) y ≡ Ok x → (t ≡ false) × (y ≡ Ok x)
step t d y x e =
    ⊎_elim (λ h. fault_ok d x (sym (cond-true _ _ _ h) ∙ e)) (λ h. (h, sym (cond-false _ _ _ h) ∙ e)) (cases_Bool t)

pub record Read (s : List ℕ) (h : Header) : Type 0 where
  pub is : header_in s ≡ h
  pub low : 11 ≤ length s
  pub high : length s ≤ 64
  pub nodes : lawful_nodes (node_at s 0) (node_at s 1) ≡ true
  pub stamp : 1 ≤ number_at s 2

pub header_read_lem : (s : List ℕ) (h : Header) → header_read s ≡ Ok h → Read s h
header_read_lem s h e =
    let a = step (ltb (length s) 11) _ _ h e in
    let b = step (ltb 64 (length s)) _ _ h a.1 in
    let c = step (not (lawful_node (node_at s 0))) _ _ h b.1 in
    let d = step (not (lawful_node (node_at s 1))) _ _ h c.1 in
    let f = step (same_node (node_at s 0) (node_at s 1)) _ _ h d.1 in
    let g = step (eqb (number_at s 2) 0) _ _ h f.1 in
    let some = eqb-false (number_at s 2) 0 g.0 in
    record {
      is = same_ok _ h g.1;
      low = ltb-false (length s) 11 a.0;
      high = ltb-false 64 (length s) b.0;
      nodes = and_from _ _ (not-false (lawful_node (node_at s 0)) c.0) (and_from _ _ (not-false (lawful_node (node_at s 1)) d.0) (not_from_false (same_node (node_at s 0) (node_at s 1)) f.0));
      stamp = omega arith;
    }

pub header_there : (s : List ℕ) (h : Header) → header_in s ≡ h → 11 ≤ length s → length s ≤ 64 → lawful_nodes (node_at s 0) (node_at s 1) ≡ true → 1 ≤ number_at s 2 → header_read s ≡ Ok h
header_there s h is low high nodes stamp =
    let a = and_parts (lawful_node (node_at s 0)) _ nodes in
    let b = and_parts (lawful_node (node_at s 1)) _ a.1 in
    cond-false _ _ _ (le-ltb (length s) 11 low)
    ∙ cond-false _ _ _ (le-ltb 64 (length s) high)
    ∙ cond-false _ _ _ (not_from_true _ a.0)
    ∙ cond-false _ _ _ (not_from_true _ b.0)
    ∙ cond-false _ _ _ (not-true _ b.1)
    ∙ cond-false _ _ _ (ne_eqb (number_at s 2) 0 (λ z. omega arith))
    ∙ ap Ok is

-- the ten octets in front
pub front_read : (s : List ℕ) → ((k : ℕ) → get_or s k 0 < 256) → 10 ≤ length s → (header_octets (node_at s 0) (node_at s 1) (number_at s 2) (number_at s 6) ++ drop 10 s ≡ s) × (number_at s 2 < 4294967296) × (number_at s 6 < 4294967296)
front_read s o l =
    let a = number_read s 2 o (omega arith) in
    let b = number_read s 6 o (omega arith) in
    let four = four_octets (number_at s 2) in
    let e : drop 2 s ≡ (four ++ four_octets (number_at s 6)) ++ drop 10 s = a.0 ∙ ap (λ t. four ++ t) b.0 ∙ sym (append_assoc four (four_octets (number_at s 6)) (drop 10 s)) in (
      sym (drop_more s 0 0 (omega arith) ∙ ap (λ t. get_or s 0 0 ∷ t) (drop_more s 1 0 (omega arith) ∙ ap (λ t. get_or s 1 0 ∷ t) e)),
      a.1,
      b.1,
    )

pub front_there : (s xs : List ℕ) (p q : NodeNumber) (stamp answers : ℕ) → stamp < 4294967296 → answers < 4294967296 → header_octets p q stamp answers ++ xs ≡ s → (header_in s ≡ record { source = p; destination = q; stamp = stamp; answers = answers }) × (drop 10 s ≡ xs)
front_there s xs p q stamp answers k l e =
    let fs = four_octets stamp in
    let fa = four_octets answers in
    let d : s ≡ header_octets p q stamp answers ++ xs = sym e in
    let s0 : get_or s 0 0 ≡ p.number = ap (λ t. get_or t 0 0) d in
    let s1 : get_or s 1 0 ≡ q.number = ap (λ t. get_or t 1 0) d in
    let d2 : drop 2 s ≡ fs ++ (fa ++ xs) = ap (drop 2) d ∙ append_assoc fs fa xs in
    let d6 : drop 6 s ≡ fa ++ xs = past s fs (fa ++ xs) 2 6 d2 refl in
    let d10 : drop 10 s ≡ xs = past s fa xs 6 10 d6 refl in
    let n2 = number_there s (fa ++ xs) 2 stamp k d2 in
    let n6 = number_there s xs 6 answers l d6 in
    (λ i. record { source = record { number = s0 i }; destination = record { number = s1 i }; stamp = n2 i; answers = n6 i }, d10)
