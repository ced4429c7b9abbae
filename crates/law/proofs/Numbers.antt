-- Numbers that are all different are so in any order.
use Rattle.std.proofs.Common.{◌≡◌, Bool, true, false, not, List, [], ◌∷◌, refl, sym, ◌∙◌, arith}
use Rattle.std.specs.List.{list_all, list_any, IsDistinct}
use Rattle.std.specs.List.Sorted.{IsPermutation}
use Rattle.std.proofs.lemmas.Bool.{true≢false, and_parts, and_from, not-true, not_from_false, false_from_ne_true, or_from}
use Rattle.std.proofs.lemmas.Bool.Decides.{nat_tests}
use Rattle.std.proofs.lemmas.List.Elements.{All-from_recursion, recursion_from_All}
use Rattle.std.proofs.lemmas.List.Folds.{list_any_at, list_any_none}
use Rattle.std.proofs.lemmas.List.Sorted.{IsPermutation-cons}
use Rattle.std.proofs.lemmas.Map.Keys.{IsDistinct-IsPermutation}
use Rattle.elements.specs.declared.node.NodeNumber.{NodeNumber}
use Rattle.elements.specs.declared.node.SgsnNumber.{SgsnNumber}
use Rattle.elements.specs.declared.node.VlrNumber.{VlrNumber}
use Rattle.elements.specs.Nodes.{lawful_node, same_node}
use Rattle.frames.specs.Format.{lawful_nodes}
use Rattle.sgsn.specs.Making.{all_different, lawful_numbers}

-- no two nodes have one number: the VLRs' numbers are different from one another and from the SGSN's
abbrev pub apart : NodeNumber → List VlrNumber → Bool
apart n vs = all_different (record { node = n } ∷ vs)

abbrev twins : VlrNumber → VlrNumber → Bool
twins v w = same_node w.node v.node

other_way : (a b : NodeNumber) → same_node a b ≡ same_node b a
other_way a b = grind (arith, nat_tests)

distinct : (vs : List VlrNumber) → all_different vs ≡ true → IsDistinct twins vs
unfolding IsDistinct
distinct [] d = tt
distinct (v ∷ vs) d =
    let p = and_parts (not (list_any (twins v) vs)) _ d in
    (recursion_from_All _ vs (λ k w l. false_from_ne_true _ (λ t. true≢false (sym (list_any_at (twins v) vs k w l t) ∙ not-true _ p.0))), distinct vs p.1)

different : (vs : List VlrNumber) → IsDistinct twins vs → all_different vs ≡ true
unfolding IsDistinct
different [] d = refl
different (v ∷ vs) d = and_from _ _ (not_from_false _ (list_any_none (twins v) vs (All-from_recursion _ vs d.0))) (different vs d.1)

pub apart_reordered : (n : NodeNumber) (vs ws : List VlrNumber) → IsPermutation vs ws → apart n vs ≡ true → apart n ws ≡ true
apart_reordered n vs ws same a =
    let k : VlrNumber = record { node = n } in
    different (k ∷ ws) (IsDistinct-IsPermutation twins (λ v w. other_way w.node v.node) (k ∷ vs) (k ∷ ws) (IsPermutation-cons k vs ws same) (distinct (k ∷ vs) a))

-- the SGSN's number is none of those that it goes with
not_among : (n : NodeNumber) (vs : List VlrNumber) → list_all (λ v. lawful_nodes n v.node) vs ≡ true → list_any (λ v. same_node v.node n) vs ≡ false
not_among n [] l = refl
not_among n (v ∷ vs) l =
    let p = and_parts (lawful_nodes n v.node) _ l in
    let own = and_parts (lawful_node n) _ p.0 in
    let their = and_parts (lawful_node v.node) (not (same_node n v.node)) own.1 in
    or_from _ _ (other_way v.node n ∙ not-true _ their.1) (not_among n vs p.1)

pub lawful_apart : (n : SgsnNumber) (vs : List VlrNumber) → lawful_numbers n vs ≡ true → apart n.node vs ≡ true
lawful_apart n vs l =
    let some = and_parts _ _ l in
    let few = and_parts _ _ some.1 in
    let their = and_parts (list_all (λ v. lawful_nodes n.node v.node) vs) (all_different vs) few.1 in
    and_from _ _ (not_from_false _ (not_among n.node vs their.0)) their.1
