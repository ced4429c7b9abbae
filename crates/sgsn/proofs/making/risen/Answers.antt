-- The front is sorted in place, and nothing behind it counts.
use Rattle.std.proofs.Common.{length, sym, ap, ◌∙◌, subst, rules}
use Rattle.std.specs.List.Sorted.{IsPermutation, IsNonDecreasingBy}
use Rattle.std.proofs.lemmas.List.{take_at}
use Rattle.std.proofs.lemmas.List.Sorted.{IsNonDecreasingBy-from_sort, answers_always}
use Rattle.elements.specs.declared.node.VlrNumber.{VlrNumber}
use Rattle.sgsn.specs.Making.{Risen}
use Rattle.sgsn.proofs.making.risen.Goals as goal

pub returns : goal.returns
returns c =
    let vs = c.args.vlrs.now in
    let sorted = c.sort_unstable_by_key.new.self in
    let number : (VlrNumber → _) = λ v. v.node.number in
    let same : IsPermutation vs sorted = subst (λ l. IsPermutation l sorted) c.copy_from_slice.ensures.after c.sort_unstable_by_key.ensures.permutation in
    let rises : IsNonDecreasingBy number sorted = IsNonDecreasingBy-from_sort number sorted (c.sort_unstable_by_key.ensures.sorted number (answers_always _ _ _ (λ f a r g h. search rules))) in
    let front = take_at sorted _ (length vs) (c.sort_unstable_by_key.ensures.len ∙ ap length c.copy_from_slice.ensures.after) in
    subst (Risen vs) (sym front) (same, rises)
