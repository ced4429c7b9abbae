use Rattle.std.proofs.Common.{rules, arith, ◌≡◌, ℕ, ◌<◌, true, length, slice_index, ◌+◌, ◌-◌, get_or, sym, ap, ◌∙◌}
use Rattle.std.proofs.lemmas.List.{get_or-take, get_or-drop}
use Rattle.std.specs.Cmp.Lexicographic.{same_text}
use Rattle.crosscheck.proofs.compare.holds.Goals as goal

-- nothing new stands behind the octets
rest : (c : goal.After-all) → c.all.result ≡ true → (j : ℕ) → j < length c.in-Some.behind.now → slice_index c.in-Some.behind.now j ≡ 165
rest c r j under = search rules

pub returns-clause-same : goal.returns-clause-same
returns-clause-same c r k here inside =
    sym (get_or-take (length c.args.octets.now) c.args.buffer.now k 0 inside)
    ∙ ap (λ xs. get_or xs k 0) (same_text _ _ (sym c.in-Some.ensures.cases.0))

pub returns-clause-beyond : goal.returns-clause-beyond
returns-clause-beyond c r k here beyond =
    let count = length c.args.octets.now in
    let split = c.in-Some.ensures.cases in
    let place : k ≡ count + (k - count) = omega arith in
    ap (λ i. get_or c.args.buffer.now i 0) place
    ∙ sym (get_or-drop count c.args.buffer.now (k - count) 0)
    ∙ ap (λ xs. get_or xs (k - count) 0) (sym split.1)
    ∙ rest c r (k - count) (omega (arith, split.2))
