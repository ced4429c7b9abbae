-- A mobile has one record at most.
use Rattle.std.proofs.Common.{◌≡◌, ℕ, ◌+◌, ◌≤◌, true, false, cond, List, [], ◌∷◌, map, refl, sym, ap, subst, arith}
use Rattle.std.specs.List.{list_all, count_by}
use Rattle.std.proofs.lemmas.Bool.{and_parts, cond_both}
use Rattle.std.proofs.lemmas.Bool.Decides.{nat_tests}
use Rattle.std.proofs.lemmas.List.Sums.{sum_by-cons}
use Rattle.imsi.specs.declared.Imsi.{Imsi}
use Rattle.directory.specs.Order.{same}
use Rattle.directory.proofs.Lookups.{same_true}
use Rattle.context.specs.declared.context.Context.{Context}
use Rattle.context.specs.Contexts.{whose}
use Rattle.law.proofs.Premises.{passes, rising}

-- a mobile that is passed is another one
another : (m n : Imsi) → passes m n ≡ true → same n m ≡ false
another m n p = grind (arith, nat_tests)

none_of : (m : Imsi) (rs : List Context) → list_all (λ n. passes n m) (map whose rs) ≡ true → count_by (λ r. same m (whose r)) rs ≡ 0
none_of m [] p = refl
none_of m (r ∷ rs) p =
    let parts = and_parts (passes (whose r) m) (list_all (λ n. passes n m) (map whose rs)) p in
    let first = sum_by-cons (λ x. cond (same m (whose x)) 1 0) r rs in
    let here : cond {A = ℕ} (same m (whose r)) 1 0 ≡ 0 = ap (λ b. cond b 1 0) (another (whose r) m parts.0) in
    omega (arith, first, here, none_of m rs parts.1)

pub once : (m : Imsi) (rs : List Context) → rising (map whose rs) ≡ true → count_by (λ r. same m (whose r)) rs ≤ 1
once m [] up = omega arith
once m (r ∷ rs) up =
    let parts = and_parts (list_all (λ n. passes n (whose r)) (map whose rs)) (rising (map whose rs)) up in
    let first = sum_by-cons (λ x. cond (same m (whose x)) 1 0) r rs in
    subst (λ k. k ≤ 1) (sym first) (cond_both (same m (whose r)) 1 0 (λ k. k + count_by (λ x. same m (whose x)) rs ≤ 1)
    (λ t. omega (arith, none_of m rs (subst (λ i. list_all (λ n. passes n i) (map whose rs) ≡ true) (sym (same_true m (whose r) t)) parts.0)))
    (λ f. omega (arith, once m rs parts.1)))
