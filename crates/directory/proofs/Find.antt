-- What a binary search by mobile answers.
use Rattle.std.proofs.Common.{◌≡◌, ℕ, ◌≤◌, true, ltb, cond, List, length, get_or, None, Some, Ok, Err, Result, sym, arith}
use Rattle.std.specs.declared.cmp.Ordering.{Ordering}
use Rattle.std.specs.declared.cmp.Ordering.TheVariants.{Less, Equal, Greater}
use Rattle.std.specs.List.Sorted.{IsSearchInRange, IsBinarySearchResult, IsNonDecreasingBy}
use Rattle.std.specs.Ordering.{nat_cmp, ordering_index, is_eq}
use Rattle.std.specs.Option.{MatchOption}
use Rattle.std.specs.Result.{result_ok}
use Rattle.std.proofs.lemmas.Bool.Decides.{nat_tests}
use Rattle.std.proofs.lemmas.Cmp.{ranked}
use Rattle.imsi.specs.declared.Imsi.{Imsi}
use Rattle.directory.specs.Order.{rank_of, same, Climbs}
use Rattle.directory.specs.Lookup.{at}
use Rattle.directory.specs.Search.{Place}
use Rattle.directory.proofs.Climb.{Climbs-from, found, missing}
use Rattle.directory.proofs.Lookups.{at_found, at_missing}

index_rises : (a b m : ℕ) → a ≤ b → ordering_index (nat_cmp a m) ≤ ordering_index (nat_cmp b m)
index_rises a b m le = grind (arith, nat_tests)

module _ {R : Type 0} (w : R → Imsi) (m : Imsi) where
  -- how a record's mobile stands to m, by rank
  abbrev pub by_rank : R → Ordering
  by_rank x = nat_cmp (rank_of (w x)) (rank_of m)

  -- the same, but equal only where the mobiles are the same
  abbrev pub by_same : R → Ordering
  by_same x = cond (same m (w x)) Equal (cond (ltb (rank_of (w x)) (rank_of m)) Less Greater)

  pub both : (x : R) (r : Ordering) → is_eq r ≡ same m (w x) → r ≡ by_rank x → r ≡ by_same x
  both x r e k = grind (arith, nat_tests)

  is_same : (x : R) → by_same x ≡ Equal → same m (w x) ≡ true
  is_same x e = grind (arith, nat_tests)

  pub searched : (xs : List R) (r : Result ℕ ℕ) → IsSearchInRange r (length xs) → IsBinarySearchResult by_same xs r → IsBinarySearchResult by_rank xs r → Climbs w xs → Place w m xs r
  searched xs (Ok i) range equal _ up = (range, λ d. is_same (get_or xs i d) (equal d))
  searched xs (Err i) range _ parted up =
      let rises : IsNonDecreasingBy (λ x. ordering_index (by_rank x)) xs = λ i k d le h. index_rises _ _ (rank_of m) (Climbs-from w xs up i k d le h) in (
        range,
        (λ k d lt. ranked _ (rank_of m) Less (sym ((parted rises).0 k d (omega arith) lt))),
        (λ k d le h. ranked _ (rank_of m) Greater (sym ((parted rises).1 k d le h))),
      )

  -- what a lookup makes of it
  pub looked_up : (xs : List R) (r : Result ℕ ℕ) → Climbs w xs → Place w m xs r → MatchOption (result_ok r) (at w xs m ≡ None) (λ i. (d : R) → at w xs m ≡ Some (get_or xs i d))
  looked_up xs (Ok i) up p = at_found w xs m i (found w xs up m i p)
  looked_up xs (Err i) up p = at_missing w xs m i (missing w xs m i p)
