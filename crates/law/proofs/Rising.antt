-- Records stay such that each is found by its mobile.
use Rattle.std.proofs.Common.{◌≡◌, Bool, true, false, cond, ltb, List, [], ◌∷◌, map, refl, sym, ap, ◌∙◌, subst, arith}
use Rattle.std.specs.List.{list_all}
use Rattle.std.proofs.lemmas.Bool.{and_parts, and_from}
use Rattle.std.proofs.lemmas.Bool.Decides.{nat_tests}
use Rattle.imsi.specs.declared.Imsi.{Imsi}
use Rattle.directory.specs.Order.{rank_of, same}
use Rattle.directory.specs.Lookup.{stored}
use Rattle.directory.proofs.Lookups.{same_true}
use Rattle.context.specs.declared.context.Context.{Context}
use Rattle.context.specs.Contexts.{whose}
use Rattle.law.proofs.Premises.{passes, rising}
use Rattle.law.proofs.Quieter.{AllQuieter}

-- a mobile below another passes none that the other passes
passes_above : (i m n : Imsi) → ltb (rank_of i) (rank_of n) ≡ true → passes m n ≡ true → passes m i ≡ true
passes_above i m n l p = grind (arith, nat_tests)

passes_below : (i n : Imsi) → ltb (rank_of i) (rank_of n) ≡ true → passes n i ≡ true
passes_below i n l = grind (arith, nat_tests)

passes_next : (i n : Imsi) → same i n ≡ false → ltb (rank_of i) (rank_of n) ≡ false → passes i n ≡ true
passes_next i n d l = grind (arith, nat_tests)

all_above : (i n : Imsi) (ms : List Imsi) → ltb (rank_of i) (rank_of n) ≡ true → list_all (λ m. passes m n) ms ≡ true → list_all (λ m. passes m i) ms ≡ true
all_above i n [] l p = refl
all_above i n (m ∷ ms) l p =
    let parts = and_parts (passes m n) (list_all (λ x. passes x n) ms) p in
    and_from _ _ (passes_above i m n l parts.0) (all_above i n ms l parts.1)

-- a store puts a record in its place
all_stored : (n : Imsi) (r : Context) (rs : List Context) → passes (whose r) n ≡ true → list_all (λ m. passes m n) (map whose rs) ≡ true → list_all (λ m. passes m n) (map whose (stored whose r rs)) ≡ true
all_stored n r [] p q = and_from _ _ p refl
all_stored n r (x ∷ rs) p q =
    let parts = and_parts (passes (whose x) n) (list_all (λ m. passes m n) (map whose rs)) q in
    by_place (same (whose r) (whose x)) (ltb (rank_of (whose r)) (rank_of (whose x))) parts.0 parts.1 (all_stored n r rs p parts.1)
  where
    by_place : (a b : Bool) → passes (whose x) n ≡ true → list_all (λ m. passes m n) (map whose rs) ≡ true → list_all (λ m. passes m n) (map whose (stored whose r rs)) ≡ true → list_all (λ m. passes m n) (map whose (cond a (r ∷ rs) (cond b (r ∷ x ∷ rs) (x ∷ stored whose r rs)))) ≡ true
    by_place true b here rest below = and_from _ _ p rest
    by_place false true here rest below = and_from _ _ p (and_from _ _ here rest)
    by_place false false here rest below = and_from _ _ here below

pub rising_stored : (r : Context) (rs : List Context) → rising (map whose rs) ≡ true → rising (map whose (stored whose r rs)) ≡ true
rising_stored r [] up = refl
rising_stored r (x ∷ rs) up =
    let parts = and_parts (list_all (λ m. passes m (whose x)) (map whose rs)) (rising (map whose rs)) up in
    by_place (same (whose r) (whose x)) (ltb (rank_of (whose r)) (rank_of (whose x))) refl refl parts.0 parts.1 (rising_stored r rs parts.1)
  where
    by_place : (a b : Bool) → same (whose r) (whose x) ≡ a → ltb (rank_of (whose r)) (rank_of (whose x)) ≡ b
        → list_all (λ m. passes m (whose x)) (map whose rs) ≡ true → rising (map whose rs) ≡ true → rising (map whose (stored whose r rs)) ≡ true
        → rising (map whose (cond a (r ∷ rs) (cond b (r ∷ x ∷ rs) (x ∷ stored whose r rs)))) ≡ true
    by_place true b e l p q below = and_from _ _ (subst (λ n. list_all (λ m. passes m n) (map whose rs) ≡ true) (sym (same_true (whose r) (whose x) e)) p) q
    by_place false true e l p q below = and_from _ _ (and_from _ _ (passes_below (whose r) (whose x) l) (all_above (whose r) (whose x) (map whose rs) l p)) (and_from _ _ p q)
    by_place false false e l p q below = and_from _ _ (all_stored (whose x) r rs (passes_next (whose r) (whose x) e l) p) below

-- records that are changed quieter keep their mobiles
same_mobiles : (xs ys : List Context) → AllQuieter xs ys → map whose ys ≡ map whose xs
same_mobiles [] [] p = refl
same_mobiles [] (y ∷ ys) p = absurd p
same_mobiles (x ∷ xs) [] p = absurd p
same_mobiles (x ∷ xs) (y ∷ ys) p = (λ i. p.0.mobile i ∷ same_mobiles xs ys p.1 i)

pub rising_quieter : (xs ys : List Context) → AllQuieter xs ys → rising (map whose xs) ≡ true → rising (map whose ys) ≡ true
rising_quieter xs ys p up = ap rising (same_mobiles xs ys p) ∙ up
