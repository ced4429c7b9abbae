-- Lists of records that climb.
use Rattle.std.proofs.Common.{◌≡◌, ℕ, zero, suc, ◌+◌, ◌-◌, ◌<◌, ◌≤◌, false, ltb, List, [], ◌∷◌, map, length, get_or, set, Ok, Err, refl, ap, ⊎_elim, arith, length-set}
use Rattle.std.specs.List.{insert}
use Rattle.std.proofs.lemmas.List.{length-map}
use Rattle.std.proofs.lemmas.Bool.{cases_eq, cases_lt, lt-ltb, le-ltb}
use Rattle.std.proofs.lemmas.List.Edits.{length-insert, get_or-insert_below, get_or-insert_at, get_or-insert_above}
use Rattle.imsi.specs.declared.Imsi.{Imsi}
use Rattle.directory.specs.Order.{rank_of, same, Climbs}
use Rattle.directory.specs.Search.{Place, Sought}
use Rattle.directory.proofs.Lookups.{same_true, same_ne}

pub passed : (m n : Imsi) → rank_of n < rank_of m → (same m n ≡ false) × (ltb (rank_of m) (rank_of n) ≡ false)
passed m n lt = (same_ne m n (λ e. let y = ap rank_of e in omega arith), le-ltb (rank_of m) (rank_of n) (omega arith))

module _ {R : Type 0} (w : R → Imsi) where
  abbrev rank_in : R → ℕ
  rank_in x = rank_of (w x)

  Climbs-far : (xs : List R) → Climbs w xs → (i n : ℕ) (d : R) → i + n < length xs → rank_of (w (get_or xs i d)) ≤ rank_of (w (get_or xs (i + n) d))
  Climbs-far xs up i zero d h =
      let e : i + 0 ≡ i = omega arith in
      omega (arith, ap (λ m. rank_of (w (get_or xs m d))) e)
  Climbs-far xs up i (suc n) d h =
      let e : i + suc n ≡ (i + n) + 1 = omega arith in
      omega (arith, Climbs-far xs up i n d (omega arith), up (i + n) d (omega arith), ap (λ m. rank_of (w (get_or xs m d))) e)

  pub Climbs-from : (xs : List R) → Climbs w xs → (i k : ℕ) (d : R) → i ≤ k → k < length xs → rank_of (w (get_or xs i d)) ≤ rank_of (w (get_or xs k d))
  Climbs-from xs up i k d le h =
      let e : i + (k - i) ≡ k = omega arith in
      omega (arith, Climbs-far xs up i (k - i) d (omega arith), ap (λ m. rank_of (w (get_or xs m d))) e)

  pub Climbs-past : (xs : List R) → Climbs w xs → (i k : ℕ) (d : R) → i < k → k < length xs → rank_of (w (get_or xs i d)) < rank_of (w (get_or xs k d))
  Climbs-past xs up i k d lt h = omega (arith, up i d (omega arith), Climbs-from xs up (i + 1) k d (omega arith) h)

  -- a binary search's answer is an ordered scan's
  pub found : (xs : List R) → Climbs w xs → (m : Imsi) (i : ℕ) → Place w m xs (Ok i) → Sought w m xs (Ok i)
  found xs up m i p =
      (p.0, (λ k d h. passed m (w (get_or xs k d)) (omega (arith, Climbs-past xs up k i d h p.0, ap rank_of (same_true m (w (get_or xs i d)) (p.1 d))))), p.1)

  pub missing : (xs : List R) (m : Imsi) (i : ℕ) → Place w m xs (Err i) → Sought w m xs (Err i)
  missing xs m i p = (
    p.0,
    (λ k d h. passed m (w (get_or xs k d)) (p.1 k d h)),
    (λ d h. let lt = p.2 i d (omega arith) h in
        (same_ne m (w (get_or xs i d)) (λ e. let y = ap rank_of e in omega arith), lt-ltb (rank_of m) (rank_of (w (get_or xs i d))) lt)),
  )

  key_set : (xs : List R) (i : ℕ) (e : R) → ((d : R) → w e ≡ w (get_or xs i d)) → (k : ℕ) (d : R) → k < length xs → w (get_or (set xs i e) k d) ≡ w (get_or xs k d)
  key_set [] i e q k d h = refl
  key_set (x ∷ xs) zero e q zero d h = q x
  key_set (x ∷ xs) zero e q (suc k) d h = refl
  key_set (x ∷ xs) (suc i) e q zero d h = refl
  key_set (x ∷ xs) (suc i) e q (suc k) d h = key_set xs i e q k d (omega arith)

  pub Climbs-set : (xs : List R) (i : ℕ) (e : R) → Climbs w xs → Place w (w e) xs (Ok i) → Climbs w (set xs i e)
  Climbs-set xs i e up p k d h =
      let n = length-set xs i e in
      let q : ((c : R) → w e ≡ w (get_or xs i c)) = λ c. same_true (w e) (w (get_or xs i c)) (p.1 c) in
      omega (arith, ap rank_of (key_set xs i e q k d (omega arith)), ap rank_of (key_set xs i e q (k + 1) d (omega arith)), up k d (omega arith))

  key_map : (f : R → R) → ((x : R) → w (f x) ≡ w x) → (xs : List R) (k : ℕ) (d : R) → k < length xs → w (get_or (map f xs) k d) ≡ w (get_or xs k d)
  key_map f keeps [] k d h = refl
  key_map f keeps (x ∷ xs) zero d h = keeps x
  key_map f keeps (x ∷ xs) (suc k) d h = key_map f keeps xs k d (omega arith)

  pub Climbs-map : (f : R → R) → ((x : R) → w (f x) ≡ w x) → (xs : List R) → Climbs w xs → Climbs w (map f xs)
  Climbs-map f keeps xs up k d h =
      let n = length-map xs f in
      omega (arith, ap rank_of (key_map f keeps xs k d (omega arith)), ap rank_of (key_map f keeps xs (k + 1) d (omega arith)), up k d (omega arith))

  pub Climbs-inserted : (xs : List R) (i : ℕ) (e : R) → Climbs w xs → Place w (w e) xs (Err i) → Climbs w (insert xs i e)
  Climbs-inserted xs i e up p k d h =
      let le = p.0 in
      let n = length-insert xs i e le in
      ⊎_elim
      (λ lt. ⊎_elim
      (λ q. omega (arith, p.1 k d lt, ap rank_in (get_or-insert_below xs i e d k lt le), ap (λ m. rank_in (get_or (insert xs i e) m d)) q, ap rank_in (get_or-insert_at xs i e d le)))
      (λ ne. omega (arith, up k d (omega arith), ap rank_in (get_or-insert_below xs i e d k lt le), ap rank_in (get_or-insert_below xs i e d (k + 1) (omega arith) le)))
      (cases_eq (k + 1) i))
      (λ ge. ⊎_elim
      (λ q. omega (arith, p.2 k d ge (omega arith), ap (λ m. rank_in (get_or (insert xs i e) m d)) q, ap rank_in (get_or-insert_at xs i e d le), ap rank_in (get_or-insert_above xs i e d k ge le)))
      (λ ne.
      let back : k - 1 + 1 ≡ k = omega arith in
      omega (
        arith,
        up (k - 1) d (omega arith),
        ap (λ m. rank_in (get_or (insert xs i e) m d)) back,
        ap (λ m. rank_in (get_or xs m d)) back,
        ap rank_in (get_or-insert_above xs i e d (k - 1) (omega arith) le),
        ap rank_in (get_or-insert_above xs i e d k ge le),
      ))
      (cases_eq k i))
      (cases_lt k i)
