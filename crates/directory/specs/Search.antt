-- What a search answers: Ok, the place that holds the mobile's record; Err, the place where it belongs.
use Rattle.std.specs.Prelude.{◌≡◌, ℕ, ◌<◌, ◌≤◌, true, false, List, length, Ok, Err, Result, nat_lt, slice_index_or}
use Rattle.imsi.specs.declared.Imsi.{Imsi}
use Rattle.directory.specs.Order.{rank_of, same}

abbrev pub Within : ℕ → Result ℕ ℕ → Type 0
Within n (Ok i) = i < n
Within n (Err i) = i ≤ n

abbrev pub Place : {R : Type 0} → (R → Imsi) → Imsi → List R → Result ℕ ℕ → Type 0
Place {R} w m xs (Ok i) = (i < length xs) × ((d : R) → same m (w (slice_index_or xs i d)) ≡ true)
Place {R} w m xs (Err i) =
    (i ≤ length xs)
    × ((k : ℕ) (d : R) → k < i → rank_of (w (slice_index_or xs k d)) < rank_of m)
    × ((k : ℕ) (d : R) → i ≤ k → k < length xs → rank_of m < rank_of (w (slice_index_or xs k d)))

-- a scan from the front goes on past this record
abbrev pub Passed : {R : Type 0} → (R → Imsi) → Imsi → R → Type 0
Passed w m x = (same m (w x) ≡ false) × (nat_lt (rank_of m) (rank_of (w x)) ≡ false)

-- what a scan from the front finds
abbrev pub Sought : {R : Type 0} → (R → Imsi) → Imsi → List R → Result ℕ ℕ → Type 0
Sought {R} w m xs (Ok i) = (i < length xs) × ((k : ℕ) (d : R) → k < i → Passed w m (slice_index_or xs k d)) × ((d : R) → same m (w (slice_index_or xs i d)) ≡ true)
Sought {R} w m xs (Err i) =
    (i ≤ length xs)
    × ((k : ℕ) (d : R) → k < i → Passed w m (slice_index_or xs k d))
    × ((d : R) → i < length xs → (same m (w (slice_index_or xs i d)) ≡ false) × (nat_lt (rank_of m) (rank_of (w (slice_index_or xs i d))) ≡ true))
