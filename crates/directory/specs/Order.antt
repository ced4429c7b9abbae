-- The order of mobiles: by digit count, then by value.
use Rattle.std.specs.Prelude.{ℕ, ◌+◌, ◌*◌, ◌^◌, ◌<◌, Bool, ◌&&◌, List, length, ◌==◌, slice_index_or}
use Rattle.imsi.specs.declared.Imsi.{Imsi}

-- a number that rises with the digit count, then with the value
abbrev pub rank_of : Imsi → ℕ
rank_of m = m.digits * 2 ^ 64 + m.value

abbrev pub same : Imsi → Imsi → Bool
same m n = m.digits == n.digits && m.value == n.value

-- the mobiles of the records rise, so that none has two records
abbrev pub Climbs : {R : Type 0} → (R → Imsi) → List R → Type 0
Climbs {R} w xs = (k : ℕ) (d : R) → k + 1 < length xs → rank_of (w (slice_index_or xs k d)) < rank_of (w (slice_index_or xs (k + 1) d))
