-- Records by mobile: looking one up, storing one, and whether there is room.
use Rattle.std.specs.Prelude.{◌≡◌, ℕ, ◌≤◌, Bool, true, false, if◌then◌else◌, ◌||◌, List, [], ◌∷◌, length, take, is_some, Some, None, Option, nat_lt}
use Rattle.std.specs.Option.{option_map}
use Rattle.imsi.specs.declared.Imsi.{Imsi}
use Rattle.directory.specs.Order.{rank_of, same, Climbs}

-- the record of this mobile, looked for up to the first greater one
abbrev pub at : {R : Type 0} → (R → Imsi) → List R → Imsi → Option R
at w [] m = None
at w (x ∷ xs) m =
    if same m (w x) then Some x
    else if nat_lt (rank_of m) (rank_of (w x)) then None
    else at w xs m

-- the records with this one over the one of its mobile, or before the first greater one
abbrev pub stored : {R : Type 0} → (R → Imsi) → R → List R → List R
stored w r [] = r ∷ []
stored w r (x ∷ xs) =
    if same (w r) (w x) then r ∷ xs
    else if nat_lt (rank_of (w r)) (rank_of (w x)) then r ∷ x ∷ xs
    else x ∷ stored w r xs

-- whether a record of this mobile has a place: it is held, or a place is free
abbrev pub fits : {R : Type 0} → (R → Imsi) → ℕ → List R → Imsi → Bool
fits w places xs m = is_some (at w xs m) || nat_lt (length xs) places

-- after a store a mobile's record is the one stored if it is that mobile's, else the one before
abbrev pub AfterStore : {R : Type 0} → (R → Imsi) → R → List R → List R → Type 0
AfterStore w r before after = (m : Imsi) → at w after m ≡ (if same m (w r) then Some r else at w before m)

-- after a change of every record, which keeps each one's mobile, a mobile's record is the one before, changed; and the records still rise
abbrev pub AfterChange : {R : Type 0} → (R → Imsi) → (R → R) → List R → List R → Type 0
AfterChange {R} w f before after =
    ((x : R) → w (f x) ≡ w x) → ((m : Imsi) → at w after m ≡ option_map f (at w before m)) × (Climbs w before → Climbs w after)

-- a store among the first n places answers how many records there are now, or leaves all as it was
abbrev pub Stored : {R : Type 0} → (R → Imsi) → ℕ → R → List R → List R → Option ℕ → Type 0
Stored w n r ps qs (Some m) =
    (m ≤ length ps)
    × (fits w (length ps) (take n ps) (w r) ≡ true)
    × (take m qs ≡ stored w r (take n ps))
    × Climbs w (take m qs)
    × AfterStore w r (take n ps) (take m qs)
Stored w n r ps qs None = (fits w (length ps) (take n ps) (w r) ≡ false) × (qs ≡ ps)

-- n places are there and their records rise
abbrev pub Held : {R : Type 0} → (R → Imsi) → ℕ → List R → Type 0
Held w n ps = (n ≤ length ps) × Climbs w (take n ps)
