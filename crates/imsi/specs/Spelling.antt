-- The octets that spell a digit count and a value.
use Rattle.std.specs.Prelude.{◌≡◌, ℕ, zero, suc, ◌+◌, ◌-◌, ◌*◌, ◌/◌, ◌%◌, ◌^◌, Bool, true, if◌then◌else◌, ◌&&◌, List, [], ◌∷◌, ◌++◌, length, take, drop, replicate, Some, None, Option, ◌==◌, nat_le, nat_lt, slice_index}
use Rattle.imsi.specs.Halves.{halves, paired}

-- 1 to 15 digits, and a value that so many digits can write
abbrev pub lawful_imsi : ℕ → ℕ → Bool
lawful_imsi k v = nat_le 1 k && (nat_le k 15 && nat_lt v (10 ^ k))

-- the last k decimal digits of a number, the first digit first
abbrev pub digits : ℕ → ℕ → List ℕ
digits zero v = []
digits (suc k) v = digits k (v / 10) ++ (v % 10 ∷ [])

-- the half octets: a marker, 9 for an odd count and 1 for an even one; the digits; F behind an even count
abbrev pub spelt : ℕ → ℕ → List ℕ
spelt k v = if k % 2 == 1 then 9 ∷ digits k v else 1 ∷ digits k v ++ 15 ∷ []

abbrev pub imsi_octets : ℕ → ℕ → List ℕ
imsi_octets k v = paired (spelt k v)

-- these octets are the spelling of a lawful IMSI
abbrev pub Spells : ℕ → ℕ → List ℕ → Type 0
Spells k v os = (lawful_imsi k v ≡ true) × (imsi_octets k v ≡ os)

-- the number that digits go on to write after acc, unless one is no digit
abbrev pub valued : ℕ → List ℕ → Option ℕ
valued acc [] = Some acc
valued acc (d ∷ ds) = if nat_lt d 10 then valued (acc * 10 + d) ds else None

abbrev pub counted : ℕ → Option ℕ → Option (ℕ × ℕ)
counted n None = None
counted n (Some v) = Some (n, v)

-- the n halves after the marker, read as n digits
abbrev pub after : ℕ → List ℕ → Option (ℕ × ℕ)
after n hs = counted n (valued 0 (take n (drop 1 hs)))

-- what n octets with these halves spell
abbrev pub in_halves : ℕ → List ℕ → Option (ℕ × ℕ)
in_halves n hs =
    if slice_index hs 0 == 9 then after (2 * n - 1) hs
    else if slice_index hs 0 == 1 && (nat_lt 1 n && slice_index hs (2 * n - 1) == 15) then after (2 * n - 2) hs
    else None

-- what 1 to 8 octets spell
abbrev pub imsi_in : List ℕ → Option (ℕ × ℕ)
imsi_in os = if nat_le 1 (length os) && nat_le (length os) 8 then in_halves (length os) (halves os) else None

-- what is read is a lawful IMSI that these octets spell, and every lawful IMSI that they spell is read
pub record ReadsExactly (os : List ℕ) (r : Option (ℕ × ℕ)) : Type 0 where
  pub spelt_so : (k v : ℕ) → r ≡ Some (k, v) → Spells k v os
  pub read_so : (k v : ℕ) → Spells k v os → r ≡ Some (k, v)

-- sixteen halves: the marker, the digits, and F in each place after them
abbrev pub filled : ℕ → ℕ → List ℕ
filled k v = (1 + 8 * (k % 2)) ∷ digits k v ++ replicate (15 - k) 15
