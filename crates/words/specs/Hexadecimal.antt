-- The octets that a line of hexadecimal digits writes.
use Rattle.std.specs.Prelude.{ℕ, ◌+◌, ◌-◌, ◌*◌, Bool, if◌then◌else◌, ◌&&◌, ◌||◌, List, [], ◌∷◌, take, Some, None, Ok, Err, Option, Result, ◌==◌, nat_le}
use Rattle.words.specs.declared.line.LineOctets.{LineOctets}
use Rattle.words.specs.declared.line.BadLine.{BadLine}
use Rattle.words.specs.declared.line.BadLine.TheVariants.{NotHexadecimal, OddDigits, TooLong}

-- a space, a tab or a carriage return
abbrev pub is_blank : ℕ → Bool
is_blank c = c == 32 || (c == 9 || c == 13)

-- the value of a character 0 to 9, A to F or a to f
abbrev pub digit_in : ℕ → Option ℕ
digit_in c =
    if nat_le 48 c && nat_le c 57 then Some (c - 48)
    else if nat_le 65 c && nat_le c 70 then Some (c - 65 + 10)
    else if nat_le 97 c && nat_le c 102 then Some (c - 97 + 10)
    else None

-- a digit with no other beside it is one digit too many
abbrev pub lone_digit : ℕ → BadLine
lone_digit c = elim (digit_in c) [ Some d ↦ OddDigits | None ↦ NotHexadecimal ]

abbrev pub joined : Option ℕ → Option ℕ → Result ℕ BadLine
joined (Some h) (Some l) = Ok (16 * h + l)
joined (Some h) None = Err NotHexadecimal
joined None l = Err NotHexadecimal

-- the octet of two characters, the high digit first
abbrev pub octet_in : ℕ → ℕ → Result ℕ BadLine
octet_in h l = if is_blank l then Err (lone_digit h) else joined (digit_in h) (digit_in l)

-- an octet and then the others, or the first thing that is wrong
abbrev pub followed_by : Result ℕ BadLine → Result (List ℕ) BadLine → Result (List ℕ) BadLine
followed_by (Err e) r = Err e
followed_by (Ok o) (Err e) = Err e
followed_by (Ok o) (Ok os) = Ok (o ∷ os)

-- the octets of a line where there is room for so many: blanks between octets are passed over
abbrev pub octets_in : ℕ → List ℕ → Result (List ℕ) BadLine
octets_in room [] = Ok []
octets_in room (a ∷ []) = if is_blank a then Ok [] else Err (lone_digit a)
octets_in room (a ∷ b ∷ cs) =
    if is_blank a then octets_in room (b ∷ cs)
    else followed_by (octet_in a b) (if room == 0 then Err TooLong else octets_in (room - 1) cs)

-- the octets that were read
abbrev pub octets_of : LineOctets → List ℕ
octets_of v = take v.count v.octets
