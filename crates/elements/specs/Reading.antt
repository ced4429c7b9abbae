-- Reading one element at a place.
use Rattle.std.specs.Prelude.{ℕ, ◌+◌, ◌*◌, Bool, if◌then◌else◌, ◌&&◌, List, [], ◌∷◌, length, take, drop, Some, None, Ok, Option, Result, ◌==◌, nat_le, nat_lt, slice_index}
use Rattle.imsi.specs.Spelling.{imsi_in}
use Rattle.elements.specs.declared.area.LocationArea.{LocationArea}
use Rattle.elements.specs.declared.element.Element.{Element}
use Rattle.elements.specs.declared.element.Element.TheVariants as el
use Rattle.elements.specs.declared.fault.Fault.{Fault}
use Rattle.elements.specs.declared.fault.FaultKind.TheVariants as kind
use Rattle.elements.specs.Faults.{wrong, and_then, lawful_or}
use Rattle.elements.specs.Table.{identifier_of, least_of, most_of}

-- does this element's identifier stand at this place?
abbrev pub next_is : List ℕ → ℕ → Element → Bool
next_is s at e = nat_lt at (length s) && slice_index s at == identifier_of e

-- the length octet behind this element's identifier is one that the element and the end allow
abbrev pub fits_at : List ℕ → ℕ → Element → Bool
fits_at s at e =
    nat_lt (at + 1) (length s)
    && (nat_le (least_of e) (slice_index s (at + 1))
    && (nat_le (slice_index s (at + 1)) (most_of e)
    && nat_le (at + 2 + slice_index s (at + 1)) (length s)))

-- how many content octets the element at this place has: its identifier, a length octet, then so many octets
abbrev pub element_at : List ℕ → ℕ → Element → Result ℕ Fault
element_at s at e =
    if next_is s at e then (if fits_at s at e then Ok (slice_index s (at + 1)) else wrong kind.Length (at + 1))
    else wrong kind.Identifier at

-- contents of one octet that stand for a value
abbrev pub coded_at : {X : Type 0} → (ℕ → Option X) → List ℕ → ℕ → Element → Result X Fault
coded_at of s at e = and_then (element_at s at e) (λ _. lawful_or (of (slice_index s (at + 2))) (at + 2))

-- the digit count and the value of an IMSI
abbrev pub imsi_at : List ℕ → ℕ → Result (ℕ × ℕ) Fault
imsi_at s at = and_then (element_at s at el.Imsi) (λ n. lawful_or (imsi_in (take n (drop (at + 2) s))) (at + 2))

-- the number in four octets, the high octet first
abbrev pub number_at : List ℕ → ℕ → ℕ
number_at s at = slice_index s at * 16777216 + slice_index s (at + 1) * 65536 + slice_index s (at + 2) * 256 + slice_index s (at + 3)

-- a TMSI, absent unless its identifier is next
abbrev pub tmsi_at : List ℕ → ℕ → Result (Option ℕ) Fault
tmsi_at s at =
    if next_is s at el.Tmsi then and_then (element_at s at el.Tmsi) (λ _. Ok (Some (number_at s (at + 2))))
    else Ok None

-- the place after a TMSI, present or absent, that would begin at a place
abbrev pub after_tmsi : ℕ → Option ℕ → ℕ
after_tmsi at None = at
after_tmsi at (Some _) = at + 6

-- a channel of 0 to 3, absent unless its identifier is next
abbrev pub channel_in : ℕ → Option ℕ
channel_in n = if nat_le n 3 then Some n else None

abbrev pub channel_at : List ℕ → ℕ → Result (Option ℕ) Fault
channel_at s at =
    if next_is s at el.Channel then and_then (coded_at channel_in s at el.Channel) (λ c. Ok (Some c))
    else Ok None

-- the place after a channel
abbrev pub after_channel : ℕ → Option ℕ → ℕ
after_channel at None = at
after_channel at (Some _) = at + 3

-- a location area
abbrev pub area_at : List ℕ → ℕ → Element → Result LocationArea Fault
area_at s at e = and_then (element_at s at e) (λ n. Ok (record { octets = slice_index s (at + 2) ∷ slice_index s (at + 3) ∷ slice_index s (at + 4) ∷ slice_index s (at + 5) ∷ slice_index s (at + 6) ∷ [] }))

-- the place after the last element must be the end
abbrev pub end_at : {X : Type 0} → List ℕ → ℕ → X → Result X Fault
end_at s at x = if nat_lt at (length s) then wrong kind.Trailing at else Ok x
