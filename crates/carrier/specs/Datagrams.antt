-- Octets that travel: 11 to 64 of them.
use Rattle.std.specs.Prelude.{ℕ, if◌then◌else◌, ◌||◌, List, length, take, Some, None, Option, nat_lt}
use Rattle.carrier.specs.declared.datagram.Datagram.{Datagram}

abbrev pub octets_in : Datagram → List ℕ
octets_in d = take d.len d.octets

abbrev pub carried : Option Datagram → Option (List ℕ)
carried None = None
carried (Some d) = Some (octets_in d)

-- these octets, unless they are too few or too many
abbrev pub travelling : List ℕ → Option (List ℕ)
travelling f = if nat_lt (length f) 11 || nat_lt 64 (length f) then None else Some f
