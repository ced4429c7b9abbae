-- A new SGSN: with one to four VLRs, all numbers lawful and different.
use Rattle.std.specs.Prelude.{◌≡◌, Bool, true, false, not, ◌&&◌, List, [], ◌∷◌, map, length, Ok, Err, Result, nat_le}
use Rattle.std.specs.List.{list_all, list_any}
use Rattle.std.specs.List.Sorted.{IsPermutation, IsNonDecreasingBy}
use Rattle.elements.specs.declared.node.SgsnNumber.{SgsnNumber}
use Rattle.elements.specs.declared.node.VlrNumber.{VlrNumber}
use Rattle.elements.specs.Nodes.{same_node}
use Rattle.frames.specs.Format.{lawful_nodes}
use Rattle.station.specs.declared.denial.Denial.{Denial}
use Rattle.station.specs.declared.denial.Denial.TheVariants as denial
use Rattle.station.specs.Rows.{new_row}
use Rattle.sgsn.specs.declared.peer.Peer.{Peer}
use Rattle.sgsn.specs.declared.sgsn.Sgsn.{Sgsn}
use Rattle.sgsn.specs.State.{State, state_of, vlrs_of}

-- none of these has the number of another
abbrev pub all_different : List VlrNumber → Bool
all_different [] = true
all_different (v ∷ vs) = not (list_any (λ w. same_node w.node v.node) vs) && all_different vs

-- one to four VLRs, all numbers lawful and different
abbrev pub lawful_numbers : SgsnNumber → List VlrNumber → Bool
lawful_numbers n vs =
    nat_le 1 (length vs)
    && (nat_le (length vs) 4 && (list_all (λ v. lawful_nodes n.node v.node) vs && all_different vs))

-- the same numbers, rising
abbrev pub Risen : List VlrNumber → List VlrNumber → Type 0
Risen vs ws = IsPermutation vs ws × IsNonDecreasingBy (λ v. v.node.number) ws

abbrev pub new_peer : VlrNumber → Peer
new_peer v = record { vlr = v; row = new_row }

-- it has sent nothing, knows no mobile, and has these VLRs
abbrev pub new_state : SgsnNumber → List VlrNumber → State
new_state n vs = record { own = n.node; last = 0; peers = map new_peer vs; records = [] }

-- the VLRs stand in rising number, in whatever order they were given
abbrev pub Made : SgsnNumber → List VlrNumber → Result Sgsn Denial → Type 0
Made n vs (Ok s) =
    (lawful_numbers n vs ≡ true)
    × Risen vs (vlrs_of (state_of s))
    × (state_of s ≡ new_state n (vlrs_of (state_of s)))
Made n vs (Err d) = (lawful_numbers n vs ≡ false) × (d ≡ denial.WrongNumbers)
