-- A new VLR.
use Rattle.std.specs.Prelude.{◌≡◌, true, false, [], Ok, Err, Result}
use Rattle.elements.specs.declared.node.SgsnNumber.{SgsnNumber}
use Rattle.elements.specs.declared.node.VlrNumber.{VlrNumber}
use Rattle.frames.specs.Format.{lawful_nodes}
use Rattle.station.specs.declared.denial.Denial.{Denial}
use Rattle.station.specs.declared.denial.Denial.TheVariants as denial
use Rattle.station.specs.Rows.{new_row}
use Rattle.vlr.specs.declared.vlr.Vlr.{Vlr}
use Rattle.vlr.specs.State.{State, state_of}

abbrev pub new_state : VlrNumber → SgsnNumber → State
new_state n s = record { own = n.node; last = 0; sgsn = s; row = new_row; records = [] }

-- it knows nothing yet; where the numbers are not lawful and different there is none
abbrev pub Made : VlrNumber → SgsnNumber → Result Vlr Denial → Type 0
Made n s (Ok v) = (lawful_nodes n.node s.node ≡ true) × (state_of v ≡ new_state n s)
Made n s (Err d) = (lawful_nodes n.node s.node ≡ false) × (d ≡ denial.WrongNumbers)
