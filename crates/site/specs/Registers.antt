-- Calls at one VLR of several.
use Rattle.std.specs.Prelude.{◌≡◌, ℕ, List, Option, Result, slice_index_or, slice_set}
use Rattle.elements.specs.declared.node.NodeNumber.{NodeNumber}
use Rattle.elements.specs.declared.node.VlrNumber.{VlrNumber}
use Rattle.station.specs.declared.receiving.Refusal.{Refusal}
use Rattle.station.specs.Calls.{Does}
use Rattle.vlr.specs.declared.call.VlrAnswer.{VlrAnswer}
use Rattle.vlr.specs.declared.call.VlrCall.{VlrCall}
use Rattle.vlr.specs.Calls.{call_course}
use Rattle.vlr.specs.State.{State, own_of, last_of}
use Rattle.sgsn.specs.State as sgsn
use Rattle.law.specs.declared.call.Answer.{Answer}
use Rattle.law.specs.Steps.{AtVlr, is_vlr}

module _ {C : Type 0} (takes : C → NodeNumber → Option (List ℕ) → C → Type 0) (puts : C → List ℕ → C → Type 0) where
  -- a VLR makes the call: its result, and the VLR and the carrier before and after it
  abbrev pub Makes : VlrCall → Result VlrAnswer Refusal → State → C → State → C → Type 0
  Makes call r v c w d = Does own_of last_of takes puts (call_course call v) r v c w d

  -- the one at this place makes it, and the others stay
  abbrev pub OneMakes : VlrCall → Result VlrAnswer Refusal → ℕ → List State → C → List State → C → Type 0
  OneMakes call r i vs c ws d = (x : State) →
      Makes call r (slice_index_or vs i x) c (slice_index_or ws i x) d
      × (ws ≡ slice_set vs i (slice_index_or ws i x))

  -- the one of this number makes it, if it is one of these, whatever the SGSN is
  abbrev pub MadeBy : VlrNumber → VlrCall → Answer → List State → C → List State → C → Type 0
  MadeBy n call a vs c ws d = (s : sgsn.State) →
      AtVlr takes puts (is_vlr n vs) n call a
      (record { sgsn = s; vlrs = vs; carrier = c }) (record { sgsn = s; vlrs = ws; carrier = d })
