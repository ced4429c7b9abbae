-- What befalls one mobile at an SGSN with one VLR: its request is accepted late, or its detach is never answered.
use Rattle.std.specs.Prelude.{◌≡◌, ℕ, zero, suc, Bool, List, [], ◌∷◌, ◌++◌, map, Some}
use Rattle.std.specs.Option.{option_map}
use Rattle.imsi.specs.declared.Imsi.{Imsi}
use Rattle.elements.specs.declared.area.LocationArea.{LocationArea}
use Rattle.elements.specs.declared.node.SgsnNumber.{SgsnNumber}
use Rattle.elements.specs.declared.node.VlrNumber.{VlrNumber}
use Rattle.messages.specs.declared.message.Message.TheVariants.{LuAccept}
use Rattle.frames.specs.declared.frame.Frame.{Frame}
use Rattle.station.specs.Calls.{after_in, sends_in}
use Rattle.station.specs.declared.mark.Mark.{Mark}
use Rattle.context.specs.declared.context.Context.{Context}
use Rattle.context.specs.declared.errand.Errand.{Errand}
use Rattle.context.specs.declared.kind.Request.{Request}
use Rattle.sgsn.specs.Delivering.{frame_plan}
use Rattle.sgsn.specs.Detaching.{detach_plan}
use Rattle.sgsn.specs.Enrolling.{enrol_plan}
use Rattle.sgsn.specs.Making.{new_state}
use Rattle.sgsn.specs.Recovering.{ticked, tick_sends}
use Rattle.sgsn.specs.Requesting.{request_plan}
use Rattle.sgsn.specs.Settling.{settle_plan}
use Rattle.sgsn.specs.State.{State, record_at}

abbrev pub sgsn_1 : SgsnNumber
sgsn_1 = record { node = record { number = 1 } }

abbrev pub vlr_11 : VlrNumber
vlr_11 = record { node = record { number = 11 } }

abbrev pub mobile : Imsi
mobile = record { digits = 15; value = 262019876543210 }

abbrev pub area : LocationArea
area = record { octets = 0x62 ∷ 0xF2 ∷ 0x10 ∷ 0x00 ∷ 0x01 ∷ [] }

-- the mobile is enrolled, with class A
abbrev pub begun : State
begun =
    let new = new_state sgsn_1 (vlr_11 ∷ []) in
    after_in new (enrol_plan new mobile 1)

-- a combined attach
abbrev pub attach : Request
attach = record { kind = 1; vlr = vlr_11; old_area = area; new_area = area }

-- its LU Request is the first frame that the SGSN puts, and so has stamp 1
abbrev pub asked : State
asked = after_in begun (request_plan begun mobile attach)

-- the VLR accepts what that frame asks
abbrev pub accept : Frame
accept = record {
  source = vlr_11.node;
  destination = sgsn_1.node;
  stamp = 1;
  answers = 1;
  message = LuAccept mobile area;
}

-- so many ticks later
abbrev pub later : ℕ → State → State
later zero s = s
later (suc n) s = later n (ticked s)

-- the accept is taken so many ticks after the request
abbrev pub accepted_after : ℕ → State
accepted_after n = (frame_plan (later n asked) accept).after

-- the VLR is sure of the mobile, and no reply is owed
abbrev pub served : State
served =
    let accepted = accepted_after 1 in
    after_in accepted (settle_plan accepted mobile)

-- a detach of this kind, and so many ticks in which no answer comes
abbrev pub unanswered_for : ℕ → ℕ → State
unanswered_for k n = later n (after_in served (detach_plan served mobile k))

-- this tick's number for each frame that it sends, and so on for so many ticks
abbrev pub sending_ticks : ℕ → ℕ → State → List ℕ
sending_ticks t zero s = []
sending_ticks t (suc n) s = map (λ o. t) (tick_sends s) ++ sending_ticks (suc t) n (ticked s)

-- at which ticks that detach has a frame sent, 0 being the detach itself
abbrev pub frame_ticks : ℕ → ℕ → List ℕ
frame_ticks k n =
    map (λ o. 0) (sends_in (detach_plan served mobile k))
    ++ sending_ticks 1 n (after_in served (detach_plan served mobile k))

-- what an SGSN holds of the mobile: attached or not, its mark, and what became of its request or detach
abbrev pub Held : Type 0
Held = Bool × Mark VlrNumber × Errand

abbrev pub held_of : Context → Held
held_of r = (r.attached, r.mark, r.errand)

-- after each of these counts of ticks that is held which stands beside it
abbrev pub Holds : (ℕ → State) → List (ℕ × Held) → Type 0
Holds after [] = Unit {0}
Holds after ((n, h) ∷ rest) = (option_map held_of (record_at (after n) mobile) ≡ Some h) × Holds after rest
