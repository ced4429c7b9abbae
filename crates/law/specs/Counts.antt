-- What calls with their answers, the last one first, say of replies.
use Rattle.std.specs.Prelude.{ℕ, ◌+◌, Bool, true, false, if◌then◌else◌, ◌&&◌, [], ◌∷◌, Err, Result}
use Rattle.imsi.specs.declared.Imsi.{Imsi}
use Rattle.directory.specs.Order.{same}
use Rattle.elements.specs.declared.node.NodeNumber.{NodeNumber}
use Rattle.elements.specs.Nodes.{same_node}
use Rattle.station.specs.declared.receiving.Refusal.{Refusal}
use Rattle.station.specs.declared.receiving.Refusal.TheVariants.{Denied}
use Rattle.sgsn.specs.declared.call.SgsnCall.{SgsnCall}
use Rattle.sgsn.specs.declared.call.SgsnCall.TheVariants.{Request, Detach, Settle, Tick}
use Rattle.law.specs.declared.call.Call.{Call}
use Rattle.law.specs.declared.call.Call.TheVariants as call
use Rattle.law.specs.declared.call.Answer.{Answer}
use Rattle.law.specs.declared.call.Answer.TheVariants as answer
use Rattle.law.specs.Steps.{Events}

-- what was taken may have been no frame, but the call was made
abbrev pub was_made : {T : Type 0} → Result T Refusal → Bool
was_made (Err (Denied d)) = false
was_made r = true

-- the call was not denied
abbrev pub accepted : Answer → Bool
accepted (answer.Sgsn r) = was_made r
accepted (answer.Vlr r) = was_made r
accepted answer.NoSuchNode = false

-- a request or detach
abbrev pub asks_at : SgsnCall → Bool
asks_at (Request i q) = true
asks_at (Detach i k) = true
asks_at k = false

abbrev pub asks : Call → Bool
asks (call.Sgsn n k) = asks_at k
asks (call.Vlr n k) = false

abbrev pub settles_at : SgsnCall → Bool
settles_at (Settle i) = true
settles_at k = false

abbrev pub settles : Call → Bool
settles (call.Sgsn n k) = settles_at k
settles (call.Vlr n k) = false

-- the mobile that is asked for, or whose reply is settled, is this one
abbrev pub is_of_at : Imsi → SgsnCall → Bool
is_of_at m (Request i q) = same m i
is_of_at m (Detach i k) = same m i
is_of_at m (Settle i) = same m i
is_of_at m k = false

abbrev pub is_of : Imsi → Call → Bool
is_of m (call.Sgsn n k) = is_of_at m k
is_of m (call.Vlr n k) = false

abbrev pub ticks_at : SgsnCall → Bool
ticks_at Tick = true
ticks_at k = false

-- a tick of the SGSN with this number
abbrev pub ticks : NodeNumber → Call → Bool
ticks s (call.Sgsn n k) = same_node s n.node && ticks_at k
ticks s (call.Vlr n k) = false

-- how many such calls were accepted
abbrev pub accepted_calls : (Call → Bool) → Events → ℕ
accepted_calls p [] = 0
accepted_calls p (e ∷ es) =
    if p e.0 && accepted e.1 then 1 + accepted_calls p es
    else accepted_calls p es

-- a mobile owes a reply from an accepted request or detach of it to the next accepted settle of it
abbrev pub owes_reply : Imsi → Events → Bool
owes_reply m [] = false
owes_reply m (e ∷ es) =
    if asks e.0 && (is_of m e.0 && accepted e.1) then true
    else if settles e.0 && (is_of m e.0 && accepted e.1) then false
    else owes_reply m es

-- how many ticks of this SGSN were accepted since the mobile's last accepted request or detach
abbrev pub ticks_since : NodeNumber → Imsi → Events → ℕ
ticks_since s m [] = 0
ticks_since s m (e ∷ es) =
    if asks e.0 && (is_of m e.0 && accepted e.1) then 0
    else if ticks s e.0 && accepted e.1 then 1 + ticks_since s m es
    else ticks_since s m es
