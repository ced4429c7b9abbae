-- What a VLR's answer makes of the open request or detach of its mobile.
use Rattle.std.specs.Prelude.{ℕ, Bool, true, false, if◌then◌else◌, ◌&&◌, ◌==◌, Some, None, Option, nat_lt}
use Rattle.elements.specs.declared.area.LocationArea.{LocationArea}
use Rattle.elements.specs.declared.code.RejectCause.{RejectCause}
use Rattle.elements.specs.declared.node.VlrNumber.{VlrNumber}
use Rattle.elements.specs.Nodes.{same_node}
use Rattle.messages.specs.declared.message.Message.{Message}
use Rattle.messages.specs.declared.message.Message.TheVariants.{LuAccept, LuReject, GprsDetachAcknowledge, ImsiDetachAcknowledge}
use Rattle.station.specs.declared.mark.Mark.TheVariants as mark
use Rattle.context.specs.Contexts.{with_mark}
use Rattle.context.specs.declared.context.Context.{Context}
use Rattle.context.specs.declared.errand.Errand.{Errand}
use Rattle.context.specs.declared.errand.Errand.TheVariants as errand
use Rattle.context.specs.declared.errand.Verdict.{Verdict}
use Rattle.context.specs.declared.errand.Verdict.TheVariants as verdict
use Rattle.context.specs.declared.errand.Open.{Open}
use Rattle.context.specs.declared.errand.Awaited.{Awaited}
use Rattle.context.specs.declared.errand.Awaited.TheVariants.{Update, GprsDetach, ImsiDetach}

-- a stamp above that of the last RESET that went there, if one did
abbrev pub is_above : Option ℕ → ℕ → Bool
is_above None n = true
is_above (Some m) n = nat_lt m n

-- the VLR serves the mobile; it is sure unless a RESET went there since
abbrev pub accepted : Open → LocationArea → Option ℕ → Context → Context
accepted o a reset r =
    let serving = if is_above reset o.stamp then mark.Confirmed o.vlr else mark.Unsure o.vlr in
    record (with_mark serving r) { area = Some a; errand = errand.Ended verdict.Done }

-- no VLR serves the mobile any more, and so it ended
abbrev pub let_go : Bool → Verdict → Context → Context
let_go stays v r = record (with_mark mark.None r) { attached = stays; errand = errand.Ended v }

-- only a location update is accepted
abbrev pub on_accept : Open → Awaited → Option ℕ → Context → Context
on_accept o (Update a) reset r = accepted o a reset r
on_accept o w reset r = r

-- only a location update is rejected: the mobile keeps packet service or lacks it, as before
abbrev pub on_reject : RejectCause → Awaited → Context → Context
on_reject c (Update a) r = let_go r.attached (verdict.Rejected c) r
on_reject c w r = r

-- the end of packet service is acknowledged
abbrev pub on_gprs_acknowledge : Awaited → Context → Context
on_gprs_acknowledge (GprsDetach t n) r = let_go false verdict.Done r
on_gprs_acknowledge w r = r

-- packet service stays where the detach left it, or not
abbrev pub on_imsi_acknowledge : Awaited → Context → Context
on_imsi_acknowledge (ImsiDetach s) r = let_go (r.attached && s) verdict.Done r
on_imsi_acknowledge w r = r

-- the record after a message that answers its open request or detach, where this was the last RESET that went there
abbrev pub matched : Open → Option ℕ → Message → Context → Context
matched o reset (LuAccept i a) r = on_accept o o.awaited reset r
matched o reset (LuReject i c) r = on_reject c o.awaited r
matched o reset (GprsDetachAcknowledge i t) r = on_gprs_acknowledge o.awaited r
matched o reset (ImsiDetachAcknowledge i t) r = on_imsi_acknowledge o.awaited r
matched o reset k r = r

-- the answer is this VLR's, and answers this stamp
abbrev pub is_answer : Open → VlrNumber → ℕ → Bool
is_answer o v n = same_node o.vlr.node v.node && o.stamp == n

-- only what is open can be answered
abbrev pub answered_errand : Errand → VlrNumber → ℕ → Option ℕ → Message → Context → Context
answered_errand (errand.Open o) v n reset m r = if is_answer o v n then matched o reset m r else r
answered_errand e v n reset m r = r

-- the record after a message from this VLR that answers this stamp
abbrev pub answered : VlrNumber → ℕ → Option ℕ → Message → Context → Context
answered v n reset m r = answered_errand r.errand v n reset m r
