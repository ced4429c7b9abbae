-- What a detach makes of a mobile's record, and what goes to the VLR.
use Rattle.std.specs.Prelude.{ℕ, true, false, Some, None, Option}
use Rattle.imsi.specs.declared.Imsi.{Imsi}
use Rattle.elements.specs.declared.code.GprsDetachType.TheVariants as gprs
use Rattle.elements.specs.declared.code.ImsiDetachType.TheVariants as imsi
use Rattle.elements.specs.declared.node.VlrNumber.{VlrNumber}
use Rattle.messages.specs.declared.message.Message.{Message}
use Rattle.messages.specs.declared.message.Message.TheVariants.{GprsDetachIndication, ImsiDetachIndication}
use Rattle.station.specs.declared.mark.Mark.TheVariants as mark
use Rattle.station.specs.declared.sending.Outgoing.{Outgoing}
use Rattle.station.specs.Marks.{node_in}
use Rattle.context.specs.Contexts.{with_mark}
use Rattle.context.specs.declared.context.Context.{Context}
use Rattle.context.specs.declared.errand.Errand.TheVariants as errand
use Rattle.context.specs.declared.errand.Verdict.TheVariants as verdict
use Rattle.context.specs.declared.errand.Awaited.{Awaited}
use Rattle.context.specs.declared.errand.Awaited.TheVariants.{GprsDetach, ImsiDetach}
use Rattle.context.specs.declared.kind.DetachKind.{DetachKind}
use Rattle.context.specs.declared.kind.DetachKind.TheVariants as kind
use Rattle.context.specs.Answering.{let_go}

-- what the VLR is told
abbrev pub detach_message : DetachKind → Imsi → Message
detach_message kind.ByMobile i = GprsDetachIndication i gprs.ByMobile
detach_message kind.ByNetwork i = GprsDetachIndication i gprs.ByNetwork
detach_message kind.Imsi i = ImsiDetachIndication i imsi.Acknowledged
detach_message kind.ImsiAndGprs i = ImsiDetachIndication i imsi.Acknowledged
detach_message kind.SwitchedOff i = ImsiDetachIndication i imsi.Unacknowledged

-- what it is to acknowledge: the end of packet service can be told three times again
abbrev pub awaited_by : DetachKind → Option Awaited
awaited_by kind.ByMobile = Some (GprsDetach gprs.ByMobile 3)
awaited_by kind.ByNetwork = Some (GprsDetach gprs.ByNetwork 3)
awaited_by kind.Imsi = Some (ImsiDetach true)
awaited_by kind.ImsiAndGprs = Some (ImsiDetach false)
awaited_by kind.SwitchedOff = None

-- the VLR is unsure until it acknowledges the frame with this stamp, for which it has 8 ticks
abbrev pub waiting_for : VlrNumber → Option Awaited → ℕ → Context → Context
waiting_for v None n r = let_go false verdict.Done r
waiting_for v (Some a) n r =
    record (with_mark (mark.Unsure v) r) { errand = errand.Open (record { vlr = v; stamp = n; ticks = 8; awaited = a }) }

-- where no VLR is marked none needs to be told
abbrev pub detached_from : Option VlrNumber → DetachKind → ℕ → Context → Context × Option Outgoing
detached_from None k n r = (let_go false verdict.Done r, None)
detached_from (Some v) k n r =
    (waiting_for v (awaited_by k) n r, Some (record { to = v.node; answers = 0; message = detach_message k r.imsi }))

-- what a detach makes of the record, and what goes to the VLR that its mark names, with this stamp
abbrev pub detached : DetachKind → ℕ → Context → Context × Option Outgoing
detached k n r = detached_from (node_in r.mark) k n r
