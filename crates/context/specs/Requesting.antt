-- What a request makes of a mobile's record, and what goes to the VLR.
use Rattle.std.specs.Prelude.{ℕ, Bool, true, false, if◌then◌else◌, ◌&&◌, ◌||◌, Some, None, Option}
use Rattle.elements.specs.declared.code.Class.{Class}
use Rattle.messages.specs.declared.message.Message.TheVariants.{LuRequest}
use Rattle.station.specs.declared.mark.Mark.TheVariants as mark
use Rattle.station.specs.declared.sending.Outgoing.{Outgoing}
use Rattle.context.specs.declared.context.Context.{Context}
use Rattle.context.specs.declared.errand.Errand.TheVariants as errand
use Rattle.context.specs.declared.errand.Verdict.TheVariants as verdict
use Rattle.context.specs.declared.errand.Awaited.TheVariants.{Update}
use Rattle.context.specs.declared.kind.Request.{Request}
use Rattle.context.specs.declared.kind.RequestKind.{RequestKind}
use Rattle.context.specs.declared.kind.RequestKind.TheVariants as kind
use Rattle.context.specs.Codes.{attaches, update_type}
use Rattle.context.specs.Contexts.{sure_at, with_mark}

-- for voice service, of a mobile that has packet service
abbrev pub is_imsi_attach : RequestKind → Bool
is_imsi_attach kind.ImsiAttach = true
is_imsi_attach k = false

-- an IMSI attach where the VLR is sure already
abbrev pub needs_no_frame : RequestKind → Request → Context → Bool
needs_no_frame k q r = is_imsi_attach k && sure_at q.vlr r.mark

-- done at once, and sure as before
abbrev pub done_at_once : Request → Context → Context
done_at_once q r = record r { area = Some q.new_area; errand = errand.Ended verdict.Done }

-- the VLR is unsure until it answers the frame with this stamp, for which it has 10 ticks
abbrev pub asked : RequestKind → Request → ℕ → Context → Context
asked k q n r = record (with_mark (mark.Unsure q.vlr) r) {
  attached = r.attached || attaches k;
  errand = errand.Open (record { vlr = q.vlr; stamp = n; ticks = 10; awaited = Update q.new_area });
}

-- that frame
abbrev pub update : RequestKind → Class → Request → Context → Outgoing
update k c q r = record {
  to = q.vlr.node;
  answers = 0;
  message = LuRequest r.imsi (update_type k) q.old_area q.new_area c;
}

-- what a request makes of the record of a mobile with voice service of this class, and what goes to the VLR, with this
-- stamp
abbrev pub requested : RequestKind → Class → Request → ℕ → Context → Context × Option Outgoing
requested k c q n r =
    if needs_no_frame k q r then (done_at_once q r, None)
    else (asked k q n r, Some (update k c q r))
