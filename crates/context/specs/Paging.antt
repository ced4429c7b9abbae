-- What a page from a VLR makes of a mobile's record, and what is sent for it.
use Rattle.std.specs.Prelude.{ℕ, Bool, false, not, if◌then◌else◌, ◌&&◌, Some, None, Option}
use Rattle.elements.specs.declared.code.Cause.TheVariants as cause
use Rattle.elements.specs.declared.node.VlrNumber.{VlrNumber}
use Rattle.elements.specs.Nodes.{same_node}
use Rattle.messages.specs.declared.message.Message.TheVariants.{PagingFailure, MobileStatus}
use Rattle.station.specs.declared.mark.Mark.{Mark}
use Rattle.station.specs.declared.mark.Mark.TheVariants as mark
use Rattle.station.specs.declared.sending.Outgoing.{Outgoing}
use Rattle.station.specs.Marks.{node_in}
use Rattle.context.specs.declared.context.Context.{Context}
use Rattle.context.specs.Contexts.{has_voice, with_mark}
use Rattle.context.specs.Errands.{is_open}

-- the mark names this VLR, whether it is sure or not
abbrev pub names : VlrNumber → Mark VlrNumber → Bool
names v mark.None = false
names v (mark.Confirmed n) = same_node n.node v.node
names v (mark.Unsure n) = same_node n.node v.node

-- a page from this VLR tells that the mobile is another's no more
abbrev pub moves_to : VlrNumber → Context → Bool
moves_to v r = r.attached && (has_voice r && (not (is_open r.errand) && not (names v r.mark)))

-- The page may be old, so that the VLR that sent it is not sure.
abbrev pub now_at : VlrNumber → Context → Context
now_at v r = with_mark (mark.Unsure v) r

-- the VLR that the mark named hears that the mobile is another's
abbrev pub status_to : Option VlrNumber → Context → Option Outgoing
status_to None r = None
status_to (Some w) r =
    Some (record { to = w.node; answers = 0; message = MobileStatus r.imsi cause.MovedToAnotherVlr })

-- a page that cannot be carried out is answered so
abbrev pub failure_to : VlrNumber → ℕ → Context → Outgoing
failure_to v n r = record { to = v.node; answers = n; message = PagingFailure r.imsi cause.NotAttached }

-- what a page from this VLR with this stamp makes of the record, and what is sent for it
abbrev pub paged : VlrNumber → ℕ → Context → Context × Option Outgoing
paged v n r =
    if not r.attached then (r, Some (failure_to v n r))
    else if moves_to v r then (now_at v r, status_to (node_in r.mark) r)
    else (r, None)
