-- What an SGSN keeps of a mobile, and the changes of that which no answer makes.
use Rattle.std.specs.Prelude.{Bool, true, false, if◌then◌else◌, is_some, None}
use Rattle.imsi.specs.declared.Imsi.{Imsi}
use Rattle.elements.specs.declared.node.VlrNumber.{VlrNumber}
use Rattle.elements.specs.Nodes.{same_node}
use Rattle.station.specs.declared.mark.Mark.{Mark}
use Rattle.station.specs.declared.mark.Mark.TheVariants as mark
use Rattle.station.specs.Marks.{doubted, is_sure_of}
use Rattle.context.specs.declared.class.ServiceClass.{ServiceClass}
use Rattle.context.specs.declared.context.Context.{Context}
use Rattle.context.specs.declared.errand.Errand.TheVariants as errand
use Rattle.context.specs.Codes.{voice_class}

-- the mobile of a record
abbrev pub whose : Context → Imsi
whose r = r.imsi

-- new here: detached, and served by no VLR
abbrev pub new_context : Imsi → ServiceClass → Context
new_context i c = record { imsi = i; class = c; attached = false; mark = mark.None; area = None; errand = errand.Idle }

-- with packet service
abbrev pub attached_now : Context → Context
attached_now r = record r { attached = true }

-- the record with this mark: every change of a mark is one of these
abbrev pub with_mark : Mark VlrNumber → Context → Context
with_mark m r = record r { mark = m }

-- no VLR is sure
abbrev pub doubtful : Context → Context
doubtful r = with_mark (doubted r.mark) r

-- the mark says that this VLR is sure
abbrev pub sure_at : VlrNumber → Mark VlrNumber → Bool
sure_at v m = is_sure_of (λ n. same_node n.node v.node) m

-- this VLR is not sure
abbrev pub doubtful_at : VlrNumber → Context → Context
doubtful_at v r = if sure_at v r.mark then doubtful r else r

-- the reply was settled
abbrev pub idle : Context → Context
idle r = record r { errand = errand.Idle }

-- whether the mobile uses voice service
abbrev pub has_voice : Context → Bool
has_voice r = is_some (voice_class r.class)
