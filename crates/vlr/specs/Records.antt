-- What a VLR keeps of a mobile, and each change of that.
use Rattle.std.specs.Prelude.{ℕ, Bool, true, false, if◌then◌else◌}
use Rattle.imsi.specs.declared.Imsi.{Imsi}
use Rattle.elements.specs.declared.node.SgsnNumber.{SgsnNumber}
use Rattle.elements.specs.Nodes.{same_node}
use Rattle.station.specs.declared.mark.Mark.{Mark}
use Rattle.station.specs.declared.mark.Mark.TheVariants as mark
use Rattle.station.specs.Marks.{doubted, is_sure_of, names_only}
use Rattle.vlr.specs.declared.record.Record.{Record}

-- new here: detached, and served by no SGSN that is known
abbrev pub new_record : Imsi → ℕ → Record
new_record i c = record { imsi = i; home_cause = c; attached = false; mark = mark.None }

-- enrolled again
abbrev pub with_home_cause : Record → ℕ → Record
with_home_cause r c = record r { home_cause = c }

-- the record with this mark: every change of a mark is one of these
abbrev pub with_mark : Mark SgsnNumber → Record → Record
with_mark m r = record r { mark = m }

-- attached here, and served by this SGSN
abbrev pub confirmed : Record → SgsnNumber → Record
confirmed r n = record (with_mark (mark.Confirmed n) r) { attached = true }

-- served by no SGSN any more
abbrev pub unmarked : Record → Record
unmarked r = with_mark mark.None r

-- detached here, too
abbrev pub imsi_detached : Record → Record
imsi_detached r = record (unmarked r) { attached = false }

-- sure of its SGSN no more
abbrev pub doubtful : Record → Record
doubtful r = with_mark (doubted r.mark) r

-- the mark says that this SGSN is sure
abbrev pub sure_at : SgsnNumber → Mark SgsnNumber → Bool
sure_at n m = is_sure_of (λ k. same_node k.node n.node) m

-- this SGSN is not sure
abbrev pub doubtful_at : SgsnNumber → Record → Record
doubtful_at n r = if sure_at n r.mark then doubtful r else r

-- the mark names no other SGSN
abbrev pub names_its : SgsnNumber → Record → Bool
names_its n r = names_only (λ k. same_node k.node n.node) r.mark
