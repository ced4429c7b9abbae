-- What the tables of a site say of a mobile.
use Rattle.std.specs.Prelude.{Bool, is_some, List, Some, None, Option}
use Rattle.imsi.specs.declared.Imsi.{Imsi}
use Rattle.elements.specs.declared.node.SgsnNumber.{SgsnNumber}
use Rattle.elements.specs.declared.node.VlrNumber.{VlrNumber}
use Rattle.directory.specs.Lookup.{at}
use Rattle.station.specs.declared.mark.Mark.{Mark}
use Rattle.station.specs.declared.mark.Mark.TheVariants as mark
use Rattle.context.specs.declared.context.Context.{Context}
use Rattle.context.specs.declared.errand.Errand.{Errand}
use Rattle.context.specs.declared.errand.Errand.TheVariants as errand
use Rattle.vlr.specs.declared.record.Record.{Record}
use Rattle.vlr.specs.State as vlr
use Rattle.sgsn.specs.State as sgsn

-- what one SGSN, its VLRs and a carrier are
pub record View (C : Type 0) : Type 0 where
  pub sgsn : sgsn.State
  pub vlrs : List vlr.State
  pub carrier : C

-- a mobile that is not held is marked None
abbrev pub mark_in : Option Context → Mark VlrNumber
mark_in None = mark.None
mark_in (Some r) = r.mark

-- the SGSN's mark of a mobile
abbrev pub marked : sgsn.State → Imsi → Mark VlrNumber
marked s m = mark_in (sgsn.record_at s m)

abbrev pub mark_of : Option Record → Mark SgsnNumber
mark_of None = mark.None
mark_of (Some r) = r.mark

-- a VLR's mark of a mobile
abbrev pub marked_by : vlr.State → Imsi → Mark SgsnNumber
marked_by v m = mark_of (at vlr.whose v.records m)

-- from a loss until its last RESET is acknowledged
abbrev pub in_recovery : vlr.State → Bool
in_recovery v = is_some v.row.recovery

abbrev pub errand_in : Option Context → Errand
errand_in None = errand.Idle
errand_in (Some r) = r.errand

-- what became of a mobile's last request or detach
abbrev pub errand_of : sgsn.State → Imsi → Errand
errand_of s m = errand_in (sgsn.record_at s m)
