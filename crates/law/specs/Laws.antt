-- The law of a site.
use Rattle.std.specs.Prelude.{◌≡◌, ℕ, ◌+◌, ◌≤◌, ◌⊎◌, true, false, List, Some, None, Option}
use Rattle.std.specs.List.{find, count_by}
use Rattle.imsi.specs.declared.Imsi.{Imsi}
use Rattle.directory.specs.Order.{same}
use Rattle.elements.specs.declared.node.VlrNumber.{VlrNumber}
use Rattle.elements.specs.Nodes.{same_node}
use Rattle.station.specs.declared.mark.Mark.TheVariants as mark
use Rattle.context.specs.Errands.{is_open, owes}
use Rattle.sgsn.specs.State as sgsn
use Rattle.vlr.specs.State as vlr
use Rattle.law.specs.Counts.{accepted_calls, asks, settles, owes_reply, ticks_since}
use Rattle.law.specs.Steps.{Events}
use Rattle.law.specs.Tables.{View, marked, marked_by, in_recovery, errand_of}

-- the VLR of this number
abbrev pub vlr_named : VlrNumber → List vlr.State → Option vlr.State
vlr_named n vs = find (λ v. same_node v.own n.node) vs

-- there is such a VLR, and it is in recovery or marks the mobile Confirmed at this SGSN
abbrev pub Backs : sgsn.State → Imsi → Option vlr.State → Type 0
Backs s m None = ⊥
Backs s m (Some v) = (in_recovery v ≡ true) ⊎ (marked_by v m ≡ mark.Confirmed (record { node = s.own }))

-- every mobile that the SGSN marks Confirmed at a VLR
abbrev pub Agreed : sgsn.State → List vlr.State → Type 0
Agreed s vs = (m : Imsi) (n : VlrNumber) → marked s m ≡ mark.Confirmed n → Backs s m (vlr_named n vs)

-- how many records owe a reply
abbrev pub owing : sgsn.State → ℕ
owing s = count_by (λ r. owes r.errand) s.records

-- requests and detaches accepted are the settles accepted and the replies owed
abbrev pub Balanced : Events → sgsn.State → Type 0
Balanced es s = accepted_calls asks es ≡ accepted_calls settles es + owing s

-- the mobiles that owe a reply are those whose records owe one
abbrev pub Owed : Events → sgsn.State → Type 0
Owed es s = (m : Imsi) → owes (errand_of s m) ≡ owes_reply m es

-- a mobile has one record at most, so that the records that owe a reply are as many as the mobiles
abbrev pub Once : sgsn.State → Type 0
Once s = (m : Imsi) → count_by (λ r. same m r.imsi) s.records ≤ 1

-- a reply that is owed has its verdict once 32 ticks of the SGSN were accepted since its request or detach
abbrev pub Timely : Events → sgsn.State → Type 0
Timely es s = (m : Imsi) → owes_reply m es ≡ true → 32 ≤ ticks_since s.own m es → is_open (errand_of s m) ≡ false

pub record Law {C : Type 0} (es : Events) (x : View C) : Type 0 where
  pub agreed : Agreed x.sgsn x.vlrs
  pub balanced : Balanced es x.sgsn
  pub owed : Owed es x.sgsn
  pub once : Once x.sgsn
  pub timely : Timely es x.sgsn
