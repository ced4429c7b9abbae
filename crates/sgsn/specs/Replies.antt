-- The reply that is owed to a mobile.
use Rattle.imsi.specs.declared.Imsi.{Imsi}
use Rattle.elements.specs.declared.node.NodeNumber.{NodeNumber}
use Rattle.elements.specs.declared.node.SgsnNumber.{SgsnNumber}
use Rattle.sgsn.specs.declared.reply.Reply.{Reply}

-- of the SGSN with this number, to this mobile
abbrev pub reply_to : NodeNumber → Imsi → Reply
reply_to n i = record { sgsn = n.number; digits = i.digits; value = i.value }

-- the SGSN that owes it
abbrev pub owed_by : Reply → SgsnNumber
owed_by r = record { node = record { number = r.sgsn } }

-- the mobile that it is owed to
abbrev pub owed_to : Reply → Imsi
owed_to r = record { digits = r.digits; value = r.value }
