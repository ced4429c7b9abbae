-- A record that an SGSN may keep: of a lawful mobile, sound, and naming none but this SGSN's VLRs.
use Rattle.std.specs.Prelude.{Bool, true, ◌&&◌, List, Some, None, Option}
use Rattle.std.specs.List.{list_any}
use Rattle.imsi.specs.Spelling.{lawful_imsi}
use Rattle.elements.specs.declared.node.VlrNumber.{VlrNumber}
use Rattle.elements.specs.Nodes.{same_node}
use Rattle.station.specs.Marks.{node_in}
use Rattle.context.specs.declared.context.Context.{Context}
use Rattle.context.specs.declared.errand.Errand.{Errand}
use Rattle.context.specs.declared.errand.Errand.TheVariants as errand
use Rattle.context.specs.Sound.{sound}

-- this is the number of one of them
abbrev pub is_one_of : List VlrNumber → VlrNumber → Bool
is_one_of vs v = list_any (λ w. same_node w.node v.node) vs

abbrev pub if_named : List VlrNumber → Option VlrNumber → Bool
if_named vs None = true
if_named vs (Some v) = is_one_of vs v

-- the VLR that is to answer
abbrev pub waits_for : Errand → Option VlrNumber
waits_for errand.Idle = None
waits_for (errand.Open o) = Some o.vlr
waits_for (errand.Ended v) = None

abbrev pub fits_in : List VlrNumber → Context → Bool
fits_in vs r =
    lawful_imsi r.imsi.digits r.imsi.value
    && (sound r && (if_named vs (node_in r.mark) && if_named vs (waits_for r.errand)))
