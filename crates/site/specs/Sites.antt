-- What a site is, as its tables and its carrier show it.
use Rattle.std.specs.Prelude.{List, map}
use Rattle.sgsn.specs.State as sgsn
use Rattle.vlr.specs.declared.vlr.Vlr.{Vlr}
use Rattle.vlr.specs.State as vlr
use Rattle.law.specs.Tables.{View}
use Rattle.site.specs.declared.site.Site.{Site}

abbrev pub states_of : List Vlr → List vlr.State
states_of vs = map vlr.state_of vs

abbrev pub view_of : {C : Type 0} → Site C → View C
view_of x = record { sgsn = sgsn.state_of x.sgsn; vlrs = states_of x.vlrs.items; carrier = x.carrier }
