-- A loss, and a tick, at a VLR.
use Rattle.std.specs.Prelude.{◌+◌, List, [], ◌∷◌, map, length, Ok, Result}
use Rattle.station.specs.declared.denial.Denial.{Denial}
use Rattle.station.specs.declared.sending.Outgoing.{Outgoing}
use Rattle.station.specs.Calls.{Plan, plan, unless_worn}
use Rattle.station.specs.Rows.{lost_row}
use Rattle.station.specs.Ticks.{reset_to, row_sends, row_ticked}
use Rattle.vlr.specs.Records.{doubtful}
use Rattle.vlr.specs.State.{State}

-- no record is sure, and the RESET with the next stamp is to be acknowledged
abbrev pub lost : State → State
lost s = record s { last = s.last + 1; row = lost_row s.row (s.last + 1); records = map doubtful s.records }

abbrev pub resets : State → List Outgoing
resets s = reset_to s.own s.sgsn.node ∷ []

abbrev pub lose_plan : State → Result (Plan Unit State) Denial
lose_plan s = unless_worn s.last (Ok (plan (lost s) (resets s)))

abbrev pub tick_sends : State → List Outgoing
tick_sends s = row_sends s.own s.sgsn.node s.row

abbrev pub ticked : State → State
ticked s = record s { last = s.last + length (tick_sends s); row = row_ticked s.own s.sgsn.node s.last s.row }

abbrev pub tick_plan : State → Result (Plan Unit State) Denial
tick_plan s = unless_worn s.last (Ok (plan (ticked s) (tick_sends s)))
