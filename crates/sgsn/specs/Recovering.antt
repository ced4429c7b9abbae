-- A loss, and a tick, at an SGSN.
use Rattle.std.specs.Prelude.{ℕ, ◌+◌, List, ◌++◌, map, length, Ok, Result}
use Rattle.station.specs.declared.denial.Denial.{Denial}
use Rattle.station.specs.declared.sending.Outgoing.{Outgoing}
use Rattle.station.specs.Calls.{Plan, plan, unless_worn}
use Rattle.station.specs.Times.{each_ticked, each_sends}
use Rattle.context.specs.declared.context.Context.{Context}
use Rattle.context.specs.Contexts.{doubtful}
use Rattle.context.specs.Ticking.{context_ticked, context_sends}
use Rattle.sgsn.specs.Peers.{peers_lost, peers_resets, peers_ticked, peers_sends, doubted_by_all}
use Rattle.sgsn.specs.State.{State}

-- no record says that a VLR is sure, and each VLR is told
abbrev pub lost : State → State
lost s = record s {
  last = s.last + length s.peers;
  peers = peers_lost s.last s.peers;
  records = map doubtful s.records;
}

abbrev pub resets : State → List Outgoing
resets s = peers_resets s.own s.peers

abbrev pub lose_plan : State → Result (Plan Unit State) Denial
lose_plan s = unless_worn s.last (Ok (plan (lost s) (resets s)))

-- one tick of all records, in order, where the last stamp before was this one
abbrev pub records_ticked : ℕ → List Context → List Context
records_ticked last rs = each_ticked context_ticked context_sends last rs

abbrev pub records_sends : List Context → List Outgoing
records_sends rs = each_sends context_sends rs

-- all records tick, and then what is kept of each VLR
abbrev pub tick_sends : State → List Outgoing
tick_sends s = records_sends s.records ++ peers_sends s.own s.peers

abbrev pub last_between : State → ℕ
last_between s = s.last + length (records_sends s.records)

abbrev pub ticked : State → State
ticked s = record s {
  last = s.last + length (tick_sends s);
  peers = peers_ticked s.own (last_between s) s.peers;
  records = doubted_by_all s.peers (records_ticked s.last s.records);
}

abbrev pub tick_plan : State → Result (Plan Unit State) Denial
tick_plan s = unless_worn s.last (Ok (plan (ticked s) (tick_sends s)))
