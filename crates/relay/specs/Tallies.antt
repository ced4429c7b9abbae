-- How often each thing came about.
use Rattle.relay.specs.declared.tally.Event.{Event}
use Rattle.relay.specs.declared.tally.Event.TheVariants.{Put, Given, Nothing, BadLine}
use Rattle.relay.specs.declared.tally.Tally.{Tally}
use Rattle.words.specs.Counting.{one_more}

abbrev pub nothing_yet : Tally
nothing_yet = record { puts = 0; takes = 0; given = 0; nothing = 0; bad_lines = 0 }

-- an event raises its own count and no other, but for a take, which counts among the takes too
abbrev pub noted : Tally → Event → Tally
noted t Put = record t { puts = one_more t.puts }
noted t Given = record t { takes = one_more t.takes; given = one_more t.given }
noted t Nothing = record t { takes = one_more t.takes; nothing = one_more t.nothing }
noted t BadLine = record t { bad_lines = one_more t.bad_lines }
