-- How often each thing came about.
use Rattle.register.specs.declared.tally.Event.{Event}
use Rattle.register.specs.declared.tally.Event.TheVariants.{Accepted, Denied, Put, BadLine}
use Rattle.register.specs.declared.tally.Tally.{Tally}
use Rattle.words.specs.Counting.{one_more}

abbrev pub nothing_yet : Tally
nothing_yet = record { accepted = 0; denied = 0; puts = 0; bad_lines = 0 }

-- an event raises its own count and no other
abbrev pub noted : Tally → Event → Tally
noted t Accepted = record t { accepted = one_more t.accepted }
noted t Denied = record t { denied = one_more t.denied }
noted t Put = record t { puts = one_more t.puts }
noted t BadLine = record t { bad_lines = one_more t.bad_lines }
