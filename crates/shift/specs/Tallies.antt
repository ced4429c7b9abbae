-- How often each thing came about.
use Rattle.shift.specs.declared.tally.Event.{Event}
use Rattle.shift.specs.declared.tally.Event.TheVariants.{Accepted, Refused, Sent, Taken, Dropped, Lost}
use Rattle.shift.specs.declared.tally.Tally.{Tally}
use Rattle.words.specs.Counting.{one_more}

abbrev pub nothing_yet : Tally
nothing_yet = record { accepted = 0; refused = 0; sent = 0; taken = 0; dropped = 0; lost = 0 }

-- an event raises its own count and no other
abbrev pub noted : Tally → Event → Tally
noted t Accepted = record t { accepted = one_more t.accepted }
noted t Refused = record t { refused = one_more t.refused }
noted t Sent = record t { sent = one_more t.sent }
noted t Taken = record t { taken = one_more t.taken }
noted t Dropped = record t { dropped = one_more t.dropped }
noted t Lost = record t { lost = one_more t.lost }
