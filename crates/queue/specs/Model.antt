-- What waits in a queue.
use Rattle.std.specs.Prelude.{ℕ, List, map, vec_items}
use Rattle.carrier.specs.Datagrams.{octets_in}
use Rattle.queue.specs.declared.queue.Queue.{Queue}

abbrev pub frames_of : Queue → List (List ℕ)
frames_of q = map octets_in (vec_items q.frames)
