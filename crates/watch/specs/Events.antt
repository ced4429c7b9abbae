-- What is seen of a carrier.
use Rattle.std.specs.Prelude.{◌≡◌, ℕ, ◌+◌, ◌-◌, ◌^◌, min, ◌⊎◌, List, [], ◌∷◌, ◌++◌, map, Some, None, Option, vec_items, vec_len, vec_capacity, ◌≤◌}
use Rattle.elements.specs.declared.node.NodeNumber.{NodeNumber}
use Rattle.carrier.specs.Datagrams.{octets_in, carried}
use Rattle.watch.specs.declared.log.Log.{Log}
use Rattle.watch.specs.declared.log.Sighting.{Sighting}
use Rattle.watch.specs.declared.log.Sighting.TheVariants.{Put, Take}

pub data Event : Type 0 where
  -- these octets were put
  put : List ℕ → Event
  -- a node took, and was given these octets, if anything
  taken : NodeNumber → Option (List ℕ) → Event

abbrev pub event_of : Sighting → Event
event_of (Put d) = put (octets_in d)
event_of (Take n r) = taken n (carried r)

-- the earliest first
abbrev pub events_of : Log → List Event
events_of l = map event_of (vec_items l.sightings)

-- this happened after all others
abbrev pub Seen : Event → Log → Log → Type 0
Seen e before after = (events_of after ≡ events_of before ++ e ∷ []) × (after.missed ≡ before.missed)

-- something happened that there was no room for: it is counted, up to the largest number that can be held, and no event is lost
abbrev pub Missed : Log → Log → Type 0
Missed before after =
    (vec_capacity before.sightings ≤ vec_len before.sightings)
    × (events_of after ≡ events_of before)
    × (after.missed ≡ min (before.missed + 1) (2 ^ 64 - 1))

abbrev pub Logged : Event → Log → Log → Type 0
Logged e before after = Seen e before after ⊎ Missed before after

-- a put of what travels is seen; what is too short or too long is no frame
abbrev pub LoggedPut : Option (List ℕ) → Log → Log → Type 0
LoggedPut None before after = after ≡ before
LoggedPut (Some f) before after = Logged (put f) before after
