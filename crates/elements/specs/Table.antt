-- The table of elements.
use Rattle.std.specs.Prelude.{ℕ}
use Rattle.elements.specs.declared.element.Element.{Element}
use Rattle.elements.specs.declared.element.Element.TheVariants as el

abbrev pub identifier_of : Element → ℕ
identifier_of el.Imsi = 1
identifier_of el.Tmsi = 2
identifier_of el.Cause = 3
identifier_of el.UpdateType = 4
identifier_of el.OldArea = 5
identifier_of el.NewArea = 6
identifier_of el.Class = 7
identifier_of el.RejectCause = 8
identifier_of el.GprsDetachType = 9
identifier_of el.ImsiDetachType = 10
identifier_of el.Entity = 11
identifier_of el.Channel = 12

-- the fewest content octets
abbrev pub least_of : Element → ℕ
least_of el.Imsi = 1
least_of el.Tmsi = 4
least_of el.Cause = 1
least_of el.UpdateType = 1
least_of el.OldArea = 5
least_of el.NewArea = 5
least_of el.Class = 1
least_of el.RejectCause = 1
least_of el.GprsDetachType = 1
least_of el.ImsiDetachType = 1
least_of el.Entity = 1
least_of el.Channel = 1

-- the most content octets
abbrev pub most_of : Element → ℕ
most_of el.Imsi = 8
most_of el.Tmsi = 4
most_of el.Cause = 1
most_of el.UpdateType = 1
most_of el.OldArea = 5
most_of el.NewArea = 5
most_of el.Class = 1
most_of el.RejectCause = 1
most_of el.GprsDetachType = 1
most_of el.ImsiDetachType = 1
most_of el.Entity = 1
most_of el.Channel = 1
