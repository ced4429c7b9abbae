-- What a carrier sees of a frame: where it comes from, where it goes, and its stamp.
use Rattle.std.specs.Prelude.{ℕ, List}
use Rattle.elements.specs.declared.node.NodeNumber.{NodeNumber}
use Rattle.frames.specs.Format.{header_in}
use Rattle.carrier.specs.declared.route.Route.{Route}

abbrev pub source_of : List ℕ → NodeNumber
source_of f = (header_in f).source

abbrev pub destination_of : List ℕ → NodeNumber
destination_of f = (header_in f).destination

abbrev pub route_of : List ℕ → Route
route_of f = record { source = source_of f; destination = destination_of f }

abbrev pub stamp_of : List ℕ → ℕ
stamp_of f = (header_in f).stamp
