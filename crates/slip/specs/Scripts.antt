-- The octets of a script that are still to come.
use Rattle.std.specs.Prelude.{ℕ, List}
use Rattle.std.specs.Vec.Iter.{into_iter_items}
use Rattle.slip.specs.declared.script.Script.{Script}

abbrev pub octets_left : Script → List ℕ
octets_left s = into_iter_items s.octets
