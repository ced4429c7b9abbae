-- Marks.
use Rattle.std.specs.Prelude.{Bool, true, false, Some, None, Option}
use Rattle.station.specs.declared.mark.Mark.{Mark}
use Rattle.station.specs.declared.mark.Mark.TheVariants as mark

-- what was sure is sure no more
abbrev pub doubted : {N : Type 0} → Mark N → Mark N
doubted (mark.Confirmed n) = mark.Unsure n
doubted m = m

-- the node that a mark names
abbrev pub node_in : {N : Type 0} → Mark N → Option N
node_in mark.None = None
node_in (mark.Confirmed n) = Some n
node_in (mark.Unsure n) = Some n

-- the mark says that a node that passes this test is sure
abbrev pub is_sure_of : {N : Type 0} → (N → Bool) → Mark N → Bool
is_sure_of is (mark.Confirmed n) = is n
is_sure_of is m = false

-- the mark names no node but those that pass this test
abbrev pub names_only : {N : Type 0} → (N → Bool) → Mark N → Bool
names_only is mark.None = true
names_only is (mark.Confirmed n) = is n
names_only is (mark.Unsure n) = is n
