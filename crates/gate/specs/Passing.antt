-- What the gate makes of what comes from below.
use Rattle.std.specs.Prelude.{◌≡◌, ℕ, if◌then◌else◌, List, Some, None, Ok, Err, Option, Result}
use Rattle.elements.specs.declared.fault.Fault.{Fault}
use Rattle.elements.specs.declared.node.NodeNumber.{NodeNumber}
use Rattle.frames.specs.declared.frame.Frame.{Frame}
use Rattle.frames.specs.Format.{frame_in}
use Rattle.gate.specs.declared.pairs.Pair.{Pair}
use Rattle.gate.specs.Rows.{fresh, noted}

-- octets o that read so: given and noted if they are fresh, else dropped
abbrev pub Heard : List Pair → List ℕ → Result Frame Fault → Option (List ℕ) → List Pair → Type 0
Heard ps o (Err d) r qs = (r ≡ None) × (qs ≡ ps)
Heard ps o (Ok f) r qs =
    (r ≡ if fresh ps f.source f.destination f.stamp then Some o else None)
    × (qs ≡ if fresh ps f.source f.destination f.stamp then noted ps f.source f.destination f.stamp else ps)

abbrev pub Passed : List Pair → Option (List ℕ) → Option (List ℕ) → List Pair → Type 0
Passed ps None r qs = (r ≡ None) × (qs ≡ ps)
Passed ps (Some o) r qs = Heard ps o (frame_in o) r qs

-- one take below, and what the gate makes of its answer
abbrev pub Gated : {S : Type 0} → (S → NodeNumber → Option (List ℕ) → S → Type 0) → S → List Pair → NodeNumber → Option (List ℕ) → S → List Pair → Type 0
Gated takes b ps n r c qs = (came : Option (List ℕ)) × takes b n came c × Passed ps came r qs
