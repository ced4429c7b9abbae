-- A tick sends two frames at most to a peer.
use Rattle.std.specs.Prelude.{◌≡◌, ℕ, ◌≤◌, Bool, true, false, if◌then◌else◌, [], ◌∷◌, ◌++◌, length, nat_le, Some, None, Option, refl}
use Rattle.std.proofs.lemmas.Bool.{leb-true}
use Rattle.elements.specs.declared.node.NodeNumber.{NodeNumber}
use Rattle.station.specs.declared.row.Row.{Row}
use Rattle.station.specs.Rows.{due_now, repeat_now}
use Rattle.station.specs.Ticks.{reset_to, acknowledging, row_sends}

both_few : (own n : NodeNumber) (due : Option ℕ) (b : Bool)
    → nat_le (length (acknowledging own n due ++ (if b then reset_to own n ∷ [] else []))) 2 ≡ true
both_few own n None true = refl
both_few own n None false = refl
both_few own n (Some a) true = refl
both_few own n (Some a) false = refl

pub row_few : (own n : NodeNumber) (r : Row) → length (row_sends own n r) ≤ 2
row_few own n r = leb-true _ 2 (both_few own n (due_now r) (repeat_now r))
