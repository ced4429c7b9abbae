-- What a slip carrier does is what a carrier may do, in each mode.
use Rattle.std.specs.Prelude.{◌≡◌, ℕ, Bool, true, false, cond, List, [], ◌∷◌, Some, None, refl}
use Rattle.elements.specs.declared.node.NodeNumber.{NodeNumber}
use Rattle.carrier.specs.Waiting.{In, Gives, Leaves}
use Rattle.queue.specs.Lists.{is_for}
use Rattle.queue.specs.Laws as queue
use Rattle.slip.specs.declared.script.Mode.{Mode}
use Rattle.slip.specs.declared.script.Mode.TheVariants.{GiveOldest, GiveNewest, GiveAndKeepOldest, LoseOldest}
use Rattle.slip.specs.Lists.{any_for, last_for, without_last, answer_by, left_by}

last_by : (a b : Bool) (n : NodeNumber) (g : List ℕ) (fs : List (List ℕ)) → is_for n g ≡ b → Gives fs n (last_for n fs) → Gives (g ∷ fs) n (cond a (last_for n fs) (cond b (Some g) None))
last_by true b n g fs t rest = queue.later n g fs (last_for n fs) rest
last_by false b n g fs t rest = queue.gives_by b n g fs None t tt

last_gives : (n : NodeNumber) (fs : List (List ℕ)) → Gives fs n (last_for n fs)
last_gives n [] = tt
last_gives n (g ∷ fs) = last_by (any_for n fs) (is_for n g) n g fs refl (last_gives n fs)

left_by_lem : (a b : Bool) (n : NodeNumber) (g : List ℕ) (fs : List (List ℕ)) (x : List ℕ) → (In x (without_last n fs) → In x fs) → In x (cond a (g ∷ without_last n fs) (cond b fs (g ∷ fs))) → In x (g ∷ fs)
left_by_lem true b n g fs x rest h = queue.leaves_by false g fs (without_last n fs) x rest h
left_by_lem false b n g fs x rest h = queue.leaves_by b g fs fs x (λ i. i) h

last_leaves : (n : NodeNumber) (fs : List (List ℕ)) → Leaves fs (without_last n fs)
last_leaves n [] x h = h
last_leaves n (g ∷ fs) x h = left_by_lem (any_for n fs) (is_for n g) n g fs x (last_leaves n fs x) h

pub gives : (m : Mode) (n : NodeNumber) (fs : List (List ℕ)) → Gives fs n (answer_by m n fs)
gives GiveOldest n fs = queue.gives n fs
gives GiveNewest n fs = last_gives n fs
gives GiveAndKeepOldest n fs = queue.gives n fs
gives LoseOldest n fs = tt

pub leaves : (m : Mode) (n : NodeNumber) (fs : List (List ℕ)) → Leaves fs (left_by m n fs)
leaves GiveOldest n fs = queue.leaves n fs
leaves GiveNewest n fs = last_leaves n fs
leaves GiveAndKeepOldest n fs = λ x h. h
leaves LoseOldest n fs = queue.leaves n fs
