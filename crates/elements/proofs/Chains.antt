-- One reading after another, and the octets from a place on.
use Rattle.std.proofs.Common.{◌≡◌, ℕ, ◌+◌, ◌<◌, List, ◌++◌, length, get_or, drop, Some, None, Ok, Err, Option, Result, sym, refl, ap, ◌∙◌, arith}
use Rattle.std.proofs.lemmas.List.{length-drop, get_or-drop, drop-drop, drop_at}
use Rattle.elements.specs.declared.fault.Fault.{Fault}
use Rattle.elements.specs.Faults.{and_then, lawful_or}

-- a right reading goes on with what was read
pub then_there : {X Y : Type 0} {r : Result X Fault} (f : X → Result Y Fault) {x : X} {q : Result Y Fault} → r ≡ Ok x → f x ≡ q → and_then r f ≡ q
then_there f e h = ap (λ t. and_then t f) e ∙ h

-- a right whole has a right first reading
pub then_ok : {X Y : Type 0} (r : Result X Fault) (f : X → Result Y Fault) (y : Y) → and_then r f ≡ Ok y → (x : X) × (r ≡ Ok x) × (f x ≡ Ok y)
then_ok (Ok x) f y e = (x, refl, e)
then_ok (Err d) f y e = let z : ◌≡◌ {A = ℕ} 0 1 = cc in absurd (omega arith)

-- one value only is read
pub same_ok : {X : Type 0} (x y : X) → ◌≡◌ {A = Result X Fault} (Ok x) (Ok y) → x ≡ y
same_ok x y e = cc

pub fault_ok : {X Y : Type 0} (d : Fault) (x : X) → ◌≡◌ {A = Result X Fault} (Err d) (Ok x) → Y
fault_ok d x e = let z : ◌≡◌ {A = ℕ} 0 1 = cc in absurd (omega arith)

pub found : {X : Type 0} (o : Option X) (p : ℕ) (x : X) → lawful_or o p ≡ Ok x → o ≡ Some x
found (Some y) p x e = ap Some (same_ok y x e)
found None p x e = fault_ok _ x e

-- the octets from a place on
pub at-drop : (s xs : List ℕ) (at k : ℕ) → drop at s ≡ xs → get_or s (at + k) 0 ≡ get_or xs k 0
at-drop s xs at k e = sym (get_or-drop at s k 0) ∙ ap (λ t. get_or t k 0) e

pub drop_size : (s xs : List ℕ) (at : ℕ) → drop at s ≡ xs → 0 < length xs → at + length xs ≡ length s
drop_size s xs at e h = let a = length-drop at s in let b = ap length e in omega arith

-- past a part that stands at a place
pub past : (s ys xs : List ℕ) (at next : ℕ) → drop at s ≡ ys ++ xs → next ≡ at + length ys → drop next s ≡ xs
past s ys xs at next e n = ap (λ m. drop m s) n ∙ sym (drop-drop (length ys) at s) ∙ ap (drop (length ys)) e ∙ drop_at ys xs (length ys) refl
