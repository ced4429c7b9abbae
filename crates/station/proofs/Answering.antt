-- What a call that hands out another answer, or another reason, does.
use Rattle.std.proofs.Common.{◌≡◌, ℕ, List, [], ◌∷◌, Ok, Err, Option, Result, sym, refl, ap, subst}
use Rattle.elements.specs.declared.node.NodeNumber.{NodeNumber}
use Rattle.station.specs.declared.sending.Outgoing.{Outgoing}
use Rattle.station.specs.Calls.{Plan, plan_with, handed_on, Course, AtOnce, Taking, course_with, Done, Does, Decides}
use Rattle.station.specs.Sends.{Sent}

-- where nothing can be put, nothing is sent
silent : (own : NodeNumber) (last : ℕ) (os : List Outgoing) → Sent (λ (c : Unit {0}) o d. ⊥) own last os tt tt → os ≡ []
silent own last [] h = refl
silent own last (o ∷ os) h = absurd h.0.1

module _ {V : Type 0} (own : V → NodeNumber) (last : V → ℕ) {C : Type 0} (puts : C → List ℕ → C → Type 0) where
  pub done_as : {T U E F : Type 0} (f : T → U) (g : E → F) (p : Result (Plan T V) E) (r : Result T E) (s : V) (c : C) (t : V) (d : C)
      → Done own last puts p r s c t d → Done own last puts (plan_with f g p) (handed_on f g r) s c t d
  done_as f g (Err e) r s c t d h = (ap (handed_on f g) h.0, h.1, h.2)
  done_as f g (Ok p) r s c t d h = (ap (handed_on f g) h.0, h.1, h.2)

  -- the same of a call that may take
  pub does_as : {T U E F : Type 0} (takes : C → NodeNumber → Option (List ℕ) → C → Type 0) (f : T → U) (g : E → F) (p : Course T V E) (r : Result T E) (s : V) (c : C) (t : V) (d : C)
      → Does own last takes puts p r s c t d → Does own last takes puts (course_with f g p) (handed_on f g r) s c t d
  does_as takes f g (AtOnce p) r s c t d h = done_as f g p r s c t d h
  does_as takes f g (Taking by) r s c t d h =
      record { got = h.got; between = h.between; received = h.received; done = done_as f g (by h.got) r s h.between t d h.done }

  -- a call that has no carrier does the same beside one, and leaves it alone
  pub decided_done : {T E : Type 0} (p : Result (Plan T V) E) (r : Result T E) (s t : V) (c : C) → Decides own last p r s t → Done own last puts p r s c t c
  decided_done (Err e) r s t c h = (h.0, h.1, refl)
  decided_done (Ok p) r s t c h = (h.0, h.1, subst (λ os. Sent puts (own s) (last s) os c c) (sym (silent (own s) (last s) p.sends h.2)) (refl, refl))
