-- What a call does at an end: the first question whose answer is no denies it, and it changes nothing; else it does
-- as is planned for it. A delivery takes first, and what it took, as it reads, decides.
use Rattle.std.specs.Prelude.{◌≡◌, ℕ, Bool, if◌then◌else◌, not, List, [], Ok, Err, Some, None, Option, Result}
use Rattle.elements.specs.declared.fault.Fault.{Fault}
use Rattle.elements.specs.declared.node.NodeNumber.{NodeNumber}
use Rattle.frames.specs.declared.frame.Frame.{Frame}
use Rattle.station.specs.declared.denial.Denial.{Denial}
use Rattle.station.specs.declared.denial.Denial.TheVariants as denial
use Rattle.station.specs.declared.receiving.Delivery.{Delivery}
use Rattle.station.specs.declared.receiving.Delivery.TheVariants as delivery
use Rattle.station.specs.declared.receiving.Refusal.{Refusal}
use Rattle.station.specs.declared.receiving.Refusal.TheVariants.{Denied, Faulty}
use Rattle.station.specs.declared.sending.Outgoing.{Outgoing}
use Rattle.station.specs.Receiving.{Received}
use Rattle.station.specs.Sends.{is_worn, Sent}

-- what a call that is not denied answers, the end after it, and what goes out
pub record Plan (T V : Type 0) : Type 0 where
  pub answer : T
  pub after : V
  pub sends : List Outgoing

-- of a call that has no more to tell than that it was made
abbrev pub plan : {V : Type 0} → V → List Outgoing → Plan Unit V
plan t os = record { answer = tt; after = t; sends = os }

-- a question: where its answer is no, this denies the call
abbrev pub ask : {X : Type 0} → Bool → Denial → Result X Denial → Result X Denial
ask granted d others = if granted then others else Err d

-- a question for a value, which the others go on with
abbrev pub ask_for : {X Y : Type 0} → Option X → Denial → (X → Result Y Denial) → Result Y Denial
ask_for None d others = Err d
ask_for (Some x) d others = others x

-- the first question of all calls but settling: whether the end, whose last stamp is this, is worn
abbrev pub unless_worn : {X : Type 0} → ℕ → Result X Denial → Result X Denial
unless_worn last others = ask (not (is_worn last)) denial.Worn others

-- the same plan, with its answer told so, or its refusal
abbrev pub plan_with : {T U V E F : Type 0} → (T → U) → (E → F) → Result (Plan T V) E → Result (Plan U V) F
plan_with f g (Err e) = Err (g e)
plan_with f g (Ok p) = Ok (record { answer = f p.answer; after = p.after; sends = p.sends })

-- a result that is told likewise
abbrev pub handed_on : {T U E F : Type 0} → (T → U) → (E → F) → Result T E → Result U F
handed_on f g (Err e) = Err (g e)
handed_on f g (Ok x) = Ok (f x)

-- the end after a call that is planned so, where this was it before
abbrev pub after_in : {T V E : Type 0} → V → Result (Plan T V) E → V
after_in s (Err e) = s
after_in s (Ok p) = p.after

abbrev pub sends_in : {T V E : Type 0} → Result (Plan T V) E → List Outgoing
sends_in (Err e) = []
sends_in (Ok p) = p.sends

-- The course of a call: it is refused or planned at once, or takes a frame first and goes by what that is.
pub data Course (T V E : Type 0) : Type 0 where
  AtOnce : Result (Plan T V) E → Course T V E
  Taking : (Option (Result Frame Fault) → Result (Plan T V) E) → Course T V E

abbrev pub course_with : {T U V E F : Type 0} → (T → U) → (E → F) → Course T V E → Course U V F
course_with f g (AtOnce p) = AtOnce (plan_with f g p)
course_with f g (Taking by) = Taking (λ o. plan_with f g (by o))

-- an end, whose state has this node number and last stamp
module _ {V : Type 0} (own : V → NodeNumber) (last : V → ℕ) where
  -- it refuses, and nothing changes; or it does as planned
  abbrev pub Done : {T E C : Type 0} → (C → List ℕ → C → Type 0)
      → Result (Plan T V) E → Result T E → V → C → V → C → Type 0
  Done puts (Err e) r s c t d = (r ≡ Err e) × (t ≡ s) × (d ≡ c)
  Done puts (Ok p) r s c t d = (r ≡ Ok p.answer) × (t ≡ p.after) × Sent puts (own s) (last s) p.sends c d

  -- it takes once, and goes by what was taken
  pub record Took {T E C : Type 0} (takes : C → NodeNumber → Option (List ℕ) → C → Type 0)
      (puts : C → List ℕ → C → Type 0) (by : Option (Result Frame Fault) → Result (Plan T V) E)
      (r : Result T E) (s : V) (c : C) (t : V) (d : C) : Type 0 where
    pub got : Option (Result Frame Fault)
    pub between : C
    pub received : Received takes (own s) got c between
    pub done : Done puts (by got) r s between t d

  -- what every call does: its result, and the end and the carrier before and after it
  abbrev pub Does : {T E C : Type 0} → (C → NodeNumber → Option (List ℕ) → C → Type 0)
      → (C → List ℕ → C → Type 0)
      → Course T V E → Result T E → V → C → V → C → Type 0
  Does takes puts (AtOnce p) r s c t d = Done puts p r s c t d
  Does takes puts (Taking by) r s c t d = Took takes puts by r s c t d

  -- a call that has no carrier: it neither takes nor puts
  abbrev pub Decides : {T E : Type 0} → Result (Plan T V) E → Result T E → V → V → Type 0
  Decides p r s t = Done (λ (c : Unit {0}) o d. ⊥) p r s tt t tt

-- nothing is sent, and the answer is that a delivery was made
abbrev pub quietly : {V : Type 0} → V → Plan Delivery V
quietly t = record { answer = delivery.Done; after = t; sends = [] }

-- A delivery at an end at which a frame does this: where nothing was taken there is nothing to do, and octets that are
-- no frame are spent.
abbrev pub by_taken : {V : Type 0} → (V → Frame → Plan Delivery V) → V
    → Option (Result Frame Fault) → Result (Plan Delivery V) Refusal
by_taken by_frame s None = Ok (record { answer = delivery.Nothing; after = s; sends = [] })
by_taken by_frame s (Some (Err e)) = Err (Faulty e)
by_taken by_frame s (Some (Ok f)) = Ok (by_frame s f)

-- a worn end takes nothing
abbrev pub delivering : {V : Type 0} → (V → ℕ) → (V → Frame → Plan Delivery V) → V → Course Delivery V Refusal
delivering last by_frame s =
    if is_worn (last s) then AtOnce (Err (Denied denial.Worn))
    else Taking (by_taken by_frame s)
