-- One call at a site, and successions of calls from a new one.
use Rattle.std.specs.Prelude.{◌≡◌, ℕ, Bool, true, false, List, [], ◌∷◌, ◌++◌, map, Option, Result}
use Rattle.std.specs.List.{list_any}
use Rattle.elements.specs.declared.node.NodeNumber.{NodeNumber}
use Rattle.elements.specs.declared.node.SgsnNumber.{SgsnNumber}
use Rattle.elements.specs.declared.node.VlrNumber.{VlrNumber}
use Rattle.elements.specs.Nodes.{same_node}
use Rattle.carrier.specs.Waiting.{Empty}
use Rattle.station.specs.declared.receiving.Refusal.{Refusal}
use Rattle.station.specs.Calls.{Does}
use Rattle.sgsn.specs.declared.call.SgsnCall.{SgsnCall}
use Rattle.sgsn.specs.declared.call.SgsnAnswer.{SgsnAnswer}
use Rattle.sgsn.specs.Calls as sgsn_call
use Rattle.sgsn.specs.Making as sgsn_made
use Rattle.sgsn.specs.State as sgsn
use Rattle.vlr.specs.declared.call.VlrCall.{VlrCall}
use Rattle.vlr.specs.declared.call.VlrAnswer.{VlrAnswer}
use Rattle.vlr.specs.Calls as vlr_call
use Rattle.vlr.specs.Making as vlr_made
use Rattle.vlr.specs.State as vlr
use Rattle.law.specs.declared.call.Call.{Call}
use Rattle.law.specs.declared.call.Call.TheVariants as call
use Rattle.law.specs.declared.call.Answer.{Answer}
use Rattle.law.specs.declared.call.Answer.TheVariants as answer
use Rattle.law.specs.Tables.{View}

-- the node is one of these VLRs
abbrev pub is_vlr : VlrNumber → List vlr.State → Bool
is_vlr n vs = list_any (λ v. same_node v.own n.node) vs

-- the node is the SGSN
abbrev pub is_sgsn : {C : Type 0} → SgsnNumber → View C → Bool
is_sgsn n x = same_node x.sgsn.own n.node

-- no such node is here
abbrev pub Nowhere : {C : Type 0} → Answer → View C → View C → Type 0
Nowhere a x y = (a ≡ answer.NoSuchNode) × (y ≡ x)

-- One call, of the site's SGSN or of one of its VLRs, over a carrier that puts and takes so.
module _ {C : Type 0} (takes : C → NodeNumber → Option (List ℕ) → C → Type 0) (puts : C → List ℕ → C → Type 0) where
  -- the SGSN makes the call, and the VLRs stay
  pub record SgsnMakes (k : SgsnCall) (a : Answer) (x y : View C) : Type 0 where
    pub result : Result SgsnAnswer Refusal
    pub answered : a ≡ answer.Sgsn result
    pub made : Does sgsn.own_of sgsn.last_of takes puts (sgsn_call.call_course k x.sgsn) result
        x.sgsn x.carrier y.sgsn y.carrier
    pub vlrs : y.vlrs ≡ x.vlrs

  -- the VLR of this number makes the call, and the others and the SGSN stay
  pub record VlrMakes (n : VlrNumber) (k : VlrCall) (a : Answer) (x y : View C) : Type 0 where
    pub earlier : List vlr.State
    pub later : List vlr.State
    pub before : vlr.State
    pub after : vlr.State
    pub stood : x.vlrs ≡ earlier ++ before ∷ later
    pub stands : y.vlrs ≡ earlier ++ after ∷ later
    pub number : before.own ≡ n.node
    pub result : Result VlrAnswer Refusal
    pub answered : a ≡ answer.Vlr result
    pub made : Does vlr.own_of vlr.last_of takes puts (vlr_call.call_course k before) result
        before x.carrier after y.carrier
    pub sgsn : y.sgsn ≡ x.sgsn

  abbrev pub AtSgsn : Bool → SgsnCall → Answer → View C → View C → Type 0
  AtSgsn true k a x y = SgsnMakes k a x y
  AtSgsn false k a x y = Nowhere a x y

  abbrev pub AtVlr : Bool → VlrNumber → VlrCall → Answer → View C → View C → Type 0
  AtVlr true n k a x y = VlrMakes n k a x y
  AtVlr false n k a x y = Nowhere a x y

  -- the call, its answer, and the site before and after it
  abbrev pub Step : Call → Answer → View C → View C → Type 0
  Step (call.Sgsn n k) a x y = AtSgsn (is_sgsn n x) k a x y
  Step (call.Vlr n k) a x y = AtVlr (is_vlr n x.vlrs) n k a x y

-- a new SGSN, the VLRs that it was made with, each made for it, in rising number, and an empty carrier
pub record New {C : Type 0} (waiting : C → List (List ℕ)) (x : View C) : Type 0 where
  pub number : SgsnNumber
  pub given : List VlrNumber
  pub numbers : List VlrNumber
  pub lawful : sgsn_made.lawful_numbers number given ≡ true
  pub risen : sgsn_made.Risen given numbers
  pub sgsn : x.sgsn ≡ sgsn_made.new_state number numbers
  pub vlrs : x.vlrs ≡ map (λ n. vlr_made.new_state n number) numbers
  pub empty : Empty (waiting x.carrier)

-- calls with their answers, the last one first
abbrev pub Events : Type 0
Events = List (Call × Answer)

-- The site came to be so from a new one by these calls.
pub data Came {C : Type 0} (waiting : C → List (List ℕ)) (takes : C → NodeNumber → Option (List ℕ) → C → Type 0)
    (puts : C → List ℕ → C → Type 0) : Events → View C → Type 0 where
  new : {x : View C} → New waiting x → Came waiting takes puts [] x
  next : {c : Call} {a : Answer} {es : Events} {x y : View C} → Came waiting takes puts es x → Step takes puts c a x y
      → Came waiting takes puts ((c, a) ∷ es) y
