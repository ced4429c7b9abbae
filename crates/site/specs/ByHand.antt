-- Calls by hand: whoever makes them keeps the reply that is owed.
use Rattle.std.specs.Prelude.{◌≡◌, ℕ, Bool, true, false, List, ◌∷◌, Err, Option, Result}
use Rattle.elements.specs.declared.node.NodeNumber.{NodeNumber}
use Rattle.elements.specs.Nodes.{same_node}
use Rattle.station.specs.declared.denial.Denial.{Denial}
use Rattle.station.specs.declared.denial.Denial.TheVariants as denial
use Rattle.station.specs.declared.receiving.Refusal.TheVariants.{Denied}
use Rattle.station.specs.Calls.{handed_on}
use Rattle.context.specs.declared.errand.Verdict.{Verdict}
use Rattle.sgsn.specs.declared.call.SgsnAnswer.TheVariants as sgsn_answer
use Rattle.sgsn.specs.declared.call.SgsnCall.{SgsnCall}
use Rattle.sgsn.specs.declared.call.SgsnCall.TheVariants.{Settle}
use Rattle.sgsn.specs.declared.reply.Reply.{Reply}
use Rattle.sgsn.specs.Replies.{owed_by, owed_to}
use Rattle.law.specs.declared.call.Call.{Call}
use Rattle.law.specs.declared.call.Call.TheVariants as call
use Rattle.law.specs.declared.call.Answer.{Answer}
use Rattle.law.specs.declared.call.Answer.TheVariants as answer
use Rattle.law.specs.Steps.{Events, Step}
use Rattle.law.specs.Tables.{View}

-- the call of this site's SGSN
abbrev pub own_call : {C : Type 0} → View C → SgsnCall → Call
own_call x k = call.Sgsn (record { node = x.sgsn.own }) k

-- what a request or detach is answered that hands out its reply
abbrev pub asked : Result Reply Denial → Answer
asked r = answer.Sgsn (handed_on (λ p. sgsn_answer.Done) Denied r)

-- what settling a reply is answered; a denial hands it back
abbrev pub settled_by : Result Verdict (Denial × Reply) → Answer
settled_by r = answer.Sgsn (handed_on sgsn_answer.Verdict (λ e. Denied e.0) r)

-- the reply is owed by this SGSN
abbrev pub is_its : {C : Type 0} → Reply → View C → Bool
is_its p x = same_node (owed_by p).node x.sgsn.own

-- such a reply is settled as its mobile's record is; another's is denied, and nothing changes
module _ {C : Type 0} (takes : C → NodeNumber → Option (List ℕ) → C → Type 0) (puts : C → List ℕ → C → Type 0) where
  abbrev pub SettlesAs : Bool → Reply → Result Verdict (Denial × Reply) → View C → View C → Type 0
  SettlesAs true p r x y = Step takes puts (own_call x (Settle (owed_to p))) (settled_by r) x y
  SettlesAs false p r x y = (r ≡ Err (denial.NoSuchReply, p)) × (y ≡ x)

  abbrev pub Settles : Reply → Result Verdict (Denial × Reply) → View C → View C → Type 0
  Settles p r x y = SettlesAs (is_its p x) p r x y

-- the calls with this one at that site; another SGSN's reply makes none there
abbrev pub with_settling : {C : Type 0} → View C → Bool → Reply → Result Verdict (Denial × Reply) → Events → Events
with_settling x true p r es = (own_call x (Settle (owed_to p)), settled_by r) ∷ es
with_settling x false p r es = es
