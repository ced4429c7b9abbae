-- The law holds after any calls at a site, over any carrier that gives frames in order.
use Rattle.std.proofs.Common.{ℕ, List, ◌∷◌, Option}
use Rattle.elements.specs.declared.node.NodeNumber.{NodeNumber}
use Rattle.carrier.specs.Order.{Stamps}
use Rattle.law.specs.declared.call.Call.{Call}
use Rattle.law.specs.declared.call.Answer.{Answer}
use Rattle.law.specs.Laws.{Law}
use Rattle.law.specs.Steps.{Events, Step, Came}
use Rattle.law.specs.Steps.Came.{next}
use Rattle.law.specs.Tables.{View}
use Rattle.law.proofs.Agreeing.{agreed_after}
use Rattle.law.proofs.Calls.{sound}
use Rattle.law.proofs.Carried.{Carries}
use Rattle.law.proofs.Once.{once}
use Rattle.law.proofs.Replies.{replies, timely}

module _ {C : Type 0} (waiting : C → List (List ℕ)) (latest : C → Stamps) (takes : C → NodeNumber → Option (List ℕ) → C → Type 0) (puts : C → List ℕ → C → Type 0) (K : Carries waiting latest takes puts) where
  pub law_after : (es : Events) (x : View C) → Came waiting takes puts es x → Law es x
  law_after es x came =
      let owed = replies takes puts waiting es x came in
      record {
        agreed = agreed_after waiting latest takes puts K came;
        balanced = owed.balanced;
        owed = owed.owed;
        once = λ m. once m x.sgsn.records (sound waiting latest takes puts K came).fit.rise;
        timely = timely es x.sgsn owed;
      }

  -- and so after one call more
  pub law_step : (c : Call) (a : Answer) (es : Events) (x y : View C) → Came waiting takes puts es x → Step takes puts c a x y → Law ((c, a) ∷ es) y
  law_step c a es x y came step = law_after ((c, a) ∷ es) y (next came step)
