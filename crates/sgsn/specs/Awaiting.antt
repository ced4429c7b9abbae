-- Waiting for a mobile's verdict by ticks alone.
use Rattle.std.specs.Prelude.{◌≡◌, ℕ, zero, suc, ◌≤◌, Bool, true, false, not, ◌&&◌, List, Some, None, Option, Result}
use Rattle.elements.specs.Nodes.{same_node}
use Rattle.station.specs.declared.denial.Denial.{Denial}
use Rattle.station.specs.Calls.{Decides}
use Rattle.station.specs.Sends.{is_worn, Sent}
use Rattle.context.specs.declared.context.Context.{Context}
use Rattle.context.specs.declared.errand.Verdict.{Verdict}
use Rattle.context.specs.Errands.{is_open}
use Rattle.sgsn.specs.declared.reply.Reply.{Reply}
use Rattle.sgsn.specs.Recovering.{ticked, tick_sends}
use Rattle.sgsn.specs.Replies.{owed_by, owed_to}
use Rattle.sgsn.specs.Settling.{reply_plan, handing_back}
use Rattle.sgsn.specs.State.{State, own_of, last_of, record_at}

abbrev pub is_open_in : Option Context → Bool
is_open_in (Some r) = is_open r.errand
is_open_in None = false

-- this SGSN owes the reply, and its verdict is still to come
abbrev pub is_awaited : State → Reply → Bool
is_awaited s p = same_node (owed_by p).node s.own && (not (is_worn s.last) && is_open_in (record_at s (owed_to p)))

-- so many ticks, each while the verdict was still to come
abbrev pub Ticked : {C : Type 0} → (C → List ℕ → C → Type 0) → Reply → ℕ → State → C → State → C → Type 0
Ticked puts p zero s c t e = (t ≡ s) × (e ≡ c)
Ticked {C} puts p (suc n) s c t e =
    (is_awaited s p ≡ true)
    × ((d : C) × Sent puts s.own s.last (tick_sends s) c d × Ticked puts p n (ticked s) d t e)

-- 32 ticks at most, until the verdict is not to come any more
pub record Waited {C : Type 0} (puts : C → List ℕ → C → Type 0) (p : Reply) (s : State) (c : C) (t : State) (e : C) : Type 0 where
  pub ticks : ℕ
  pub few : ticks ≤ 32
  pub waited : Ticked puts p ticks s c t e
  pub over : is_awaited t p ≡ false

-- the wait, and then the reply is settled
pub record SettledInTime {C : Type 0} (puts : C → List ℕ → C → Type 0) (p : Reply) (r : Result Verdict (Denial × Reply))
    (s : State) (c : C) (t : State) (e : C) : Type 0 where
  pub between : State
  pub waited : Waited puts p s c between e
  pub settled : Decides own_of last_of (handing_back p (reply_plan between p)) r between t
