-- Settling what a mobile is owed.
use Rattle.std.specs.Prelude.{Bool, if◌then◌else◌, [], Ok, Err, Result}
use Rattle.imsi.specs.declared.Imsi.{Imsi}
use Rattle.elements.specs.Nodes.{same_node}
use Rattle.station.specs.declared.denial.Denial.{Denial}
use Rattle.station.specs.declared.denial.Denial.TheVariants as denial
use Rattle.station.specs.Calls.{Plan, ask, ask_for, plan_with}
use Rattle.station.specs.Sends.{is_worn}
use Rattle.context.specs.declared.context.Context.{Context}
use Rattle.context.specs.declared.errand.Errand.{Errand}
use Rattle.context.specs.declared.errand.Errand.TheVariants as errand
use Rattle.context.specs.declared.errand.Verdict.{Verdict}
use Rattle.context.specs.declared.errand.Verdict.TheVariants as verdict
use Rattle.context.specs.Contexts.{idle}
use Rattle.context.specs.Ticking.{expired}
use Rattle.sgsn.specs.declared.reply.Reply.{Reply}
use Rattle.sgsn.specs.Replies.{owed_by, owed_to}
use Rattle.sgsn.specs.State.{State, record_at, with_context}

-- The verdict for this errand, and the record when its reply was settled: nothing is owed, or there is no verdict yet. A
-- worn end waits for none: what is open expires for the last time.
abbrev pub settle_move : Bool → Errand → Context → Result (Verdict × Context) Denial
settle_move worn errand.Idle r = Err denial.NoSuchReply
settle_move worn (errand.Open o) r =
    if worn then Ok (verdict.NotResponding, idle (expired o r))
    else Err denial.NoVerdict
settle_move worn (errand.Ended v) r = Ok (v, idle r)

-- this is answered, and this record is kept
abbrev pub verdict_plan : State → Result (Verdict × Context) Denial → Result (Plan Verdict State) Denial
verdict_plan s (Err d) = Err d
verdict_plan s (Ok m) = Ok (record { answer = m.0; after = with_context s m.1; sends = [] })

-- the verdict that settles what the mobile is owed, or why nothing does
abbrev pub settle_plan : State → Imsi → Result (Plan Verdict State) Denial
settle_plan s i =
    ask_for (record_at s i) denial.NoSuchReply (λ r.
    verdict_plan s (settle_move (is_worn s.last) r.errand r))

-- the same for this reply: another SGSN's is not settled here
abbrev pub reply_plan : State → Reply → Result (Plan Verdict State) Denial
reply_plan s p = ask (same_node (owed_by p).node s.own) denial.NoSuchReply (settle_plan s (owed_to p))

-- a verdict spends the reply, a denial hands it back
abbrev pub handing_back : Reply → Result (Plan Verdict State) Denial → Result (Plan Verdict State) (Denial × Reply)
handing_back p plan = plan_with (λ v. v) (λ d. (d, p)) plan
