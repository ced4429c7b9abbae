-- The calls of an SGSN as values.
use Rattle.std.specs.Prelude.{Result}
use Rattle.station.specs.declared.denial.Denial.{Denial}
use Rattle.station.specs.declared.receiving.Refusal.{Refusal}
use Rattle.station.specs.declared.receiving.Refusal.TheVariants.{Denied}
use Rattle.station.specs.Calls.{Plan, Course, AtOnce, plan_with, course_with}
use Rattle.sgsn.specs.declared.call.SgsnCall.{SgsnCall}
use Rattle.sgsn.specs.declared.call.SgsnCall.TheVariants as call
use Rattle.sgsn.specs.declared.call.SgsnAnswer.{SgsnAnswer}
use Rattle.sgsn.specs.declared.call.SgsnAnswer.TheVariants as answer
use Rattle.sgsn.specs.Enrolling.{enrol_plan, attach_plan}
use Rattle.sgsn.specs.Requesting.{request_plan}
use Rattle.sgsn.specs.Detaching.{detach_plan}
use Rattle.sgsn.specs.Settling.{settle_plan}
use Rattle.sgsn.specs.Recovering.{lose_plan, tick_plan}
use Rattle.sgsn.specs.Delivering.{delivery}
use Rattle.sgsn.specs.State.{State}

-- a call that takes nothing, and is answered so
abbrev pub at_once : {T : Type 0} → (T → SgsnAnswer) → Result (Plan T State) Denial → Course SgsnAnswer State Refusal
at_once f plan = AtOnce (plan_with f Denied plan)

abbrev pub made : Result (Plan Unit State) Denial → Course SgsnAnswer State Refusal
made plan = at_once (λ u. answer.Done) plan

-- each call at an SGSN in this state
abbrev pub call_course : SgsnCall → State → Course SgsnAnswer State Refusal
call_course (call.Enrol i class) s = made (enrol_plan s i class)
call_course (call.Attach i) s = made (attach_plan s i)
call_course (call.Request i q) s = made (request_plan s i q)
call_course (call.Detach i kind) s = made (detach_plan s i kind)
call_course (call.Settle i) s = at_once answer.Verdict (settle_plan s i)
call_course call.Lose s = made (lose_plan s)
call_course call.Tick s = made (tick_plan s)
call_course call.Deliver s = course_with answer.Delivered (λ e. e) (delivery s)
