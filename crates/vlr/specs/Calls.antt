-- The calls of a VLR as values.
use Rattle.std.specs.Prelude.{Result}
use Rattle.station.specs.declared.denial.Denial.{Denial}
use Rattle.station.specs.declared.receiving.Refusal.{Refusal}
use Rattle.station.specs.declared.receiving.Refusal.TheVariants.{Denied}
use Rattle.station.specs.Calls.{Plan, Course, AtOnce, plan_with, course_with}
use Rattle.vlr.specs.declared.call.VlrCall.{VlrCall}
use Rattle.vlr.specs.declared.call.VlrCall.TheVariants as call
use Rattle.vlr.specs.declared.call.VlrAnswer.{VlrAnswer}
use Rattle.vlr.specs.declared.call.VlrAnswer.TheVariants as answer
use Rattle.vlr.specs.Enrolling.{enrol_plan}
use Rattle.vlr.specs.Paging.{page_plan}
use Rattle.vlr.specs.Recovering.{lose_plan, tick_plan}
use Rattle.vlr.specs.Delivering.{delivery}
use Rattle.vlr.specs.State.{State}

-- a call that takes nothing, and has no more to tell than that it was made
abbrev pub made : Result (Plan Unit State) Denial → Course VlrAnswer State Refusal
made plan = AtOnce (plan_with (λ u. answer.Done) Denied plan)

-- each call at a VLR in this state
abbrev pub call_course : VlrCall → State → Course VlrAnswer State Refusal
call_course (call.Enrol i cause) s = made (enrol_plan s i cause)
call_course (call.Page i t ch) s = made (page_plan s i t ch)
call_course call.Lose s = made (lose_plan s)
call_course call.Tick s = made (tick_plan s)
call_course call.Deliver s = course_with answer.Delivered (λ e. e) (delivery s)
