-- A request: a mobile that is to be served by a VLR.
use Rattle.std.specs.Prelude.{◌+◌, not, ◌||◌, Ok, Result}
use Rattle.imsi.specs.declared.Imsi.{Imsi}
use Rattle.imsi.specs.Spelling.{lawful_imsi}
use Rattle.station.specs.declared.denial.Denial.{Denial}
use Rattle.station.specs.declared.denial.Denial.TheVariants as denial
use Rattle.station.specs.Calls.{Plan, ask, ask_for, unless_worn}
use Rattle.context.specs.declared.kind.Request.{Request}
use Rattle.context.specs.Codes.{request_kind_in, voice_class, attaches}
use Rattle.context.specs.Errands.{owes}
use Rattle.context.specs.Requesting as context
use Rattle.sgsn.specs.Fitting.{is_one_of}
use Rattle.sgsn.specs.State.{State, vlrs_of, record_at, moved}

-- the questions in their order; then the mobile's record waits for the VLR, or has its verdict at once
abbrev pub request_plan : State → Imsi → Request → Result (Plan Unit State) Denial
request_plan s i q =
    unless_worn s.last
    (ask_for (request_kind_in q.kind) denial.UnlistedCode (λ k.
    ask (lawful_imsi i.digits i.value) denial.UnlawfulImsi
    (ask_for (record_at s i) denial.NotEnrolled (λ r.
    ask_for (voice_class r.class) denial.WrongClass (λ c.
    ask (is_one_of (vlrs_of s) q.vlr) denial.NotItsVlr
    (ask (not (owes r.errand)) denial.ReplyOwed
    (ask (attaches k || r.attached) denial.NotAttached
    (Ok (moved s (context.requested k c q (s.last + 1) r))))))))))
