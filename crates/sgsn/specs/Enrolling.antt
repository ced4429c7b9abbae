-- Enrolling a mobile, and giving it packet service.
use Rattle.std.specs.Prelude.{ℕ, not, is_some, Ok, Result}
use Rattle.imsi.specs.declared.Imsi.{Imsi}
use Rattle.imsi.specs.Spelling.{lawful_imsi}
use Rattle.directory.specs.Lookup.{fits}
use Rattle.station.specs.declared.denial.Denial.{Denial}
use Rattle.station.specs.declared.denial.Denial.TheVariants as denial
use Rattle.station.specs.Calls.{Plan, ask, ask_for, unless_worn}
use Rattle.context.specs.Codes.{class_in}
use Rattle.context.specs.Contexts.{whose, new_context, attached_now}
use Rattle.sgsn.specs.State.{State, record_at, kept}

-- this many places
abbrev pub places : ℕ
places = 1024

-- the questions in their order; then the mobile has a record, detached and with no mark
abbrev pub enrol_plan : State → Imsi → ℕ → Result (Plan Unit State) Denial
enrol_plan s i code =
    unless_worn s.last
    (ask_for (class_in code) denial.UnlistedCode (λ c.
    ask (lawful_imsi i.digits i.value) denial.UnlawfulImsi
    (ask (not (is_some (record_at s i))) denial.NotNew
    (ask (fits whose places s.records i) denial.NoPlace
    (Ok (kept s (new_context i c)))))))

-- the mobile has packet service
abbrev pub attach_plan : State → Imsi → Result (Plan Unit State) Denial
attach_plan s i =
    unless_worn s.last
    (ask (lawful_imsi i.digits i.value) denial.UnlawfulImsi
    (ask_for (record_at s i) denial.NotEnrolled (λ r.
    Ok (kept s (attached_now r)))))
