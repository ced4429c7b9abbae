-- Paging: a mobile whose SGSN is sure.
use Rattle.std.specs.Prelude.{ℕ, ◌+◌, true, List, [], ◌∷◌, Option, Ok, Result}
use Rattle.imsi.specs.declared.Imsi.{Imsi}
use Rattle.imsi.specs.Spelling.{lawful_imsi}
use Rattle.messages.specs.declared.message.Message.TheVariants.{Paging}
use Rattle.messages.specs.Lawful.{lawful_channel}
use Rattle.station.specs.declared.denial.Denial.{Denial}
use Rattle.station.specs.declared.denial.Denial.TheVariants as denial
use Rattle.station.specs.declared.sending.Outgoing.{Outgoing}
use Rattle.station.specs.Marks.{is_sure_of}
use Rattle.vlr.specs.State.{State, record_at}
use Rattle.station.specs.Calls.{Plan, plan, ask, ask_for, unless_worn}

-- one stamp more was taken
abbrev pub paged : State → State
paged s = record s { last = s.last + 1 }

-- what goes to the SGSN
abbrev pub pages : State → Imsi → Option ℕ → Option ℕ → List Outgoing
pages s i t ch = record { to = s.sgsn.node; answers = 0; message = Paging i t ch } ∷ []

-- the questions in their order; then the SGSN is told, with the next stamp
abbrev pub page_plan : State → Imsi → Option ℕ → Option ℕ → Result (Plan Unit State) Denial
page_plan s i t ch =
    unless_worn s.last
    (ask (lawful_channel ch) denial.UnlistedCode
    (ask (lawful_imsi i.digits i.value) denial.UnlawfulImsi
    (ask_for (record_at s i) denial.NotEnrolled (λ r.
    ask (is_sure_of (λ n. true) r.mark) denial.WrongMark
    (Ok (plan (paged s) (pages s i t ch)))))))
