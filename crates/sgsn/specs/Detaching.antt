-- A detach: a mobile that gives up packet service, voice service, or both.
use Rattle.std.specs.Prelude.{ℕ, ◌+◌, Bool, true, not, is_some, Ok, Result}
use Rattle.imsi.specs.declared.Imsi.{Imsi}
use Rattle.imsi.specs.Spelling.{lawful_imsi}
use Rattle.station.specs.declared.denial.Denial.{Denial}
use Rattle.station.specs.declared.denial.Denial.TheVariants as denial
use Rattle.station.specs.Calls.{Plan, ask, ask_for, unless_worn}
use Rattle.station.specs.Marks.{node_in}
use Rattle.context.specs.declared.context.Context.{Context}
use Rattle.context.specs.declared.kind.DetachKind.{DetachKind}
use Rattle.context.specs.declared.kind.DetachKind.TheVariants as kind
use Rattle.context.specs.Codes.{detach_kind_in}
use Rattle.context.specs.Errands.{owes}
use Rattle.context.specs.Detaching as context
use Rattle.sgsn.specs.State.{State, record_at, moved}

-- an IMSI detach wants a mark; any other does not
abbrev pub mark_allows : DetachKind → Context → Bool
mark_allows kind.Imsi r = is_some (node_in r.mark)
mark_allows k r = true

-- the questions in their order; then the mobile's record waits for the VLR, or has its verdict at once
abbrev pub detach_plan : State → Imsi → ℕ → Result (Plan Unit State) Denial
detach_plan s i code =
    unless_worn s.last
    (ask_for (detach_kind_in code) denial.UnlistedCode (λ k.
    ask (lawful_imsi i.digits i.value) denial.UnlawfulImsi
    (ask_for (record_at s i) denial.NotEnrolled (λ r.
    ask (not (owes r.errand)) denial.ReplyOwed
    (ask r.attached denial.NotAttached
    (ask (mark_allows k r) denial.WrongMark
    (Ok (moved s (context.detached k (s.last + 1) r)))))))))
