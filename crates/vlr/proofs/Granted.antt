-- What is planned for a call that is not denied.
use Rattle.std.proofs.Common.{◌≡◌, ℕ, true, [], Option, Ok}
use Rattle.imsi.specs.declared.Imsi.{Imsi}
use Rattle.imsi.specs.Spelling.{lawful_imsi}
use Rattle.messages.specs.Lawful.{lawful_channel}
use Rattle.directory.specs.Lookup.{at, fits}
use Rattle.station.specs.declared.denial.Denial.TheVariants as denial
use Rattle.station.specs.Calls.{Plan, plan}
use Rattle.station.specs.Marks.{is_sure_of}
use Rattle.station.proofs.Questions.{granted, found, planned, unworn}
use Rattle.vlr.specs.State.{State, whose}
use Rattle.vlr.specs.Enrolling.{places, with_enrolled, enrol_plan}
use Rattle.vlr.specs.Paging.{paged, pages, page_plan}

pub enrol_granted : (s : State) (i : Imsi) (c : ℕ) (p : Plan Unit State) → enrol_plan s i c ≡ Ok p → plan (with_enrolled s i c) [] ≡ p
enrol_granted s i c p e =
    let worn = unworn s.last _ p e in
    let lawful = granted (lawful_imsi i.digits i.value) denial.UnlawfulImsi _ p worn in
    let room = granted (fits whose places s.records i) denial.NoPlace _ p lawful.1 in
    planned _ p room.1

pub page_granted : (s : State) (i : Imsi) (t ch : Option ℕ) (p : Plan Unit State) → page_plan s i t ch ≡ Ok p → plan (paged s) (pages s i t ch) ≡ p
page_granted s i t ch p e =
    let worn = unworn s.last _ p e in
    let channel = granted (lawful_channel ch) denial.UnlistedCode _ p worn in
    let lawful = granted (lawful_imsi i.digits i.value) denial.UnlawfulImsi _ p channel.1 in
    let held = found (at whose s.records i) denial.NotEnrolled _ p lawful.1 in
    let sure = granted (is_sure_of (λ n. true) held.0.mark) denial.WrongMark _ p held.2 in
    planned _ p sure.1
