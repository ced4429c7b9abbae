-- What a call that is not denied may suppose, and what is planned for it.
use Rattle.std.proofs.Common.{◌≡◌, ℕ, ◌+◌, Bool, true, false, not, ◌||◌, [], is_some, Some, Ok, refl, ap, ◌∙◌}
use Rattle.imsi.specs.declared.Imsi.{Imsi}
use Rattle.imsi.specs.Spelling.{lawful_imsi}
use Rattle.elements.specs.declared.code.Class.{Class}
use Rattle.directory.specs.Lookup.{fits}
use Rattle.station.specs.Calls.{Plan}
use Rattle.station.specs.declared.denial.Denial.TheVariants as denial
use Rattle.station.specs.Sends.{is_worn}
use Rattle.station.proofs.Questions.{granted, found, planned, unworn}
use Rattle.context.specs.declared.class.ServiceClass.{ServiceClass}
use Rattle.context.specs.declared.context.Context.{Context}
use Rattle.context.specs.declared.errand.Errand.{Errand}
use Rattle.context.specs.declared.errand.Errand.TheVariants as errand
use Rattle.context.specs.declared.errand.Verdict.{Verdict}
use Rattle.context.specs.declared.kind.Request.{Request}
use Rattle.context.specs.declared.kind.RequestKind.{RequestKind}
use Rattle.context.specs.declared.kind.DetachKind.{DetachKind}
use Rattle.context.specs.Codes.{class_in, request_kind_in, detach_kind_in, attaches, voice_class}
use Rattle.context.specs.Contexts.{whose, new_context, attached_now}
use Rattle.context.specs.Errands.{owes}
use Rattle.context.specs.Requesting as request
use Rattle.context.specs.Detaching as detach
use Rattle.sgsn.specs.Fitting.{is_one_of}
use Rattle.sgsn.specs.State.{State, vlrs_of, record_at, with_context, kept, moved}
use Rattle.sgsn.specs.Enrolling.{places, enrol_plan, attach_plan}
use Rattle.sgsn.specs.Requesting.{request_plan}
use Rattle.sgsn.specs.Detaching.{mark_allows, detach_plan}
use Rattle.sgsn.specs.Settling.{settle_move, verdict_plan, settle_plan}
use Rattle.sgsn.proofs.Moves.{settled_errand, settled}

pub record Enrolled (s : State) (i : Imsi) (p : Plan Unit State) : Type 0 where
  pub class : ServiceClass
  pub lawful : lawful_imsi i.digits i.value ≡ true
  pub unknown : not (is_some (record_at s i)) ≡ true
  pub plan : kept s (new_context i class) ≡ p

pub enrol_granted : (s : State) (i : Imsi) (code : ℕ) (p : Plan Unit State) → enrol_plan s i code ≡ Ok p → Enrolled s i p
enrol_granted s i code p e =
    let rest = unworn s.last _ p e in
    let class = found (class_in code) denial.UnlistedCode _ p rest in
    let lawful = granted (lawful_imsi i.digits i.value) denial.UnlawfulImsi _ p class.2 in
    let unknown = granted (not (is_some (record_at s i))) denial.NotNew _ p lawful.1 in
    let room = granted (fits whose places s.records i) denial.NoPlace _ p unknown.1 in
    record { class = class.0; lawful = lawful.0; unknown = unknown.0; plan = planned _ p room.1 }

pub record Attached (s : State) (i : Imsi) (p : Plan Unit State) : Type 0 where
  pub context : Context
  pub stands : record_at s i ≡ Some context
  pub plan : kept s (attached_now context) ≡ p

pub attach_granted : (s : State) (i : Imsi) (p : Plan Unit State) → attach_plan s i ≡ Ok p → Attached s i p
attach_granted s i p e =
    let rest = unworn s.last _ p e in
    let lawful = granted (lawful_imsi i.digits i.value) denial.UnlawfulImsi _ p rest in
    let held = found (record_at s i) denial.NotEnrolled _ p lawful.1 in
    record { context = held.0; stands = held.1; plan = planned _ p held.2 }

pub record Requested (s : State) (i : Imsi) (q : Request) (p : Plan Unit State) : Type 0 where
  pub kind : RequestKind
  pub context : Context
  pub class : Class
  pub stands : record_at s i ≡ Some context
  pub voice : voice_class context.class ≡ Some class
  pub its_vlr : is_one_of (vlrs_of s) q.vlr ≡ true
  pub free : not (owes context.errand) ≡ true
  pub attached : (attaches kind || context.attached) ≡ true
  pub plan : moved s (request.requested kind class q (s.last + 1) context) ≡ p

pub request_granted : (s : State) (i : Imsi) (q : Request) (p : Plan Unit State) → request_plan s i q ≡ Ok p → Requested s i q p
request_granted s i q p e =
    let rest = unworn s.last _ p e in
    let kind = found (request_kind_in q.kind) denial.UnlistedCode _ p rest in
    let lawful = granted (lawful_imsi i.digits i.value) denial.UnlawfulImsi _ p kind.2 in
    let held = found (record_at s i) denial.NotEnrolled _ p lawful.1 in
    let r = held.0 in
    let voice = found (voice_class r.class) denial.WrongClass _ p held.2 in
    let its = granted (is_one_of (vlrs_of s) q.vlr) denial.NotItsVlr _ p voice.2 in
    let free = granted (not (owes r.errand)) denial.ReplyOwed _ p its.1 in
    let has = granted (attaches kind.0 || r.attached) denial.NotAttached _ p free.1 in
    record { kind = kind.0; context = r; class = voice.0; stands = held.1; voice = voice.1; its_vlr = its.0; free = free.0; attached = has.0; plan = planned _ p has.1 }

pub record Detached (s : State) (i : Imsi) (p : Plan Unit State) : Type 0 where
  pub kind : DetachKind
  pub context : Context
  pub stands : record_at s i ≡ Some context
  pub free : not (owes context.errand) ≡ true
  pub plan : moved s (detach.detached kind (s.last + 1) context) ≡ p

pub detach_granted : (s : State) (i : Imsi) (code : ℕ) (p : Plan Unit State) → detach_plan s i code ≡ Ok p → Detached s i p
detach_granted s i code p e =
    let rest = unworn s.last _ p e in
    let kind = found (detach_kind_in code) denial.UnlistedCode _ p rest in
    let lawful = granted (lawful_imsi i.digits i.value) denial.UnlawfulImsi _ p kind.2 in
    let held = found (record_at s i) denial.NotEnrolled _ p lawful.1 in
    let r = held.0 in
    let free = granted (not (owes r.errand)) denial.ReplyOwed _ p held.2 in
    let has = granted r.attached denial.NotAttached _ p free.1 in
    let marked = granted (mark_allows kind.0 r) denial.WrongMark _ p has.1 in
    record { kind = kind.0; context = r; stands = held.1; free = free.0; plan = planned _ p marked.1 }

-- the record is settled, and nothing is sent
pub record Settled (s : State) (i : Imsi) (p : Plan Verdict State) : Type 0 where
  pub context : Context
  pub stands : record_at s i ≡ Some context
  pub owed : owes context.errand ≡ true
  pub after : with_context s (settled context) ≡ p.after
  pub sends : [] ≡ p.sends

settle_errand : (s : State) (i : Imsi) (r : Context) (e : Errand) (worn : Bool) (p : Plan Verdict State) → record_at s i ≡ Some r → r.errand ≡ e
    → verdict_plan s (settle_move worn e r) ≡ Ok p → Settled s i p
settle_errand s i r errand.Idle worn p stands is h = let no : ⊥ = cc in absurd no
settle_errand s i r (errand.Open o) false p stands is h = let no : ⊥ = cc in absurd no
settle_errand s i r (errand.Open o) true p stands is h =
    let same = planned _ p h in
    record { context = r; stands = stands; owed = ap owes is; after = ap (λ x. with_context s (settled_errand x r)) is ∙ ap (λ x. x.after) same; sends = ap (λ x. x.sends) same }
settle_errand s i r (errand.Ended v) worn p stands is h =
    let same = planned _ p h in
    record { context = r; stands = stands; owed = ap owes is; after = ap (λ x. with_context s (settled_errand x r)) is ∙ ap (λ x. x.after) same; sends = ap (λ x. x.sends) same }

pub settle_granted : (s : State) (i : Imsi) (p : Plan Verdict State) → settle_plan s i ≡ Ok p → Settled s i p
settle_granted s i p e =
    let held = found (record_at s i) denial.NoSuchReply _ p e in
    settle_errand s i held.0 held.0.errand (is_worn s.last) p held.1 refl held.2
