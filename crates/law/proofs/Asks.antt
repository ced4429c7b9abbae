-- A request or a detach of a mobile.
use Rattle.std.proofs.Common.{◌≡◌, ℕ, ◌+◌, ◌≤◌, Bool, true, false, cond, List, [], Some, None, Option, refl, sym, arith}
use Rattle.std.proofs.lemmas.Bool.Decides.{nat_tests}
use Rattle.std.proofs.lemmas.Option.{none-some, same_Some}
use Rattle.imsi.specs.declared.Imsi.{Imsi}
use Rattle.elements.specs.declared.code.Class.{Class}
use Rattle.elements.specs.declared.node.VlrNumber.{VlrNumber}
use Rattle.elements.specs.Nodes.{same_node}
use Rattle.directory.specs.Order.{same}
use Rattle.carrier.specs.Order.{Stamps}
use Rattle.station.specs.declared.sending.Outgoing.{Outgoing}
use Rattle.station.specs.Calls.{Plan}
use Rattle.context.specs.declared.context.Context.{Context}
use Rattle.context.specs.declared.errand.Awaited.{Awaited}
use Rattle.context.specs.declared.errand.Awaited.TheVariants.{Update}
use Rattle.context.specs.declared.errand.Open.{Open}
use Rattle.context.specs.declared.errand.Verdict.TheVariants as verdict
use Rattle.context.specs.declared.kind.Request.{Request}
use Rattle.context.specs.declared.kind.RequestKind.{RequestKind}
use Rattle.context.specs.declared.kind.DetachKind.{DetachKind}
use Rattle.context.specs.Answering.{let_go}
use Rattle.context.specs.Requesting as context
use Rattle.context.specs.Detaching.{awaited_by, detach_message, detached_from, waiting_for}
use Rattle.sgsn.specs.State as sgsn
use Rattle.vlr.specs.State as vlr
use Rattle.law.specs.Sound.{harms, is_acknowledgement, reset_to, update_stamp}
use Rattle.law.proofs.Quieter.{none_unsure, unsure_unsure, quieter_go}
use Rattle.law.proofs.OneRecord.{none_sent, Moves, quiet, told}

-- what is open asks by its stamp alone
asks_so : (b : Bool) (o : Open) (a : Awaited) (n : ℕ) → cond b (update_stamp o a) None ≡ Some n → n ≡ o.stamp
asks_so true o (Update l) n e = sym (same_Some o.stamp n e)
asks_so b o a n e = grind (arith, nat_tests)

-- what tells of a detach acknowledges nothing, and harms no other mobile
unacknowledging : (k : DetachKind) (i : Imsi) → is_acknowledgement (detach_message k i) ≡ false
unacknowledging k i = grind (arith, nat_tests)

harmless : (k : DetachKind) (i m : Imsi) → same m i ≡ false → harms m (detach_message k i) ≡ false
harmless k i m d = grind (arith, nat_tests)

module _ (s : sgsn.State) (v : vlr.State) (ws : List (List ℕ)) (ls : Stamps) (B : (x : ℕ) → reset_to s v.own ≡ Some x → x ≤ s.last) where
  -- the SGSN moves as this plans
  abbrev Goes : Plan Unit sgsn.State → Type 0
  Goes p = Moves s v ws ls B p.after p.sends

  pub requests : (i : Imsi) (r : Context) (q : Request) (k : RequestKind) (b : Bool) (c : Class) → sgsn.record_at s i ≡ Some r
      → let m : Context × Option Outgoing = cond b (context.done_at_once q r, None) (context.asked k q (s.last + 1) r, Some (context.update k c q r)) in
      Goes (sgsn.moved s m)
  requests i r q k true c e =
      quiet s v ws ls B (s.last + 0) i r (context.done_at_once q r) [] refl e (record { mobile = refl; sure = λ n h. h; asking = λ a n h. absurd (none-some n h) }) none_sent
  requests i r q k false c e =
      told s v ws ls B (context.asked k q (s.last + 1) r) (context.update k c q r) refl
      (λ m d. d) (λ h. unsure_unsure q.vlr _ h) (λ n a. asks_so (same_node q.vlr.node v.own) (record { vlr = q.vlr; stamp = s.last + 1; ticks = 10; awaited = Update q.new_area }) (Update q.new_area) n a)

  pub detaches : (i : Imsi) (r : Context) → sgsn.record_at s i ≡ Some r → (k : DetachKind) (o : Option VlrNumber) → Goes (sgsn.moved s (detached_from o k (s.last + 1) r))
  detaches i r e k None = quiet s v ws ls B (s.last + 0) i r _ [] refl e (quieter_go false verdict.Done r) none_sent
  detaches i r e k (Some w) = tells (awaited_by k)
    where
      tells : (a : Option Awaited) → Goes (sgsn.moved s (waiting_for w a (s.last + 1) r, Some (record { to = w.node; answers = 0; message = detach_message k r.imsi })))
      tells None = told s v ws ls B (let_go false verdict.Done r) _ (unacknowledging k r.imsi) (harmless k r.imsi) (λ h. none_unsure _ h) (λ n h. absurd (none-some n h))
      tells (Some a) =
          told s v ws ls B (waiting_for w (Some a) (s.last + 1) r) _ (unacknowledging k r.imsi) (harmless k r.imsi) (λ h. unsure_unsure w _ h)
          (λ n h. asks_so (same_node w.node v.own) (record { vlr = w; stamp = s.last + 1; ticks = 8; awaited = a }) a n h)
