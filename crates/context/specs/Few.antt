-- A tick of a record sends one frame at most.
use Rattle.std.specs.Prelude.{◌≡◌, ◌≤◌, Bool, true, false, if◌then◌else◌, List, [], length, nat_le, ◌==◌, refl}
use Rattle.std.proofs.lemmas.Bool.{leb-true}
use Rattle.station.specs.declared.sending.Outgoing.{Outgoing}
use Rattle.context.specs.declared.context.Context.{Context}
use Rattle.context.specs.declared.errand.Errand.{Errand}
use Rattle.context.specs.declared.errand.Errand.TheVariants as errand
use Rattle.context.specs.declared.errand.Open.{Open}
use Rattle.context.specs.declared.errand.Awaited.{Awaited}
use Rattle.context.specs.declared.errand.Awaited.TheVariants.{Update, GprsDetach, ImsiDetach}
use Rattle.context.specs.Ticking.{detach_again, errand_sends, context_sends}

-- one frame at most
abbrev few : List Outgoing → Bool
few os = nat_le (length os) 1

either_few : (b : Bool) (xs ys : List Outgoing) → few xs ≡ true → few ys ≡ true → few (if b then xs else ys) ≡ true
either_few true xs ys h k = h
either_few false xs ys h k = k

again_few : (o : Open) (a : Awaited) (r : Context) → few (detach_again o a r) ≡ true
again_few o (GprsDetach t n) r = either_few (n == 0) _ _ refl refl
again_few o (Update a) r = refl
again_few o (ImsiDetach s) r = refl

errand_few : (e : Errand) (r : Context) → few (errand_sends e r) ≡ true
errand_few (errand.Open o) r = either_few (nat_le o.ticks 1) (detach_again o o.awaited r) [] (again_few o o.awaited r) refl
errand_few errand.Idle r = refl
errand_few (errand.Ended v) r = refl

pub context_few : (r : Context) → length (context_sends r) ≤ 1
context_few r = leb-true _ 1 (errand_few r.errand r)
