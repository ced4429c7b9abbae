-- One tick of a mobile's open request or detach.
use Rattle.std.specs.Prelude.{ℕ, ◌-◌, ◌+◌, ◌*◌, Bool, false, if◌then◌else◌, List, [], ◌∷◌, ◌==◌, nat_le}
use Rattle.elements.specs.declared.code.GprsDetachType.{GprsDetachType}
use Rattle.messages.specs.declared.message.Message.TheVariants.{GprsDetachIndication}
use Rattle.station.specs.declared.sending.Outgoing.{Outgoing}
use Rattle.context.specs.declared.context.Context.{Context}
use Rattle.context.specs.declared.errand.Errand.{Errand}
use Rattle.context.specs.declared.errand.Errand.TheVariants as errand
use Rattle.context.specs.declared.errand.Verdict.TheVariants as verdict
use Rattle.context.specs.declared.errand.Open.{Open}
use Rattle.context.specs.declared.errand.Awaited.{Awaited}
use Rattle.context.specs.declared.errand.Awaited.TheVariants.{GprsDetach}

-- with nothing changed but its errand
abbrev pub with_errand : Errand → Context → Context
with_errand e r = record r { errand = e }

-- whether packet service stays when no answer came
abbrev pub stays_unanswered : Awaited → Bool → Bool
stays_unanswered (GprsDetach t n) b = false
stays_unanswered w b = b

-- no answer came in time, and nothing is repeated any more: the VLR stays unsure
abbrev pub expired : Open → Context → Context
expired o r = record r {
  attached = stays_unanswered o.awaited r.attached;
  errand = errand.Ended verdict.NotResponding;
}

-- how often it can still be told again
abbrev pub repeats_of : Awaited → ℕ
repeats_of (GprsDetach t n) = n
repeats_of w = 0

-- how many ticks it takes until it ends, if no answer comes
abbrev pub ticks_left : Open → ℕ
ticks_left o = o.ticks + 8 * repeats_of o.awaited

-- told again with this stamp: an answer has 8 ticks once more
abbrev pub told_again : Open → GprsDetachType → ℕ → ℕ → Open
told_again o t n stamp = record o { stamp = stamp; ticks = 8; awaited = GprsDetach t (n - 1) }

-- the timer ended: the detach is told again while it can be, else all is over
abbrev pub run_out : Open → Awaited → ℕ → Context → Context
run_out o (GprsDetach t n) stamp r =
    if n == 0 then expired o r
    else with_errand (errand.Open (told_again o t n stamp)) r
run_out o w stamp r = expired o r

-- the VLR has a tick less
abbrev pub one_less : Open → Open
one_less o = record o { ticks = o.ticks - 1 }

-- only what is open has a timer
abbrev pub ticked_errand : Errand → ℕ → Context → Context
ticked_errand (errand.Open o) last r =
    if nat_le o.ticks 1 then run_out o o.awaited (last + 1) r
    else with_errand (errand.Open (one_less o)) r
ticked_errand e last r = r

-- the record after a tick, where the last stamp before it was this one
abbrev pub context_ticked : ℕ → Context → Context
context_ticked last r = ticked_errand r.errand last r

-- the same detach once more, where it can be told again
abbrev pub detach_again : Open → Awaited → Context → List Outgoing
detach_again o (GprsDetach t n) r =
    if n == 0 then []
    else record { to = o.vlr.node; answers = 0; message = GprsDetachIndication r.imsi t } ∷ []
detach_again o w r = []

-- only at the end of a timer is anything sent
abbrev pub errand_sends : Errand → Context → List Outgoing
errand_sends (errand.Open o) r = if nat_le o.ticks 1 then detach_again o o.awaited r else []
errand_sends e r = []

-- what a tick of it sends
abbrev pub context_sends : Context → List Outgoing
context_sends r = errand_sends r.errand r
