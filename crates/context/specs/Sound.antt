-- What holds of every record: a VLR is sure only of an attached mobile with voice service that has nothing open, and only
-- such a mobile waits for a VLR to become sure. What is open ends in time.
use Rattle.std.specs.Prelude.{Bool, true, not, ◌&&◌, nat_le}
use Rattle.elements.specs.declared.node.VlrNumber.{VlrNumber}
use Rattle.station.specs.declared.mark.Mark.{Mark}
use Rattle.station.specs.declared.mark.Mark.TheVariants as mark
use Rattle.context.specs.declared.context.Context.{Context}
use Rattle.context.specs.declared.errand.Errand.{Errand}
use Rattle.context.specs.declared.errand.Errand.TheVariants as errand
use Rattle.context.specs.declared.errand.Open.{Open}
use Rattle.context.specs.declared.errand.Awaited.{Awaited}
use Rattle.context.specs.declared.errand.Awaited.TheVariants.{Update}
use Rattle.context.specs.Errands.{is_open}
use Rattle.context.specs.Contexts.{has_voice}
use Rattle.context.specs.Ticking.{ticks_left}

-- may be sure
abbrev pub served : Context → Bool
served r = r.attached && has_voice r

-- no VLR is sure but of such a mobile
abbrev pub sound_mark : Mark VlrNumber → Context → Bool
sound_mark (mark.Confirmed n) r = served r && not (is_open r.errand)
sound_mark m r = true

-- what can make a VLR sure waits for such a mobile only
abbrev pub sound_awaited : Awaited → Context → Bool
sound_awaited (Update a) r = served r
sound_awaited w r = true

-- a tick is left, and 32 at most until it ends
abbrev pub timed : Open → Bool
timed o = nat_le 1 o.ticks && nat_le (ticks_left o) 32

-- what is open is so
abbrev pub sound_errand : Errand → Context → Bool
sound_errand (errand.Open o) r = sound_awaited o.awaited r && timed o
sound_errand e r = true

-- both hold of the record
abbrev pub sound : Context → Bool
sound r = sound_mark r.mark r && sound_errand r.errand r
