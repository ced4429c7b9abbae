-- The worked examples as rows of one list.
use Rattle.std.specs.Prelude.{◌≡◌, true, false, ℕ, List, [], ◌∷◌, map, Some, None, Ok, Err, Option}
use Rattle.std.specs.Result.{is_ok}
use Rattle.std.specs.Option.{option_map}
use Rattle.imsi.specs.Spelling.{imsi_in}
use Rattle.imsi.specs.Spelling as imsi
use Rattle.elements.specs.declared.code.GprsDetachType.TheVariants.{ByMobile}
use Rattle.elements.specs.declared.fault.Fault.{Fault}
use Rattle.elements.specs.Faults.{fault_number}
use Rattle.messages.specs.declared.message.Message.{Message}
use Rattle.messages.specs.declared.message.Message.TheVariants.{Reset, GprsDetachIndication}
use Rattle.messages.specs.Reading.{message_at}
use Rattle.messages.specs.Spelling.{Spells}
use Rattle.frames.specs.Format.{frame_octets}
use Rattle.gate.specs.declared.pairs.Pair.{Pair}
use Rattle.gate.specs.Passing.{Passed}
use Rattle.station.specs.declared.mark.Mark.TheVariants as mark
use Rattle.context.specs.declared.errand.Awaited.TheVariants.{GprsDetach}
use Rattle.context.specs.declared.errand.Errand.TheVariants as errand
use Rattle.context.specs.declared.errand.Open.{Open}
use Rattle.context.specs.declared.errand.Verdict.TheVariants as verdict
use Rattle.sgsn.specs.Detaching.{detach_plan}
use Rattle.sgsn.specs.Requesting.{request_plan}
use Rattle.examples.specs.Episodes.{vlr_11, mobile, begun, attach, served, accepted_after, unanswered_for, frame_ticks, Held, Holds}

pub data Row : Type 0 where
  -- a digit count and a value, and the octets of that IMSI
  an_imsi : ℕ → ℕ → List ℕ → Row
  -- a message and its octets
  a_message : Message → List ℕ → Row
  -- octets that are no message, the fault's number and its place
  a_fault : List ℕ → ℕ → ℕ → Row
  -- the stamps of frames of one pair that come to a new gate one after another, and what each take answers
  a_gate : List ℕ → List (Option ℕ) → Row
  -- each time from the request on: after how many ticks the VLR's accept is taken, and what is held of the mobile then
  an_accept : List (ℕ × Held) → Row
  -- the kind of a detach that no VLR answers, the ticks it is watched for, the ticks at which its frames go out, and
  -- what is held of the mobile after how many
  a_detach : ℕ → ℕ → List ℕ → List (ℕ × Held) → Row

-- a frame from node 1 to node 11 with this stamp: a RESET
abbrev pub stamped : ℕ → List ℕ
stamped k = frame_octets (record {
  source = record { number = 1 };
  destination = record { number = 11 };
  stamp = k;
  answers = 0;
  message = Reset (record { number = 1 });
})

-- octets that come to a gate with these rows one after another, and what each take answers
abbrev pub Offered : List Pair → List (List ℕ) → List (Option (List ℕ)) → Type 0
Offered ps [] [] = Unit {0}
Offered ps [] (r ∷ rs) = ⊥
Offered ps (o ∷ os) [] = ⊥
Offered ps (o ∷ os) (r ∷ rs) = (qs : List Pair) × Passed ps (Some o) r qs × Offered qs os rs

-- what a row says
abbrev pub Stands : Row → Type 0
Stands (an_imsi k v os) = imsi.Spells k v os × (imsi_in os ≡ Some (k, v))
Stands (a_message m os) = Spells m os × (message_at os 0 ≡ Ok m)
Stands (a_fault os n p) = (d : Fault) × (message_at os 0 ≡ Err d) × (fault_number d.kind ≡ n) × (d.place ≡ p)
Stands (a_gate ks rs) = Offered [] (map stamped ks) (map (option_map stamped) rs)
Stands (an_accept hs) = (is_ok (request_plan begun mobile attach) ≡ true) × Holds accepted_after hs
Stands (a_detach k n ts hs) =
    (is_ok (detach_plan served mobile k) ≡ true) × (frame_ticks k n ≡ ts) × Holds (unanswered_for k) hs

abbrev pub Stand : List Row → Type 0
Stand [] = Unit {0}
Stand (r ∷ rs) = Stands r × Stand rs

-- the detach of kind 1 without a verdict yet: its last frame has one tick left, and no other follows
abbrev pub told_last : Open
told_last = record { vlr = vlr_11; stamp = 5; ticks = 1; awaited = GprsDetach ByMobile 0 }

-- an accept that is taken just in time, and one that is too late
abbrev pub accepts : List (ℕ × Held)
accepts =
    (9, (true, mark.Confirmed vlr_11, errand.Ended verdict.Done))
    ∷ (10, (true, mark.Unsure vlr_11, errand.Ended verdict.NotResponding))
    ∷ []

-- before the verdict of that detach, and with it
abbrev pub unanswered : List (ℕ × Held)
unanswered =
    (31, (true, mark.Unsure vlr_11, errand.Open told_last))
    ∷ (32, (false, mark.Unsure vlr_11, errand.Ended verdict.NotResponding))
    ∷ []

-- a mobile ended its packet service
abbrev pub told : Message
told = GprsDetachIndication (record { digits = 6; value = 262019 }) ByMobile

abbrev pub rows : List Row
rows =
    an_imsi 15 262019876543210 (0x29 ∷ 0x26 ∷ 0x10 ∷ 0x89 ∷ 0x67 ∷ 0x45 ∷ 0x23 ∷ 0x01 ∷ [])
    ∷ a_message (Reset (record { number = 11 })) (0x09 ∷ 0x0B ∷ 0x01 ∷ 0x0B ∷ [])
    ∷ a_message told (0x0E ∷ 0x01 ∷ 0x04 ∷ 0x21 ∷ 0x26 ∷ 0x10 ∷ 0xF9 ∷ 0x09 ∷ 0x01 ∷ 0x02 ∷ [])
    ∷ a_fault (0x10 ∷ []) 23 0
    ∷ a_fault (0x0E ∷ 0x01 ∷ 0x04 ∷ 0x21 ∷ 0x26 ∷ 0x10 ∷ 0xE9 ∷ 0x09 ∷ 0x01 ∷ 0x02 ∷ []) 26 3
    ∷ an_accept accepts
    ∷ a_detach 1 32 (0 ∷ 8 ∷ 16 ∷ 24 ∷ []) unanswered
    ∷ a_gate (5 ∷ 4 ∷ 5 ∷ 6 ∷ []) (Some 5 ∷ None ∷ None ∷ Some 6 ∷ [])
    ∷ []
