-- The record that a message changes is held, so that it has its place; and it names no other SGSN.
use Rattle.std.proofs.Common.{◌≡◌, true, ◌&&◌, nat_lt, is_some, Some, None, Option, sym, refl, ap, ◌∙◌}
use Rattle.std.specs.List.{list_all}
use Rattle.std.proofs.lemmas.Bool.{and_parts}
use Rattle.std.proofs.lemmas.Option.{none-some, same_Some}
use Rattle.imsi.specs.declared.Imsi.{Imsi}
use Rattle.messages.specs.declared.message.Message.{Message}
use Rattle.messages.specs.Lawful.{lawful_message}
use Rattle.frames.specs.declared.frame.Frame.{Frame}
use Rattle.frames.specs.Format.{lawful_frame, lawful_nodes, lawful_stamp}
use Rattle.directory.proofs.Lookups.{at-whose}
use Rattle.directory.proofs.Everyone.{all_at}
use Rattle.messages.specs.Mobiles.{mobile_of}
use Rattle.vlr.specs.declared.record.Record.{Record}
use Rattle.vlr.specs.Records.{names_its}
use Rattle.vlr.specs.Moves.{message_move}
use Rattle.vlr.specs.State.{State, whose, record_at}
use Rattle.vlr.specs.Delivering.{found, noted}
use Rattle.vlr.proofs.ByMobile.{moved-whose}
use Rattle.vlr.proofs.Moved.{moved, move_is}
use Rattle.vlr.proofs.Names.{moved_names}

found_names : (s : State) (o : Option Imsi) (r : Record) → list_all (names_its s.sgsn) s.records ≡ true → found s o ≡ Some r → names_its s.sgsn r ≡ true
found_names s None r all e = absurd (none-some r e)
found_names s (Some i) r all e = all_at whose (names_its s.sgsn) s.records i r all e

found_held : (s : State) (o : Option Imsi) (r : Record) → found s o ≡ Some r → is_some (record_at s (whose r)) ≡ true
found_held s None r e = absurd (none-some r e)
found_held s (Some i) r e = ap (λ j. is_some (record_at s j)) (at-whose whose s.records i r e) ∙ ap is_some e

module _ (s : State) (m : Message) (r : Record) where
  -- the record before
  abbrev Before : Type 0
  Before = (b : Record) × (noted s m ≡ Some b) × (moved s.sgsn m b ≡ r)

  before_in : (o : Option Record) → noted s m ≡ o → (message_move s.sgsn m o).0 ≡ Some r → Before
  before_in None e k = absurd (none-some r (sym (ap (λ x. x.0) (move_is s.sgsn m None)) ∙ k))
  before_in (Some b) e k = (b, e, same_Some _ _ (sym (ap (λ x. x.0) (move_is s.sgsn m (Some b))) ∙ k))

  before : (message_move s.sgsn m (noted s m)).0 ≡ Some r → Before
  before k = before_in (noted s m) refl k

  pub moved_held : (message_move s.sgsn m (noted s m)).0 ≡ Some r → is_some (record_at s (whose r)) ≡ true
  moved_held k =
      let b = before k in
      ap (λ x. is_some (record_at s x)) (sym (ap whose b.2) ∙ moved-whose s.sgsn m b.0) ∙ found_held s (mobile_of m) b.0 b.1

  pub moved_its : list_all (names_its s.sgsn) s.records ≡ true → (message_move s.sgsn m (noted s m)).0 ≡ Some r → names_its s.sgsn r ≡ true
  moved_its all k =
      let b = before k in
      ap (names_its s.sgsn) (sym b.2) ∙ moved_names s.sgsn m b.0 (found_names s (mobile_of m) b.0 all b.1)

-- a lawful frame has a lawful message
pub message_lawful : (f : Frame) → lawful_frame f ≡ true → lawful_message f.message ≡ true
message_lawful f e =
    let small = nat_lt f.answers 4294967296 in
    let stamped = and_parts (lawful_nodes f.source f.destination) (lawful_stamp f.stamp && (small && lawful_message f.message)) e in
    let answers = and_parts (lawful_stamp f.stamp) (small && lawful_message f.message) stamped.1 in
    (and_parts small (lawful_message f.message) answers.1).1
