use Rattle.std.proofs.Common.{◌≡◌, false, take, Ok, refl, ap, rules}
use Rattle.station.specs.Sends.{is_worn}
use Rattle.sgsn.specs.Peers.{sent_it}
use Rattle.sgsn.specs.State.{state_of}
use Rattle.sgsn.proofs.Places.{none_found}
use Rattle.sgsn.proofs.Senders.{placed, sent_by, sender}
use Rattle.sgsn.proofs.Delivers.{read_as, by_frame}
use Rattle.sgsn.proofs.sgsn.Sgsn.deliver.Goals as goal

pub take-requires-clause-sender : goal.take-requires-clause-sender
take-requires-clause-sender g c =
    let s = c.args.self.now in
    let f = c.in_ok-frame.frame in
    let i = c.in-Some-place_of_sender.i in
    sent_by f s.count i s.peers _ (placed f s.count s.peers c.place_of_sender.result _ c.place_of_sender.ensures c.in-Some-place_of_sender.is)

pub returns-in_default-place_of_sender : goal.returns-in_default-place_of_sender
returns-in_default-place_of_sender g c =
    let s = c.args.self.now in
    let f = c.in_ok-frame.frame in
    let place = placed f s.count s.peers c.place_of_sender.result _ c.place_of_sender.ensures c.in_default-place_of_sender.is in
    let fresh : is_worn s.sender.last ≡ false = search rules in
    let received = read_as g.C.Carrier.takes s.sender.own c.take_frame.result c.in-Some.received f _ _ c.in-Some.is c.in_ok-frame.was c.take_frame.ensures.received in
    by_frame g.C.Carrier.takes g.C.Carrier.puts (state_of s) _ _ f _ _ _ _ fresh received (none_found (sent_it f) (take s.count s.peers) place) (refl, refl, (refl, refl))

pub returns : goal.returns
returns g c =
    let s = c.args.self.now in
    let f = c.in_ok-frame.frame in
    let i = c.in-Some-place_of_sender.i in
    let place = placed f s.count s.peers c.place_of_sender.result _ c.place_of_sender.ensures c.in-Some-place_of_sender.is in
    let fresh : is_worn s.sender.last ≡ false = search rules in
    let received = read_as g.C.Carrier.takes s.sender.own c.take_frame.result c.in-Some.received f _ _ c.in-Some.is c.in_ok-frame.was c.take_frame.ensures.received in
    let from = sender f i _ _ (sent_by f s.count i s.peers _ place) in
    let did = c.take.ensures in
    by_frame g.C.Carrier.takes g.C.Carrier.puts (state_of s) _ _ f _ _ _ _ fresh received from (ap Ok did.0, did.1, did.2)
