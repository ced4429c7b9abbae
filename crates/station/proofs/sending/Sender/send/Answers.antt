use Rattle.std.proofs.Common.{◌≡◌, ◌+◌, ◌<◌, replicate, sym, refl, ◌∙◌, arith, rules}
use Rattle.std.proofs.lemmas.Bool.{and_from}
use native.Mathlib.Nat.{sub-zero}
use Rattle.std.proofs.lemmas.Grind.{common_steps}
use Rattle.frames.specs.Writing.{frame_written, frame_left}
use Rattle.station.specs.Sends.{frame_of}
use Rattle.station.proofs.Fronts.{sendable, front}
use Rattle.station.proofs.sending.Sender.send.Goals as goal
use Rattle.station.proofs.sending.Sender.send.Goals.{in-Ok, in_default}

pub returns-clause-sent : goal.returns-clause-sent
returns-clause-sent g c room may =
    let own = c.args.self.now.own in
    let last = c.args.self.now.last in
    let f = frame_of own last c.args.outgoing in
    let fits : c.args.outgoing.answers < 4294967296 = search rules in
    let lawful = sendable own last c.args.outgoing room fits may in
    let next : c.saturating_add-self.result ≡ last + 1 = search rules in
    let left : c.write_frame.new.buffer ≡ frame_left f (replicate 64 0) = rw next at c.write_frame.ensures.octets in
    let written : c.write_frame.result ≡ frame_written f (replicate 64 0) = rw next at c.write_frame.ensures.value in
    elim c.match-write_frame.branch [
      | in-Ok w ↦
          let octets = front f (replicate 64 0) c.write_frame.new.buffer w.in-Ok.size lawful (omega arith) (sym w.in-Ok.is ∙ written) left in
          ((w.put.new.self, rw (sub-zero w.in-Ok.size, octets) at w.put.ensures.puts, sym w.carrier-is), and_from _ _ lawful refl)
      | in_default w ↦ grind (arith, common_steps, written, lawful)
    ]
