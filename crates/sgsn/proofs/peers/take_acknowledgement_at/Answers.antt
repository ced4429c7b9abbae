use Rattle.std.proofs.Common.{get_or, set, ap, ◌∙◌}
use Rattle.station.specs.Rows.{acknowledged}
use Rattle.sgsn.specs.Peers.{with_row}
use Rattle.sgsn.proofs.Loops.{nobody}
use Rattle.sgsn.proofs.Places.{set_changed}
use Rattle.sgsn.proofs.peers.take_acknowledgement_at.Goals as goal

pub returns : goal.returns
returns c =
    let ps = c.args.peers.now in
    let i = c.args.i in
    ap (λ r. set ps i (with_row (get_or ps i nobody) r)) c.take_acknowledgement.ensures ∙ set_changed (λ p. with_row p (acknowledged p.row c.args.answers)) ps i nobody
