use Rattle.std.proofs.Common.{get_or, set, ap, ◌∙◌}
use Rattle.station.specs.Rows.{reset_taken}
use Rattle.sgsn.specs.Peers.{with_row}
use Rattle.sgsn.proofs.Loops.{nobody}
use Rattle.sgsn.proofs.Places.{set_changed}
use Rattle.sgsn.proofs.peers.take_reset_at.Goals as goal

pub returns : goal.returns
returns c =
    let ps = c.args.peers.now in
    let i = c.args.i in
    ap (λ r. set ps i (with_row (get_or ps i nobody) r)) c.take_reset.ensures ∙ set_changed (λ p. with_row p (reset_taken p.row c.args.stamp)) ps i nobody
