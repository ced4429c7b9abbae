use Rattle.std.proofs.Common.{sym, ap, ◌∙◌}
use Rattle.std.specs.List.{list_all}
use Rattle.station.specs.Sends.{may_go, outgoing_in}
use Rattle.context.specs.Contexts.{whose}
use Rattle.sgsn.specs.Fitting.{fits_in}
use Rattle.sgsn.specs.State.{state_of, vlrs_of}
use Rattle.sgsn.proofs.Fits.{fits_at, fits_paged, reach_peers, may_page}
use Rattle.sgsn.proofs.Keeps.{held_as, paged_whose}
use Rattle.sgsn.proofs.sgsn.Sgsn.take_page.Goals as goal

pub keep_and_send-requires-clause-held : goal.keep_and_send-requires-clause-held
keep_and_send-requires-clause-held g c =
    let r = c.in-Some.before in
    held_as (state_of c.args.self.now) c.args.imsi r c.paged-outgoing.result.0 (sym c.record_of.ensures ∙ c.in-Some.is) (ap (λ m. whose m.0) c.paged-outgoing.ensures ∙ paged_whose c.args.peer.vlr _ r)

pub keep_and_send-requires-clause-fits : goal.keep_and_send-requires-clause-fits
keep_and_send-requires-clause-fits g c =
    let s = state_of c.args.self.now in
    let vs = vlrs_of s in
    let r = c.in-Some.before in
    let fit = fits_at vs s.records c.args.imsi r c.args.self.now.fit (sym c.record_of.ensures ∙ c.in-Some.is) in
    ap (λ m. fits_in vs m.0) c.paged-outgoing.ensures ∙ fits_paged vs c.args.peer.vlr _ r fit c.requires.its

pub keep_and_send-requires-clause-may : goal.keep_and_send-requires-clause-may
keep_and_send-requires-clause-may g c =
    let s = state_of c.args.self.now in
    let vs = vlrs_of s in
    let r = c.in-Some.before in
    let fit = fits_at vs s.records c.args.imsi r c.args.self.now.fit (sym c.record_of.ensures ∙ c.in-Some.is) in
    let reach = reach_peers s.own s.peers c.args.self.now.nodes in
    ap (λ m. list_all (may_go s.own) (outgoing_in m.1)) c.paged-outgoing.ensures ∙ may_page s.own vs c.args.peer.vlr _ r reach fit c.requires.its
