use Rattle.std.proofs.Common.{◌≡◌, ◌+◌, true, ◌||◌, length, sym, ap, ◌∙◌, rules, arith, eq-eqb}
use Rattle.std.proofs.lemmas.Bool.Decides.{nat_tests}
use Rattle.std.specs.List.{list_all}
use Rattle.station.specs.Sends.{may_go, outgoing_in}
use Rattle.context.specs.Codes.{attaches}
use Rattle.context.specs.Contexts.{whose}
use Rattle.sgsn.specs.Fitting.{is_one_of, fits_in}
use Rattle.sgsn.specs.State.{state_of, vlrs_of}
use Rattle.sgsn.proofs.Fits.{fits_at, fits_requested, reach_peers, may_request}
use Rattle.sgsn.proofs.Keeps.{held_as}
use Rattle.sgsn.proofs.Moves.{requested_whose}
use Rattle.sgsn.proofs.sgsn.Sgsn.open_request.Goals as goal
use Rattle.sgsn.proofs.sgsn.Sgsn.open_request.Goals.{else-not-attaches-via-then-not-attaches+else-not-context, else-not-attaches-via-else-not-attaches}

pub keep_and_send-requires-clause-held : goal.keep_and_send-requires-clause-held
keep_and_send-requires-clause-held g c =
    let r = c.in-Some-record_of.context in
    held_as (state_of c.args.self.now) c.args.imsi r c.requested-outgoing.result.0 (sym c.record_of.ensures ∙ c.in-Some-record_of.is) (ap (λ m. whose m.0) c.requested-outgoing.ensures ∙ requested_whose c.in-Some.kind c.in-Some-voice.class c.args.request (c.args.self.now.sender.last + 1) r)

pub keep_and_send-requires-clause-fits : goal.keep_and_send-requires-clause-fits
keep_and_send-requires-clause-fits g c =
    let s = state_of c.args.self.now in
    let vs = vlrs_of s in
    let r = c.in-Some-record_of.context in
    let q = c.args.request in
    let k = c.in-Some.kind in
    let a = c.in-Some-voice.class in
    let fit = fits_at vs s.records c.args.imsi r c.args.self.now.fit (sym c.record_of.ensures ∙ c.in-Some-record_of.is) in
    let its : is_one_of vs q.vlr ≡ true = grind (arith, nat_tests, c.has_vlr.ensures, c.if-not-has_vlr.false) in
    let has : (attaches k || r.attached) ≡ true = elim c.else-not-attaches.branch as (λ w. (attaches k || r.attached) ≡ true) [ else-not-attaches-via-then-not-attaches+else-not-context w ↦ grind (arith, nat_tests, w.if-not-context.false) | else-not-attaches-via-else-not-attaches w ↦ grind (arith, nat_tests, w.if-not-attaches.false, c.attaches.ensures) ] in
    ap (λ m. fits_in vs m.0) c.requested-outgoing.ensures ∙ fits_requested vs k a q (s.last + 1) r fit (sym c.voice.ensures ∙ c.in-Some-voice.is) its has

pub keep_and_send-requires-clause-may : goal.keep_and_send-requires-clause-may
keep_and_send-requires-clause-may g c =
    let s = state_of c.args.self.now in
    let vs = vlrs_of s in
    let r = c.in-Some-record_of.context in
    let q = c.args.request in
    let fit = fits_at vs s.records c.args.imsi r c.args.self.now.fit (sym c.record_of.ensures ∙ c.in-Some-record_of.is) in
    let its : is_one_of vs q.vlr ≡ true = grind (arith, nat_tests, c.has_vlr.ensures, c.if-not-has_vlr.false) in
    let reach = reach_peers s.own s.peers c.args.self.now.nodes in
    let old : length q.old_area.octets ≡ 5 = search rules in
    let new : length q.new_area.octets ≡ 5 = search rules in
    ap (λ m. list_all (may_go s.own) (outgoing_in m.1)) c.requested-outgoing.ensures ∙ may_request s.own vs c.in-Some.kind c.in-Some-voice.class q (s.last + 1) r reach fit its (eq-eqb _ 5 old) (eq-eqb _ 5 new)
