use Rattle.std.proofs.Common.{◌≡◌, ◌-◌, ◌≤◌, ◌++◌, false, not, map, take, drop, Ok, refl, sym, ap, ◌∙◌, subst, arith, rules}
use Rattle.std.proofs.lemmas.List.{length-append, length-drop, take_at}
use Rattle.std.proofs.lemmas.Bool.Decides.{nat_tests}
use Rattle.std.specs.List.{list_all}
use Rattle.station.specs.declared.denial.Denial.TheVariants as denial
use Rattle.station.specs.Calls.{plan, ask, Done}
use Rattle.station.specs.Sends.{is_worn}
use Rattle.context.specs.Contexts.{whose}
use Rattle.sgsn.specs.Fitting.{fits_in}
use Rattle.sgsn.specs.Recovering.{records_ticked, ticked, tick_sends, last_between}
use Rattle.sgsn.specs.State.{State, state_of, vlrs_of, own_of, last_of}
use Rattle.sgsn.proofs.Fits.{vlrs_ticked, fits_all_ticked, fits_doubted}
use Rattle.sgsn.proofs.Kept.{peers_long, records_long, mobiles_left, reached, all_ticked}
use Rattle.sgsn.proofs.Ticks.{Climbs_same}
use Rattle.sgsn.proofs.sgsn.Sgsn.tick.Goals as goal

pub invariant_of-self-2-clause-nodes : goal.invariant_of-self-2-clause-nodes
invariant_of-self-2-clause-nodes g c =
    let s = c.args.self.now in
    let fresh : s.sender.last ≤ 4294965000 = grind (arith, nat_tests) in
    let did = all_ticked g.C.Carrier.puts s c.args.carrier.now c.tick.new.sender c.tick.new.records c.tick.new.peers c.tick.new.carrier fresh c.tick.ensures.ticked in
    let left = take_at c.tick.new.peers (drop (s.count - 0) s.peers) s.count (peers_long s _ _ c.tick.new.peers did.peers) ∙ did.peers in
    reached s.sender.own c.tick.new.sender.own (take s.count s.peers) (take s.count (c.tick.new.peers ++ drop (s.count - 0) s.peers)) c.tick.ensures.own
    (ap (map (λ p. p.vlr)) left ∙ vlrs_ticked s.sender.own (last_between (state_of s)) (take s.count s.peers))
    s.nodes

pub invariant_of-self-2-clause-all : goal.invariant_of-self-2-clause-all
invariant_of-self-2-clause-all g c =
    let s = c.args.self.now in
    let fresh : s.sender.last ≤ 4294965000 = grind (arith, nat_tests) in
    let did = all_ticked g.C.Carrier.puts s c.args.carrier.now c.tick.new.sender c.tick.new.records c.tick.new.peers c.tick.new.carrier fresh c.tick.ensures.ticked in
    omega (arith, length-append c.tick.new.records (drop (s.held - 0) s.places), length-drop (s.held - 0) s.places, records_long s c.tick.new.records did.records, s.few, s.all)

pub invariant_of-self-2-clause-rising : goal.invariant_of-self-2-clause-rising
invariant_of-self-2-clause-rising g c =
    let s = c.args.self.now in
    let rs = take s.held s.places in
    let fresh : s.sender.last ≤ 4294965000 = grind (arith, nat_tests) in
    let did = all_ticked g.C.Carrier.puts s c.args.carrier.now c.tick.new.sender c.tick.new.records c.tick.new.peers c.tick.new.carrier fresh c.tick.ensures.ticked in
    let left = take_at c.tick.new.records (drop (s.held - 0) s.places) s.held (records_long s c.tick.new.records did.records) in
    Climbs_same whose rs (take s.held (c.tick.new.records ++ drop (s.held - 0) s.places)) (ap (map whose) left ∙ mobiles_left s c.tick.new.records did.records) s.rising

pub invariant_of-self-2-clause-fit : goal.invariant_of-self-2-clause-fit
invariant_of-self-2-clause-fit g c =
    let s = c.args.self.now in
    let ps = take s.count s.peers in
    let rs = take s.held s.places in
    let vs = vlrs_of (state_of s) in
    let fresh : s.sender.last ≤ 4294965000 = grind (arith, nat_tests) in
    let did = all_ticked g.C.Carrier.puts s c.args.carrier.now c.tick.new.sender c.tick.new.records c.tick.new.peers c.tick.new.carrier fresh c.tick.ensures.ticked in
    let peers = take_at c.tick.new.peers (drop (s.count - 0) s.peers) s.count (peers_long s _ _ c.tick.new.peers did.peers) ∙ did.peers in
    let records = take_at c.tick.new.records (drop (s.held - 0) s.places) s.held (records_long s c.tick.new.records did.records) ∙ did.records in
    let vlrs = ap (map (λ p. p.vlr)) peers ∙ vlrs_ticked s.sender.own (last_between (state_of s)) ps in
    (λ k. list_all (fits_in (vlrs k)) (records k))
    ∙ fits_doubted vs ps (records_ticked s.sender.last rs) (fits_all_ticked vs s.sender.last rs s.fit)

pub returns : goal.returns
returns g c =
    let s = c.args.self.now in
    let worn : is_worn s.sender.last ≡ false = search rules in
    let fresh : s.sender.last ≤ 4294965000 = grind (arith, nat_tests) in
    let did = all_ticked g.C.Carrier.puts s c.args.carrier.now c.tick.new.sender c.tick.new.records c.tick.new.peers c.tick.new.carrier fresh c.tick.ensures.ticked in
    let after : State = record {
      own = c.tick.new.sender.own;
      last = c.tick.new.sender.last;
      peers = take s.count (c.tick.new.peers ++ drop (s.count - 0) s.peers);
      records = take s.held (c.tick.new.records ++ drop (s.held - 0) s.places);
    } in
    let peers = take_at c.tick.new.peers (drop (s.count - 0) s.peers) s.count (peers_long s _ _ c.tick.new.peers did.peers) ∙ did.peers in
    let records = take_at c.tick.new.records (drop (s.held - 0) s.places) s.held (records_long s c.tick.new.records did.records) ∙ did.records in
    let is : after ≡ ticked (state_of s) = λ k. record { own = c.tick.ensures.own k; last = did.last k; peers = peers k; records = records k } in
    subst (λ b. Done own_of last_of g.C.Carrier.puts (ask (not b) denial.Worn (Ok (plan (ticked (state_of s)) (tick_sends (state_of s))))) (Ok tt) (state_of s) c.args.carrier.now after c.tick.new.carrier) (sym worn) (refl, is, did.sent)
