use Rattle.std.proofs.Common.{◌≡◌, suc, ◌≤◌, true, sym, refl, subst, ◌∙◌, arith}
use Rattle.sgsn.specs.Awaiting.{is_awaited}
use Rattle.sgsn.specs.State.{state_of, vlrs_of}
use Rattle.sgsn.proofs.Awaits.{left, left_few, left_less, ticked_more, tick_made}
use Rattle.sgsn.proofs.sgsn.Sgsn.wait.Goals as goal

pub loop-self-init : goal.loop-self-init
loop-self-init g c =
    let s = state_of c.args.self.now in
    (0, (refl, refl), omega (arith, left_few (vlrs_of s) s c.args.self.now.fit c.args.reply.now))

pub loop-self-smaller : goal.loop-self-smaller
loop-self-smaller g c =
    let s = state_of c.loop-self.self in
    let p = c.args.reply.now in
    let on : is_awaited s p ≡ true = sym c.is_awaited.ensures ∙ c.loop-self-test.true in
    let made = tick_made g.C.Carrier.puts p s (state_of c.tick.new.self) c.tick.result c.loop-self.carrier c.tick.new.carrier on c.tick.ensures in
    subst (λ t. suc (left t p) ≤ left s p) (sym made.0) (left_less (vlrs_of s) s c.loop-self.self.fit p on)

pub loop-self-preserved : goal.loop-self-preserved
loop-self-preserved g c =
    let first = state_of c.args.self.now in
    let s = state_of c.loop-self.self in
    let t = state_of c.tick.new.self in
    let p = c.args.reply.now in
    let on : is_awaited s p ≡ true = sym c.is_awaited.ensures ∙ c.loop-self-test.true in
    let made = tick_made g.C.Carrier.puts p s t c.tick.result c.loop-self.carrier c.tick.new.carrier on c.tick.ensures in
    let less : suc (left t p) ≤ left s p = subst (λ t. suc (left t p) ≤ left s p) (sym made.0) (left_less (vlrs_of s) s c.loop-self.self.fit p on) in
    let n = c.loop-self.invariant.0 in
    let chain = ticked_more g.C.Carrier.puts p n first s t c.args.carrier.now c.loop-self.carrier c.tick.new.carrier c.loop-self.invariant.1 on made.0 made.1 in
    (suc n, chain, omega (arith, less, c.loop-self.invariant.2))
