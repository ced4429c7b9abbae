use Rattle.std.proofs.Common.{◌≡◌, true, false, cond, Some, Ok, Err, Result, sym, ap, ◌∙◌, subst, rules}
use Rattle.station.specs.declared.denial.Denial.TheVariants as denial
use Rattle.station.specs.declared.receiving.Delivery.{Delivery}
use Rattle.station.specs.declared.receiving.Delivery.TheVariants as order
use Rattle.station.specs.declared.receiving.Refusal.{Refusal}
use Rattle.station.specs.declared.receiving.Refusal.TheVariants.{Denied}
use Rattle.station.specs.Calls.{AtOnce, Taking, Does, Done, by_taken}
use Rattle.station.specs.Receiving.{is_from, Received}
use Rattle.station.specs.Sends.{is_worn}
use Rattle.vlr.specs.Delivering.{taken_by, frame_plan}
use Rattle.vlr.specs.Laws.{by_message, TakenByMobile}
use Rattle.vlr.specs.State.{state_of, own_of, last_of, record_at}
use Rattle.vlr.proofs.ByMobile.{taken-at}
use Rattle.vlr.proofs.Delivers.{message_lawful}
use Rattle.vlr.proofs.Moved.{plan_from, taken_answer}
use Rattle.vlr.proofs.vlr.Vlr.deliver.Goals as goal

pub take-requires-clause-lawful : goal.take-requires-clause-lawful
take-requires-clause-lawful g c =
    let frame = c.in_ok-frame.frame in
    message_lawful frame (c.take_frame.ensures.lawful frame (c.in-Some.is ∙ ap Some c.in_ok-frame.was))

pub returns-then-is_from : goal.returns-then-is_from
returns-then-is_from g c =
    let takes = g.C.Carrier.takes in
    let puts = g.C.Carrier.puts in
    let s = state_of c.args.self.now in
    let t = state_of c.take.new.self in
    let f = c.in_ok-frame.frame in
    let before = c.args.carrier.now in
    let after = c.take.new.carrier in
    let between = c.take_frame.new.carrier in
    let fresh : is_worn s.last ≡ false = search rules in
    let from : is_from s.sgsn.node f ≡ true = search rules in
    let received = subst (λ r. Received takes s.own r before between) (c.in-Some.is ∙ ap Some c.in_ok-frame.was) c.take_frame.ensures.received in
    let result : Result Delivery Refusal = Ok order.Done in
    let answer : result ≡ Ok (taken_by s f f.message).answer = (λ j. Ok (sym (taken_answer s f f.message) j)) in
    let done = subst (λ p. Done own_of last_of puts (Ok p) result s between t after) (sym (plan_from s f from))
    (answer, c.take.ensures.state, c.take.ensures.sent) in
    record {
      delivers = subst
          (λ b. Does own_of last_of takes puts (cond b (AtOnce (Err (Denied denial.Worn))) (Taking (by_taken frame_plan s))) result s before t after)
          (sym fresh)
          (record { got = Some (Ok f); between = between; received = received; done = done });
      by_mobile = subst (λ b. TakenByMobile b takes s before t) (sym fresh) (record {
        got = Some (Ok f);
        between = between;
        received = received;
        records = λ m.
            ap (λ x. record_at x m) c.take.ensures.state
            ∙ taken-at s f f.message m
            ∙ ap (λ b. cond b (by_message s.sgsn f.message m (record_at s m)) (record_at s m)) (sym from);
      });
    }
