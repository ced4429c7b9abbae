use Rattle.std.proofs.Common.{◌≡◌, length, get_or, set, Some, None, ap, ◌∙◌, rules}
use Rattle.std.specs.List.{refill}
use Rattle.carrier.proofs.Elements.{written}
use Rattle.mailbox.specs.Model.{slots_of}
use Rattle.mailbox.specs.Slots.{waits_for, place, distinct}
use Rattle.mailbox.proofs.Steps.{takes_first, takes_none, keeps_apart}
use Rattle.mailbox.proofs.carrying.MailboxCarrier.take.Goals as goal

pub returns-in_err-i : goal.returns-in_err-i
returns-in_err-i c =
    let none : place (waits_for c.args.node) (slots_of c.args.self.now) ≡ None = search rules in
    let r = takes_none c.args.node _ none in
    search (rules, r)

pub invariant_of-self : goal.invariant_of-self
invariant_of-self c =
    let es = slots_of c.args.self.now in
    let i = c.in_ok-i.i in
    let at : place (waits_for c.args.node) es ≡ Some i = search rules in
    let is = c.index-deref-i.is ∙ ap (λ zs. get_or zs i c.index-deref-i.result) c.deref.ensures.0 in
    let all = ap (λ zs. refill (length es) es (set zs i c.emptied.result)) c.deref_mut.ensures.value ∙ written es i _ ∙ ap (set es i) c.emptied.ensures in
    record { pairs = ap distinct all ∙ keeps_apart c.args.node es i c.index-deref-i.result at is c.args.self.now.pairs }

pub returns : goal.returns
returns c =
    let es = slots_of c.args.self.now in
    let i = c.in_ok-i.i in
    let at : place (waits_for c.args.node) es ≡ Some i = search rules in
    let is = c.index-deref-i.is ∙ ap (λ zs. get_or zs i c.index-deref-i.result) c.deref.ensures.0 in
    let r = takes_first c.args.node es i c.index-deref-i.result at is in
    let all = ap (λ zs. refill (length es) es (set zs i c.emptied.result)) c.deref_mut.ensures.value ∙ written es i _ ∙ ap (set es i) c.emptied.ensures in
    (r.0, all ∙ r.1)
