use Rattle.std.proofs.Common.{◌<◌, ◌≤◌, ◌++◌, [], ◌∷◌, length, get_or, set, Some, None, ap, ◌∙◌, rules}
use Rattle.std.specs.List.{refill}
use Rattle.carrier.proofs.Elements.{written}
use Rattle.mailbox.specs.Model.{slots_of}
use Rattle.mailbox.specs.Slots.{distinct}
use Rattle.mailbox.specs.Pairs.{noted_distinct}
use Rattle.mailbox.proofs.Steps.{place_of, renews, adds_slot, loses}
use Rattle.mailbox.proofs.mailbox.Mailbox.note.Goals as goal

pub returns-in-Some : goal.returns-in-Some
returns-in-Some c =
    let es = slots_of c.args.self.now in
    let i = c.in-Some.i in
    let at = place_of c.args.frame es _ _ (Some i) c.route.ensures c.slot_of.ensures (search rules) in
    let is = c.index-deref-i.is ∙ ap (λ zs. get_or zs i c.index-deref-i.result) c.deref.ensures.0 in
    ap (λ zs. refill (length es) es (set zs i c.renewed.result)) c.deref_mut.ensures.value ∙ written es i _ ∙ ap (set es i) c.renewed.ensures ∙ renews c.args.frame es i c.index-deref-i.result at is

pub invariant_of-self : goal.invariant_of-self
invariant_of-self c =
    let es = slots_of c.args.self.now in
    let i = c.in-Some.i in
    let at = place_of c.args.frame es _ _ (Some i) c.route.ensures c.slot_of.ensures (search rules) in
    let is = c.index-deref-i.is ∙ ap (λ zs. get_or zs i c.index-deref-i.result) c.deref.ensures.0 in
    let all = ap (λ zs. refill (length es) es (set zs i c.renewed.result)) c.deref_mut.ensures.value ∙ written es i _ ∙ ap (set es i) c.renewed.ensures ∙ renews c.args.frame es i c.index-deref-i.result at is in
    record { pairs = ap distinct all ∙ noted_distinct c.args.frame es c.args.self.now.pairs }

pub returns-then-not-is_full : goal.returns-then-not-is_full
returns-then-not-is_full c =
    let es = slots_of c.args.self.now in
    let at = place_of c.args.frame es _ _ None c.route.ensures c.slot_of.ensures (search rules) in
    let room : length es < 16 = search rules in
    c.push.ensures.items ∙ ap (λ e. es ++ e ∷ []) c.new.ensures ∙ adds_slot c.args.frame es at room

pub invariant_of-self-then-not-is_full : goal.invariant_of-self-then-not-is_full
invariant_of-self-then-not-is_full c =
    let es = slots_of c.args.self.now in
    let at = place_of c.args.frame es _ _ None c.route.ensures c.slot_of.ensures (search rules) in
    let room : length es < 16 = search rules in
    let all = c.push.ensures.items ∙ ap (λ e. es ++ e ∷ []) c.new.ensures ∙ adds_slot c.args.frame es at room in
    record { pairs = ap distinct all ∙ noted_distinct c.args.frame es c.args.self.now.pairs }

pub returns-else-not-is_full : goal.returns-else-not-is_full
returns-else-not-is_full c =
    let es = slots_of c.args.self.now in
    let at = place_of c.args.frame es _ _ None c.route.ensures c.slot_of.ensures (search rules) in
    let full : 16 ≤ length es = search rules in
    loses c.args.frame es at full
