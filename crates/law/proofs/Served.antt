-- What a record that an SGSN may keep says, where a VLR is sure of its mobile or is asked to be.
use Rattle.std.proofs.Common.{◌≡◌, ℕ, Bool, true, false, cond, ◌&&◌, not, List, Some, None, refl, sym, ap, ◌∙◌}
use Rattle.std.proofs.lemmas.Bool.{and_parts}
use Rattle.std.proofs.lemmas.Option.{none-some}
use Rattle.elements.specs.declared.node.NodeNumber.{NodeNumber}
use Rattle.elements.specs.declared.node.VlrNumber.{VlrNumber}
use Rattle.elements.specs.Nodes.{same_node}
use Rattle.imsi.specs.Spelling.{lawful_imsi}
use Rattle.station.specs.declared.mark.Mark.TheVariants as mark
use Rattle.station.specs.Marks.{node_in}
use Rattle.context.specs.declared.context.Context.{Context}
use Rattle.context.specs.declared.errand.Awaited.{Awaited}
use Rattle.context.specs.declared.errand.Awaited.TheVariants.{Update, GprsDetach, ImsiDetach}
use Rattle.context.specs.declared.errand.Errand.{Errand}
use Rattle.context.specs.declared.errand.Errand.TheVariants as errand
use Rattle.context.specs.declared.errand.Open.{Open}
use Rattle.context.specs.Contexts.{has_voice}
use Rattle.context.specs.Errands.{is_open}
use Rattle.context.specs.Paging.{moves_to, names}
use Rattle.context.specs.Sound.{sound, sound_mark, sound_errand, sound_awaited, timed}
use Rattle.sgsn.specs.Fitting.{fits_in, if_named, waits_for}
use Rattle.law.specs.Sound.{asked_in, update_stamp}

not_so : (b : Bool) → not b ≡ true → b ≡ false
not_so true e = sym e
not_so false e = refl

fit_sound : (vs : List VlrNumber) (r : Context) → fits_in vs r ≡ true → sound r ≡ true
fit_sound vs r f = (and_parts (sound r) (if_named vs (node_in r.mark) && if_named vs (waits_for r.errand)) (and_parts (lawful_imsi r.imsi.digits r.imsi.value) (sound r && (if_named vs (node_in r.mark) && if_named vs (waits_for r.errand))) f).1).0

-- a VLR is sure of an attached mobile alone, which has nothing open
pub sure_served : (vs : List VlrNumber) (r : Context) (n : VlrNumber) → fits_in vs r ≡ true → r.mark ≡ mark.Confirmed n → (r.attached ≡ true) × (is_open r.errand ≡ false)
sure_served vs r n f h =
    let marks : sound_mark (mark.Confirmed n) r ≡ true = ap (λ k. sound_mark k r) (sym h) ∙ (and_parts (sound_mark r.mark r) (sound_errand r.errand r) (fit_sound vs r f)).0 in
    let served = and_parts (r.attached && has_voice r) (not (is_open r.errand)) marks in
    ((and_parts r.attached (has_voice r) served.0).0, not_so (is_open r.errand) served.1)

-- an attached mobile moves, which has nothing open
pub moving_served : (w : VlrNumber) (r : Context) → moves_to w r ≡ true → (r.attached ≡ true) × (is_open r.errand ≡ false)
moving_served w r t =
    let there = and_parts r.attached (has_voice r && (not (is_open r.errand) && not (names w r.mark))) t in
    let voice = and_parts (has_voice r) (not (is_open r.errand) && not (names w r.mark)) there.1 in
    (there.0, not_so (is_open r.errand) (and_parts (not (is_open r.errand)) (not (names w r.mark)) voice.1).0)

-- an open detach asks nothing, and what asks is open
pub asks_not : {X : Type 0} (b : Bool) (n : ℕ) → cond b None None ≡ Some n → X
asks_not true n e = absurd (none-some n e)
asks_not false n e = absurd (none-some n e)

pub asks_open : (a : NodeNumber) (e : Errand) (n : ℕ) → asked_in a e ≡ Some n → is_open e ≡ true
asks_open a errand.Idle n h = absurd (none-some n h)
asks_open a (errand.Open o) n h = refl
asks_open a (errand.Ended w) n h = absurd (none-some n h)

-- nothing asks but an attached mobile
pub asking_served : (vs : List VlrNumber) (r : Context) (a : NodeNumber) (n : ℕ) → fits_in vs r ≡ true → asked_in a r.errand ≡ Some n → r.attached ≡ true
asking_served vs r a n f h = by_errand r.errand h (and_parts (sound_mark r.mark r) (sound_errand r.errand r) (fit_sound vs r f)).1
  where
    by_awaited : (o : Open) (w : Awaited) (b : Bool) → cond b (update_stamp o w) None ≡ Some n → sound_awaited w r ≡ true → r.attached ≡ true
    by_awaited o (Update l) b k t = (and_parts r.attached (has_voice r) t).0
    by_awaited o (GprsDetach t x) b k e = asks_not b n k
    by_awaited o (ImsiDetach x) b k e = asks_not b n k

    by_errand : (e : Errand) → asked_in a e ≡ Some n → sound_errand e r ≡ true → r.attached ≡ true
    by_errand errand.Idle k t = absurd (none-some n k)
    by_errand (errand.Open o) k t = by_awaited o o.awaited (same_node o.vlr.node a) k (and_parts (sound_awaited o.awaited r) (timed o) t).0
    by_errand (errand.Ended w) k t = absurd (none-some n k)
