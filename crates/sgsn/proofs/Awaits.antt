-- A reply's verdict is a tick nearer after each tick.
use Rattle.std.proofs.Common.{◌≡◌, ℕ, zero, suc, ◌≤◌, true, not, List, [], ◌∷◌, map, Some, None, Ok, Option, Result, sym, refl, ap, ◌∙◌, subst, arith}
use Rattle.std.proofs.lemmas.Bool.{true≢false, and_parts, cond_both}
use Rattle.std.proofs.lemmas.Bool.Decides.{nat_tests}
use Rattle.std.specs.Option.{option_map}
use Rattle.std.specs.List.{list_all}
use Rattle.imsi.specs.declared.Imsi.{Imsi}
use Rattle.directory.specs.Lookup.{at}
use Rattle.directory.proofs.Lookups.{at-map}
use Rattle.elements.specs.declared.node.VlrNumber.{VlrNumber}
use Rattle.station.specs.Rows.{repeat_now}
use Rattle.station.specs.declared.denial.Denial.{Denial}
use Rattle.station.specs.declared.denial.Denial.TheVariants as denial
use Rattle.station.specs.Calls.{plan, ask, Done}
use Rattle.station.specs.Sends.{is_worn, Sent}
use Rattle.context.specs.declared.context.Context.{Context}
use Rattle.context.specs.declared.errand.Errand.{Errand}
use Rattle.context.specs.declared.errand.Errand.TheVariants as errand
use Rattle.context.specs.Contexts.{whose, doubtful_at}
use Rattle.context.specs.Errands.{is_open}
use Rattle.context.specs.Ticking.{ticks_left, context_ticked}
use Rattle.sgsn.specs.declared.peer.Peer.{Peer}
use Rattle.sgsn.specs.declared.reply.Reply.{Reply}
use Rattle.sgsn.specs.Awaiting.{is_open_in, is_awaited, Ticked}
use Rattle.sgsn.specs.Fitting.{fits_in}
use Rattle.sgsn.specs.Peers.{doubted_by, doubted_by_all}
use Rattle.sgsn.specs.Recovering.{records_ticked, ticked, tick_sends, tick_plan}
use Rattle.sgsn.specs.Replies.{owed_to}
use Rattle.sgsn.specs.State.{State, own_of, last_of, record_at}
use Rattle.sgsn.proofs.Fits.{fits_at}
use Rattle.sgsn.proofs.Keeps.{doubtful_whose}
use Rattle.sgsn.proofs.Ticks.{ticked_from}

-- the ticks that an errand, a mobile's errand, can still take
abbrev pub left_of : Errand → ℕ
left_of (errand.Open o) = ticks_left o
left_of e = 0

abbrev pub left_in : Option Context → ℕ
left_in None = 0
left_in (Some r) = left_of r.errand

abbrev pub left : State → Reply → ℕ
left s p = left_in (record_at s (owed_to p))

few_of : (vs : List VlrNumber) (r : Context) → fits_in vs r ≡ true → left_of r.errand ≤ 32
few_of vs r f = grind (arith, nat_tests)

less_of : (vs : List VlrNumber) (n : ℕ) (r : Context) → fits_in vs r ≡ true → is_open r.errand ≡ true → suc (left_of (context_ticked n r).errand) ≤ left_of r.errand
less_of vs n r f waits = grind (arith, nat_tests)

same_left : (v : VlrNumber) (o : Option Context) → left_in (option_map (doubtful_at v) o) ≡ left_in o
same_left v None = refl
same_left v (Some r) = grind (arith, nat_tests)

doubted_left : (ps : List Peer) (rs : List Context) (i : Imsi) → left_in (at whose (doubted_by_all ps rs) i) ≡ left_in (at whose rs i)
doubted_left [] rs i = refl
doubted_left (p ∷ ps) rs i =
    doubted_left ps (doubted_by p rs) i
    ∙ cond_both (repeat_now p.row) (map (doubtful_at p.vlr) rs) rs (λ l. left_in (at whose l i) ≡ left_in (at whose rs i))
    (λ e. ap left_in (at-map whose (doubtful_at p.vlr) (doubtful_whose p.vlr) rs i) ∙ same_left p.vlr (at whose rs i)) (λ e. refl)

module _ (vs : List VlrNumber) (s : State) (fit : list_all (fits_in vs) s.records ≡ true) (p : Reply) where
  -- 32 ticks at most
  pub left_few : left s p ≤ 32
  left_few = few (record_at s (owed_to p)) refl
    where
      few : (o : Option Context) → record_at s (owed_to p) ≡ o → left_in o ≤ 32
      few None e = omega arith
      few (Some r) e = few_of vs r (fits_at vs s.records (owed_to p) r fit e)

  -- one less after each tick
  pub left_less : is_awaited s p ≡ true → suc (left (ticked s) p) ≤ left s p
  left_less e =
      let i = owed_to p in
      let from = ticked_from s.last s.records i in
      let rest : left (ticked s) p ≡ left_in (option_map (context_ticked from.0) (record_at s i)) = doubted_left s.peers (records_ticked s.last s.records) i ∙ ap left_in from.3 in
      subst (λ n. suc n ≤ left s p) (sym rest) (less from.0 (record_at s i) refl (and_parts _ _ (and_parts _ _ e).1).1)
    where
      less : (n : ℕ) (o : Option Context) → record_at s (owed_to p) ≡ o → is_open_in o ≡ true → suc (left_in (option_map (context_ticked n) o)) ≤ left_in o
      less n None e waits = absurd (true≢false (sym waits))
      less n (Some r) e waits = less_of vs n r (fits_at vs s.records (owed_to p) r fit e) waits

-- one more tick
pub ticked_more : {C : Type 0} (puts : C → List ℕ → C → Type 0) (p : Reply) (n : ℕ) (s t u : State) (c d e : C) → Ticked puts p n s c t d → is_awaited t p ≡ true → u ≡ ticked t → Sent puts t.own t.last (tick_sends t) d e → Ticked puts p (suc n) s c u e
ticked_more puts p zero s t u c d e h on is sent = (
  ap (λ x. is_awaited x p) (sym h.0) ∙ on,
  (e, subst (λ m. Sent puts s.own s.last (tick_sends s) m e) h.1 (subst (λ x. Sent puts x.own x.last (tick_sends x) d e) h.0 sent), (is ∙ ap ticked h.0, refl)),
)
ticked_more puts p (suc n) s t u c d e h on is sent = (h.0, (h.1.0, h.1.1, ticked_more puts p n (ticked s) t u h.1.0 d e h.1.2 on is sent))

-- no tick is denied while a verdict is to come
pub tick_made : {C : Type 0} (puts : C → List ℕ → C → Type 0) (p : Reply) (s t : State) (r : Result Unit Denial) (c d : C) → is_awaited s p ≡ true
    → Done own_of last_of puts (tick_plan s) r s c t d → (t ≡ ticked s) × Sent puts s.own s.last (tick_sends s) c d
tick_made puts p s t r c d on h =
    let fresh : not (is_worn s.last) ≡ true = (and_parts _ _ (and_parts _ _ on).1).0 in
    let made = subst (λ b. Done own_of last_of puts (ask b denial.Worn (Ok (plan (ticked s) (tick_sends s)))) r s c t d) fresh h in
    (made.1, made.2)
