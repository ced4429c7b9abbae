-- Where what should stands at a whole site, the marks agree.
use Rattle.std.proofs.Common.{◌≡◌, ℕ, inl, inr, true, ◌||◌, List, [], ◌∷◌, is_some, Some, None, Option, sym, refl, ap, ◌∙◌, subst, ⊎_elim}
use Rattle.std.proofs.lemmas.Bool.{true≢false, and_parts, cases_Bool, cond-true, cond-false}
use Rattle.std.proofs.lemmas.Option.{none-some, same_Some}
use Rattle.imsi.specs.declared.Imsi.{Imsi}
use Rattle.imsi.specs.Spelling.{lawful_imsi}
use Rattle.elements.specs.declared.node.NodeNumber.{NodeNumber}
use Rattle.elements.specs.declared.node.VlrNumber.{VlrNumber}
use Rattle.elements.specs.Nodes.{same_node}
use Rattle.carrier.specs.Nodes.{same_node_lem}
use Rattle.carrier.specs.Order.{Stamps}
use Rattle.station.specs.declared.mark.Mark.TheVariants as mark
use Rattle.station.specs.declared.row.Recovery.{Recovery}
use Rattle.station.specs.Marks.{node_in}
use Rattle.context.specs.declared.context.Context.{Context}
use Rattle.context.specs.Sound.{sound}
use Rattle.sgsn.specs.Fitting.{is_one_of, if_named}
use Rattle.sgsn.specs.State as sgsn
use Rattle.sgsn.proofs.Fits.{fits_at}
use Rattle.vlr.specs.State as vlr
use Rattle.law.specs.Tables.{View, mark_in, marked}
use Rattle.law.specs.Steps.{Events, Came}
use Rattle.law.specs.Sound.{Pair}
use Rattle.law.specs.Laws.{vlr_named, Backs, Agreed}
use Rattle.law.proofs.Carried.{Carries}
use Rattle.law.proofs.Whole.{Each, numbers_of, Sound}
use Rattle.law.proofs.Quieter.{none_unsure}
use Rattle.law.proofs.Calls as calls

-- the VLR that is found has the number, and what holds of each holds of it
named : (Q : vlr.State → Type 0) (n : VlrNumber) (vs : List vlr.State) (v : vlr.State) → Each Q vs → vlr_named n vs ≡ Some v → (v.own ≡ n.node) × Q v
named Q n [] v e f = absurd (none-some v f)
named Q n (u ∷ us) v e f = ⊎_elim
    (λ t. let is = same_Some u v (sym (cond-true _ _ _ t) ∙ f) in (same_node_lem v.own n.node (ap (λ x. same_node x.own n.node) (sym is) ∙ t), subst Q is e.0))
    (λ o. named Q n us v e.1 (sym (cond-false _ _ _ o) ∙ f))
    (cases_Bool (same_node u.own n.node))

-- a number of one of them is found
not_missing : (n : VlrNumber) (vs : List vlr.State) → is_one_of (numbers_of vs) n ≡ true → vlr_named n vs ≡ None → ⊥
not_missing n [] its e = true≢false (sym its)
not_missing n (u ∷ us) its e = ⊎_elim
    (λ t. none-some u (sym e ∙ cond-true _ _ _ t))
    (λ o. not_missing n us (ap (λ b. b || is_one_of (numbers_of us) n) (sym o) ∙ its) (sym (cond-false _ _ _ o) ∙ e))
    (cases_Bool (same_node u.own n.node))

module _ (s : sgsn.State) (vs : List vlr.State) (ws : List (List ℕ)) (ls : Stamps) (S : Sound s vs ws ls) (m : Imsi) (n : VlrNumber) (sure : marked s m ≡ mark.Confirmed n) where
  -- a mark names one of the SGSN's VLRs
  its_vlr : (o : Option Context) → sgsn.record_at s m ≡ o → mark_in o ≡ mark.Confirmed n → is_one_of (sgsn.vlrs_of s) n ≡ true
  its_vlr None e c = absurd (none_unsure n c)
  its_vlr (Some r) e c =
      let fit = fits_at (sgsn.vlrs_of s) s.records m r S.fit.fits e in
      let behind = and_parts (lawful_imsi r.imsi.digits r.imsi.value) _ fit in
      let names = and_parts (sound r) _ behind.1 in
      let marked_one = and_parts (if_named (sgsn.vlrs_of s) (node_in r.mark)) _ names.1 in
      subst (λ k. if_named (sgsn.vlrs_of s) (node_in k) ≡ true) c marked_one.0

  backed_by : (v : vlr.State) → v.own ≡ n.node → Pair s v ws ls → (r : Option Recovery) → v.row.recovery ≡ r → Backs s m (Some v)
  backed_by v is P (Some r) e = inl (ap is_some e)
  backed_by v is P None e = inr (P.quiet e m (sure ∙ (λ i. mark.Confirmed (record { node = sym is i }))) ∙ (λ i. mark.Confirmed (record { node = P.its i })))

  backed : (o : Option vlr.State) → vlr_named n vs ≡ o → Backs s m o
  backed None e = not_missing n vs (ap (λ ns. is_one_of ns n) (sym S.numbers) ∙ its_vlr (sgsn.record_at s m) refl sure) e
  backed (Some v) e = let found = named (λ u. Pair s u ws ls) n vs v S.each e in backed_by v found.0 found.1 v.row.recovery refl

-- the marks agree
pub agreed : (s : sgsn.State) (vs : List vlr.State) (ws : List (List ℕ)) (ls : Stamps) → Sound s vs ws ls → Agreed s vs
agreed s vs ws ls S m n sure = backed s vs ws ls S m n sure (vlr_named n vs) refl

-- and so they do after any calls, over any carrier that gives frames in order
pub agreed_after : {C : Type 0} (waiting : C → List (List ℕ)) (latest : C → Stamps) (takes : C → NodeNumber → Option (List ℕ) → C → Type 0) (puts : C → List ℕ → C → Type 0) → Carries waiting latest takes puts
    → {es : Events} {x : View C} → Came waiting takes puts es x → Agreed x.sgsn x.vlrs
agreed_after waiting latest takes puts K {x = x} h = agreed x.sgsn x.vlrs (waiting x.carrier) (latest x.carrier) (calls.sound waiting latest takes puts K h)
