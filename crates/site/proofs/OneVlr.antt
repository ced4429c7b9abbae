-- A call at the VLR that stands at a place is a call at one of the VLRs.
use Rattle.std.proofs.Common.{◌≡◌, ℕ, suc, ◌<◌, true, false, nat_lt, cond, List, [], ◌∷◌, length, take, drop, get_or, Some, None, Option, Result, sym, refl, subst, ◌∙◌, arith}
use Rattle.std.proofs.lemmas.List.{set_split, length-map}
use Rattle.std.proofs.lemmas.List.Folds.{list_any_at}
use Rattle.std.specs.List.{position}
use Rattle.elements.specs.declared.node.NodeNumber.{NodeNumber}
use Rattle.elements.specs.declared.node.VlrNumber.{VlrNumber}
use Rattle.elements.specs.Nodes.{same_node}
use Rattle.carrier.specs.Nodes.{same_node_lem}
use Rattle.carrier.proofs.Elements.{none_passes}
use Rattle.station.specs.declared.receiving.Refusal.{Refusal}
use Rattle.vlr.specs.declared.call.VlrAnswer.{VlrAnswer}
use Rattle.vlr.specs.declared.call.VlrCall.{VlrCall}
use Rattle.vlr.specs.declared.vlr.Vlr.{Vlr}
use Rattle.vlr.specs.State.{State, state_of}
use Rattle.sgsn.specs.State as sgsn
use Rattle.law.specs.declared.call.Answer.TheVariants as answer
use Rattle.law.specs.Steps.{VlrMakes, AtVlr, is_vlr}
use Rattle.site.specs.Registers.{OneMakes, MadeBy}
use Rattle.site.specs.Sites.{states_of}
use Rattle.site.proofs.Places.{parted, position_map, found_at, none_any}

-- the place of a VLR, as its state tells it
in_states : (n : NodeNumber) (vs : List Vlr) → position (λ v. same_node v.sender.own n) vs ≡ position (λ s. same_node s.own n) (states_of vs)
in_states n vs =
    let k = position_map state_of (λ s. same_node s.own n) vs in
    λ i. cond (nat_lt (k i) (sym (length-map vs state_of) i)) (Some (k i)) None

there : (n : NodeNumber) (vs : List Vlr) (i : ℕ) → position (λ v. same_node v.sender.own n) vs ≡ Some i → (i < length (states_of vs)) × ((d : State) → same_node (get_or (states_of vs) i d).own n ≡ true)
there n vs i e = found_at (λ s. same_node s.own n) (states_of vs) i (sym (in_states n vs) ∙ e)

module _ {C : Type 0} (takes : C → NodeNumber → Option (List ℕ) → C → Type 0) (puts : C → List ℕ → C → Type 0) (n : VlrNumber) where
  is_there : (ss : List State) (i : ℕ) → i < length ss → ((d : State) → same_node (get_or ss i d).own n.node ≡ true) → is_vlr n ss ≡ true
  is_there [] i lt own = absurd (omega (arith, lt))
  is_there (s ∷ ss) i lt own = list_any_at (λ v. same_node v.own n.node) (s ∷ ss) i s lt (own s)

  one_vlr : (call : VlrCall) (r : Result VlrAnswer Refusal) (i : ℕ) (ss ts : List State) (c d : C) (g : sgsn.State) → i < length ss → ((x : State) → same_node (get_or ss i x).own n.node ≡ true) → OneMakes takes puts call r i ss c ts d
      → VlrMakes takes puts n call (answer.Vlr r) (record { sgsn = g; vlrs = ss; carrier = c }) (record { sgsn = g; vlrs = ts; carrier = d })
  one_vlr call r i [] ts c d g lt own M = absurd (omega (arith, lt))
  one_vlr call r i (s ∷ ss) ts c d g lt own M =
      let m = M s in record {
        earlier = take i (s ∷ ss);
        later = drop (suc i) (s ∷ ss);
        before = get_or (s ∷ ss) i s;
        after = get_or ts i s;
        stood = parted (s ∷ ss) i s lt;
        stands = m.1 ∙ set_split (s ∷ ss) i (get_or ts i s) lt;
        number = same_node_lem (get_or (s ∷ ss) i s).own n.node (own s);
        result = r;
        answered = refl;
        made = m.0;
        sgsn = refl;
      }

  pub by_one : (call : VlrCall) (r : Result VlrAnswer Refusal) (i : ℕ) (vs ws : List Vlr) (c d : C) → position (λ v. same_node v.sender.own n.node) vs ≡ Some i → OneMakes takes puts call r i (states_of vs) c (states_of ws) d
      → MadeBy takes puts n call (answer.Vlr r) (states_of vs) c (states_of ws) d
  by_one call r i vs ws c d e M s =
      let it = there n.node vs i e in
      subst (λ b. AtVlr takes puts b n call (answer.Vlr r) (record { sgsn = s; vlrs = states_of vs; carrier = c }) (record { sgsn = s; vlrs = states_of ws; carrier = d }))
      (sym (is_there (states_of vs) i it.0 it.1)) (one_vlr call r i (states_of vs) (states_of ws) c d s it.0 it.1 M)

  pub by_none : (call : VlrCall) (vs : List Vlr) (c : C) → position (λ v. same_node v.sender.own n.node) vs ≡ None → MadeBy takes puts n call answer.NoSuchNode (states_of vs) c (states_of vs) c
  by_none call vs c e s =
      let no : is_vlr n (states_of vs) ≡ false = none_any (λ s. same_node s.own n.node) (states_of vs) (none_passes (λ s. same_node s.own n.node) (states_of vs) (sym (in_states n.node vs) ∙ e)) in
      subst (λ b. AtVlr takes puts b n call answer.NoSuchNode (record { sgsn = s; vlrs = states_of vs; carrier = c }) (record { sgsn = s; vlrs = states_of vs; carrier = c })) (sym no) (refl, refl)
