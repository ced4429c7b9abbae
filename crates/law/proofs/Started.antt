-- What should stand at a whole site stands at a new one.
use Rattle.std.proofs.Common.{◌≡◌, ℕ, Bool, true, List, [], ◌∷◌, map, find, Some, None, sym, refl, ap, ◌∙◌, subst}
use Rattle.std.proofs.lemmas.Bool.{cond_both}
use Rattle.std.proofs.lemmas.Option.{none-some}
use Rattle.elements.specs.declared.node.NodeNumber.{NodeNumber}
use Rattle.elements.specs.declared.node.SgsnNumber.{SgsnNumber}
use Rattle.elements.specs.declared.node.VlrNumber.{VlrNumber}
use Rattle.elements.specs.Nodes.{same_node}
use Rattle.frames.specs.declared.frame.Frame.{Frame}
use Rattle.frames.specs.Format.{frame_octets}
use Rattle.carrier.specs.Order.{Stamps}
use Rattle.carrier.specs.Waiting.{Empty, In}
use Rattle.sgsn.specs.declared.peer.Peer.{Peer}
use Rattle.sgsn.specs.Making.{new_peer, new_state}
use Rattle.vlr.specs.Making as vlr_made
use Rattle.law.specs.Sound.{Live, Pair, reset_in, due_in, due_to}
use Rattle.law.proofs.Numbers.{apart}
use Rattle.law.proofs.Quieter.{none_unsure}
use Rattle.law.proofs.Whole.{Each, numbers_of, Sound}

-- the numbers are those that the site was made with
peers_made : (ks : List VlrNumber) → map (λ p. p.vlr) (map new_peer ks) ≡ ks
peers_made [] = refl
peers_made (k ∷ ks) = ap (λ l. k ∷ l) (peers_made ks)

-- nothing went to a new VLR, and nothing is due
no_reset : (n : Peer → Bool) (ks : List VlrNumber) → reset_in (find n (map new_peer ks)) ≡ None
no_reset n [] = refl
no_reset n (k ∷ ks) = cond_both (n (new_peer k)) (Some (new_peer k)) (find n (map new_peer ks)) (λ o. reset_in o ≡ None) (λ e. refl) (λ e. no_reset n ks)

none_due : (n : Peer → Bool) (ks : List VlrNumber) → due_in (find n (map new_peer ks)) ≡ None
none_due n [] = refl
none_due n (k ∷ ks) = cond_both (n (new_peer k)) (Some (new_peer k)) (find n (map new_peer ks)) (λ o. due_in o ≡ None) (λ e. refl) (λ e. none_due n ks)

module _ (number : SgsnNumber) where
  numbers_made : (ks : List VlrNumber) → numbers_of (map (λ n. vlr_made.new_state n number) ks) ≡ ks
  numbers_made [] = refl
  numbers_made (k ∷ ks) = ap (λ l. k ∷ l) (numbers_made ks)

  module _ (numbers : List VlrNumber) (ws : List (List ℕ)) (ls : Stamps) (E : Empty ws) where
    -- no frame waits
    nothing : (a b : NodeNumber) (f : Frame) → Live ws ls a b f → ⊥
    nothing a b f l = subst (In (frame_octets f)) E l.waits

    new_pair : (k : VlrNumber) → Pair (new_state number numbers) (vlr_made.new_state k number) ws ls
    new_pair k =
        let s = new_state number numbers in
        let not_due : (x : ℕ) → due_to s k.node ≡ Some x → ⊥ = λ x e. none-some x (sym (none_due (λ p. same_node p.vlr.node k.node) numbers) ∙ e) in
        record {
          its = refl;
          quiet = λ e m h. absurd (none_unsure _ h);
          due = λ x d. absurd (not_due x d);
          acknowledged = λ f l. absurd (nothing _ _ f l);
          heard = λ e x r. absurd (none-some x r);
          heard_due = λ x d. absurd (not_due x d);
          heard_acknowledged = λ f l. absurd (nothing _ _ f l);
          clear = λ m h. absurd (none_unsure _ h);
          granted = λ m r a. absurd (none-some r a);
          pending = λ m r a. absurd (none-some r a);
          known = λ m f l. absurd (nothing _ _ f l);
          down = λ f l. absurd (nothing _ _ f l);
          up = λ f l. absurd (nothing _ _ f l);
          asked_before = λ m r a. absurd (none-some r a);
          reset_before = λ x e. absurd (none-some x (sym (no_reset (λ p. same_node p.vlr.node k.node) numbers) ∙ e));
        }

    new_each : (ks : List VlrNumber) → Each (λ v. Pair (new_state number numbers) v ws ls) (map (λ n. vlr_made.new_state n number) ks)
    new_each [] = tt
    new_each (k ∷ ks) = (new_pair k, new_each ks)

    pub started : apart number.node numbers ≡ true → Sound (new_state number numbers) (map (λ n. vlr_made.new_state n number) numbers) ws ls
    started differ =
        record {
          fit = record { fits = refl; rise = refl };
          spelt = λ x i. absurd (subst (In x) E i);
          numbers = peers_made numbers ∙ sym (numbers_made numbers);
          differ = ap (apart number.node) (numbers_made numbers) ∙ differ;
          each = new_each numbers;
        }
