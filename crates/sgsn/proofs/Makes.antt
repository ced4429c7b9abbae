-- What is kept of VLRs that stand in rising number.
use Rattle.std.proofs.Common.{◌≡◌, ℕ, true, List, [], ◌∷◌, map, take, sym, refl, ap, ◌∙◌}
use Rattle.std.specs.List.{list_all}
use Rattle.std.specs.List.Sorted.{IsPermutation}
use Rattle.std.proofs.lemmas.List.{take-map}
use Rattle.std.proofs.lemmas.List.Folds.{list_all-map}
use Rattle.std.proofs.lemmas.List.Sums.{AllPass-from_list_all, list_all-from_AllPass}
use Rattle.std.proofs.lemmas.List.Sorted.{All-permutation}
use Rattle.elements.specs.declared.node.NodeNumber.{NodeNumber}
use Rattle.elements.specs.declared.node.VlrNumber.{VlrNumber}
use Rattle.frames.specs.Format.{lawful_nodes}
use Rattle.sgsn.specs.declared.peer.Peer.{Peer}
use Rattle.sgsn.specs.Making.{new_peer}

-- these are kept in the first n places
module _ (n : ℕ) (vs : List VlrNumber) (ps : List Peer) (is : ps ≡ map new_peer vs) where
  kept : take n ps ≡ map new_peer (take n vs)
  kept = ap (take n) is ∙ take-map new_peer n vs

  pub its_vlrs : map (λ p. p.vlr) (take n ps) ≡ take n vs
  its_vlrs = ap (map (λ p. p.vlr)) kept ∙ back (take n vs)
    where
      back : (ws : List VlrNumber) → map (λ p. p.vlr) (map new_peer ws) ≡ ws
      back [] = refl
      back (w ∷ ws) = ap (λ l. w ∷ l) (back ws)

  pub all_new : take n ps ≡ map new_peer (map (λ p. p.vlr) (take n ps))
  all_new = kept ∙ ap (map new_peer) (sym its_vlrs)

  pub reachable : (own : NodeNumber) (ws : List VlrNumber) → IsPermutation ws (take n vs) → list_all (λ v. lawful_nodes own v.node) ws ≡ true → list_all (λ p. lawful_nodes own p.vlr.node) (take n ps) ≡ true
  reachable own ws same all =
      let p = λ (v : VlrNumber). lawful_nodes own v.node in
      ap (list_all (λ p. lawful_nodes own p.vlr.node)) kept
      ∙ list_all-map (λ p. lawful_nodes own p.vlr.node) new_peer (take n vs)
      ∙ list_all-from_AllPass p (take n vs) (All-permutation (λ v. p v ≡ true) ws (take n vs) same (AllPass-from_list_all p ws all))
