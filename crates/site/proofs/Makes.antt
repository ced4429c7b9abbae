-- Registers made for the numbers of rows.
use Rattle.std.proofs.Common.{◌≡◌, ℕ, true, List, [], ◌∷◌, map, Ok, Err, Result, sym, refl, ap, subst}
use Rattle.std.specs.Result.{IsErrAnd}
use Rattle.sgsn.specs.Making.{lawful_numbers}
use Rattle.site.specs.declared.site.Site.{Site}
use Rattle.elements.specs.declared.node.SgsnNumber.{SgsnNumber}
use Rattle.elements.specs.declared.node.VlrNumber.{VlrNumber}
use Rattle.sgsn.specs.declared.peer.Peer.{Peer}
use Rattle.site.specs.declared.making.SiteError.{SiteError}
use Rattle.site.specs.declared.making.SiteError.TheVariants.{Denied, Memory}
use Rattle.site.specs.Making.{IsMemory, SiteMade}

pub by_numbers : {Y : Type 0} (f : VlrNumber → Y) (ps : List Peer) → map (λ p. f p.vlr) ps ≡ map f (map (λ p. p.vlr) ps)
by_numbers f [] = refl
by_numbers f (p ∷ ps) = ap (λ l. f p.vlr ∷ l) (by_numbers f ps)

-- where only memory can fail
pub refused : {C : Type 0} (waiting : C → List (List ℕ)) (n : SgsnNumber) (vs : List VlrNumber) (c : C) (r : Result (Site C) SiteError) (e : SiteError) → IsErrAnd r (λ y. y ≡ e) → IsMemory e → lawful_numbers n vs ≡ true → SiteMade waiting n vs c r
refused waiting n vs c (Ok x) e a m l = absurd a
refused waiting n vs c (Err y) (Denied d) a m l = absurd m
refused waiting n vs c (Err y) (Memory f) a m l = subst (λ z. SiteMade waiting n vs c (Err z)) (sym a) l
