-- A new site.
use Rattle.std.specs.Prelude.{◌≡◌, ℕ, true, false, List, Ok, Err, Result}
use Rattle.elements.specs.declared.node.SgsnNumber.{SgsnNumber}
use Rattle.elements.specs.declared.node.VlrNumber.{VlrNumber}
use Rattle.carrier.specs.Waiting.{Empty}
use Rattle.station.specs.declared.denial.Denial.TheVariants as denial
use Rattle.sgsn.specs.Making.{lawful_numbers}
use Rattle.law.specs.Steps.{New}
use Rattle.site.specs.declared.making.SiteError.{SiteError}
use Rattle.site.specs.declared.making.SiteError.TheVariants.{Denied, Memory}
use Rattle.site.specs.declared.site.Site.{Site}
use Rattle.site.specs.Sites.{view_of}

-- memory failed
abbrev pub IsMemory : SiteError → Type 0
IsMemory (Denied d) = ⊥
IsMemory (Memory e) = Unit {0}

-- over an empty carrier it is a new one; it is denied where the numbers are not lawful and different, or memory fails
abbrev pub SiteMade : {C : Type 0} → (C → List (List ℕ)) → SgsnNumber → List VlrNumber → C → Result (Site C) SiteError
    → Type 0
SiteMade waiting n vs c (Ok x) =
    (lawful_numbers n vs ≡ true) × (x.carrier ≡ c) × (Empty (waiting c) → New waiting (view_of x))
SiteMade waiting n vs c (Err (Denied d)) = (lawful_numbers n vs ≡ false) × (d ≡ denial.WrongNumbers)
SiteMade waiting n vs c (Err (Memory e)) = lawful_numbers n vs ≡ true
