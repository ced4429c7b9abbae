-- The octets that spell each element.
use Rattle.std.specs.Prelude.{ℕ, ◌/◌, ◌%◌, List, [], ◌∷◌, Some, None, Option}
use Rattle.imsi.specs.declared.Imsi.{Imsi}
use Rattle.imsi.specs.Spelling.{imsi_octets}
use Rattle.imsi.specs.Written.{octet_count}
use Rattle.elements.specs.declared.area.LocationArea.{LocationArea}
use Rattle.elements.specs.declared.element.Element.{Element}
use Rattle.elements.specs.declared.element.Element.TheVariants as el
use Rattle.elements.specs.Table.{identifier_of}

abbrev pub imsi_element : Imsi → List ℕ
imsi_element i = identifier_of el.Imsi ∷ octet_count i.digits ∷ imsi_octets i.digits i.value

abbrev pub octet_element : Element → ℕ → List ℕ
octet_element e n = identifier_of e ∷ 1 ∷ n ∷ []

abbrev pub area_element : Element → LocationArea → List ℕ
area_element e a = identifier_of e ∷ 5 ∷ a.octets

-- four octets, the high one first
abbrev pub four_octets : ℕ → List ℕ
four_octets n = n / 16777216 % 256 ∷ n / 65536 % 256 ∷ n / 256 % 256 ∷ n % 256 ∷ []

-- what is absent has no octets, which differs from zero
abbrev pub tmsi_element : Option ℕ → List ℕ
tmsi_element None = []
tmsi_element (Some n) = identifier_of el.Tmsi ∷ 4 ∷ four_octets n

abbrev pub channel_element : Option ℕ → List ℕ
channel_element None = []
channel_element (Some n) = octet_element el.Channel n
