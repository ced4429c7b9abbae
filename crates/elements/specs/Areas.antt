-- Which element carries which area.
use Rattle.elements.specs.declared.area.Area.{Area}
use Rattle.elements.specs.declared.area.Area.TheVariants.{Old, New}
use Rattle.elements.specs.declared.element.Element.{Element}
use Rattle.elements.specs.declared.element.Element.TheVariants as el

abbrev pub element_of : Area → Element
element_of Old = el.OldArea
element_of New = el.NewArea
