-- No lawful message exceeds 31 octets.
use Rattle.std.proofs.Common.{◌≡◌, ℕ, ◌+◌, ◌≤◌, true, List, ◌∷◌, ◌++◌, length, Some, None, Option, arith}
use Rattle.std.proofs.lemmas.List.{length-append}
use Rattle.std.proofs.lemmas.Bool.{and_parts, eqb-true}
use Rattle.imsi.specs.declared.Imsi.{Imsi}
use Rattle.imsi.proofs.Round.{lawful_parts}
use Rattle.elements.specs.declared.element.Element.{Element}
use Rattle.elements.specs.declared.element.Element.TheVariants as el
use Rattle.elements.specs.Codes.{update_octet, class_octet}
use Rattle.elements.specs.Spelling.{imsi_element, octet_element, area_element, tmsi_element, channel_element}
use Rattle.messages.specs.declared.message.Message.{Message}
use Rattle.messages.specs.declared.message.Message.TheVariants.{Paging, LuRequest, LuAccept, LuReject}
use Rattle.messages.specs.Lawful.{lawful_mobile, lawful_area, lawful_reject, lawful_message}
use Rattle.messages.specs.Spelling.{octets_of}
use Rattle.messages.proofs.Parts.{imsi_size}

-- a lawful IMSI and what follows it
with_imsi : (i : Imsi) (xs : List ℕ) → lawful_mobile i ≡ true → length (imsi_element i ++ xs) ≤ 10 + length xs
with_imsi i xs l =
    let few = (lawful_parts i.digits i.value l).few in
    let size = imsi_size i in
    let both = length-append (imsi_element i) xs in
    omega arith

tmsi_size_lem : (t : Option ℕ) → length (tmsi_element t) ≤ 6
tmsi_size_lem None = omega arith
tmsi_size_lem (Some n) = omega arith

channel_size_lem : (c : Option ℕ) → length (channel_element c) ≤ 3
channel_size_lem None = omega arith
channel_size_lem (Some n) = omega arith

imsi_and_short : (i : Imsi) (k n : ℕ) (e : Element) → lawful_mobile i ≡ true → length (k ∷ imsi_element i ++ octet_element e n) ≤ 31
imsi_and_short i k n e l = let h = with_imsi i (octet_element e n) l in omega arith

pub short : (m : Message) → lawful_message m ≡ true → length (octets_of m) ≤ 31
short (Paging i t c) l =
    let h = with_imsi i (tmsi_element t ++ channel_element c) (and_parts (lawful_mobile i) _ l).0 in
    let a = tmsi_size_lem t in
    let b = channel_size_lem c in
    let d = length-append (tmsi_element t) (channel_element c) in
    omega arith
short (LuRequest i u o n c) l =
    let a = and_parts (lawful_mobile i) _ l in
    let b = and_parts (lawful_area o) (lawful_area n) a.1 in
    let five-o = eqb-true (length o.octets) 5 b.0 in
    let five-n = eqb-true (length n.octets) 5 b.1 in
    let e5 = octet_element el.Class (class_octet c) in
    let e4 = area_element el.NewArea n ++ e5 in
    let e3 = area_element el.OldArea o ++ e4 in
    let h = with_imsi i (octet_element el.UpdateType (update_octet u) ++ e3) a.0 in
    let l4 = length-append (area_element el.NewArea n) e5 in
    let l3 = length-append (area_element el.OldArea o) e4 in
    omega arith
short (LuAccept i n) l =
    let a = and_parts (lawful_mobile i) (lawful_area n) l in
    let five-n = eqb-true (length n.octets) 5 a.1 in
    let h = with_imsi i (area_element el.NewArea n) a.0 in
    omega arith
short (LuReject i c) l = imsi_and_short i 8 c.number el.RejectCause (and_parts (lawful_mobile i) (lawful_reject c) l).0
short m l = search (arith, l, imsi_and_short)

-- every message has its type octet
pub some : (m : Message) → 1 ≤ length (octets_of m)
some m = omega arith
