-- Where the octets of a lawful message stand, it is read.
use Rattle.std.proofs.Common.{◌≡◌, ℕ, ◌+◌, ◌<◌, ◌≤◌, true, List, [], ◌∷◌, ◌++◌, length, get_or, drop, Some, None, Ok, Option, sym, refl, ap, ◌∙◌, append-nil, arith}
use Rattle.std.proofs.lemmas.Bool.{and_parts, leb-true, ltb-true, eqb-true}
use Rattle.imsi.specs.declared.Imsi.{Imsi}
use Rattle.elements.specs.declared.area.LocationArea.{LocationArea}
use Rattle.elements.specs.declared.code.Class.{Class}
use Rattle.elements.specs.declared.code.UpdateType.{UpdateType}
use Rattle.elements.specs.declared.element.Element.TheVariants as el
use Rattle.elements.specs.Codes.{cause_in, cause_octet, update_in, update_octet, class_in, class_octet, gprs_detach_in, gprs_detach_octet, imsi_detach_in, imsi_detach_octet, reject_in, entity_in}
use Rattle.elements.specs.Spelling.{imsi_element, octet_element, area_element, tmsi_element, channel_element}
use Rattle.elements.proofs.Areas.{area_there}
use Rattle.elements.proofs.Chains.{then_there, past}
use Rattle.elements.proofs.Codes.{cause_there, update_there, class_there, gprs_there, imsi_there, reject_there, entity_there}
use Rattle.elements.proofs.Elements.{coded_there}
use Rattle.elements.proofs.Optional.{tmsi_there, channel_there}
use Rattle.messages.specs.declared.message.Message.{Message}
use Rattle.messages.specs.declared.message.Message.TheVariants.{Paging, PagingFailure, MobileStatus, LuRequest, LuAccept, LuReject, Reset, ResetAcknowledge, GprsDetachIndication, GprsDetachAcknowledge, ImsiDetachIndication, ImsiDetachAcknowledge}
use Rattle.messages.specs.Kinds.{octet_of, kind_of}
use Rattle.messages.specs.Lawful.{lawful_mobile, lawful_tmsi, lawful_channel, lawful_area, lawful_reject, lawful_message}
use Rattle.elements.specs.Reading.{after_tmsi, after_channel}
use Rattle.messages.specs.Reading.{after_imsi, paging_at, lu_request_at, lu_accept_at, body_at, message_at}
use Rattle.messages.specs.Spelling.{elements_of, octets_of}
use Rattle.messages.proofs.Parts.{type_there, mobile_there, mobile_past, last_there, imsi_and_there, end_there}

tmsi_small : (t : Option ℕ) → lawful_tmsi t ≡ true → (n : ℕ) → t ≡ Some n → n < 4294967296
tmsi_small t l n e = ltb-true n 4294967296 (sym (ap lawful_tmsi e) ∙ l)

channel_small : (c : Option ℕ) → lawful_channel c ≡ true → (n : ℕ) → c ≡ Some n → n ≤ 3
channel_small c l n e = leb-true n 3 (sym (ap lawful_channel e) ∙ l)

-- no channel's octets begin like a TMSI's
no_tmsi : (c : Option ℕ) → get_or (channel_element c) 0 0 ≡ 2 → ⊥
no_tmsi None z = omega arith
no_tmsi (Some c) z = omega arith

past_tmsi : (s xs : List ℕ) (at : ℕ) (t : Option ℕ) → drop at s ≡ tmsi_element t ++ xs → drop (after_tmsi at t) s ≡ xs
past_tmsi s xs at None d = d
past_tmsi s xs at (Some n) d = past s (tmsi_element (Some n)) xs at (at + 6) d refl

past_channel : (s xs : List ℕ) (at : ℕ) (c : Option ℕ) → drop at s ≡ channel_element c ++ xs → drop (after_channel at c) s ≡ xs
past_channel s xs at None d = d
past_channel s xs at (Some n) d = past s (channel_element (Some n)) xs at (at + 3) d refl

paging_there : (s : List ℕ) (at : ℕ) (i : Imsi) (t c : Option ℕ) → lawful_message (Paging i t c) ≡ true → drop at s ≡ imsi_element i ++ (tmsi_element t ++ channel_element c) → paging_at s at ≡ Ok (Paging i t c)
paging_there s at i t c l d =
    let a = and_parts (lawful_mobile i) _ l in
    let b = and_parts (lawful_tmsi t) (lawful_channel c) a.1 in
    let p1 = after_imsi at i in
    let p2 = after_tmsi p1 t in
    let r1 = mobile_past s (tmsi_element t ++ channel_element c) at i d in
    let r2 = past_tmsi s (channel_element c) p1 t r1 ∙ sym (append-nil (channel_element c)) in
    let r3 = past_channel s [] p2 c r2 in
    then_there _ (mobile_there s (tmsi_element t ++ channel_element c) at i d a.0)
    (then_there _ (tmsi_there s (channel_element c) p1 t (tmsi_small t b.0) (no_tmsi c) r1)
    (then_there _ (channel_there s [] p2 c (channel_small c b.1) (λ z. omega arith) r2)
    (end_there s (after_channel p2 c) (Paging i t c) r3)))

lu_request_there : (s : List ℕ) (at : ℕ) (i : Imsi) (u : UpdateType) (o n : LocationArea) (c : Class) → lawful_message (LuRequest i u o n c) ≡ true → drop at s ≡ imsi_element i ++ (octet_element el.UpdateType (update_octet u) ++ (area_element el.OldArea o ++ (area_element el.NewArea n ++ octet_element el.Class (class_octet c)))) → lu_request_at s at ≡ Ok (LuRequest i u o n c)
lu_request_there s at i u o n c l d =
    let a = and_parts (lawful_mobile i) _ l in
    let b = and_parts (lawful_area o) (lawful_area n) a.1 in
    let five-o = eqb-true (length o.octets) 5 b.0 in
    let five-n = eqb-true (length n.octets) 5 b.1 in
    let p = after_imsi at i in
    let e5 = octet_element el.Class (class_octet c) in
    let e4 = area_element el.NewArea n ++ e5 in
    let e3 = area_element el.OldArea o ++ e4 in
    let e2 = octet_element el.UpdateType (update_octet u) ++ e3 in
    let r1 = mobile_past s e2 at i d in
    let r2 = past s (octet_element el.UpdateType (update_octet u)) e3 p (p + 3) r1 refl in
    let r3 = past s (area_element el.OldArea o) e4 (p + 3) (p + 10) r2 (omega arith) in
    let r4 = past s (area_element el.NewArea n) e5 (p + 10) (p + 17) r3 (omega arith) ∙ sym (append-nil e5) in
    let r5 = past s e5 [] (p + 17) (p + 20) r4 (omega arith) in
    then_there _ (mobile_there s e2 at i d a.0)
    (then_there _ (coded_there update_in s e3 p (update_octet u) el.UpdateType u r1 refl refl (update_there u))
    (then_there _ (area_there s e4 (p + 3) el.OldArea o r2 refl refl five-o)
    (then_there _ (area_there s e5 (p + 10) el.NewArea n r3 refl refl five-n)
    (then_there _ (coded_there class_in s [] (p + 17) (class_octet c) el.Class c r4 refl refl (class_there c))
    (end_there s (p + 20) (LuRequest i u o n c) r5)))))

lu_accept_there : (s : List ℕ) (at : ℕ) (i : Imsi) (n : LocationArea) → lawful_message (LuAccept i n) ≡ true → drop at s ≡ imsi_element i ++ area_element el.NewArea n → lu_accept_at s at ≡ Ok (LuAccept i n)
lu_accept_there s at i n l d =
    let a = and_parts (lawful_mobile i) (lawful_area n) l in
    let five-n = eqb-true (length n.octets) 5 a.1 in
    let p = after_imsi at i in
    let e = area_element el.NewArea n in
    let r1 = mobile_past s e at i d ∙ sym (append-nil e) in
    let r2 = past s e [] p (p + 7) r1 (omega arith) in
    then_there _ (mobile_there s e at i d a.0)
    (then_there _ (area_there s [] p el.NewArea n r1 refl refl five-n)
    (end_there s (p + 7) (LuAccept i n) r2))

body_there : (s : List ℕ) (at : ℕ) (m : Message) → lawful_message m ≡ true → drop at s ≡ elements_of m → body_at s at (kind_of m) ≡ Ok m
body_there s at (Paging i t c) l d = paging_there s at i t c l d
body_there s at (PagingFailure i c) l d = imsi_and_there cause_in el.Cause PagingFailure s at (cause_octet c) i c d l refl refl (cause_there c)
body_there s at (MobileStatus i c) l d = imsi_and_there cause_in el.Cause MobileStatus s at (cause_octet c) i c d l refl refl (cause_there c)
body_there s at (LuRequest i u o n c) l d = lu_request_there s at i u o n c l d
body_there s at (LuAccept i n) l d = lu_accept_there s at i n l d
body_there s at (LuReject i c) l d =
    let a = and_parts (lawful_mobile i) (lawful_reject c) l in
    imsi_and_there reject_in el.RejectCause LuReject s at c.number i c d a.0 refl refl (reject_there c (leb-true 1 c.number a.1))
body_there s at (Reset e) l d = then_there _ (last_there entity_in el.Entity s at e.number e d refl refl (entity_there e l)) refl
body_there s at (ResetAcknowledge e) l d = then_there _ (last_there entity_in el.Entity s at e.number e d refl refl (entity_there e l)) refl
body_there s at (GprsDetachIndication i t) l d = imsi_and_there gprs_detach_in el.GprsDetachType GprsDetachIndication s at (gprs_detach_octet t) i t d l refl refl (gprs_there t)
body_there s at (GprsDetachAcknowledge i t) l d = imsi_and_there gprs_detach_in el.GprsDetachType GprsDetachAcknowledge s at (gprs_detach_octet t) i t d l refl refl (gprs_there t)
body_there s at (ImsiDetachIndication i t) l d = imsi_and_there imsi_detach_in el.ImsiDetachType ImsiDetachIndication s at (imsi_detach_octet t) i t d l refl refl (imsi_there t)
body_there s at (ImsiDetachAcknowledge i t) l d = imsi_and_there imsi_detach_in el.ImsiDetachType ImsiDetachAcknowledge s at (imsi_detach_octet t) i t d l refl refl (imsi_there t)

pub there : (s : List ℕ) (at : ℕ) (m : Message) → lawful_message m ≡ true → drop at s ≡ octets_of m → message_at s at ≡ Ok m
there s at m l d = type_there s (elements_of m) at (kind_of m) d ∙ body_there s (at + 1) m l (past s (octet_of (kind_of m) ∷ []) (elements_of m) at (at + 1) d refl)
