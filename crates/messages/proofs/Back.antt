-- Where a message is read, it is lawful and its octets stand.
use Rattle.std.proofs.Common.{◌≡◌, ℕ, ◌+◌, ◌<◌, ◌≤◌, true, List, ◌∷◌, ◌++◌, get_or, drop, Some, None, Ok, Option, sym, refl, ap, ◌∙◌, subst, append-nil, arith}
use Rattle.std.proofs.lemmas.Bool.{and_from, le-leb, lt-ltb, eq-eqb}
use Rattle.imsi.specs.declared.Imsi.{Imsi}
use Rattle.elements.specs.declared.element.Element.{Element}
use Rattle.elements.specs.declared.element.Element.TheVariants as el
use Rattle.elements.specs.declared.node.NodeNumber.{NodeNumber}
use Rattle.elements.specs.declared.code.RejectCause.{RejectCause}
use Rattle.elements.specs.Codes.{cause_in, cause_octet, update_in, update_octet, class_in, class_octet, gprs_detach_in, gprs_detach_octet, imsi_detach_in, imsi_detach_octet, reject_in, entity_in}
use Rattle.elements.specs.Faults.{and_then}
use Rattle.elements.specs.Nodes.{lawful_node}
use Rattle.elements.specs.Reading.{coded_at, tmsi_at, channel_at, area_at, after_tmsi, after_channel}
use Rattle.elements.specs.Spelling.{imsi_element, octet_element, area_element, tmsi_element, channel_element}
use Rattle.elements.specs.Table.{least_of, most_of}
use Rattle.elements.proofs.Areas.{area_read}
use Rattle.elements.proofs.Chains.{then_ok, same_ok}
use Rattle.elements.specs.Backs.{cause_back, update_back, class_back, gprs_back, imsi_back, reject_back, entity_back}
use Rattle.elements.proofs.Elements.{coded_read}
use Rattle.elements.proofs.Optional.{tmsi_read, channel_read}
use Rattle.messages.specs.declared.kind.MessageType.{MessageType}
use Rattle.messages.specs.declared.kind.MessageType.TheVariants as kind
use Rattle.messages.specs.declared.message.Message.{Message}
use Rattle.messages.specs.declared.message.Message.TheVariants.{Paging, PagingFailure, MobileStatus, LuRequest, LuAccept, LuReject, Reset, ResetAcknowledge, GprsDetachIndication, GprsDetachAcknowledge, ImsiDetachIndication, ImsiDetachAcknowledge}
use Rattle.messages.specs.Kinds.{octet_of}
use Rattle.messages.specs.Lawful.{lawful_mobile, lawful_tmsi, lawful_channel, lawful_message}
use Rattle.messages.specs.Reading.{after_imsi, mobile_at, last_at, imsi_and_at, paging_at, lu_request_at, lu_accept_at, body_at, message_at}
use Rattle.messages.specs.Spelling.{octets_of, Spells}
use Rattle.messages.proofs.Parts.{type_read, mobile_read, last_read, imsi_and_read, end_read}

-- the octets after the type octet of this kind spell the message
abbrev After : MessageType → List ℕ → Message → Type 0
After k s m = Spells m (octet_of k ∷ s)

lawful_tmsi_lem : (t : Option ℕ) → ((n : ℕ) → t ≡ Some n → n < 4294967296) → lawful_tmsi t ≡ true
lawful_tmsi_lem None h = refl
lawful_tmsi_lem (Some n) h = lt-ltb n 4294967296 (h n refl)

lawful_channel_lem : (c : Option ℕ) → ((n : ℕ) → c ≡ Some n → n ≤ 3) → lawful_channel c ≡ true
lawful_channel_lem None h = refl
lawful_channel_lem (Some n) h = le-leb n 3 (h n refl)

paging_back : (s : List ℕ) (at : ℕ) (m : Message) → ((k : ℕ) → get_or s k 0 < 256) → paging_at s at ≡ Ok m → After kind.Paging (drop at s) m
paging_back s at m o r =
    let a = then_ok (mobile_at s at) _ m r in
    let i = a.0 in
    let mo = mobile_read s at i a.1 in
    let p1 = after_imsi at i in
    let b = then_ok (tmsi_at s p1) _ m a.2 in
    let t = b.0 in
    let tm = tmsi_read s p1 t o b.1 in
    let p2 = after_tmsi p1 t in
    let d = then_ok (channel_at s p2) _ m b.2 in
    let c = d.0 in
    let ch = channel_read s p2 c d.1 in
    let p3 = after_channel p2 c in
    let fin = end_read s p3 (Paging i t c) m d.2 in
    let e3 = ch.is ∙ ap (λ x. channel_element c ++ x) fin.0 ∙ append-nil (channel_element c) in
    let e2 = tm.is ∙ ap (λ x. tmsi_element t ++ x) e3 in
    subst (After kind.Paging (drop at s)) fin.1
    (and_from _ _ mo.lawful (and_from _ _ (lawful_tmsi_lem t tm.small) (lawful_channel_lem c ch.small)), ap (λ x. octet_of kind.Paging ∷ x) (sym (mo.is ∙ ap (λ x. imsi_element i ++ x) e2)))

lu_request_back : (s : List ℕ) (at : ℕ) (m : Message) → lu_request_at s at ≡ Ok m → After kind.LuRequest (drop at s) m
lu_request_back s at m r =
    let a = then_ok (mobile_at s at) _ m r in
    let i = a.0 in
    let mo = mobile_read s at i a.1 in
    let p = after_imsi at i in
    let b = then_ok (coded_at update_in s p el.UpdateType) _ m a.2 in
    let u = b.0 in
    let cu = coded_read update_in s p el.UpdateType u refl refl b.1 in
    let d = then_ok (area_at s (p + 3) el.OldArea) _ m b.2 in
    let ao = area_read s (p + 3) el.OldArea d.0 refl refl d.1 in
    let f = then_ok (area_at s (p + 10) el.NewArea) _ m d.2 in
    let an = area_read s (p + 10) el.NewArea f.0 refl refl f.1 in
    let g = then_ok (coded_at class_in s (p + 17) el.Class) _ m f.2 in
    let c = g.0 in
    let cc' = coded_read class_in s (p + 17) el.Class c refl refl g.1 in
    let fin = end_read s (p + 20) (LuRequest i u d.0 f.0 c) m g.2 in
    let q1 : p + 3 + 7 ≡ p + 10 = omega arith in
    let q2 : p + 10 + 7 ≡ p + 17 = omega arith in
    let q3 : p + 17 + 3 ≡ p + 20 = omega arith in
    let e5 = cc'.is ∙ ap (λ n. octet_element el.Class n ++ drop (p + 17 + 3) s) (sym (class_back cc'.octet c cc'.stands)) ∙ ap (λ n. octet_element el.Class (class_octet c) ++ drop n s) q3 ∙ ap (λ x. octet_element el.Class (class_octet c) ++ x) fin.0 in
    let e4 = an.is ∙ ap (λ n. area_element el.NewArea f.0 ++ drop n s) q2 ∙ ap (λ x. area_element el.NewArea f.0 ++ x) e5 in
    let e3 = ao.is ∙ ap (λ n. area_element el.OldArea d.0 ++ drop n s) q1 ∙ ap (λ x. area_element el.OldArea d.0 ++ x) e4 in
    let e2 = cu.is ∙ ap (λ n. octet_element el.UpdateType n ++ drop (p + 3) s) (sym (update_back cu.octet u cu.stands)) ∙ ap (λ x. octet_element el.UpdateType (update_octet u) ++ x) e3 in
    subst (After kind.LuRequest (drop at s)) fin.1
    (and_from _ _ mo.lawful (and_from _ _ (eq-eqb _ 5 ao.long) (eq-eqb _ 5 an.long)), ap (λ x. octet_of kind.LuRequest ∷ x) (sym (mo.is ∙ ap (λ x. imsi_element i ++ x) e2)))

lu_accept_back : (s : List ℕ) (at : ℕ) (m : Message) → lu_accept_at s at ≡ Ok m → After kind.LuAccept (drop at s) m
lu_accept_back s at m r =
    let a = then_ok (mobile_at s at) _ m r in
    let i = a.0 in
    let mo = mobile_read s at i a.1 in
    let p = after_imsi at i in
    let f = then_ok (area_at s p el.NewArea) _ m a.2 in
    let an = area_read s p el.NewArea f.0 refl refl f.1 in
    let fin = end_read s (p + 7) (LuAccept i f.0) m f.2 in
    let e2 = an.is ∙ ap (λ x. area_element el.NewArea f.0 ++ x) fin.0 ∙ append-nil (area_element el.NewArea f.0) in
    subst (After kind.LuAccept (drop at s)) fin.1 (and_from _ _ mo.lawful (eq-eqb _ 5 an.long), ap (λ x. octet_of kind.LuAccept ∷ x) (sym (mo.is ∙ ap (λ x. imsi_element i ++ x) e2)))

-- RESET and its acknowledgement
entity_message_back : (k : MessageType) (make : NodeNumber → Message) → ((e : NodeNumber) → octets_of (make e) ≡ octet_of k ∷ octet_element el.Entity e.number) → ((e : NodeNumber) → lawful_message (make e) ≡ lawful_node e) → (s : List ℕ) (at : ℕ) (m : Message) → and_then (last_at entity_in el.Entity s at) (λ e. Ok (make e)) ≡ Ok m → After k (drop at s) m
entity_message_back k make octets law s at m r =
    let a = then_ok (last_at entity_in el.Entity s at) _ m r in
    let x = a.0 in
    let la = last_read entity_in el.Entity s at x refl refl a.1 in
    let back = entity_back la.octet x la.stands in
    let e2 = la.is ∙ ap (octet_element el.Entity) (sym back.0) in
    subst (After k (drop at s)) (same_ok _ m a.2) (law x ∙ back.1, octets x ∙ ap (λ t. octet_of k ∷ t) (sym e2))

-- an IMSI and one coded element
imsi_message_back : {X : Type 0} (of : ℕ → Option X) (octet : X → ℕ) (e : Element) (k : MessageType) (make : Imsi → X → Message) → ((i : Imsi) (x : X) → octets_of (make i x) ≡ octet_of k ∷ imsi_element i ++ octet_element e (octet x)) → ((i : Imsi) (x : X) (n : ℕ) → of n ≡ Some x → lawful_mobile i ≡ true → lawful_message (make i x) ≡ true) → ((n : ℕ) (x : X) → of n ≡ Some x → octet x ≡ n) → least_of e ≡ 1 → most_of e ≡ 1 → (s : List ℕ) (at : ℕ) (m : Message) → imsi_and_at of e make s at ≡ Ok m → After k (drop at s) m
imsi_message_back of octet e k make octets law back lo hi s at m r =
    let im = imsi_and_read of e make s at m lo hi r in
    let i = im.imsi in
    let x = im.value in
    let e2 = im.is ∙ ap (λ n. imsi_element i ++ octet_element e n) (sym (back im.octet x im.stands)) in
    subst (After k (drop at s)) im.made (law i x im.octet im.stands im.lawful, octets i x ∙ ap (λ t. octet_of k ∷ t) (sym e2))

body_back : (s : List ℕ) (at : ℕ) (k : MessageType) (m : Message) → ((j : ℕ) → get_or s j 0 < 256) → body_at s at k ≡ Ok m → After k (drop at s) m
body_back s at kind.Paging m o r = paging_back s at m o r
body_back s at kind.PagingFailure m o r = imsi_message_back cause_in cause_octet el.Cause kind.PagingFailure PagingFailure (λ i x. refl) (λ i x n h l. l) cause_back refl refl s at m r
body_back s at kind.MobileStatus m o r = imsi_message_back cause_in cause_octet el.Cause kind.MobileStatus MobileStatus (λ i x. refl) (λ i x n h l. l) cause_back refl refl s at m r
body_back s at kind.LuRequest m o r = lu_request_back s at m r
body_back s at kind.LuAccept m o r = lu_accept_back s at m r
body_back s at kind.LuReject m o r = imsi_message_back reject_in (λ (c : RejectCause). c.number) el.RejectCause kind.LuReject LuReject (λ i x. refl) (λ i x n h l. let b = reject_back n x h in let one = b.1 in let is = b.0 in and_from _ _ l (le-leb 1 x.number (omega arith))) (λ n x h. (reject_back n x h).0) refl refl s at m r
body_back s at kind.Reset m o r = entity_message_back kind.Reset Reset (λ e. refl) (λ e. refl) s at m r
body_back s at kind.ResetAcknowledge m o r = entity_message_back kind.ResetAcknowledge ResetAcknowledge (λ e. refl) (λ e. refl) s at m r
body_back s at kind.GprsDetachIndication m o r = imsi_message_back gprs_detach_in gprs_detach_octet el.GprsDetachType kind.GprsDetachIndication GprsDetachIndication (λ i x. refl) (λ i x n h l. l) gprs_back refl refl s at m r
body_back s at kind.GprsDetachAcknowledge m o r = imsi_message_back gprs_detach_in gprs_detach_octet el.GprsDetachType kind.GprsDetachAcknowledge GprsDetachAcknowledge (λ i x. refl) (λ i x n h l. l) gprs_back refl refl s at m r
body_back s at kind.ImsiDetachIndication m o r = imsi_message_back imsi_detach_in imsi_detach_octet el.ImsiDetachType kind.ImsiDetachIndication ImsiDetachIndication (λ i x. refl) (λ i x n h l. l) imsi_back refl refl s at m r
body_back s at kind.ImsiDetachAcknowledge m o r = imsi_message_back imsi_detach_in imsi_detach_octet el.ImsiDetachType kind.ImsiDetachAcknowledge ImsiDetachAcknowledge (λ i x. refl) (λ i x n h l. l) imsi_back refl refl s at m r

pub back : (s : List ℕ) (at : ℕ) (m : Message) → ((k : ℕ) → get_or s k 0 < 256) → message_at s at ≡ Ok m → Spells m (drop at s)
back s at m o r =
    let ty = type_read s at m r in
    subst (Spells m) (sym ty.1) (body_back s (at + 1) ty.0 m o ty.2)
