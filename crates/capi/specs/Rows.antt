-- A frame as a row of numbers.
use Rattle.std.specs.Prelude.{ℕ, ◌+◌, ◌*◌, if◌then◌else◌, List, [], ◌∷◌, length, Some, None, Option, nat_lt, slice_index}
use Rattle.imsi.specs.declared.Imsi.{Imsi}
use Rattle.elements.specs.declared.area.LocationArea.{LocationArea}
use Rattle.elements.specs.Codes.{cause_octet, update_octet, class_octet, gprs_detach_octet, imsi_detach_octet}
use Rattle.messages.specs.declared.message.Message.{Message}
use Rattle.messages.specs.declared.message.Message.TheVariants.{Paging, PagingFailure, MobileStatus, LuRequest, LuAccept, LuReject, Reset, ResetAcknowledge, GprsDetachIndication, GprsDetachAcknowledge, ImsiDetachIndication, ImsiDetachAcknowledge}
use Rattle.messages.specs.Mobiles.{mobile_of}
use Rattle.messages.specs.Spelling.{type_of}
use Rattle.frames.specs.declared.frame.Frame.{Frame}
use Rattle.capi.specs.declared.row.Row.{Row}

abbrev pub present : Option ℕ → ℕ
present None = 0
present (Some n) = 1

abbrev pub or_zero : Option ℕ → ℕ
or_zero None = 0
or_zero (Some n) = n

-- five octets, the high one first
abbrev pub five_number : List ℕ → ℕ
five_number os =
    slice_index os 0 * 4294967296 + slice_index os 1 * 16777216 + slice_index os 2 * 65536
    + slice_index os 3 * 256 + slice_index os 4

abbrev pub area_number : LocationArea → ℕ
area_number a = five_number a.octets

-- the octet of the cause, update type, reject cause, detach type or entity, 0 where there is none
abbrev pub code_of : Message → ℕ
code_of (PagingFailure i c) = cause_octet c
code_of (MobileStatus i c) = cause_octet c
code_of (LuRequest i u o n c) = update_octet u
code_of (LuReject i c) = c.number
code_of (Reset e) = e.number
code_of (ResetAcknowledge e) = e.number
code_of (GprsDetachIndication i t) = gprs_detach_octet t
code_of (GprsDetachAcknowledge i t) = gprs_detach_octet t
code_of (ImsiDetachIndication i t) = imsi_detach_octet t
code_of (ImsiDetachAcknowledge i t) = imsi_detach_octet t
code_of m = 0

-- a row, still in no frame, of this type and code; the rest is 0
abbrev pub plain : ℕ → ℕ → Row
plain k octet = record {
  source = 0;
  destination = 0;
  stamp = 0;
  answers = 0;
  kind = k;
  digits = 0;
  value = 0;
  has_tmsi = 0;
  tmsi = 0;
  has_channel = 0;
  channel = 0;
  code = octet;
  old_area = 0;
  new_area = 0;
  class = 0;
}

-- and of this IMSI, if there is one
abbrev pub coded : ℕ → ℕ → Option Imsi → Row
coded k octet None = plain k octet
coded k octet (Some i) = record (plain k octet) { digits = i.digits; value = i.value }

abbrev pub coded_row : Message → Row
coded_row m = coded (type_of m) (code_of m) (mobile_of m)

abbrev pub body_of : Message → Row
body_of (Paging i t c) = record (coded_row (Paging i t c)) {
  has_tmsi = present t;
  tmsi = or_zero t;
  has_channel = present c;
  channel = or_zero c;
}
body_of (LuRequest i u o n c) = record (coded_row (LuRequest i u o n c)) {
  old_area = area_number o;
  new_area = area_number n;
  class = class_octet c;
}
body_of (LuAccept i n) = record (coded_row (LuAccept i n)) { new_area = area_number n }
body_of m = coded_row m

-- what of a row is the message's
abbrev pub body_row : Row → List ℕ
body_row b =
    b.kind ∷ b.digits ∷ b.value ∷ b.has_tmsi ∷ b.tmsi ∷ b.has_channel ∷ b.channel
    ∷ b.code ∷ b.old_area ∷ b.new_area ∷ b.class ∷ []

-- the numbers of a row, in their order
abbrev pub fields_of : Row → List ℕ
fields_of r = r.source ∷ r.destination ∷ r.stamp ∷ r.answers ∷ body_row r

-- the row of the first fifteen numbers, each 0 where there are fewer
abbrev pub row_at : List ℕ → Row
row_at s = record {
  source = slice_index s 0;
  destination = slice_index s 1;
  stamp = slice_index s 2;
  answers = slice_index s 3;
  kind = slice_index s 4;
  digits = slice_index s 5;
  value = slice_index s 6;
  has_tmsi = slice_index s 7;
  tmsi = slice_index s 8;
  has_channel = slice_index s 9;
  channel = slice_index s 10;
  code = slice_index s 11;
  old_area = slice_index s 12;
  new_area = slice_index s 13;
  class = slice_index s 14;
}

abbrev pub row_in_front : List ℕ → Option Row
row_in_front s = if nat_lt (length s) 15 then None else Some (row_at s)

abbrev pub row_of : Frame → List ℕ
row_of f = f.source.number ∷ f.destination.number ∷ f.stamp ∷ f.answers ∷ body_row (body_of f.message)
