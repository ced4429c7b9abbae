-- What the writer answers.
use Rattle.std.specs.Prelude.{◌≡◌, ℕ, ◌+◌, ◌-◌, ◌/◌, if◌then◌else◌, ◌++◌, take, replicate, Some, None, Option}
use Rattle.imsi.specs.declared.Imsi.{Imsi}
use Rattle.imsi.specs.declared.writing.ImsiOctets.{ImsiOctets}
use Rattle.imsi.specs.Spelling.{lawful_imsi, imsi_octets, imsi_in}

-- k digits and the marker fill this many octets
abbrev pub octet_count : ℕ → ℕ
octet_count k = k / 2 + 1

-- the octets of a lawful IMSI, and FF in each place after them
abbrev pub spelling_of : Imsi → ImsiOctets
spelling_of i = record {
  octets = imsi_octets i.digits i.value ++ replicate (8 - octet_count i.digits) 255;
  count = octet_count i.digits;
}

abbrev pub written_of : Imsi → Option ImsiOctets
written_of i = if lawful_imsi i.digits i.value then Some (spelling_of i) else None

-- reading the octets that are written gives back the IMSI
abbrev pub ReadBack : Imsi → Option ImsiOctets → Type 0
ReadBack i r = (w : ImsiOctets) → r ≡ Some w → imsi_in (take w.count w.octets) ≡ Some (i.digits, i.value)
