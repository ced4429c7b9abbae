-- The kinds of message: their type octets, and the kind of each message.
use Rattle.std.specs.Prelude.{◌≡◌, ℕ, ◌≢◌, List, [], ◌∷◌, Option, Result, MatchResult, ◌==◌}
use Rattle.std.specs.List.{find}
use Rattle.messages.specs.declared.kind.MessageType.{MessageType}
use Rattle.messages.specs.declared.kind.MessageType.TheVariants as kind
use Rattle.messages.specs.declared.kind.UnknownType.{UnknownType}
use Rattle.messages.specs.declared.message.Message.{Message}
use Rattle.messages.specs.declared.message.Message.TheVariants.{Paging, PagingFailure, MobileStatus, LuRequest, LuAccept, LuReject, Reset, ResetAcknowledge, GprsDetachIndication, GprsDetachAcknowledge, ImsiDetachIndication, ImsiDetachAcknowledge}

abbrev pub octet_of : MessageType → ℕ
octet_of kind.Paging = 0
octet_of kind.PagingFailure = 1
octet_of kind.MobileStatus = 2
octet_of kind.LuRequest = 6
octet_of kind.LuAccept = 7
octet_of kind.LuReject = 8
octet_of kind.Reset = 9
octet_of kind.ResetAcknowledge = 10
octet_of kind.GprsDetachIndication = 14
octet_of kind.GprsDetachAcknowledge = 15
octet_of kind.ImsiDetachIndication = 17
octet_of kind.ImsiDetachAcknowledge = 18

-- all of them
abbrev pub kinds : List MessageType
kinds =
    kind.Paging ∷ kind.PagingFailure ∷ kind.MobileStatus
    ∷ kind.LuRequest ∷ kind.LuAccept ∷ kind.LuReject
    ∷ kind.Reset ∷ kind.ResetAcknowledge
    ∷ kind.GprsDetachIndication ∷ kind.GprsDetachAcknowledge
    ∷ kind.ImsiDetachIndication ∷ kind.ImsiDetachAcknowledge
    ∷ []

-- the kind that has this octet
abbrev pub kind_in : ℕ → Option MessageType
kind_in n = find (λ k. octet_of k == n) kinds

-- the kind that has this octet, or the octet itself, which no kind has
abbrev pub TypeOf : ℕ → Result MessageType UnknownType → Type 0
TypeOf n r = MatchResult r (λ k. octet_of k ≡ n) (λ e. (e.octet ≡ n) × ((k : MessageType) → octet_of k ≢ n))

abbrev pub kind_of : Message → MessageType
kind_of (Paging i t c) = kind.Paging
kind_of (PagingFailure i c) = kind.PagingFailure
kind_of (MobileStatus i c) = kind.MobileStatus
kind_of (LuRequest i u o n c) = kind.LuRequest
kind_of (LuAccept i n) = kind.LuAccept
kind_of (LuReject i c) = kind.LuReject
kind_of (Reset e) = kind.Reset
kind_of (ResetAcknowledge e) = kind.ResetAcknowledge
kind_of (GprsDetachIndication i t) = kind.GprsDetachIndication
kind_of (GprsDetachAcknowledge i t) = kind.GprsDetachAcknowledge
kind_of (ImsiDetachIndication i t) = kind.ImsiDetachIndication
kind_of (ImsiDetachAcknowledge i t) = kind.ImsiDetachAcknowledge
