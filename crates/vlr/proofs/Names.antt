-- No change of a record makes its mark name another SGSN.
use Rattle.std.proofs.Common.{◌≡◌, ℕ, ◌≤◌, true, List, ◌++◌, map, length, take, drop, Some, None, Option, refl, ap, ◌∙◌, arith}
use Rattle.std.proofs.lemmas.Bool.Decides.{nat_tests}
use Rattle.std.proofs.lemmas.List.{take_at, length-map, length-take-le}
use Rattle.std.specs.List.{list_all}
use Rattle.imsi.specs.declared.Imsi.{Imsi}
use Rattle.elements.specs.declared.node.SgsnNumber.{SgsnNumber}
use Rattle.messages.specs.declared.message.Message.{Message}
use Rattle.directory.specs.Lookup.{at}
use Rattle.directory.proofs.Everyone.{all_at, all_map}
use Rattle.vlr.specs.declared.record.Record.{Record}
use Rattle.vlr.specs.Records.{names_its, doubtful, doubtful_at}
use Rattle.vlr.specs.Enrolling.{enrolled}
use Rattle.vlr.specs.State.{whose}
use Rattle.vlr.proofs.Moved.{moved}

pub moved_names : (n : SgsnNumber) (m : Message) (r : Record) → names_its n r ≡ true → names_its n (moved n m r) ≡ true
moved_names n m r e = grind (arith, nat_tests)

pub doubtful_names : (n : SgsnNumber) (r : Record) → names_its n r ≡ true → names_its n (doubtful r) ≡ true
doubtful_names n r e = grind (arith, nat_tests)

pub doubtful_at_names : (n : SgsnNumber) (r : Record) → names_its n r ≡ true → names_its n (doubtful_at n r) ≡ true
doubtful_at_names n r e = grind (arith, nat_tests)

-- an enrolment leaves the mark, and a new record has none
names_by : (n : SgsnNumber) (xs : List Record) (i : Imsi) (c : ℕ) (o : Option Record) → list_all (names_its n) xs ≡ true → at whose xs i ≡ o → names_its n (enrolled i c o) ≡ true
names_by n xs i c None all e = refl
names_by n xs i c (Some r) all e = all_at whose (names_its n) xs i r all e

pub enrolled_names : (n : SgsnNumber) (xs : List Record) (i : Imsi) (c : ℕ) → list_all (names_its n) xs ≡ true → names_its n (enrolled i c (at whose xs i)) ≡ true
enrolled_names n xs i c all = names_by n xs i c (at whose xs i) all refl

-- the records that are held, after a change of each of them
pub changed_names : (n : SgsnNumber) (f : Record → Record) (held : ℕ) (ps qs : List Record) → ((r : Record) → names_its n r ≡ true → names_its n (f r) ≡ true)
    → held ≤ length ps → qs ≡ map f (take held ps) ++ drop held ps → list_all (names_its n) (take held ps) ≡ true → list_all (names_its n) (take held qs) ≡ true
changed_names n f held ps qs keeps few e all =
    let size = length-map (take held ps) f ∙ length-take-le held ps few in
    let front : take held qs ≡ map f (take held ps) = ap (take held) e ∙ take_at (map f (take held ps)) (drop held ps) held size in
    ap (list_all (names_its n)) front ∙ all_map (names_its n) f (take held ps) keeps all
