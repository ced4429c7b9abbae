-- The record that is enrolled is the mobile's, and what a store of it means for the questions of an enrolment.
use Rattle.std.proofs.Common.{◌≡◌, ℕ, not, true, false, List, [], length, take, None, Some, Option, Err, Ok, sym, refl, ◌∙◌}
use Rattle.imsi.specs.declared.Imsi.{Imsi}
use Rattle.imsi.specs.Spelling.{lawful_imsi}
use Rattle.directory.specs.Lookup.{at, fits, Stored}
use Rattle.directory.proofs.Lookups.{at-whose}
use Rattle.station.specs.declared.denial.Denial.TheVariants as denial
use Rattle.station.specs.Calls.{plan, ask}
use Rattle.station.specs.Sends.{is_worn}
use Rattle.vlr.specs.declared.record.Record.{Record}
use Rattle.vlr.specs.State.{State, whose}
use Rattle.vlr.specs.Enrolling.{enrolled, places, with_enrolled, enrol_plan}

enrolled_by : (xs : List Record) (i : Imsi) (c : ℕ) (o : Option Record) → at whose xs i ≡ o → whose (enrolled i c o) ≡ i
enrolled_by xs i c None e = refl
enrolled_by xs i c (Some r) e = at-whose whose xs i r e

pub its_own : (xs : List Record) (i : Imsi) (c : ℕ) → whose (enrolled i c (at whose xs i)) ≡ i
its_own xs i c = enrolled_by xs i c (at whose xs i) refl

-- no place is free
pub no_place : (s : State) (i : Imsi) (c n : ℕ) (ps qs : List Record) → length ps ≡ places → s.records ≡ take n ps → is_worn s.last ≡ false → lawful_imsi i.digits i.value ≡ true → Stored whose n (enrolled i c (at whose (take n ps) i)) ps qs None → enrol_plan s i c ≡ Err denial.NoPlace
no_place s i c n ps qs long is fresh lawful st =
    let full : fits whose places s.records i ≡ false =
    (λ t. fits whose (sym long t) (is t) i) ∙ (λ t. fits whose (length ps) (take n ps) (sym (its_own (take n ps) i c) t)) ∙ st.0 in
    (λ t. ask (not (fresh t)) denial.Worn (ask (lawful t) denial.UnlawfulImsi (ask (full t) denial.NoPlace (Ok (plan (with_enrolled s i c) [])))))
