use Rattle.std.proofs.Common.{◌≡◌, true, false, take, None, Err, Ok, sym, refl, ap, ◌∙◌, subst, rules, arith}
use Rattle.std.specs.List.{list_all}
use Rattle.imsi.specs.Spelling.{lawful_imsi}
use Rattle.directory.specs.Lookup.{Held, Stored}
use Rattle.directory.proofs.Everyone.{all_stored}
use Rattle.station.specs.Sends.{is_worn}
use Rattle.station.specs.declared.denial.Denial.TheVariants as denial
use Rattle.vlr.specs.Records.{names_its}
use Rattle.vlr.specs.State.{state_of, own_of, last_of, whose, with_records}
use Rattle.station.specs.Calls.{Decides}
use Rattle.vlr.specs.Enrolling.{enrolled, enrol_plan}
use Rattle.vlr.proofs.ByMobile.{enrolment}
use Rattle.vlr.proofs.Enrolls.{no_place}
use Rattle.vlr.proofs.Names.{enrolled_names}
use Rattle.vlr.proofs.vlr.Vlr.enrol.Goals as goal

pub invariant_of-self-clause-rising : goal.invariant_of-self-clause-rising
invariant_of-self-clause-rising c =
    let v = c.args.self.now in
    let held : Held whose v.held v.places = (omega (arith, v.few, v.all), v.rising) in
    (c.in-Some.ensures held).3

pub invariant_of-self-clause-marks : goal.invariant_of-self-clause-marks
invariant_of-self-clause-marks c =
    let v = c.args.self.now in
    let held : Held whose v.held v.places = (omega (arith, v.few, v.all), v.rising) in
    let is = c.enrolled-after.ensures ∙ ap (enrolled c.args.imsi c.args.home_cause) (c.look-before.ensures held) in
    ap (list_all (names_its v.sgsn)) (c.in-Some.ensures held).2
    ∙ all_stored whose (names_its v.sgsn) c.enrolled-after.result (take v.held v.places) v.marks
    (ap (names_its v.sgsn) is ∙ enrolled_names v.sgsn (take v.held v.places) c.args.imsi c.args.home_cause v.marks)

pub returns-in-None : goal.returns-in-None
returns-in-None c =
    let v = c.args.self.now in
    let s = state_of v in
    let i = c.args.imsi in
    let cause = c.args.home_cause in
    let held : Held whose v.held v.places = (omega (arith, v.few, v.all), v.rising) in
    let is = c.enrolled-after.ensures ∙ ap (enrolled i cause) (c.look-before.ensures held) in
    let st = subst (λ r. Stored whose v.held r v.places c.store.new.places None) is (c.in-None.ensures held) in
    let fresh : is_worn s.last ≡ false = search rules in
    let lawful : lawful_imsi i.digits i.value ≡ true = search rules in
    let denied : Decides own_of last_of (enrol_plan s i cause) (Err denial.NoPlace) s (with_records s (take v.held c.store.new.places)) =
    subst (λ o. Decides own_of last_of o (Err denial.NoPlace) s (with_records s (take v.held c.store.new.places)))
    (sym (no_place s i cause v.held v.places c.store.new.places v.all refl fresh lawful st))
    (refl, ap (λ ps. with_records s (take v.held ps)) st.1, refl) in
    record { decided = denied; by_mobile = enrolment s _ i cause _ denied }

pub returns-in-Some : goal.returns-in-Some
returns-in-Some c =
    let v = c.args.self.now in
    let s = state_of v in
    let i = c.args.imsi in
    let cause = c.args.home_cause in
    let done : Decides own_of last_of (enrol_plan s i cause) (Ok tt) s (with_records s (take c.in-Some.held c.store.new.places)) = search rules in
    record { decided = done; by_mobile = enrolment s _ i cause _ done }
