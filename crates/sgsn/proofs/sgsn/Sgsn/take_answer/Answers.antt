use Rattle.std.proofs.Common.{sym, ap, ◌∙◌}
use Rattle.context.specs.Contexts.{whose}
use Rattle.sgsn.specs.Fitting.{fits_in}
use Rattle.sgsn.specs.State.{state_of, vlrs_of}
use Rattle.sgsn.proofs.Fits.{fits_at, fits_answered}
use Rattle.sgsn.proofs.Keeps.{held_as, answered_whose}
use Rattle.sgsn.proofs.sgsn.Sgsn.take_answer.Goals as goal

pub keep-requires-clause-held : goal.keep-requires-clause-held
keep-requires-clause-held c =
    let s = state_of c.args.self.now in
    let r = c.in-Some-record_of.before in
    let is = sym c.record_of.ensures ∙ c.in-Some-record_of.is in
    held_as s c.in-Some.imsi r c.answered.result is (ap whose c.answered.ensures ∙ answered_whose _ _ _ _ r)

pub keep-requires-clause-fits : goal.keep-requires-clause-fits
keep-requires-clause-fits c =
    let s = state_of c.args.self.now in
    let vs = vlrs_of s in
    let r = c.in-Some-record_of.before in
    let is = sym c.record_of.ensures ∙ c.in-Some-record_of.is in
    ap (fits_in vs) c.answered.ensures ∙ fits_answered vs _ _ _ _ r (fits_at vs s.records c.in-Some.imsi r c.args.self.now.fit is)
