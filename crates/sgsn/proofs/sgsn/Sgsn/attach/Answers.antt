use Rattle.std.proofs.Common.{sym, ap, ◌∙◌}
use Rattle.context.specs.Contexts.{whose}
use Rattle.sgsn.specs.Fitting.{fits_in}
use Rattle.sgsn.specs.State.{state_of, vlrs_of}
use Rattle.sgsn.proofs.Fits.{fits_at, fits_attached}
use Rattle.sgsn.proofs.Keeps.{held_as}
use Rattle.sgsn.proofs.sgsn.Sgsn.attach.Goals as goal

pub keep-requires-clause-held : goal.keep-requires-clause-held
keep-requires-clause-held c =
    held_as (state_of c.args.self.now) c.args.imsi c.in-Some.context c.attached.result (sym c.record_of.ensures ∙ c.in-Some.is) (ap whose c.attached.ensures)

pub keep-requires-clause-fits : goal.keep-requires-clause-fits
keep-requires-clause-fits c =
    let s = state_of c.args.self.now in
    let vs = vlrs_of s in
    let r = c.in-Some.context in
    let fit = fits_at vs s.records c.args.imsi r c.args.self.now.fit (sym c.record_of.ensures ∙ c.in-Some.is) in
    ap (fits_in vs) c.attached.ensures ∙ fits_attached vs r fit
