use Rattle.std.proofs.Common.{◌≡◌, sym, ap, ◌∙◌}
use Rattle.context.specs.Contexts.{whose}
use Rattle.sgsn.specs.Fitting.{fits_in}
use Rattle.sgsn.specs.State.{state_of, vlrs_of}
use Rattle.sgsn.proofs.Fits.{fits_at, fits_settled}
use Rattle.sgsn.proofs.Keeps.{held_as}
use Rattle.sgsn.proofs.Moves.{settled, settle_moved, settled_whose}
use Rattle.sgsn.proofs.sgsn.Sgsn.settle_by_record.Goals as goal

pub keep-requires-clause-held : goal.keep-requires-clause-held
keep-requires-clause-held c =
    let r = c.in-Some.context in
    let is : c.in_ok-verdict.after ≡ settled r = settle_moved _ r.errand r (c.in_ok-verdict.verdict, c.in_ok-verdict.after) (sym c.verdict_for.ensures ∙ c.in_ok-verdict.was) in
    held_as (state_of c.args.self.now) c.args.imsi r c.in_ok-verdict.after (sym c.record_of.ensures ∙ c.in-Some.is) (ap whose is ∙ settled_whose r)

pub keep-requires-clause-fits : goal.keep-requires-clause-fits
keep-requires-clause-fits c =
    let s = state_of c.args.self.now in
    let vs = vlrs_of s in
    let r = c.in-Some.context in
    let is : c.in_ok-verdict.after ≡ settled r = settle_moved _ r.errand r (c.in_ok-verdict.verdict, c.in_ok-verdict.after) (sym c.verdict_for.ensures ∙ c.in_ok-verdict.was) in
    let fit = fits_at vs s.records c.args.imsi r c.args.self.now.fit (sym c.record_of.ensures ∙ c.in-Some.is) in
    ap (fits_in vs) is ∙ fits_settled vs r fit
