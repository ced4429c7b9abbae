use Rattle.std.proofs.Common.{sym, ◌∙◌}
use Rattle.site.proofs.OneVlr.{by_one, by_none}
use Rattle.site.proofs.registers.make_by.Goals as goal

pub returns-in-Some-clause-made : goal.returns-in-Some-clause-made
returns-in-Some-clause-made g c = by_one g.C.Carrier.takes g.C.Carrier.puts c.args.number c.args.call c.make_at.result c.in-Some.place c.args.vlrs.now c.make_at.new.vlrs c.args.carrier.now c.make_at.new.carrier (sym c.place_of.ensures ∙ c.in-Some.is) c.make_at.ensures.makes

pub returns-in-None-clause-made : goal.returns-in-None-clause-made
returns-in-None-clause-made g c = by_none g.C.Carrier.takes g.C.Carrier.puts c.args.number c.args.call c.args.vlrs.now c.args.carrier.now (sym c.place_of.ensures ∙ c.in-None.is)
