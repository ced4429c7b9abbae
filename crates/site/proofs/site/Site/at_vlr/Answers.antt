use Rattle.std.proofs.Common.{sym, ◌∙◌}
use Rattle.std.proofs.lemmas.List.{with_items_is}
use Rattle.sgsn.specs.State as sgsn
use Rattle.site.proofs.site.Site.at_vlr.Goals as goal

pub returns : goal.returns
returns g c =
    let long = c.make_by.ensures.long ∙ c.deref_mut.ensures.len in
    rw (c.deref_mut.ensures.value, sym (with_items_is c.args.self.now.vlrs c.make_by.new.vlrs long)) at (c.make_by.ensures.made (sgsn.state_of c.args.self.now.sgsn))
