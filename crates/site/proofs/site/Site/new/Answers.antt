use Rattle.std.proofs.Common.{◌≡◌, true, refl, Ok, sym, subst, take, map, ap, ◌-◌, ◌∙◌}
use Rattle.std.specs.List.{list_all}
use Rattle.frames.specs.Format.{lawful_nodes}
use native.Mathlib.Nat.{sub-zero}
use Rattle.sgsn.specs.State.{state_of, vlrs_of}
use Rattle.sgsn.specs.Making.{Made}
use Rattle.vlr.specs.Making.{new_state}
use Rattle.site.specs.Sites.{states_of}
use Rattle.site.proofs.Makes.{by_numbers, refused}
use Rattle.site.proofs.site.Site.new.Goals as goal

pub returns-in_err-vlrs : goal.returns-in_err-vlrs
returns-in_err-vlrs g c =
    let sgsn = c.in_ok-sgsn.sgsn in
    let made : Made c.args.number c.args.vlrs.now (Ok sgsn) = c.in_ok-sgsn.ensures in
    let all : list_all (λ p. lawful_nodes sgsn.sender.own p.vlr.node) (take (sgsn.count - 0) sgsn.peers) ≡ true = rw (sym (sub-zero sgsn.count)) at sgsn.nodes in
    let nodes = subst (λ n. list_all (λ p. lawful_nodes n p.vlr.node) (take (sgsn.count - 0) sgsn.peers) ≡ true) (ap (λ s. s.own) made.2) all in
    let memory = c.in_err-vlrs.ensures.only_memory nodes in
    refused g.C.Carrier.waiting c.args.number c.args.vlrs.now c.args.carrier c.from_residual-in_err-vlrs.result c.in_err-vlrs.field-0.0 c.from_residual-in_err-vlrs.ensures.1 memory made.0

pub returns : goal.returns
returns g c =
    let made : Made c.args.number c.args.vlrs.now (Ok c.in_ok-sgsn.sgsn) = c.in_ok-sgsn.ensures in
    let sgsn = c.in_ok-sgsn.sgsn in
    let registers : states_of c.in_ok-vlrs.vlrs.items ≡ map (λ p. new_state p.vlr c.args.number) (take sgsn.count sgsn.peers) = rw (sub-zero sgsn.count) at c.in_ok-vlrs.ensures.made in (
      made.0,
      refl,
      λ e. record {
        number = c.args.number;
        given = c.args.vlrs.now;
        numbers = vlrs_of (state_of sgsn);
        lawful = made.0;
        risen = made.1;
        sgsn = made.2;
        vlrs = registers ∙ by_numbers (λ n. new_state n c.args.number) (take sgsn.count sgsn.peers);
        empty = e;
      },
    )
