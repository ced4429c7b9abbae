use Rattle.std.proofs.Common.{take, sym, ◌∙◌, ap}
use native.Mathlib.Nat.{sub-zero}
use Rattle.std.specs.List.{list_any}
use Rattle.elements.specs.Nodes.{same_node}
use Rattle.sgsn.proofs.Requests.{any_map}
use Rattle.sgsn.proofs.sgsn.Sgsn.has_vlr.Goals as goal

pub returns : goal.returns
returns c =
    let s = c.args.self.now in
    let v = c.args.vlr in
    c.is_one_of.ensures
    ∙ ap (λ n. list_any (λ p. same_node p.vlr.node v.node) (take n s.peers)) (sub-zero s.count)
    ∙ sym (any_map (λ w. same_node w.node v.node) (λ p. p.vlr) (take s.count s.peers))
