use Rattle.std.proofs.Common.{◌≡◌, map, take}
use Rattle.vlr.specs.Making.{new_state}
use Rattle.site.specs.Sites.{states_of}
use Rattle.site.proofs.making.registers.Given as goal

abbrev pub invariant-loop-peer : goal.invariant-loop-peer
invariant-loop-peer l = states_of l.vlrs.items ≡ map (λ p. new_state p.vlr l.number) (take l.peer-index l.peers)
