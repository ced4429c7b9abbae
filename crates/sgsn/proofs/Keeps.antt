-- A mobile's record stays its own, and has its place.
use Rattle.std.proofs.Common.{◌≡◌, ℕ, true, is_some, Some, Option, ap, ◌∙◌, arith}
use Rattle.std.proofs.lemmas.Bool.Decides.{nat_tests}
use Rattle.imsi.specs.declared.Imsi.{Imsi}
use Rattle.directory.proofs.Lookups.{at-whose}
use Rattle.elements.specs.declared.node.VlrNumber.{VlrNumber}
use Rattle.messages.specs.declared.message.Message.{Message}
use Rattle.context.specs.declared.context.Context.{Context}
use Rattle.context.specs.Contexts.{whose, doubtful_at}
use Rattle.context.specs.Answering.{answered}
use Rattle.context.specs.Paging.{paged}
use Rattle.sgsn.specs.State.{State, record_at}

pub held_as : (s : State) (i : Imsi) (r new : Context) → record_at s i ≡ Some r → whose new ≡ whose r → is_some (record_at s (whose new)) ≡ true
held_as s i r new e same = ap (λ j. is_some (record_at s j)) (same ∙ at-whose whose s.records i r e) ∙ ap is_some e

pub answered_whose : (v : VlrNumber) (n : ℕ) (reset : Option ℕ) (m : Message) (r : Context) → whose (answered v n reset m r) ≡ whose r
answered_whose v n reset m r = grind (arith, nat_tests)

pub paged_whose : (v : VlrNumber) (n : ℕ) (r : Context) → whose (paged v n r).0 ≡ whose r
paged_whose v n r = grind (arith, nat_tests)

pub doubtful_whose : (v : VlrNumber) (r : Context) → whose (doubtful_at v r) ≡ whose r
doubtful_whose v r = grind (arith, nat_tests)
