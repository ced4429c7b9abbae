-- A call leaves the mobile of the record that it changes.
use Rattle.std.proofs.Common.{◌≡◌, ℕ, Bool, true, false, Ok, Result, sym, ap, arith}
use Rattle.std.proofs.lemmas.Bool.Decides.{nat_tests}
use Rattle.elements.specs.declared.code.Class.{Class}
use Rattle.context.specs.declared.context.Context.{Context}
use Rattle.context.specs.declared.kind.DetachKind.{DetachKind}
use Rattle.context.specs.declared.kind.Request.{Request}
use Rattle.context.specs.declared.kind.RequestKind.{RequestKind}
use Rattle.context.specs.Contexts.{whose, idle}
use Rattle.context.specs.Detaching.{detached}
use Rattle.context.specs.Requesting.{requested}
use Rattle.context.specs.declared.errand.Errand.{Errand}
use Rattle.context.specs.declared.errand.Verdict.{Verdict}
use Rattle.context.specs.declared.errand.Errand.TheVariants as errand
use Rattle.context.specs.Ticking.{expired}
use Rattle.sgsn.specs.Settling.{settle_move}

-- the record when its reply was settled: what is open expires for the last time
abbrev pub settled_errand : Errand → Context → Context
settled_errand (errand.Open o) r = idle (expired o r)
settled_errand e r = idle r

abbrev pub settled : Context → Context
settled r = settled_errand r.errand r

pub requested_whose : (k : RequestKind) (c : Class) (q : Request) (n : ℕ) (r : Context) → whose (requested k c q n r).0 ≡ whose r
requested_whose k c q n r = grind (arith, nat_tests)

pub detached_whose : (k : DetachKind) (n : ℕ) (r : Context) → whose (detached k n r).0 ≡ whose r
detached_whose k n r = grind (arith, nat_tests)

ok_is : {X E : Type 0} (p q : X) → let r : Result X E = Ok p in r ≡ Ok q → p ≡ q
ok_is p q e = cc

pub settle_moved : (worn : Bool) (e : Errand) (r : Context) (m : Verdict × Context) → settle_move worn e r ≡ Ok m → m.1 ≡ settled_errand e r
settle_moved worn errand.Idle r m h = let no : ⊥ = cc in absurd no
settle_moved false (errand.Open o) r m h = let no : ⊥ = cc in absurd no
settle_moved true (errand.Open o) r m h = sym (ap (λ (x : Verdict × Context). x.1) (ok_is _ m h))
settle_moved worn (errand.Ended v) r m h = sym (ap (λ (x : Verdict × Context). x.1) (ok_is _ m h))

pub settled_whose : (r : Context) → whose (settled r) ≡ whose r
settled_whose r = grind (arith, nat_tests)
