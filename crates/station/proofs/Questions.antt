-- A call that is not denied had each question answered by yes.
use Rattle.std.proofs.Common.{◌≡◌, ℕ, Bool, true, false, not, Some, None, Option, Ok, Err, Result, refl}
use Rattle.station.specs.declared.denial.Denial.{Denial}
use Rattle.station.specs.declared.denial.Denial.TheVariants as denial
use Rattle.station.specs.Calls.{ask, ask_for, unless_worn}
use Rattle.station.specs.Sends.{is_worn}

err_ok : {X E : Type 0} (d : E) (p : X) → Err d ≡ Ok p → ⊥
err_ok d p e = cc

pub granted : {X : Type 0} (b : Bool) (d : Denial) (others : Result X Denial) (p : X) → ask b d others ≡ Ok p → (b ≡ true) × (others ≡ Ok p)
granted true d others p e = (refl, e)
granted false d others p e = absurd (err_ok d p e)

pub found : {X Y : Type 0} (o : Option X) (d : Denial) (others : X → Result Y Denial) (p : Y) → ask_for o d others ≡ Ok p → (x : X) × (o ≡ Some x) × (others x ≡ Ok p)
found None d others p e = absurd (err_ok d p e)
found (Some x) d others p e = (x, refl, e)

pub planned : {X : Type 0} (p q : X) → let r : Result X Denial = Ok p in r ≡ Ok q → p ≡ q
planned p q e = cc

pub unworn : {X : Type 0} (last : ℕ) (others : Result X Denial) (q : X) → unless_worn last others ≡ Ok q → others ≡ Ok q
unworn last others q e = (granted (not (is_worn last)) denial.Worn others q e).1
