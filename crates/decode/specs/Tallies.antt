-- How lines are counted.
use Rattle.std.specs.Prelude.{ℕ, ◌-◌, List, Ok, Err, Result, replicate, slice_index, slice_set}
use Rattle.elements.specs.Faults.{fault_number}
use Rattle.frames.specs.declared.frame.Frame.{Frame}
use Rattle.decode.specs.declared.outcome.Refusal.{Refusal}
use Rattle.decode.specs.declared.outcome.Refusal.TheVariants as refusal
use Rattle.decode.specs.declared.tally.Tally.{Tally}
use Rattle.words.specs.Counting.{one_more}

-- one more at a place of a list
abbrev pub one_more_at : List ℕ → ℕ → List ℕ
one_more_at ns k = slice_set ns k (one_more (slice_index ns k))

abbrev pub no_lines : Tally
no_lines = record { frames = 0; faults = replicate 9 0; bad_lines = 0 }

-- an outcome raises its own count and no other; the faults' counts begin with that of fault 20
abbrev pub noted : Tally → Result Frame Refusal → Tally
noted t (Ok f) = record t { frames = one_more t.frames }
noted t (Err (refusal.Fault e)) = record t { faults = one_more_at t.faults (fault_number e.kind - 20) }
noted t (Err (refusal.Line b)) = record t { bad_lines = one_more t.bad_lines }
