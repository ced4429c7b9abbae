-- What a line says.
use Rattle.std.specs.Prelude.{ℕ, Bool, if◌then◌else◌, ◌&&◌, List, length, Some, None, Ok, Err, Option, Result, ◌==◌, nat_lt, slice_index}
use Rattle.elements.specs.declared.fault.Fault.{Fault}
use Rattle.frames.specs.declared.frame.Frame.{Frame}
use Rattle.frames.specs.Format.{frame_in}
use Rattle.words.specs.declared.line.BadLine.{BadLine}
use Rattle.words.specs.Hexadecimal.{octets_in}
use Rattle.decode.specs.declared.outcome.Refusal.{Refusal}
use Rattle.decode.specs.declared.outcome.Refusal.TheVariants as refusal

-- the first character is #
abbrev pub is_comment : List ℕ → Bool
is_comment line = nat_lt 0 (length line) && slice_index line 0 == 35

abbrev pub told : Result Frame Fault → Result Frame Refusal
told (Ok f) = Ok f
told (Err e) = Err (refusal.Fault e)

-- no octets say nothing
abbrev pub read_in : List ℕ → Option (Result Frame Refusal)
read_in octets = if length octets == 0 then None else Some (told (frame_in octets))

abbrev pub read_line : Result (List ℕ) BadLine → Option (Result Frame Refusal)
read_line (Ok octets) = read_in octets
read_line (Err bad) = Some (Err (refusal.Line bad))

abbrev pub outcome_in : List ℕ → Option (Result Frame Refusal)
outcome_in line = if is_comment line then None else read_line (octets_in 128 line)
