-- What the two functions answer, and what they leave.
use Rattle.std.specs.Prelude.{ℕ, ◌+◌, ◌*◌, if◌then◌else◌, List, ◌++◌, length, drop, Ok, Err, Result, nat_lt}
use Rattle.elements.specs.declared.fault.Fault.{Fault}
use Rattle.elements.specs.Faults.{fault_number, and_then}
use Rattle.frames.specs.declared.frame.Frame.{Frame}
use Rattle.frames.specs.Format.{frame_in}
use Rattle.frames.specs.Writing.{frame_written, frame_left}
use Rattle.capi.specs.Rows.{row_of}
use Rattle.capi.specs.Taken.{frame_from}

-- a fault's number and its place
abbrev pub refusal_of : Fault → ℕ
refusal_of d = 256 * fault_number d.kind + (if nat_lt d.place 255 then d.place else 255)

abbrev pub field_count : ℕ
field_count = 15

abbrev pub too_few : ℕ
too_few = 256

abbrev pub read_reply : Result Frame Fault → ℕ
read_reply (Ok f) = 0
read_reply (Err d) = refusal_of d

-- the row in front, and every field behind it as it was
abbrev pub row_left : Result Frame Fault → List ℕ → List ℕ
row_left (Ok f) b = row_of f ++ drop field_count b
row_left (Err d) b = b

abbrev pub read_answer : List ℕ → List ℕ → ℕ
read_answer s b = if nat_lt (length b) field_count then too_few else read_reply (frame_in s)

abbrev pub read_fields : List ℕ → List ℕ → List ℕ
read_fields s b = if nat_lt (length b) field_count then b else row_left (frame_in s) b

abbrev pub write_reply : Result ℕ Fault → ℕ
write_reply (Ok n) = n
write_reply (Err d) = refusal_of d

abbrev pub buffer_left : Result Frame Fault → List ℕ → List ℕ
buffer_left (Ok f) b = frame_left f b
buffer_left (Err d) b = b

abbrev pub write_answer : List ℕ → List ℕ → ℕ
write_answer s b =
    if nat_lt (length s) field_count then too_few
    else write_reply (and_then (frame_from s) (λ f. frame_written f b))

abbrev pub write_buffer : List ℕ → List ℕ → List ℕ
write_buffer s b = if nat_lt (length s) field_count then b else buffer_left (frame_from s) b
