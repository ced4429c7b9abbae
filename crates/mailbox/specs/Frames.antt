-- Which octets a mailbox notes: those of a frame that reads, with its message.
use Rattle.std.specs.Prelude.{ℕ, Bool, if◌then◌else◌, List, is_ok, Some, None, Option}
use Rattle.frames.specs.Format.{frame_in}

abbrev pub is_frame : List ℕ → Bool
is_frame o = is_ok (frame_in o)

abbrev pub legible : List ℕ → Option (List ℕ)
legible o = if is_frame o then Some o else None
