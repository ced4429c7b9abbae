-- What the writer answers, and what it leaves in the buffer.
use Rattle.std.specs.Prelude.{◌≡◌, ℕ, ◌+◌, ◌≤◌, if◌then◌else◌, ◌&&◌, List, ◌++◌, length, take, drop, Ok, Result, nat_le}
use Rattle.elements.specs.declared.fault.Fault.{Fault}
use Rattle.elements.specs.declared.fault.FaultKind.TheVariants as kind
use Rattle.elements.specs.Faults.{wrong}
use Rattle.messages.specs.declared.message.Message.{Message}
use Rattle.messages.specs.declared.put.Writer.{Writer}
use Rattle.messages.specs.Lawful.{lawful_message}
use Rattle.messages.specs.Spelling.{octets_of}
use Rattle.messages.specs.Reading.{message_at}

-- a buffer after octets are written into it from a place on
abbrev pub overlaid : ℕ → List ℕ → List ℕ → List ℕ
overlaid at xs b = take at b ++ (xs ++ drop (at + length xs) b)

-- octets were written from a place on, and next is the place after them
pub record Wrote (at : ℕ) (xs before after : List ℕ) (next : ℕ) : Type 0 where
  pub next_at : next ≡ at + length xs
  pub octets : after ≡ overlaid at xs before

-- n more octets fit behind the writer's place
abbrev pub HasRoom : Writer → ℕ → Type 0
HasRoom w n = w.at + n ≤ length w.buffer.now

-- octets, n at most, were written from the writer's place on, and its place is now behind them
pub record Puts (n : ℕ) (xs : List ℕ) (before after : Writer) : Type 0 where
  pub few : length xs ≤ n
  pub wrote : Wrote before.at xs before.buffer.now after.buffer.now after.at
  pub long : length after.buffer.now ≡ length before.buffer.now
  pub same_buffer : after.buffer.ghost_name ≡ before.buffer.ghost_name

-- how many octets the buffer must have
abbrev pub buffer_size : ℕ
buffer_size = 64

-- the place after the message that is written from a place on, or the first fault
abbrev pub written_at : ℕ → Message → List ℕ → Result ℕ Fault
written_at at m b =
    if lawful_message m then (if nat_le buffer_size (length b) then Ok (at + length (octets_of m)) else wrong kind.Buffer 0)
    else wrong kind.Contents 0

-- the whole buffer afterwards
abbrev pub left_at : ℕ → Message → List ℕ → List ℕ
left_at at m b = if lawful_message m && nat_le buffer_size (length b) then overlaid at (octets_of m) b else b

-- reading what was written from a place on gives back the message, which has 31 octets at most
abbrev pub ReadBack : ℕ → Message → List ℕ → Result ℕ Fault → Type 0
ReadBack at m after r = (n : ℕ) → r ≡ Ok n → (message_at (take n after) at ≡ Ok m) × (n ≤ at + 31)
