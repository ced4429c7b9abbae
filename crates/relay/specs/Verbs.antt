-- Which words are known, in small letters or capitals.
use Rattle.std.specs.Prelude.{◌≡◌, ℕ, List, map, Some, None, codes, Option, ◌≢◌}
use Rattle.std.specs.Char.{to_ascii_lowercase}
use Rattle.relay.specs.declared.verb.Verb.{Verb}
use Rattle.relay.specs.declared.verb.Verb.TheVariants.{Carrier, Put, Take}
use Rattle.relay.specs.declared.verb.Name.{Name}
use Rattle.relay.specs.declared.verb.Name.TheVariants.{Queue, Slip, Gate, Mailbox, Nowhere}

abbrev pub Asks : List ℕ → Option Verb → Type 0
Asks w (Some Carrier) = map to_ascii_lowercase w ≡ codes "carrier"
Asks w (Some Put) = map to_ascii_lowercase w ≡ codes "put"
Asks w (Some Take) = map to_ascii_lowercase w ≡ codes "take"
Asks w None = (map to_ascii_lowercase w ≢ codes "carrier") × (map to_ascii_lowercase w ≢ codes "put") × (map to_ascii_lowercase w ≢ codes "take")

abbrev pub Names : List ℕ → Option Name → Type 0
Names w (Some Queue) = map to_ascii_lowercase w ≡ codes "queue"
Names w (Some Slip) = map to_ascii_lowercase w ≡ codes "slip"
Names w (Some Gate) = map to_ascii_lowercase w ≡ codes "gate"
Names w (Some Mailbox) = map to_ascii_lowercase w ≡ codes "mailbox"
Names w (Some Nowhere) = map to_ascii_lowercase w ≡ codes "nowhere"
Names w None = (map to_ascii_lowercase w ≢ codes "queue") × (map to_ascii_lowercase w ≢ codes "slip") × (map to_ascii_lowercase w ≢ codes "gate") × (map to_ascii_lowercase w ≢ codes "mailbox") × (map to_ascii_lowercase w ≢ codes "nowhere")
