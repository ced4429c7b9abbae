-- The faults: numbers, layers, and how one reading follows another.
use Rattle.std.specs.Prelude.{ℕ, Some, None, Ok, Err, Option, Result}
use Rattle.elements.specs.declared.fault.FaultKind.{FaultKind}
use Rattle.elements.specs.declared.fault.FaultKind.TheVariants as kind
use Rattle.elements.specs.declared.fault.Layer.{Layer}
use Rattle.elements.specs.declared.fault.Layer.TheVariants as layer
use Rattle.elements.specs.declared.fault.Fault.{Fault}

abbrev pub fault_number : FaultKind → ℕ
fault_number kind.FrameSize = 20
fault_number kind.Nodes = 21
fault_number kind.Stamp = 22
fault_number kind.MessageType = 23
fault_number kind.Identifier = 24
fault_number kind.Length = 25
fault_number kind.Contents = 26
fault_number kind.Trailing = 27
fault_number kind.Buffer = 28

abbrev pub fault_layer : FaultKind → Layer
fault_layer kind.FrameSize = layer.Frame
fault_layer kind.Nodes = layer.Frame
fault_layer kind.Stamp = layer.Frame
fault_layer kind.MessageType = layer.Message
fault_layer kind.Identifier = layer.Message
fault_layer kind.Length = layer.Message
fault_layer kind.Contents = layer.Message
fault_layer kind.Trailing = layer.Message
fault_layer kind.Buffer = layer.Frame

-- a fault of this kind at this place
abbrev pub wrong : {X : Type 0} → FaultKind → ℕ → Result X Fault
wrong k p = Err (record { kind = k; place = p })

-- the second reading where the first is right, else the first's fault
abbrev pub and_then : {X Y : Type 0} → Result X Fault → (X → Result Y Fault) → Result Y Fault
and_then (Ok x) f = f x
and_then (Err e) f = Err e

-- what was found, or unlawful contents at this place
abbrev pub lawful_or : {X : Type 0} → Option X → ℕ → Result X Fault
lawful_or (Some x) p = Ok x
lawful_or None p = wrong kind.Contents p
