-- The codes of classes and kinds.
use Rattle.std.specs.Prelude.{ℕ, Bool, true, false, if◌then◌else◌, Some, None, Option, ◌==◌}
use Rattle.elements.specs.declared.code.Class.{Class}
use Rattle.elements.specs.declared.code.Class.TheVariants as voice
use Rattle.elements.specs.declared.code.UpdateType.{UpdateType}
use Rattle.elements.specs.declared.code.UpdateType.TheVariants as update
use Rattle.context.specs.declared.class.ServiceClass.{ServiceClass}
use Rattle.context.specs.declared.class.ServiceClass.TheVariants as class
use Rattle.context.specs.declared.kind.RequestKind.{RequestKind}
use Rattle.context.specs.declared.kind.RequestKind.TheVariants as kind
use Rattle.context.specs.declared.kind.DetachKind.{DetachKind}
use Rattle.context.specs.declared.kind.DetachKind.TheVariants as detach

-- the one of three cases with the code 1, 2 or 3
abbrev pub third_of : {X : Type 0} → X → X → X → ℕ → Option X
third_of a b c n = if n == 1 then Some a else if n == 2 then Some b else if n == 3 then Some c else None

-- the class with a code
abbrev pub class_in : ℕ → Option ServiceClass
class_in = third_of class.A class.B class.C

-- the kind of request with a code
abbrev pub request_kind_in : ℕ → Option RequestKind
request_kind_in = third_of kind.CombinedAttach kind.ImsiAttach kind.AreaChange

-- the kind of detach with a code
abbrev pub detach_kind_in : ℕ → Option DetachKind
detach_kind_in n =
    if n == 1 then Some detach.ByMobile
    else if n == 2 then Some detach.ByNetwork
    else if n == 3 then Some detach.Imsi
    else if n == 4 then Some detach.ImsiAndGprs
    else if n == 5 then Some detach.SwitchedOff
    else None

-- the class with which a mobile has voice service
abbrev pub voice_class : ServiceClass → Option Class
voice_class class.A = Some voice.A
voice_class class.B = Some voice.B
voice_class class.C = None

-- the mobile gets packet service by it, too
abbrev pub attaches : RequestKind → Bool
attaches kind.CombinedAttach = true
attaches k = false

-- how a location update names it
abbrev pub update_type : RequestKind → UpdateType
update_type kind.AreaChange = update.Normal
update_type k = update.ImsiAttach
