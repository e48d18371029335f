-- Checks in order: the first that applies decides.
use Rattle.std.specs.Prelude.{Bool, true, false, Result, Ok, Err, Option, None, Some}
use Rattle.status.specs.declared.Status.{Status}

-- the status x unless the test holds
abbrev pub unless : Bool → Status → Option Status
unless true x = None
unless false x = Some x

-- the first of two checks that applies
abbrev pub else : Option Status → Option Status → Option Status
else None next = next
else (Some x) next = Some x

-- none applies
abbrev pub passes : Option Status → Bool
passes None = true
passes (Some x) = false

-- a value, unless a check refuses it
abbrev pub granted : {A : Type 0} → Option Status → A → Result A Status
granted None y = Ok y
granted (Some x) y = Err x

-- what the checks come to
abbrev pub judged : Option Status → Result (Unit {0}) Status
judged k = granted k tt
