-- What a control replies, and what the caller then sees of it.
use Rattle.std.specs.Prelude.{◌≡◌, List, [], ◌++◌, ℕ, length, drop, Result, Ok, Err, Option, None, Some}
use Rattle.status.specs.declared.Status.{Status}
use Rattle.status.specs.declared.Status.TheVariants.{Success}
use Rattle.status.specs.declared.Answer.{Answer}

-- a refusal, or a status with the bytes written to the output
pub data Reply : Type 0 where
  refuse : Status → Reply
  give : Status → List ℕ → Reply

-- the checks come before the reply
abbrev pub guard : Option Status → Reply → Reply
guard None reply = reply
guard (Some x) reply = refuse x

-- status and count: a refusal reports no bytes
abbrev pub answer : Reply → Answer
answer (refuse x) = record { status = x; count = 0 }
answer (give x bytes) = record { status = x; count = length bytes }

-- the answer of a call that wrote so many bytes, or is refused
abbrev pub told : Result ℕ Status → Answer
told (Ok n) = record { status = Success; count = n }
told (Err x) = record { status = x; count = 0 }

-- the output buffer: the bytes, and behind them what stood there; a refusal leaves it
abbrev pub after : Reply → List ℕ → List ℕ
after (refuse x) out = out
after (give x bytes) out = bytes ++ drop (length bytes) out

-- the reply's bytes
abbrev pub written : Reply → List ℕ
written (refuse x) = []
written (give x bytes) = bytes

-- a call that gave r, and took its output buffer from `old` to `new`, replied so
pub record Replied (reply : Reply) (r : Answer) (old new : List ℕ) : Type 0 where
  pub answered : r ≡ answer reply
  pub output : new ≡ after reply old
