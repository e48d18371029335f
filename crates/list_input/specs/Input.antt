-- What reading an input says of its buffer.
use Rattle.std.specs.Prelude.{◌≡◌, List, ℕ, length, take}

-- the first n bytes of a buffer are what was read of an input: all of it, or as much as the buffer takes
abbrev pub ReadInto : List ℕ → ℕ → List ℕ → Type 0
ReadInto buf n input = take n buf ≡ take (length buf) input
