-- Where the error of a result is no status, or there is none, its cases stand for a status's number and values.
use Rattle.std.specs.Prelude.{ℕ, List, [], ◌∷◌}
use Rattle.status.specs.declared.Status.{Status}
use Rattle.status.specs.Number.{number}

pub record Numbered : Type 0 where
  pub number : ℕ
  pub values : List ℕ

abbrev pub numbered : Status → List ℕ → Numbered
numbered x vs = record { number = number x; values = vs }
