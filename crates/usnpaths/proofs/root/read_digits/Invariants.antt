-- `read_digits` meets its contract: before each turn the id is the number of the digits before.
use Rattle.usnpaths.proofs.Digits.{Read}
use Rattle.usnpaths.proofs.root.read_digits.Given as goal

abbrev pub invariant-loop-b : goal.invariant-loop-b
invariant-loop-b l = Read l.s l.b-index l.id
