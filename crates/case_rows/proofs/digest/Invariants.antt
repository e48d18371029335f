-- `digest` meets its contract: the digest of the rest from here equals the digest of the whole.
use mathlib.Core.Path.{◌≡◌}
use lib.ListN.{drop}
use Rattle.case_rows.specs.Rows.{digest_from}
use Rattle.case_rows.proofs.digest.Given as goal

abbrev pub invariant-loop-byte : goal.invariant-loop-byte
invariant-loop-byte l = digest_from l.d (drop l.byte-index l.s) ≡ digest_from 1 l.s
