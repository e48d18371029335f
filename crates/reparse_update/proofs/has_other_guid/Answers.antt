-- `has_other_guid` meets its contract: two arrays of sixteen bytes are one if their numbers are.
use mathlib.Core.Path.{◌∙◌}
use native.Mathlib.Omega.{arith}
use Rattle.file_ids.proofs.Given.{array-id}
use Rattle.reparse_update.proofs.Input.{guid-decides}
use Rattle.reparse_update.proofs.has_other_guid.Goals as goal

-- the GUID is the seventh field of the file's record
pub returns : goal.returns
returns c =
    c.ne.ensures
    ∙ guid-decides c.args.f c.args.input.now _ (λ j. omega (arith, c.type_inv.input j)) c.requires (array-id _ _ c.well_formed.0.1.1.1.1.1.1.1.1.0)
    (c.if-f-tag_given.false ∙ c.tag_given.ensures) (omega arith) c.guid_given.ensures
