-- A status's number tells the status.
-- Assumes nothing.
use mathlib.Core.Path.{◌≡◌, refl, sym, ap, ◌∙◌}
use mathlib.Core.Bool.{cond}
use Prim.Native.Nat.{ℕ}
use lib.Dec.{eqb}
use Rattle.status.specs.declared.Status.{Status}
use Rattle.status.specs.declared.Status.TheVariants.{Success, BufferOverflow, InvalidParameter, InvalidDeviceRequest, EndOfFile, BufferTooSmall, ObjectPathNotFound, UnknownRevision, DiskFull, NotSupported, FileCorruptError, NameTooLong, NotAReparsePoint, IoReparseTagInvalid, IoReparseTagMismatch, IoReparseDataInvalid, VolumeNotUpgraded, ReparseAttributeConflict, JournalDeleteInProgress, JournalNotActive, JournalEntryDeleted}
use Rattle.status.specs.Number.{number}

-- the status with this number
named : ℕ → Status
named n =
    cond (eqb n 0) Success
    (cond (eqb n 0x80000005) BufferOverflow
    (cond (eqb n 0xC000000D) InvalidParameter
    (cond (eqb n 0xC0000010) InvalidDeviceRequest
    (cond (eqb n 0xC0000011) EndOfFile
    (cond (eqb n 0xC0000023) BufferTooSmall
    (cond (eqb n 0xC000003A) ObjectPathNotFound
    (cond (eqb n 0xC0000058) UnknownRevision
    (cond (eqb n 0xC000007F) DiskFull
    (cond (eqb n 0xC00000BB) NotSupported
    (cond (eqb n 0xC0000102) FileCorruptError
    (cond (eqb n 0xC0000106) NameTooLong
    (cond (eqb n 0xC0000275) NotAReparsePoint
    (cond (eqb n 0xC0000276) IoReparseTagInvalid
    (cond (eqb n 0xC0000277) IoReparseTagMismatch
    (cond (eqb n 0xC0000278) IoReparseDataInvalid
    (cond (eqb n 0xC000029C) VolumeNotUpgraded
    (cond (eqb n 0xC00002B2) ReparseAttributeConflict
    (cond (eqb n 0xC00002B7) JournalDeleteInProgress
    (cond (eqb n 0xC00002B8) JournalNotActive JournalEntryDeleted)))))))))))))))))))

named-number : (x : Status) → named (number x) ≡ x
unfolding named
named-number Success = refl
named-number BufferOverflow = refl
named-number InvalidParameter = refl
named-number InvalidDeviceRequest = refl
named-number EndOfFile = refl
named-number BufferTooSmall = refl
named-number ObjectPathNotFound = refl
named-number UnknownRevision = refl
named-number DiskFull = refl
named-number NotSupported = refl
named-number FileCorruptError = refl
named-number NameTooLong = refl
named-number NotAReparsePoint = refl
named-number IoReparseTagInvalid = refl
named-number IoReparseTagMismatch = refl
named-number IoReparseDataInvalid = refl
named-number VolumeNotUpgraded = refl
named-number ReparseAttributeConflict = refl
named-number JournalDeleteInProgress = refl
named-number JournalNotActive = refl
named-number JournalEntryDeleted = refl

pub same-status : (x y : Status) → number x ≡ number y → x ≡ y
same-status x y e = sym (named-number x) ∙ ap named e ∙ named-number y
