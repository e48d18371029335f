-- The number of each status, as [MS-ERREF] has it.
use Rattle.std.specs.Prelude.{ℕ}
use Rattle.status.specs.declared.Status.{Status}
use Rattle.status.specs.declared.Status.TheVariants.{Success, BufferOverflow, InvalidParameter, InvalidDeviceRequest, EndOfFile, BufferTooSmall, ObjectPathNotFound, UnknownRevision, DiskFull, NotSupported, FileCorruptError, NameTooLong, NotAReparsePoint, IoReparseTagInvalid, IoReparseTagMismatch, IoReparseDataInvalid, VolumeNotUpgraded, ReparseAttributeConflict, JournalDeleteInProgress, JournalNotActive, JournalEntryDeleted}

abbrev pub number : Status → ℕ
number Success = 0
number BufferOverflow = 0x80000005
number InvalidParameter = 0xC000000D
number InvalidDeviceRequest = 0xC0000010
number EndOfFile = 0xC0000011
number BufferTooSmall = 0xC0000023
number ObjectPathNotFound = 0xC000003A
number UnknownRevision = 0xC0000058
number DiskFull = 0xC000007F
number NotSupported = 0xC00000BB
number FileCorruptError = 0xC0000102
number NameTooLong = 0xC0000106
number NotAReparsePoint = 0xC0000275
number IoReparseTagInvalid = 0xC0000276
number IoReparseTagMismatch = 0xC0000277
number IoReparseDataInvalid = 0xC0000278
number VolumeNotUpgraded = 0xC000029C
number ReparseAttributeConflict = 0xC00002B2
number JournalDeleteInProgress = 0xC00002B7
number JournalNotActive = 0xC00002B8
number JournalEntryDeleted = 0xC00002CF
