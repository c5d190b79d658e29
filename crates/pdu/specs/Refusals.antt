-- The refusals: each has a number for programs and a phrase for people.
use Rattle.std.specs.Prelude.{ℕ, List, codes}
use Rattle.pdu.specs.declared.refusal.Refusal.{Refusal}
use Rattle.pdu.specs.declared.refusal.Refusal.TheVariants.{NotTenBytes, CheckDiffers, TypeNotZero, ReservedMessage, PayloadsTooLong, OutOfRange, LeftoverBitSet, UnlawfulFrame, TextLength, TextByte, BufferShort, NothingThere, HeadSettingOrPlace, RecordingVersion, RecordingLength}

-- The number of each refusal.
abbrev pub number_of : Refusal → ℕ
number_of NotTenBytes = 11
number_of CheckDiffers = 12
number_of TypeNotZero = 13
number_of ReservedMessage = 14
number_of PayloadsTooLong = 15
number_of OutOfRange = 16
number_of LeftoverBitSet = 17
number_of UnlawfulFrame = 18
number_of TextLength = 19
number_of TextByte = 20
number_of BufferShort = 21
number_of NothingThere = 22
number_of HeadSettingOrPlace = 23
number_of RecordingVersion = 24
number_of RecordingLength = 25

-- What each refusal says to a person, as ASCII bytes.
abbrev pub phrase_of : Refusal → List ℕ
phrase_of NotTenBytes = codes "a PDU has ten bytes"
phrase_of CheckDiffers = codes "the check differs"
phrase_of TypeNotZero = codes "the type bit is 1"
phrase_of ReservedMessage = codes "the message number is reserved"
phrase_of PayloadsTooLong = codes "the payloads exceed 54 bits"
phrase_of OutOfRange = codes "a field is out of range"
phrase_of LeftoverBitSet = codes "a leftover bit is set"
phrase_of UnlawfulFrame = codes "the frame breaks its layout"
phrase_of TextLength = codes "the text's length is not allowed"
phrase_of TextByte = codes "the text has a byte that is not allowed"
phrase_of BufferShort = codes "the buffer is too short"
phrase_of NothingThere = codes "there is nothing to show"
phrase_of HeadSettingOrPlace = codes "the head, the setting or the place is not allowed"
phrase_of RecordingVersion = codes "the recording's version is missing or unknown"
phrase_of RecordingLength = codes "the recording's count or length is wrong"
