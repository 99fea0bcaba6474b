-- The words of the faults of names and types.
use Rattle.std.specs.Prelude.{ℕ, List, codes}
use Rattle.dk_types.specs.declared.fault.TypeFaultKind.{TypeFaultKind}
use Rattle.dk_types.specs.declared.fault.TypeFaultKind.TheVariants.{SizeRange, InputType, TooManyInputs, TooManyOutputs, TooManyImages, DuplicateName, UnknownImage, OffsetRange, WidthTooGreat, NotOneBit, SignedBits, ZeroDivisor, ShiftRange, NotConvertible, OutputType}

-- the word of a fault, in its line and in messages
abbrev pub word_of : TypeFaultKind → List ℕ
word_of SizeRange = codes "SizeRange"
word_of InputType = codes "InputType"
word_of TooManyInputs = codes "TooManyInputs"
word_of TooManyOutputs = codes "TooManyOutputs"
word_of TooManyImages = codes "TooManyImages"
word_of DuplicateName = codes "DuplicateName"
word_of UnknownImage = codes "UnknownImage"
word_of OffsetRange = codes "OffsetRange"
word_of WidthTooGreat = codes "WidthTooGreat"
word_of NotOneBit = codes "NotOneBit"
word_of SignedBits = codes "SignedBits"
word_of ZeroDivisor = codes "ZeroDivisor"
word_of ShiftRange = codes "ShiftRange"
word_of NotConvertible = codes "NotConvertible"
word_of OutputType = codes "OutputType"
