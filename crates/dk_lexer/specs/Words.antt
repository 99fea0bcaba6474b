-- The words of the faults of a text.
use Rattle.std.specs.Prelude.{ℕ, List, codes}
use Rattle.dk_lexer.specs.declared.fault.LexKind.{LexKind}
use Rattle.dk_lexer.specs.declared.fault.LexKind.TheVariants.{BadByte, NumberTooGreat, NameTooLong}

-- the word of a fault, in its line and in messages
abbrev pub word_of : LexKind → List ℕ
word_of BadByte = codes "BadByte"
word_of NumberTooGreat = codes "NumberTooGreat"
word_of NameTooLong = codes "NameTooLong"
