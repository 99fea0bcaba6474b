-- Each reserved word is in the list, and is read as itself.
use Rattle.std.proofs.Common.{◌≡◌, Some, refl, arith}
use Rattle.std.specs.List.{Contains}
use Rattle.source_words.specs.declared.word.Keyword.{Keyword}
use Rattle.source_words.specs.declared.word.Keyword.TheVariants.{Size, Input, Let, Inline, Im, End, Output, As, Select, Min, Max, Abs, Sat, X, Y, Edge, Clamp}
use Rattle.source_words.specs.Words.{spelling_of, keywords, keyword_of}

pub spelt : (k : Keyword) → keyword_of (spelling_of k) ≡ Some k
spelt Size = refl
spelt Input = refl
spelt Let = refl
spelt Inline = refl
spelt Im = refl
spelt End = refl
spelt Output = refl
spelt As = refl
spelt Select = refl
spelt Min = refl
spelt Max = refl
spelt Abs = refl
spelt Sat = refl
spelt X = refl
spelt Y = refl
spelt Edge = refl
spelt Clamp = refl

pub listed : (k : Keyword) → Contains keywords k
listed Size = (0, omega arith, refl)
listed Input = (1, omega arith, refl)
listed Let = (2, omega arith, refl)
listed Inline = (3, omega arith, refl)
listed Im = (4, omega arith, refl)
listed End = (5, omega arith, refl)
listed Output = (6, omega arith, refl)
listed As = (7, omega arith, refl)
listed Select = (8, omega arith, refl)
listed Min = (9, omega arith, refl)
listed Max = (10, omega arith, refl)
listed Abs = (11, omega arith, refl)
listed Sat = (12, omega arith, refl)
listed X = (13, omega arith, refl)
listed Y = (14, omega arith, refl)
listed Edge = (15, omega arith, refl)
listed Clamp = (16, omega arith, refl)
