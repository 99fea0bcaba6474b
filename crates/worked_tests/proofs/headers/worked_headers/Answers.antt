use Rattle.std.proofs.Common.{[], ◌∷◌, ◌++◌, refl, arith}
use Rattle.std.specs.Prelude.{codes, replicate}
use Rattle.pgm_codec.specs.declared.header.HeaderFault.TheVariants.{Magic, Number, Range}
use Rattle.pgm_codec.specs.Headers.{capped}
use Rattle.worked_tests.proofs.Rows.{reads, refuses, ends}
use Rattle.worked_tests.proofs.headers.worked_headers.Goals as goal

pub returns-clause-plain : goal.returns-clause-plain
unfolding capped
returns-clause-plain c = reads (codes "P5\n3 1\n255") 10 [] (record { width = 3; height = 1; maxval = 255; length = 11 }) tt (omega arith) refl

pub returns-clause-comments : goal.returns-clause-comments
unfolding capped
returns-clause-comments c = reads (codes "P5\n# c\n3 #x\n#y\n1\n255") 10 [] (record { width = 3; height = 1; maxval = 255; length = 21 }) tt (omega arith) refl

pub returns-clause-raster_behind : goal.returns-clause-raster_behind
unfolding capped
returns-clause-raster_behind c = reads (codes "P5 1 1 65535") 10 (1 ∷ 2 ∷ []) (record { width = 1; height = 1; maxval = 65535; length = 13 }) tt (omega arith) refl

pub returns-clause-tabs_and_returns : goal.returns-clause-tabs_and_returns
unfolding capped
returns-clause-tabs_and_returns c = reads (codes "P5" ++ 9 ∷ codes "007" ++ 13 ∷ codes "0\n001") 32 [] (record { width = 7; height = 0; maxval = 1; length = 13 }) tt (omega arith) refl

pub returns-clause-one_white_byte : goal.returns-clause-one_white_byte
unfolding capped
returns-clause-one_white_byte c = reads (codes "P5 1 1 255") 13 (10 ∷ []) (record { width = 1; height = 1; maxval = 255; length = 11 }) tt (omega arith) refl

pub returns-clause-great_sides : goal.returns-clause-great_sides
unfolding capped
returns-clause-great_sides c = reads (codes "P5 4294967295 4294967296 1") 10 [] (record { width = 4294967295; height = 4294967295; maxval = 1; length = 27 }) tt (omega arith) refl

pub returns-clause-hundred_digits : goal.returns-clause-hundred_digits
unfolding capped
returns-clause-hundred_digits c = reads (codes "P5 " ++ replicate 100 57 ++ codes " 1 1") 10 [] (record { width = 4294967295; height = 1; maxval = 1; length = 108 }) tt (omega arith) refl

pub returns-clause-nothing : goal.returns-clause-nothing
unfolding capped
returns-clause-nothing c = ends ([]) Magic tt (omega arith) refl

pub returns-clause-letter : goal.returns-clause-letter
unfolding capped
returns-clause-letter c = ends (codes "P") Magic tt (omega arith) refl

pub returns-clause-magic_alone : goal.returns-clause-magic_alone
unfolding capped
returns-clause-magic_alone c = ends (codes "P5") (Number 2) tt (omega arith) refl

pub returns-clause-open_end : goal.returns-clause-open_end
unfolding capped
returns-clause-open_end c = ends (codes "P5 3 1 0") (Number 8) tt (omega arith) refl

pub returns-clause-other_magic : goal.returns-clause-other_magic
unfolding capped
returns-clause-other_magic c = refuses (codes "P") 54 (codes "\n3 1\n255\n") Magic tt (omega arith) refl

pub returns-clause-no_gap : goal.returns-clause-no_gap
unfolding capped
returns-clause-no_gap c = refuses (codes "P5") 35 (codes "c\n3 1 1\n") (Number 2) tt (omega arith) refl

pub returns-clause-no_digit : goal.returns-clause-no_digit
unfolding capped
returns-clause-no_digit c = refuses (codes "P5 3 ") 120 [] (Number 5) tt (omega arith) refl

pub returns-clause-comment_behind_maxval : goal.returns-clause-comment_behind_maxval
unfolding capped
returns-clause-comment_behind_maxval c = refuses (codes "P5\n3 1\n255") 35 (codes "c\n") (Number 10) tt (omega arith) refl

pub returns-clause-form_feed : goal.returns-clause-form_feed
unfolding capped
returns-clause-form_feed c = refuses (codes "P5") 12 (codes "3 1 1\n") (Number 2) tt (omega arith) refl

pub returns-clause-zero : goal.returns-clause-zero
unfolding capped
returns-clause-zero c = refuses (codes "P5 3 1 0") 10 [] (Range 7) tt (omega arith) refl

pub returns-clause-too_great : goal.returns-clause-too_great
unfolding capped
returns-clause-too_great c = refuses (codes "P5 3 1  065536") 10 [] (Range 8) tt (omega arith) refl
