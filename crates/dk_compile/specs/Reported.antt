-- The lines that report a text that was cut, narrowed or widened.
use Rattle.std.specs.Prelude.{◌≡◌, ◌≤◌, ℕ, ◌==◌, if◌then◌else◌, List, [], ◌++◌, length, flat_map, codes, decimal}
use Rattle.body_levels.specs.declared.reasons.Reason.{Reason}
use Rattle.body_levels.specs.declared.reasons.Reason.TheVariants.{Operator, Name, Limit, Moved, Unconfirmed}
use Rattle.body_levels.specs.declared.reasons.DeepBody.{DeepBody}
use Rattle.dk_compile.specs.declared.measures.Measures.{Measures}
use Rattle.dk_compile.specs.declared.widening.WideMeasures.{WideMeasures}
use Rattle.value_ranges.specs.declared.wider.WiderImage.{WiderImage}
use Rattle.dk_compile.specs.Compiled.{HasLeastBits}
use Rattle.dk_compile.specs.Narrowed.{AreWiderImages}
use Rattle.dk_compile.specs.NarrowLines.{wider_line}
use Rattle.dk_compile.specs.Cuts.{HasMeasures}
use Rattle.dk_compile.specs.Widened.{HasWideMeasures}

-- why a body has more levels than was asked
abbrev pub reason_word : Reason → List ℕ
reason_word Operator = codes "operator"
reason_word Name = codes "name"
reason_word Limit = codes "limit"
reason_word Moved = codes "moved"
reason_word Unconfirmed = codes "unconfirmed"

-- a definition's name and the reason
abbrev pub deep_words : DeepBody → List ℕ
deep_words b = codes " " ++ b.name ++ codes " " ++ reason_word b.reason

-- the line of the definitions of more levels than was asked; none if there are none
abbrev pub over_line : (most : ℕ) → List DeepBody → List ℕ
over_line most bs = if length bs == 0 then [] else codes "cut: over " ++ decimal most ++ codes ":" ++ flat_map deep_words bs ++ codes "\n"

-- the lines of a text that was cut: its definitions and the most levels of operators of a body; and what has more levels than was asked
abbrev pub cut_lines : (most : ℕ) → Measures → List ℕ
cut_lines most m = codes "cut: definitions " ++ decimal m.definitions ++ codes " levels " ++ decimal m.levels ++ codes "\n" ++ over_line most m.deep.items

-- the lines report the measures of the text
pub record AreCutLines (text : List ℕ) (most : ℕ) (lines : List ℕ) : Type 0 where
  pub measures : Measures
  pub measured : HasMeasures text most measures
  pub lines_are : lines ≡ cut_lines most measures

-- the first line of a text that was narrowed: its least buffer bits, and those of the source
abbrev pub narrow_line : (bits before : ℕ) → List ℕ
narrow_line bits before = codes "narrow: bits " ++ decimal bits ++ codes " from " ++ decimal before ++ codes "\n"

-- the lines report the least buffer bits of the text and of the source at age 0, and the images of the text that have more bits than the intervals of their values need
pub record AreNarrowLines (source text lines : List ℕ) : Type 0 where
  pub bits : ℕ
  pub before : ℕ
  pub wider : List WiderImage
  pub has : HasLeastBits text bits
  pub had : HasLeastBits source before
  pub fewer : bits ≤ before
  pub wider_are : AreWiderImages source text wider
  pub lines_are : lines ≡ narrow_line bits before ++ wider_line wider

-- the line of a text that was widened: its definitions, its least buffer bits, and those of the source
abbrev pub widen_line : WideMeasures → List ℕ
widen_line m = codes "widen: definitions " ++ decimal m.definitions ++ codes " bits " ++ decimal m.bits ++ codes " from " ++ decimal m.bits_before ++ codes "\n"

-- the line reports the definitions of the text, and the least buffer bits of the text and of the source at age 0
pub record IsWidenLine (source text line : List ℕ) : Type 0 where
  pub measures : WideMeasures
  pub measured : HasWideMeasures source text measures
  pub line_is : line ≡ widen_line measures
