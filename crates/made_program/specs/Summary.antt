-- the line that reports a number.
use Rattle.std.specs.Prelude.{ℕ, List, ◌++◌, codes}
use Rattle.std.specs.Fmt.{decimal}
use Rattle.made_program.specs.Programs.{width_of, height_of}

-- a word with its blanks, and a number
abbrev pub figure : (word : List ℕ) (number : ℕ) → List ℕ
figure word number = word ++ decimal number

-- number, size, kept images without the input, live reads, bits, latency, and the sum of the output's samples
abbrev pub summary : (n images reads bits latency total : ℕ) → List ℕ
summary n images reads bits latency total =
    figure (codes "make ") n ++ (figure (codes ": size ") (width_of n) ++ (figure (codes " ") (height_of n)
    ++ (figure (codes " images ") images ++ (figure (codes " reads ") reads
    ++ (figure (codes " bits ") bits ++ (figure (codes " latency ") latency ++ (figure (codes " sum ") total ++ codes "\n")))))))
