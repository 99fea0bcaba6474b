-- The program of a number.
use Rattle.std.specs.Prelude.{ℕ, Bool, zero, suc, ◌+◌, ◌-◌, ◌*◌, ◌/◌, ◌%◌, ◌&&◌, nat_eq, nat_lt, if◌then◌else◌, List, [], ◌++◌, codes}
use Rattle.std.specs.List.{flat_map, range_with_len}
use Rattle.std.specs.Fmt.{decimal}
use Rattle.made_program.specs.declared.draws.BodyKind.{BodyKind}
use Rattle.made_program.specs.declared.draws.BodyKind.TheVariants.{Mean, Greater, Difference, Weighted}
use Rattle.made_program.specs.declared.draws.Draws.{Draws}
use Rattle.made_program.specs.declared.draws.DrawnOffset.{DrawnOffset}
use Rattle.made_program.specs.Draws.{draws_of, after}

-- the width of the frame
abbrev pub width_of : ℕ → ℕ
width_of n = 1 + n % 256

-- the height of the frame
abbrev pub height_of : ℕ → ℕ
height_of n = 1 + n / 256 % 256

-- the number of definitions
abbrev pub count_of : ℕ → ℕ
count_of n = 1 + n / 65536 % 64

-- the state in which the first number is drawn
abbrev pub seed_of : ℕ → ℕ
seed_of n = n % 65536

-- the step that a draw below 5 denotes, which is 2 less than it; nothing for 0
abbrev pub step : ℕ → List ℕ
step number = if nat_eq number 0 then codes "-2" else (if nat_eq number 1 then codes "-1" else (if nat_eq number 3 then codes "+1" else (if nat_eq number 4 then codes "+2" else [])))

-- the name of an image: `a` for the input, image 0
abbrev pub name : ℕ → List ℕ
name zero = codes "a"
name (suc k) = codes "i" ++ decimal (suc k)

-- a read of an image
abbrev pub read : (image : ℕ) → DrawnOffset → List ℕ
read image offset = name image ++ (codes "(x" ++ (step offset.dx ++ (codes ",y" ++ (step offset.dy ++ codes ")"))))

-- the body of a kind over two reads
abbrev pub body : BodyKind → (first second : List ℕ) → List ℕ
body Mean first second = codes "((" ++ (first ++ (codes "+" ++ (second ++ codes ")/2) as u8")))
body Greater first second = codes "max(" ++ (first ++ (codes "," ++ (second ++ codes ")")))
body Difference first second = codes "abs(" ++ (first ++ (codes "-" ++ (second ++ codes ") as u8")))
body Weighted first second = codes "select(" ++ (first ++ (codes "<" ++ (second ++ (codes "," ++ (first ++ (codes ",(" ++ (first ++ (codes "*3+" ++ (second ++ codes ")>>2) as u8")))))))))

-- Image k, of `last` in all, is inline: it may be, and it is not the last one.
abbrev pub is_inline : (k last : ℕ) → Draws → Bool
is_inline k last d = d.inlinable && nat_lt k last

-- the word or the words with which a definition begins
abbrev pub opening : Bool → List ℕ
opening inline = if inline then codes "inline let " else codes "let "

-- the definition of image k with these draws: it reads the image before it, and the source
abbrev pub definition : (k last : ℕ) → Draws → List ℕ
definition k last d =
    opening (is_inline k last d) ++ (name k ++ (codes " = im(x,y) " ++ (body d.kind (read (k - 1) d.reads.first) (read d.reads.source d.reads.second) ++ codes " end\n")))

-- the definition of image k of a program: seven numbers were drawn for each image before it
abbrev pub definition_at : (last state k : ℕ) → List ℕ
definition_at last state k = definition k last (draws_of k (after (7 * (k - 1)) state))

-- the definitions of images 1 to `last`
abbrev pub definitions : (last state : ℕ) → List ℕ
definitions last state = flat_map (definition_at last state) (range_with_len 1 last)

-- the lines before the definitions
abbrev pub head_lines : (width height : ℕ) → List ℕ
head_lines width height = codes "size " ++ (decimal width ++ (codes " " ++ (decimal height ++ codes "\ninput a : u8\n")))

-- the line after the definitions: the output is the last image
abbrev pub output_line : ℕ → List ℕ
output_line last = codes "output " ++ (name last ++ codes "\n")

-- the program of number n
abbrev pub program_of : ℕ → List ℕ
program_of n = head_lines (width_of n) (height_of n) ++ (definitions (count_of n) (seed_of n) ++ output_line (count_of n))
