-- Used by private functions only.
-- How a report's text is read, as functions on bytes.
use Rattle.std.specs.Prelude.{ℕ, ℤ, pos, neg_ℤ, suc, ◌-◌, ◌^◌, List, [], ◌∷◌, ◌++◌, length, take, drop, codes, Option, Some, None, Result, Ok, Err, Bool, true, false, ◌&&◌, ◌||◌, not, nat_lt, nat_eq, int_lt, if◌then◌else◌}
use Rattle.std.specs.List.{prefix_len, position_or_len}
use Rattle.std.specs.Ordering.{int_eq}
use Rattle.dk_base.specs.declared.stencils.LiveRead.{LiveRead}
use Rattle.dk_base.specs.declared.TheConstants.{MAX_SIDE, MAX_AGE, MAX_WIDTH}
use Rattle.report_text.specs.declared.report.ImageLine.{ImageLine}
use Rattle.report_text.specs.declared.report.FlowLine.{FlowLine}
use Rattle.report_text.specs.declared.report.FlowLine.TheVariants.{Hold, Start as StartFlow, Read, Keep}
use Rattle.report_text.specs.declared.step.Stage.{Stage}
use Rattle.report_text.specs.declared.step.Stage.TheVariants.{Start, Plan, Limits, Age, Size, Images, Latencies, Clocks, Bits, Reads, Flow, End}
use Rattle.dk_base.specs.Ascii.{is_digit, is_word_byte}
use Rattle.source_words.specs.Words.{is_name}
use Rattle.std.specs.Str.{bytes_eq}
use Rattle.dk_base.specs.Ascii.{value_of}
use Rattle.report_text.specs.Reports.{Report, kind, read_named, most_images, most_latencies}

infixl 10 ◌>>=◌
abbrev pub ◌>>=◌ : {A B : Type 0} → Option A → (A → Option B) → Option B
None >>= f = None
(Some x) >>= f = f x

-- the first of two that is there
abbrev pub or_else : {A : Type 0} → Option A → Option A → Option A
or_else None o = o
or_else (Some x) o = Some x

-- the bytes after a word
abbrev pub strip : List ℕ → List ℕ → Option (List ℕ)
strip [] bytes = Some bytes
strip (w ∷ word) [] = None
strip (w ∷ word) (b ∷ bytes) = if nat_eq w b then strip word bytes else None

-- an LF and nothing else
abbrev pub is_end : List ℕ → Bool
is_end [] = false
is_end (b ∷ []) = nat_eq b 10
is_end (b ∷ c ∷ bytes) = false

-- some digits, the first of several not 0
abbrev pub is_canonical : List ℕ → Bool
is_canonical [] = false
is_canonical (d ∷ []) = true
is_canonical (d ∷ e ∷ ds) = not (nat_eq d 48)

-- the number of digits that are written without leading zeros, below 2 ^ 64
abbrev pub numeral : List ℕ → Option ℕ
numeral ds = if is_canonical ds && nat_lt (value_of ds) (2 ^ 64) then Some (value_of ds) else None

-- a number at the front, and the bytes after it
unfoldable pub number_at : List ℕ → Option (ℕ × List ℕ)
number_at bytes = do
  v ← numeral (take (prefix_len is_digit bytes) bytes)
  Some (v, drop (prefix_len is_digit bytes) bytes)

-- an offset within a row or a column of the greatest frame, and no -0
abbrev pub unsigned_at : List ℕ → Option (ℤ × List ℕ)
unsigned_at bytes = do
  n ← number_at bytes
  if nat_lt (MAX_SIDE - 1) n.0 then None else Some (pos n.0, n.1)

abbrev pub negative_at : List ℕ → Option (ℤ × List ℕ)
negative_at bytes = do
  n ← number_at bytes
  if nat_eq n.0 0 || nat_lt (MAX_SIDE - 1) n.0 then None else Some (neg_ℤ (pos n.0), n.1)

abbrev pub offset_by : Option (List ℕ) → List ℕ → Option (ℤ × List ℕ)
offset_by None bytes = unsigned_at bytes
offset_by (Some rest) bytes = negative_at rest

unfoldable pub offset_at : List ℕ → Option (ℤ × List ℕ)
offset_at bytes = offset_by (strip (codes "-") bytes) bytes

-- the letters, digits and `_` at the front, and the bytes after them
abbrev pub word_at : List ℕ → List ℕ × List ℕ
word_at bytes = (take (prefix_len is_word_byte bytes) bytes, drop (prefix_len is_word_byte bytes) bytes)

-- a line of a word and one number, or two
unfoldable pub number_line_at : List ℕ → List ℕ → Option ℕ
number_line_at word line = do
  rest ← strip word line
  n ← number_at rest
  if is_end n.1 then Some n.0 else None

unfoldable pub pair_line_at : List ℕ → List ℕ → Option (ℕ × ℕ)
pair_line_at word line = do
  rest ← strip word line
  m ← number_at rest
  n ← number_line_at (codes " ") m.1
  Some (m.0, n)

-- a number of the range 1 to most
abbrev pub within : ℕ → ℕ → Bool
within most n = nat_lt 0 n && nat_lt n (suc most)

unfoldable pub image_at : List ℕ → Option ImageLine
image_at line = do
  rest ← strip (codes "image ") line
  after ← strip (codes " ") (word_at rest).1
  bits ← number_at after
  rows ← pair_line_at (codes " ") bits.1
  if is_name (word_at rest).0 && within MAX_WIDTH bits.0 then Some (record { name = (word_at rest).0; width = bits.0; delay = rows.0; depth = rows.1 }) else None

-- the place of the image line of this name
abbrev pub place_of : List ImageLine → List ℕ → ℕ
place_of images name = position_or_len (λ i. bytes_eq i.name name) images

abbrev pub find : List ImageLine → List ℕ → Option ℕ
find images name = if nat_lt (place_of images name) (length images) then Some (place_of images name) else None

-- a flow of at least 1
abbrev pub amount_at : List ℕ → Option ℕ
amount_at bytes = do
  n ← number_line_at (codes " ") bytes
  if nat_lt 0 n then Some n else None

-- after the words of a flow line: an image and a flow
unfoldable pub image_flow_at : (ℕ → ℕ → FlowLine) → List ImageLine → List ℕ → Option FlowLine
image_flow_at make images bytes = do
  g ← find images (word_at bytes).0
  n ← amount_at (word_at bytes).1
  Some (make g n)

-- after the words of a flow line: a read and a flow
unfoldable pub read_flow_at : (ℕ → ℕ → ℤ → ℤ → ℕ → FlowLine) → List ImageLine → List ℕ → Option FlowLine
read_flow_at make images bytes = do
  f ← find images (word_at bytes).0
  source ← strip (codes " ") (word_at bytes).1
  g ← find images (word_at source).0
  across ← strip (codes " ") (word_at source).1
  dx ← offset_at across
  down ← strip (codes " ") dx.1
  dy ← offset_at down
  n ← amount_at dy.1
  Some (make f g dx.0 dy.0 n)

unfoldable pub flow_at : List ImageLine → List ℕ → Option FlowLine
flow_at images line =
    or_else (strip (codes "flow hold ") line >>= image_flow_at Hold images)
    (or_else (strip (codes "flow start ") line >>= image_flow_at StartFlow images)
    (or_else (strip (codes "flow read ") line >>= read_flow_at Read images) (strip (codes "flow keep ") line >>= read_flow_at Keep images)))

-- the tests of the order of live reads and of flow lines
abbrev pub is_read_before : LiveRead → LiveRead → Bool
is_read_before a b = nat_lt a.f b.f || (nat_eq a.f b.f && (nat_lt a.g b.g || (nat_eq a.g b.g && (int_lt a.dy b.dy || (int_eq a.dy b.dy && int_lt a.dx b.dx)))))

abbrev pub is_before : FlowLine → FlowLine → Bool
is_before a b = nat_lt (kind a) (kind b) || (nat_eq (kind a) (kind b) && is_read_before (read_named a) (read_named b))

-- a flow line may follow these
abbrev pub follows : List FlowLine → FlowLine → Bool
follows [] x = true
follows (a ∷ []) x = is_before a x
follows (a ∷ b ∷ more) x = follows (b ∷ more) x

-- one line more of a kind
abbrev pub sized : Report → List ℕ → Option (Stage × Report)
sized r line = do
  x ← pair_line_at (codes "size ") line
  if within MAX_SIDE x.0 && within MAX_SIDE x.1 then Some (Size, record r { width = x.0; height = x.1 }) else None

abbrev pub imaged : Report → List ℕ → Option (Stage × Report)
imaged r line = do
  i ← image_at line
  if nat_lt (length r.images) (most_images r.version) && nat_eq (place_of r.images i.name) (length r.images) then Some (Images, record r { images = r.images ++ i ∷ [] }) else None

abbrev pub delayed : Report → List ℕ → Option (Stage × Report)
delayed r line = do
  n ← number_line_at (codes "latency ") line
  if nat_lt (length r.latencies) (most_latencies r.version) then Some (Latencies, record r { latencies = r.latencies ++ n ∷ [] }) else None

abbrev pub flowing : Report → List ℕ → Option (Stage × Report)
flowing r line = do
  x ← flow_at r.images line
  if follows r.flow x then Some (Flow, record r { flow = r.flow ++ x ∷ [] }) else None

abbrev pub ended : Report → List ℕ → Option (Stage × Report)
ended r line = if bytes_eq line (codes "end\n") && not (nat_eq r.version 1) then Some (End, r) else None

abbrev pub planned : Report → List ℕ → Option (Stage × Report)
planned r line = do
  v ← number_line_at (codes "plan ") line
  if nat_eq v 2 || nat_eq v 3 then Some (Plan, record r { version = v }) else None

abbrev pub aged : Report → List ℕ → Option (Stage × Report)
aged r line = do
  n ← number_line_at (codes "age ") line
  if nat_lt MAX_AGE n then None else Some (Age, record r { age = n })

abbrev pub counted : Report → List ℕ → Option (Stage × Report)
counted r line = do
  n ← number_line_at (codes "reads ") line
  Some (Reads, record r { reads = n })

-- What a line makes of the report so far, the last line before it being of this kind. None where it continues no report.
abbrev pub next : Stage → Report → List ℕ → Option (Stage × Report)
next Start r line = or_else (planned r line) (sized r line)
next Plan r line = pair_line_at (codes "limits ") line >>= λ x. Some (Limits, record r { bits_limit = x.0; latency_limit = x.1 })
next Limits r line = aged r line
next Age r line = sized r line
next Size r line = imaged r line
next Images r line = or_else (imaged r line) (delayed r line)
next Latencies r line = or_else (delayed r line) (number_line_at (codes "clocks ") line >>= λ n. Some (Clocks, record r { clocks = n }))
next Clocks r line = number_line_at (codes "bits ") line >>= λ n. Some (Bits, record r { bits = n })
next Bits r line = if nat_eq r.version 1 then flowing r line else counted r line
next Reads r line = or_else (flowing r line) (ended r line)
next Flow r line = or_else (flowing r line) (ended r line)
next End r line = None

-- a report may end after a line of this kind
abbrev pub is_final : Stage → ℕ → Bool
is_final End version = true
is_final Bits version = nat_eq version 1
is_final Flow version = nat_eq version 1
is_final _ version = false

-- before the first line; the version is 1 until a line states another
abbrev pub nothing : Report
nothing = record { version = 1; bits_limit = 0; latency_limit = 0; age = 0; width = 0; height = 0; images = []; latencies = []; clocks = 0; bits = 0; reads = 0; flow = [] }

abbrev pub is_empty : List ℕ → Bool
is_empty [] = true
is_empty (b ∷ bytes) = false

abbrev pub reading_on : ℕ → Option (Stage × Report) → (Stage × Report → Result Report ℕ) → Result Report ℕ
reading_on number None go = Err number
reading_on number (Some x) go = go x

-- the report of these lines, the first of which has this number, or the number of the faulty one
unfoldable pub reading : ℕ → Stage → Report → List (List ℕ) → Result Report ℕ
reading number stage r [] = Err number
reading number stage r (line ∷ []) = if is_empty line && is_final stage r.version then Ok r else Err number
reading number stage r (line ∷ l ∷ more) = reading_on number (next stage r line) (λ x. reading (suc number) x.0 x.1 (l ∷ more))
