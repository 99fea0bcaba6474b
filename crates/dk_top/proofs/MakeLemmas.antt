-- A made program: its outputs can be written, and what is specified of it.
use Rattle.std.proofs.Common.{◌≡◌, ℕ, Bool, zero, suc, ◌+◌, ◌-◌, ◌^◌, ◌<◌, ◌≤◌, false, List, [], ◌∷◌, length, map, Some, None, Option, slice_get, refl, sym, ap, ◌∙◌, subst, arith, length-append}
use Rattle.std.specs.List.{AllByRecursion}
use Rattle.std.proofs.lemmas.List.{length-map}
use Rattle.dk_base.specs.declared.ty.Ty.{Ty}
use Rattle.dk_base.specs.Types.{width_of}
use Rattle.dk_base.specs.Frames.{Picture, picture_of, picture_at, raster}
use Rattle.dk_base.proofs.Rasters.{length-raster}
use Rattle.dk_types.specs.declared.typed.TypedInput.{TypedInput}
use Rattle.dk_types.specs.Typed.{Typing, types_of}
use Rattle.dk_types.specs.Kept.{IsTyped, IsOutputOf, AreOutputsOf}
use Rattle.dk_types.specs.Meaning.{meaning_on}
use Rattle.dk_types.proofs.Kept.{typed_is_kept}
use Rattle.pointwise_ir.specs.Programs as P
use Rattle.pointwise_ir.specs.Meaning.{pictures, IsRound, IsPicture}
use Rattle.circuit.specs.Driven.{input_widths}
use Rattle.pgm_codec.specs.Images.{Image, IsFile}
use Rattle.pgm_rounds.specs.Files.{FitsFile, joined}
use Rattle.program_images.specs.Ports.{bits_of}
use Rattle.program_images.specs.Outputs.{image_of as output_of}
use Rattle.program_images.proofs.Written.{bits_are, port_some, greatest_small, raster_bounded}
use Rattle.made_program.specs.Images.{image_of}
use Rattle.made_program.specs.Programs.{program_of}
use Rattle.made_program.specs.Sums.{IsSummed, AreSummed}
use Rattle.made_program.specs.Summary.{summary}
use Rattle.stimulus.specs.Inputs.{samples_of}
use Rattle.dk_compile.specs.declared.compiling.Compiled.{Compiled}
use Rattle.dk_compile.proofs.Ports.{some_ports}
use Rattle.dk_top.specs.Program.{ports}
use Rattle.dk_top.specs.Output.{outputs_of, output_file, run_terms, OfPair}
use Rattle.dk_top.specs.Compiling.{IsCompiledFrom, NotesRun}
use Rattle.dk_top.specs.Making.{IsMade, NotesMade}
use Rattle.dk_top.specs.Reading.{IsInputOf}
use Rattle.dk_top.proofs.CompileLemmas.{PlannedAccepted, compiled_accepted}
use Rattle.dk_top.proofs.TextLemmas.{has_input}
use Rattle.dk_top.proofs.DriveRounds.{AreSampled, is_round, all_append}
use Rattle.dk_top.proofs.DriveFrames.{file_sampled, few_rounds, some_round}
use Rattle.dk_top.proofs.DrivePorts.{widths_same}
use Rattle.dk_top.proofs.DriveLemmas.{types, meant}

-- the values of images lie in their types
abbrev pub Values : P.Program → Type 0
Values ir = (round : List Picture) → IsRound ir round → (g : ℕ) (t : Ty) → slice_get (P.types_of ir) g ≡ Some t → IsPicture ir.size t (picture_at (pictures ir round) g)

-- a file is of one list of images
abbrev pub OneFile : Type 0
OneFile = (bytes : List ℕ) (ps qs : List Image) → IsFile bytes ps → IsFile bytes qs → ps ≡ qs

output_at : (types : List Ty) (gs : List ℕ) → AreOutputsOf types gs → (k g : ℕ) → slice_get gs k ≡ Some g → IsOutputOf types g
output_at types [] are k g at = absurd (let e : ⊥ = cc in e)
output_at types (h ∷ gs) are zero g at = let same : h ≡ g = cc in subst (IsOutputOf types) same are.0
output_at types (h ∷ gs) are (suc k) g at = output_at types gs are.1 k g at

-- what holds at each place of a list holds of what the list is mapped to
all_places : {A B : Type 0} (Q : B → Type 0) (f : A → B) (xs : List A) → ((k : ℕ) (x : A) → slice_get xs k ≡ Some x → Q (f x)) → AllByRecursion Q (map f xs)
all_places Q f [] h = tt
all_places Q f (x ∷ xs) h = (h 0 x refl, all_places Q f xs (λ k y at. h (suc k) y at))

module _ (source : List ℕ) (age : ℕ) (c : Compiled) (from : IsCompiledFrom source age false None c) (values : Values c.ir) where
  abbrev p : Typing
  p = from.program

  typed : IsTyped p
  typed = typed_is_kept (from.is.planned.has.front).program.tree p (from.is.planned.has.front).program.typed

  -- the image of an output in a round
  one_output : (given : List (List ℕ)) → IsRound c.ir (map (picture_of c.ir.size) given) → (k g : ℕ) → slice_get p.outputs k ≡ Some g → IsSummed p.size (output_of p.size (bits_of (types_of p) g) (picture_at (meaning_on p given) g))
  one_output given ok k g at =
      let out = output_at (types_of p) p.outputs typed.outputs k g at in
      let bits : width_of out.ty ≡ bits_of (types_of p) g = bits_are (types_of p) g out.ty out.image in
      let there : slice_get (P.types_of c.ir) g ≡ Some out.ty = subst (λ (ts : List Ty). slice_get ts g ≡ Some out.ty) (sym (from.is.planned.has.front).form.types) out.image in
      let shown = meant source age false None p c.ir c.system c.solution c.plan c.«module» c.nets.items c.reads.items c.text.items from.is given ok k g at in
      let low = raster_bounded c.ir.size out.ty (picture_at (pictures c.ir (map (picture_of c.ir.size) given)) g) out.port (values (map (picture_of c.ir.size) given) ok g out.ty there).values in
      let some = port_some out.ty out.port in
      let small = greatest_small (width_of out.ty) (few_bits out.ty out.port) in
      let wide = typed.frame.most_columns in
      let tall = typed.frame.most_rows in
      record {
        width = refl;
        height = refl;
        writable = record {
          width = omega (arith, wide);
          height = omega (arith, tall);
          positive = subst (λ b. 0 < 2 ^ b - 1) bits some;
          small = subst (λ b. 2 ^ b - 1 ≤ 65535) bits (omega (arith, small));
          count = length-raster p.size (picture_at (meaning_on p given) g);
          bounded = subst (λ b. AllByRecursion (λ s. s ≤ 2 ^ b - 1) (raster p.size (picture_at (meaning_on p given) g))) bits (subst (AllByRecursion (λ s. s ≤ 2 ^ width_of out.ty - 1)) shown low);
        };
      }
    where
      few_bits : (t : Ty) → Rattle.dk_base.specs.Types.IsPort t → width_of t ≤ 16
      few_bits (Rattle.dk_base.specs.declared.ty.Ty.TheVariants.Unsigned n) port = port.1
      few_bits (Rattle.dk_base.specs.declared.ty.Ty.TheVariants.Signed n) port = absurd port

  -- those of all rounds
  all_rounds : (rounds : List (List Image)) → AreSampled c.ir.size (input_widths c.ir) (samples_of rounds) → AllByRecursion (IsSummed p.size) (joined (map (outputs_of p) rounds))
  all_rounds [] sampled = tt
  all_rounds (r ∷ rs) sampled =
      let given = map (λ (i : Image). i.samples) r in
      let ok = is_round c.ir (types source age false None p c.ir c.system c.solution c.plan c.«module» c.nets.items c.reads.items c.text.items from.is) given sampled.0 in
      all_append (IsSummed p.size) (outputs_of p r) (joined (map (outputs_of p) rs))
      (all_places (IsSummed p.size) (λ g. output_of p.size (bits_of (types_of p) g) (picture_at (meaning_on p given) g)) p.outputs (λ k g at. one_output given ok k g at))
      (all_rounds rs sampled.1)

  some_inputs : 0 < length (ports p).inputs
  some_inputs =
      let some = has_input source p (from.is.planned.has.front).program in
      let a = length-map (map (λ (i : TypedInput). i.ty) p.inputs) width_of in
      let b = length-map p.inputs (λ (i : TypedInput). i.ty) in
      omega (arith, some, a, b)

  -- a file of one image is one round
  one_round : (file : List ℕ) (image : Image) (rounds : List (List Image)) → OneFile → IsFile file (image ∷ []) → FitsFile (ports p) file rounds → length rounds ≡ 1
  one_round file image rounds one is fits =
      let same = ap length (one file fits.images (image ∷ []) fits.file is) in
      let all = ap length fits.fits.joined in
      let some = some_round rounds fits.images fits.fits.joined fits.file.0 in
      let few = few_rounds (ports p).size.width (ports p).size.height (ports p).inputs rounds some_inputs fits.fits.fit in
      omega (arith, same, all, some, few)

  count_of : (rounds : List (List Image)) → length rounds ≡ 1 → length (joined (map (outputs_of p) rounds)) ≡ length p.outputs
  count_of [] one = absurd (let e : ⊥ = omega (arith, one) in e)
  count_of (r ∷ []) one = length-append (outputs_of p r) [] ∙ (let e = length-map p.outputs (λ g. output_of p.size (bits_of (types_of p) g) (picture_at (meaning_on p (map (λ (i : Image). i.samples) r)) g)) in let f : length (outputs_of p r) + 0 ≡ length p.outputs = omega (arith, e) in f)
  count_of (r ∷ s ∷ rs) one = absurd (let e : ⊥ = omega (arith, one) in e)

  pub summed : (file : List ℕ) (image : Image) (rounds : List (List Image)) → OneFile → IsFile file (image ∷ []) → FitsFile (ports p) file rounds → AreSummed p.size (joined (map (outputs_of p) rounds))
  summed file image rounds one is fits =
      let front = from.is.planned.has.front in
      let count = count_of rounds (one_round file image rounds one is fits) in
      let some = (some_ports source front.program.tree p front.program.parsed front.program.typed).1 in
      let most = typed.few_outputs in
      record {
        some = omega (arith, count, some);
        few = omega (arith, count, most);
        each = all_rounds rounds
            (subst (λ s. AreSampled s (input_widths c.ir) (samples_of rounds)) (sym front.form.size) (subst (λ (ws : List ℕ). AreSampled p.size ws (samples_of rounds)) (widths_same p c.ir front.form) (file_sampled (ports p) file rounds fits)));
      }

-- what is clocked of a made program is its file and its notes
module _ (law : PlannedAccepted) (n : ℕ) (c : Compiled) (from : IsCompiledFrom (program_of n) 0 false None c) (rounds : List Rattle.pgm_rounds.specs.declared.round.Round.Round) (input : IsInputOf None c.ir (image_of n) rounds) where
  abbrev images : List (List Image)
  images = (input.some from.program (from.is.planned.has.front).form).0

  abbrev of_images : (Q : Typing → List (List Image) → Type 0) → OfPair (run_terms 0) (program_of n) (image_of n) Q → Q from.program images
  of_images Q h = h from.program images (compiled_accepted law (program_of n) 0 false None c from) (input.some from.program (from.is.planned.has.front).form).1

  pub made_file : (file : List ℕ) → OfPair (run_terms 0) (program_of n) (image_of n) (λ q rs. file ≡ output_file q rs) → IsMade n c images file
  made_file file h = record { from = from; fits = (input.some from.program (from.is.planned.has.front).form).1.holds; file_is = of_images (λ q rs. file ≡ output_file q rs) h }

  pub made_notes : (old new : Option (List (Bool × ℕ))) → OfPair (run_terms 0) (program_of n) (image_of n) (λ q rs. NotesRun (program_of n) 0 q rs old new) → NotesMade n old new
  made_notes old new h = record {
    program = from.program;
    rounds = images;
    fits = (input.some from.program (from.is.planned.has.front).form).1.holds;
    noted = of_images (λ q rs. NotesRun (program_of n) 0 q rs old new) h;
  }

-- equal figures give one line
pub same_line : (n : ℕ) (a b c d e a2 b2 c2 d2 e2 : ℕ) → a ≡ a2 → b ≡ b2 → c ≡ c2 → d ≡ d2 → e ≡ e2 → summary n a b c d e ≡ summary n a2 b2 c2 d2 e2
same_line n a b c d e a2 b2 c2 d2 e2 ea eb ec ed ee =
    ap (λ x. summary n x b c d e) ea ∙ ap (λ x. summary n a2 x c d e) eb ∙ ap (λ x. summary n a2 b2 x d e) ec ∙ ap (λ x. summary n a2 b2 c2 x e) ed ∙ ap (λ x. summary n a2 b2 c2 d2 x) ee
