-- Rounds for the inputs of a program are frames for it.
use Rattle.std.proofs.Common.{◌≡◌, sym, ap, refl, subst, [], ◌∷◌, List, ℕ, zero, suc, ◌≤◌, arith, length, map, Some}
use Rattle.std.specs.Prelude.{slice_get}
use Rattle.std.specs.List.{All, AllZip}
use Rattle.std.proofs.lemmas.Option.{slice_get_within, get_or_from_slice_get}
use Rattle.dk_base.specs.declared.ty.Ty.{Ty}
use Rattle.dk_base.specs.declared.ty.Ty.TheVariants.{Unsigned, Signed}
use Rattle.dk_base.specs.Types.{width_of}
use Rattle.dk_base.specs.Frames.{Size}
use Rattle.dk_frames.specs.declared.frame.Frame.{Frame}
use Rattle.pointwise_ir.specs.declared.program.Input.{Input}
use Rattle.dk_base.specs.Types.{IsPort}
use Rattle.pointwise_ir.specs.Programs.{Program}
use Rattle.pointwise_eval.specs.Rounds.{IsInputFrame, AreFrames}
use Rattle.pgm_rounds.specs.declared.round.Round.{Round}
use Rattle.pgm_rounds.specs.Ports.{ports_with}
use Rattle.pgm_rounds.specs.Files.{IsPortFrame, IsPortRound}
use Rattle.program_images.specs.Ports.{ports_of}

input_frame : (size : Size) (t : Ty) (f : Frame) → IsPort t → IsPortFrame size (width_of t) f → IsInputFrame size t f
input_frame size (Signed n) f port i = absurd port
input_frame size (Unsigned n) f port i = record { width = i.width; height = i.height; whole = i.whole; values = i.values }

abbrev bits_of_inputs : List Input → List ℕ
bits_of_inputs inputs = map width_of (map (λ (i : Input). i.ty) inputs)

round_frames : (size : Size) (inputs : List Input) (frames : List Frame) → ((k : ℕ) (i : Input) → slice_get inputs k ≡ Some i → IsPort i.ty) → AllZip (IsPortFrame size) (bits_of_inputs inputs) frames
    → (k : ℕ) (f : Frame) (input : Input) → slice_get frames k ≡ Some f → slice_get inputs k ≡ Some input → IsInputFrame size input.ty f
round_frames size [] frames ports fits k f input is at = absurd (let e : ⊥ = cc in e)
round_frames size (i ∷ inputs) [] ports fits k f input is at = absurd fits
round_frames size (i ∷ inputs) (q ∷ frames) ports fits zero f input is at =
    let e : q ≡ f = cc in
    let d : i ≡ input = cc in
    subst (λ x. IsInputFrame size input.ty x) e (subst (λ (x : Input). IsInputFrame size x.ty q) d (input_frame size i.ty q (ports 0 i refl) fits.0))
round_frames size (i ∷ inputs) (q ∷ frames) ports fits (suc k) f input is at = round_frames size inputs frames (λ n j e. ports (suc n) j e) fits.1 k f input is at

one_frame_each : (size : Size) (inputs : List Input) (frames : List Frame) → AllZip (IsPortFrame size) (bits_of_inputs inputs) frames → length frames ≡ length inputs
one_frame_each size [] [] f = refl
one_frame_each size [] (q ∷ frames) f = absurd f
one_frame_each size (i ∷ inputs) [] f = absurd f
one_frame_each size (i ∷ inputs) (q ∷ frames) f = ap suc (one_frame_each size inputs frames f.1)

port_at : (inputs : List Input) → All (λ (i : Input). IsPort i.ty) inputs → (k : ℕ) (i : Input) → slice_get inputs k ≡ Some i → IsPort i.ty
port_at inputs ports k i e = subst (λ (x : Input). IsPort x.ty) (get_or_from_slice_get inputs k i i e) (ports k i (slice_get_within inputs k i e))

frames_for : (p : Program) → All (λ (i : Input). IsPort i.ty) p.inputs → (rounds : List Round) → All (IsPortRound (ports_of p)) rounds → All (λ (r : Round). AreFrames p r.frames.items) rounds
frames_for p ports rounds all k d lt = record {
  one_each = one_frame_each p.size p.inputs _ (all k d lt);
  each = round_frames p.size p.inputs _ (port_at p.inputs ports) (all k d lt);
}

pub are_frames : (p : Program) → All (λ (i : Input). IsPort i.ty) p.inputs → (size : Size) → size ≡ p.size → (widths : List ℕ) → widths ≡ bits_of_inputs p.inputs → (rounds : List Round) → All (IsPortRound (ports_with size widths)) rounds
    → All (λ (r : Round). AreFrames p r.frames.items) rounds
are_frames p ports size e widths d rounds all =
    frames_for p ports rounds (subst (λ s. All (IsPortRound (ports_with s (bits_of_inputs p.inputs))) rounds) e (subst (λ ws. All (IsPortRound (ports_with size ws)) rounds) d all))

-- the widths of the inputs are small
small_port : (t : Ty) → IsPort t → width_of t ≤ 16
small_port (Unsigned n) port = port.1
small_port (Signed n) port = absurd port

pub small_ports : (inputs : List Input) → All (λ (i : Input). IsPort i.ty) inputs → (widths : List ℕ) → widths ≡ bits_of_inputs inputs → All (λ width. width ≤ 16) widths
small_ports inputs ports widths e = subst (λ ws. All (λ width. width ≤ 16) ws) (sym e) (each inputs ports)
  where
    each : (inputs : List Input) → All (λ (i : Input). IsPort i.ty) inputs → All (λ width. width ≤ 16) (bits_of_inputs inputs)
    each [] ports k d lt = absurd (omega arith)
    each (i ∷ inputs) ports zero d lt = small_port i.ty (ports 0 i (omega arith))
    each (i ∷ inputs) ports (suc k) d lt = each inputs (λ n j l. ports (suc n) j (omega (arith, l))) k d (omega (arith, lt))
