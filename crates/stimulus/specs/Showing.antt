-- What a module shows on a test bench, and the file of its pictures.
use Rattle.std.specs.Prelude.{◌≡◌, ℕ, ◌-◌, ◌*◌, ◌/◌, ◌^◌, ◌<◌, ◌≤◌, ◌==◌, Bool, List, length, map, take, drop}
use Rattle.std.specs.List.{flat_map, range_with_len}
use Rattle.dk_base.specs.Frames.{Size, area}
use Rattle.wiring.specs.Netlist.{Netlist, net_width, valid_net, dout_net}
use Rattle.wiring.specs.Snapshot.{Contents, Snapshot, net_value}
use Rattle.wiring.specs.Runs.{Runs, picture}
use Rattle.cycle_sim.specs.Ports.{din_widths}
use Rattle.cycle_sim.specs.Filled.{filled_contents}
use Rattle.pgm_codec.specs.Images.{Image, file_of}
use Rattle.stimulus.specs.declared.drive.Drive.{Drive}
use Rattle.stimulus.specs.Stimulus.{Rounds, stimulus}

-- outputs of two ports each
abbrev pub output_count : Netlist → ℕ
output_count m = length m.outputs / 2

-- the snapshots of a run over all clocks
pub record IsRun (m : Netlist) (drive : Drive) (rounds : Rounds) (shots : List Snapshot) : Type 0 where
  pub to : Contents
  pub runs : Runs m (filled_contents drive.fill m) (stimulus drive (din_widths m) rounds) shots to

-- the samples that are asked of each output
abbrev pub asked : Size → Rounds → ℕ
asked size rounds = length rounds * area size

-- an output has shown enough: exactly what is asked where it is the only one, and else at least that
pub record IsEnough (outputs asked shown : ℕ) : Type 0 where
  pub least : asked ≤ shown
  pub exact : outputs ≡ 1 → shown ≡ asked

abbrev pub HasShown : Netlist → Size → Rounds → List Snapshot → ℕ → Type 0
HasShown m size rounds shots output = IsEnough (output_count m) (asked size rounds) (length (picture output shots))

-- the image of an output in a round
abbrev pub image_shown : Netlist → Size → List Snapshot → (round output : ℕ) → Image
image_shown m size shots round output = record { width = size.width; height = size.height; maxval = 2 ^ net_width m (dout_net output) - 1; samples = take (area size) (drop (round * area size) (picture output shots)) }

-- one image for each output, for each of this many rounds
abbrev pub images_shown : Netlist → Size → ℕ → List Snapshot → List Image
images_shown m size rounds shots = flat_map (λ round. map (image_shown m size shots round) (range_with_len 0 (output_count m))) (range_with_len 0 rounds)

-- the file that holds what the module shows
pub record IsShown (m : Netlist) (drive : Drive) (size : Size) (rounds : Rounds) (file : List ℕ) : Type 0 where
  pub shots : List Snapshot
  pub run : IsRun m drive rounds shots
  pub enough : (output : ℕ) → output < output_count m → HasShown m size rounds shots output
  pub file_is : file ≡ file_of (images_shown m size (length rounds) shots)

-- the valid and the dout of each output in a clock
abbrev pub notes_at : Netlist → Snapshot → List (Bool × ℕ)
notes_at m s = map (λ output. (net_value s (valid_net output) == 1, net_value s (dout_net output))) (range_with_len 0 (output_count m))

abbrev pub notes_of : Netlist → List Snapshot → List (Bool × ℕ)
notes_of m shots = flat_map (notes_at m) shots

-- these are the notes of the run over all clocks
pub record IsNoted (m : Netlist) (drive : Drive) (rounds : Rounds) (notes : List (Bool × ℕ)) : Type 0 where
  pub shots : List Snapshot
  pub run : IsRun m drive rounds shots
  pub notes_are : notes ≡ notes_of m shots
