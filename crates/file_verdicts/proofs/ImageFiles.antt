-- Each list of bytes is a file of rounds, or has a first fault.
use Rattle.std.proofs.Common.{◌≡◌, refl, subst, sym, [], ◌∷◌, ◌++◌, List, ℕ, zero, suc, ◌+◌, ◌<◌, ◌≤◌, ◌⊎◌, inl, inr, arith, length, drop, slice_index}
use Rattle.std.proofs.lemmas.Bool.{cases_lt}
use Rattle.std.proofs.lemmas.List.{get_or-drop}
use Rattle.dk_frames.specs.declared.frame.Frame.{Frame}
use Rattle.pgm_codec.specs.Images.{Image}
use Rattle.pgm_codec.proofs.Decoding.{AreBytes}
use Rattle.pgm_rounds.specs.declared.fault.FileFault.{FileFault}
use Rattle.pgm_rounds.specs.declared.fault.FileFault.TheVariants.{Count, Round as OpenRound}
use Rattle.pgm_rounds.specs.declared.fault.FileError.TheVariants as error
use Rattle.pgm_rounds.specs.Ports.{Ports}
use Rattle.pgm_rounds.specs.Files.{FitsFile, IsFault}
use Rattle.pgm_rounds.specs.Standing.{IsNext, Stands}
use Rattle.pgm_rounds.proofs.Steps.{start, offset_within, error_next, stands_next}
use Rattle.pgm_rounds.proofs.Endings.{ends_in_round, too_many, whole_file}
use Rattle.file_verdicts.proofs.NextImages.{IsRefused, IsImage, next_judged}

bytes_behind : (bytes : List ℕ) (n : ℕ) → AreBytes bytes → AreBytes (drop n bytes)
bytes_behind bytes n are k = subst (λ x. x < 256) (sym (get_or-drop n bytes k 0)) (are (n + k))

module _ (ports : Ports) (bytes : List ℕ) (are : AreBytes bytes) where
  abbrev pub HasVerdict : Type 0
  HasVerdict = ((rounds : List (List Image)) × FitsFile ports bytes rounds) ⊎ ((fault : FileFault) × IsFault ports bytes fault)

  -- all bytes are read
  ended : (read : List (List Frame)) (begun : List Frame) (number offset : ℕ) → Stands ports bytes read begun number offset → offset ≡ length bytes → 0 < number → number ≤ 65536 → HasVerdict
  ended read [] number offset s e some few = inl (s.rounds, whole_file ports bytes read [] number offset s e some few refl)
  ended read (f ∷ begun) number offset s e some few =
      inr (OpenRound (length (f ∷ begun)) (length ports.inputs), (ends_in_round ports bytes read (f ∷ begun) number offset s e few (omega arith), refl))

  record After (number offset : ℕ) : Type 0 where
    read : List (List Frame)
    begun : List Frame
    stands : Stands ports bytes read begun number offset

  -- one image more: it goes on with the round, or closes it
  stepped : (read : List (List Frame)) (begun : List Frame) (number offset : ℕ) → Stands ports bytes read begun number offset → (len : ℕ) (frame : Frame)
      → IsNext ports.size (slice_index ports.inputs (length begun)) (drop offset bytes) len frame → (length begun + 1 < length ports.inputs) ⊎ (length ports.inputs ≤ length begun + 1) → After (number + 1) (offset + len)
  stepped read begun number offset s len frame n (inl l) = record {
    read = read;
    begun = begun ++ frame ∷ [];
    stands = stands_next ports bytes read begun number offset s (length begun) refl (slice_index ports.inputs (length begun)) refl (drop offset bytes) refl len frame n
        read (begun ++ frame ∷ []) (number + 1) (offset + len) refl refl (λ m. refl) (λ m. refl) (λ e. absurd (omega arith)) (λ e. absurd (omega arith));
  }
  stepped read begun number offset s len frame n (inr l) = record {
    read = read ++ (begun ++ frame ∷ []) ∷ [];
    begun = [];
    stands = stands_next ports bytes read begun number offset s (length begun) refl (slice_index ports.inputs (length begun)) refl (drop offset bytes) refl len frame n
        (read ++ (begun ++ frame ∷ []) ∷ []) [] (number + 1) (offset + len) refl refl (λ m. absurd (omega arith)) (λ m. absurd (omega arith)) (λ e. refl) (λ e. refl);
  }

  -- the images after this many are read
  abbrev Onward : ℕ → Type 0
  Onward number = (read : List (List Frame)) (begun : List Frame) (offset : ℕ) → Stands ports bytes read begun number offset → (0 < number → offset < length bytes) → HasVerdict

  walk : (left : ℕ) (read : List (List Frame)) (begun : List Frame) (number offset : ℕ) → Stands ports bytes read begun number offset → number + left ≡ 65536 → (0 < number → offset < length bytes) → HasVerdict
  walk zero read begun number offset s e more =
      let full : number ≡ 65536 = omega arith in
      inr (Count, too_many ports bytes read begun number offset s full (more (omega arith)))
  walk (suc left) read begun number offset s e more =
      by (next_judged ports.size bits number offset (drop offset bytes) (bytes_behind bytes offset are)) (λ r b o t l. walk left r b (number + 1) o t (omega arith) l)
    where
      bits : ℕ
      bits = slice_index ports.inputs (length begun)

      few : number < 65536
      few = omega arith

      on : (len : ℕ) → After (number + 1) (offset + len) → (offset + len < length bytes) ⊎ (length bytes ≤ offset + len) → Onward (number + 1) → HasVerdict
      on len x (inl l) go = go x.read x.begun (offset + len) x.stands (λ some. l)
      on len x (inr l) go =
          let within = offset_within ports bytes x.read x.begun (number + 1) (offset + len) x.stands in
          ended x.read x.begun (number + 1) (offset + len) x.stands (omega arith) (omega arith) (omega arith)

      by : IsImage ports.size bits number offset (drop offset bytes) ⊎ IsRefused ports.size bits number offset (drop offset bytes) → Onward (number + 1) → HasVerdict
      by (inl n) go = on n.0 (stepped read begun number offset s n.0 n.1 n.2 (cases_lt (length begun + 1) (length ports.inputs))) (cases_lt (offset + n.0) (length bytes)) go
      by (inr f) go = inr (f.0, error_next ports bytes read begun number offset s (length begun) refl bits refl (drop offset bytes) refl (error.Fault f.0) few more f.1)

  pub file_judged : 0 < length ports.inputs → HasVerdict
  file_judged some = walk 65536 [] [] 0 0 (start ports bytes some) (omega arith) (λ l. absurd (omega arith))
