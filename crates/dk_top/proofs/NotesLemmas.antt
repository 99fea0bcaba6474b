-- The notes of the modules of one program agree: each has those of the program's meaning.
use Rattle.std.proofs.Common.{◌≡◌, ℕ, zero, suc, ◌+◌, ◌-◌, ◌*◌, ◌<◌, Bool, List, [], ◌∷◌, ◌++◌, length, map, ℤ, pos, Option, Some, slice_get, ◌==◌, nat_lt, unsigned_abs, refl, sym, ap, ◌∙◌, subst, arith}
use Rattle.std.specs.Prelude.{IsTrue}
use Rattle.std.specs.List.{flat_map, range_with_len, AllZip}
use Rattle.std.proofs.lemmas.Bool.{ltb-true}
use Rattle.dk_base.specs.Frames.{area}
use Rattle.dk_types.specs.Typed.{Typing}
use Rattle.wiring.specs.Netlist.{Netlist, valid_net, dout_net}
use Rattle.wiring.specs.Snapshot.{Snapshot, net_value}
use Rattle.netlist.specs.Names.{NamedNetlist}
use Rattle.buffer_plan.specs.Plans.{Plan, latency, latency_of}
use Rattle.verilog_text.specs.Stands.{StandsFor}
use Rattle.cycle_sim.specs.declared.fill.Fill.{Fill}
use Rattle.cycle_sim.specs.declared.fill.Fill.TheVariants.{Zeros, Ones}
use Rattle.pgm_codec.specs.Images.{Image}
use Rattle.pgm_rounds.specs.Files.{FitsFile}
use Rattle.stimulus.specs.Inputs.{samples_of}
use Rattle.stimulus.specs.Showing.{IsRun, output_count, notes_at, notes_of, IsNoted as AreNotes}
use Rattle.dk_words.specs.declared.command.PowerUp.TheVariants as power
use Rattle.dk_compile.specs.declared.compiling.Compiled.{Compiled}
use Rattle.dk_top.specs.Program.{ports}
use Rattle.dk_top.specs.Compiling.{IsCompiledFrom, IsCompiledText, AreTextNotes, AgreeInClock, AgreeWhereValid}
use Rattle.dk_top.specs.Agreement.{HasPlan}
use Rattle.dk_top.proofs.AgreeLemmas.{Laws, plan_once, ran}
use Rattle.dk_top.proofs.DriveLemmas as D

-- ---- pieces of lists, item by item

zip_append : {A B : Type 0} (R : A → B → Type 0) (xs : List A) (us : List B) (ys : List A) (vs : List B) → AllZip R xs us → AllZip R ys vs → AllZip R (xs ++ ys) (us ++ vs)
zip_append R [] [] ys vs h g = g
zip_append R [] (u ∷ us) ys vs h g = absurd h
zip_append R (x ∷ xs) [] ys vs h g = absurd h
zip_append R (x ∷ xs) (u ∷ us) ys vs h g = (h.0, zip_append R xs us ys vs h.1 g)

zip_pieces : {A B C : Type 0} (R : B → C → Type 0) (F : A → List B) (G : ℕ → List C) (a : ℕ) (xs : List A) → ((k : ℕ) (x : A) → slice_get xs k ≡ Some x → AllZip R (F x) (G (a + k))) → AllZip R (flat_map F xs) (flat_map G (range_with_len a (length xs)))
zip_pieces R F G a [] each = tt
zip_pieces R F G a (x ∷ xs) each =
    zip_append R (F x) (G a) (flat_map F xs) (flat_map G (range_with_len (a + 1) (length xs)))
    (subst (λ n. AllZip R (F x) (G n)) (let e : a + 0 ≡ a = omega arith in e) (each 0 x refl))
    (zip_pieces R F G (a + 1) xs (λ k y at. subst (λ n. AllZip R (F y) (G n)) (let e : a + suc k ≡ a + 1 + k = omega arith in e) (each (suc k) y at)))

zip_places : {B C : Type 0} (R : B → C → Type 0) (F : ℕ → B) (G : ℕ → C) (a n : ℕ) → ((k : ℕ) → k < n → R (F (a + k)) (G (a + k))) → AllZip R (map F (range_with_len a n)) (map G (range_with_len a n))
zip_places R F G a zero each = tt
zip_places R F G a (suc n) each = (
  subst (λ k. R (F k) (G k)) (let e : a + 0 ≡ a = omega arith in e) (each 0 (omega arith)),
  zip_places R F G (a + 1) n (λ k lt. subst (λ z. R (F z) (G z)) (let e : a + suc k ≡ a + 1 + k = omega arith in e) (each (suc k) (omega (arith, lt)))),
)

-- ---- notes by the program's meaning

-- a note has the valid, and where it is 1 the dout
record IsMeant (note : Bool × ℕ) (meant : Bool × ℤ) : Type 0 where
  pub valid : note.0 ≡ meant.0
  pub dout : IsTrue meant.0 → pos note.1 ≡ meant.1

-- two with the same meaning agree
agree_meant : (one other : Bool × ℕ) (meant : Bool × ℤ) → IsMeant one meant → IsMeant other meant → AgreeInClock one other
agree_meant one other meant first second = record {
  valid = first.valid ∙ sym second.valid;
  dout = λ on. let there : IsTrue meant.0 = sym first.valid ∙ on in ap unsigned_abs (first.dout there ∙ sym (second.dout there));
}

all_agree : (one other : List (Bool × ℕ)) (meant : List (Bool × ℤ)) → AllZip IsMeant one meant → AllZip IsMeant other meant → AgreeWhereValid one other
all_agree [] [] [] h g = tt
all_agree [] [] (e ∷ es) h g = absurd h
all_agree [] (y ∷ ys) [] h g = absurd g
all_agree [] (y ∷ ys) (e ∷ es) h g = absurd h
all_agree (x ∷ xs) [] [] h g = absurd h
all_agree (x ∷ xs) [] (e ∷ es) h g = absurd g
all_agree (x ∷ xs) (y ∷ ys) [] h g = absurd h
all_agree (x ∷ xs) (y ∷ ys) (e ∷ es) h g = (agree_meant x y e h.0 g.0, all_agree xs ys es h.1 g.1)

-- output k in clock t: its valid, and its dout from the latency on
abbrev meant_note : Typing → Plan → List (List Image) → (t k : ℕ) → Bool × ℤ
meant_note p plan rounds t k = (nat_lt (latency_of plan k) t, D.meant_pixel p (D.followed p (samples_of rounds) (latency plan)) k (t - (latency_of plan k + 1)))

-- the outputs of clock t
abbrev meant_at : Typing → Plan → List (List Image) → (t : ℕ) → List (Bool × ℤ)
meant_at p plan rounds t = map (meant_note p plan rounds t) (range_with_len 0 (length p.outputs))

-- clock by clock
abbrev clocks_of : Typing → Plan → List (List Image) → ℕ
clocks_of p plan rounds = length rounds * area p.size + latency plan

abbrev meant_notes : Typing → Plan → List (List Image) → List (Bool × ℤ)
meant_notes p plan rounds = flat_map (meant_at p plan rounds) (range_with_len 0 (suc (clocks_of p plan rounds)))

-- ---- a module's notes

module _ (laws : Laws) (source : List ℕ) (age : ℕ) (enable : Bool) (block : Option ℕ) (c : Compiled) (from : IsCompiledFrom source age enable block c) (file : List ℕ) (rounds : List (List Image)) (fits : FitsFile (ports from.program) file rounds) (fill : Fill) where
  abbrev q : Typing
  q = from.program

  abbrev m : Netlist
  m = (c.«module»).netlist

  abbrev clocks : ℕ
  clocks = clocks_of q c.plan rounds

  module _ (shots : List Snapshot) (run : IsRun m (D.drive_from fill clocks) (samples_of rounds) shots) where
    note_is : (t : ℕ) (s : Snapshot) → slice_get shots t ≡ Some s → (k : ℕ) → k < length q.outputs → IsMeant (net_value s (valid_net k) == 1, net_value s (dout_net k)) (meant_note q c.plan rounds t k)
    note_is t s there k lt = record {
      valid = D.valid_is source age enable block q c.ir c.system c.solution c.plan c.«module» c.nets.items c.reads.items c.text.items from.is file rounds fits fill laws.picture laws.rasters clocks refl shots run k t s lt there;
      dout = λ on. D.dout_is source age enable block q c.ir c.system c.solution c.plan c.«module» c.nets.items c.reads.items c.text.items from.is file rounds fits fill laws.picture laws.rasters clocks refl shots run k t s lt there
          (ltb-true (latency_of c.plan k) t on);
    }

    clock_is : (t : ℕ) (s : Snapshot) → slice_get shots t ≡ Some s → AllZip IsMeant (notes_at m s) (meant_at q c.plan rounds t)
    clock_is t s there =
        let count : output_count m ≡ length q.outputs = D.outputs_are source age enable block q c.ir c.system c.solution c.plan c.«module» c.nets.items c.reads.items c.text.items from.is in
        let F : ℕ → Bool × ℕ = λ k. (net_value s (valid_net k) == 1, net_value s (dout_net k)) in
        subst (λ n. AllZip IsMeant (map F (range_with_len 0 n)) (meant_at q c.plan rounds t)) (sym count)
        (zip_places IsMeant F (meant_note q c.plan rounds t) 0 (length q.outputs) (λ k lt.
        let e : k ≡ 0 + k = omega arith in
        subst (λ z. IsMeant (F z) (meant_note q c.plan rounds t z)) e (note_is t s there k lt)))

    run_is : AllZip IsMeant (notes_of m shots) (meant_notes q c.plan rounds)
    run_is =
        let count : length shots ≡ suc clocks = D.shots_count source age enable block q c.ir c.system c.solution c.plan c.«module» c.nets.items c.reads.items c.text.items from.is file rounds fits fill laws.picture laws.rasters clocks refl shots run in
        subst (λ n. AllZip IsMeant (notes_of m shots) (flat_map (meant_at q c.plan rounds) (range_with_len 0 n))) count
        (zip_pieces IsMeant (notes_at m) (meant_at q c.plan rounds) 0 shots (λ t s there.
        let e : t ≡ 0 + t = omega arith in
        subst (λ z. AllZip IsMeant (notes_at m s) (meant_at q c.plan rounds z)) e (clock_is t s there)))

-- a module that is driven so has notes
noted : (laws : Laws) (source : List ℕ) (age : ℕ) (enable : Bool) (block : Option ℕ) (c : Compiled) (from : IsCompiledFrom source age enable block c) (file : List ℕ) (rounds : List (List Image)) → FitsFile (ports from.program) file rounds → (fill : Fill)
    → (notes : List (Bool × ℕ)) × AreNotes (c.«module»).netlist (D.drive_from fill (clocks_of from.program c.plan rounds)) (samples_of rounds) notes
noted laws source age enable block c from file rounds fits Zeros =
    let (shots, to, runs) = ran laws source age enable block c from file rounds fits power.Zeros in
    (notes_of (c.«module»).netlist shots, record { shots = shots; run = record { to = to; runs = runs }; notes_are = refl })
noted laws source age enable block c from file rounds fits Ones =
    let (shots, to, runs) = ran laws source age enable block c from file rounds fits power.Ones in
    (notes_of (c.«module»).netlist shots, record { shots = shots; run = record { to = to; runs = runs }; notes_are = refl })

-- ---- each text of the program

module _ (laws : Laws) (source file : List ℕ) (age : ℕ) (p : Typing) (plan : Plan) (rounds : List (List Image)) (has : HasPlan source age p plan) (fits : FitsFile (ports p) file rounds) where
  text_is : (notes : List (Bool × ℕ)) → AreTextNotes source age p plan rounds notes → AllZip IsMeant notes (meant_notes p plan rounds)
  text_is notes of =
      let c = of.compiled.compiled in
      let from : IsCompiledFrom source age of.enable of.block c = of.compiled.from in
      let same : from.program ≡ p = laws.one_program source from.program p from.is.planned.has.front.program has.planned.has.front.program in
      let same_plan : c.plan ≡ plan = plan_once laws source age from.program p c.ir has.ir c.system has.system c.solution has.solution c.plan plan from.is.planned has.planned in
      let only : of.«module» ≡ c.«module» = (from.is.printed).only of.«module» (subst (λ t. StandsFor t of.«module») of.compiled.is of.denotes) in
      let Runs : NamedNetlist → Typing → Plan → Type 0 = λ n x z. AreNotes n.netlist (D.drive_from of.fill (clocks_of x z rounds)) (samples_of rounds) notes in
      let mine : Runs c.«module» from.program c.plan = subst (λ n. Runs n from.program c.plan) only (subst (λ x. Runs of.«module» x c.plan) (sym same) (subst (λ z. Runs of.«module» p z) (sym same_plan) of.run)) in
      let fit : FitsFile (ports from.program) file rounds = subst (λ (x : Typing). FitsFile (ports x) file rounds) (sym same) fits in
      let all : AllZip IsMeant notes (meant_notes from.program c.plan rounds) =
      subst (λ ns. AllZip IsMeant ns (meant_notes from.program c.plan rounds)) (sym mine.notes_are) (run_is laws source age of.enable of.block c from file rounds fit of.fill mine.shots mine.run) in
      subst (λ z. AllZip IsMeant notes (meant_notes p z rounds)) same_plan (subst (λ x. AllZip IsMeant notes (meant_notes x c.plan rounds)) same all)

  pub notes_there : (enable : Bool) (block : Option ℕ) (text : List ℕ) (m : NamedNetlist) (fill : Fill) → IsCompiledText source age enable block text → StandsFor text m
      → (notes : List (Bool × ℕ)) × AreNotes m.netlist (D.drive_from fill (clocks_of p plan rounds)) (samples_of rounds) notes
  notes_there enable block text m fill of stands =
      let c = of.compiled in
      let from : IsCompiledFrom source age enable block c = of.from in
      let same : from.program ≡ p = laws.one_program source from.program p from.is.planned.has.front.program has.planned.has.front.program in
      let same_plan : c.plan ≡ plan = plan_once laws source age from.program p c.ir has.ir c.system has.system c.solution has.solution c.plan plan from.is.planned has.planned in
      let only : m ≡ c.«module» = (from.is.printed).only m (subst (λ t. StandsFor t m) of.is stands) in
      let fit : FitsFile (ports from.program) file rounds = subst (λ (x : Typing). FitsFile (ports x) file rounds) (sym same) fits in
      let Has : NamedNetlist → Typing → Plan → Type 0 = λ n x z. (notes : List (Bool × ℕ)) × AreNotes n.netlist (D.drive_from fill (clocks_of x z rounds)) (samples_of rounds) notes in
      let some : Has c.«module» from.program c.plan = noted laws source age enable block c from file rounds fit fill in
      subst (λ n. Has n p plan) (sym only) (subst (λ x. Has c.«module» x plan) same (subst (λ z. Has c.«module» from.program z) same_plan some))

  pub notes_agree : (one other : List (Bool × ℕ)) → AreTextNotes source age p plan rounds one → AreTextNotes source age p plan rounds other → AgreeWhereValid one other
  notes_agree one other first second = all_agree one other (meant_notes p plan rounds) (text_is one first) (text_is other second)

-- two plans of a text at an age are one
pub one_plan : Laws → (source : List ℕ) (age : ℕ) (p q : Typing) (a b : Plan) → HasPlan source age p a → HasPlan source age q b → a ≡ b
one_plan laws source age p q a b one two = plan_once laws source age p q one.ir two.ir one.system two.system one.solution two.solution a b one.planned two.planned
