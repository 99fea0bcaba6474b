-- The live reads of a program are those of any of its forms, and one list in order.
use Rattle.std.proofs.Common.{◌≡◌, ℕ, ◌≤◌, ◌<◌, inl, inr, List, length, refl, sym, ap, ◌∙◌, arith}
use Rattle.std.specs.Prelude.{Contains}
use Rattle.dk_base.specs.declared.stencils.LiveRead.{LiveRead}
use Rattle.dk_base.specs.Stencils.{Stencils}
use Rattle.dk_types.specs.Typed.{Typing}
use Rattle.pointwise_ir.specs.Programs.{Program}
use Rattle.pointwise_ir.specs.Stencils.{AreReads, AreStencilsOf}
use Rattle.stencil_sets.specs.Live.{HasCount}
use Rattle.pointwise_ir.specs.Stencils as S
use Rattle.stencil_sets.specs.Faults as F
use Rattle.stencil_sets.specs.declared.live.StencilFault.{StencilFault}
use Rattle.stencil_sets.specs.declared.live.StencilFault.TheVariants as stencils
use Rattle.pointwise_ir.proofs.ReadLists.{no_longer, same_list}
use Rattle.dk_inline.specs.Answers.{IsWithin}
use Rattle.dk_compile.specs.Faults.{of_stencils}
use Rattle.dk_compile.specs.Sources.{IsText, IsKeptRead, AreReadsOf, IsAccepted, HasReads, HasManyReads, HasTooMany, IsSourceFault, IsErrorBy}
use Rattle.dk_compile.specs.Fronts.{IsForm, IsFront}

module _ (p : Typing) where
  more_of : (a b : List LiveRead) → ((r : LiveRead) → Contains a r → IsKeptRead p r) → AreReadsOf p b → (r : LiveRead) → Contains a r → Contains b r
  more_of a b sound are r h = (are.exact r).1 (sound r h)

  one_list : (a b : List LiveRead) → AreReadsOf p a → AreReadsOf p b → a ≡ b
  one_list a b x y = same_list a b x.in_order y.in_order (more_of a b (λ r. (x.exact r).0) y) (more_of b a (λ r. (y.exact r).0) x)

  few_many : (m n : ℕ) → HasReads p m → HasManyReads p n → ⊥
  few_many m n a b =
      let l = no_longer b.reads a.reads b.in_order a.are_reads.in_order (more_of b.reads a.reads b.sound a.are_reads) in
      let c = a.count_is in
      let f = a.few in
      let g = b.many in
      omega (arith, l, c, f, g)

  -- one count of too many reads
  pub too_many_once : (m n : ℕ) → HasTooMany p m → HasTooMany p n → m ≡ n
  too_many_once m n a b = elim a.counted [
    | inl x ↦ elim b.counted [
      | inl y ↦ x.count_is ∙ ap length (one_list x.reads y.reads x.are_reads y.are_reads) ∙ sym y.count_is
      | inr y ↦ absurd (few_many m n x y)
    ]
    | inr x ↦ elim b.counted [ inl y ↦ absurd (few_many n m y x) | inr y ↦ x.count_is ∙ sym y.count_is ]
  ]

  -- few reads are not too many
  pub few_not_many : (reads : List LiveRead) (n : ℕ) → AreReadsOf p reads → length reads ≤ 4096 → HasTooMany p n → ⊥
  few_not_many reads n are few many = elim many.counted [
    | inl x ↦
        let e = ap length (one_list x.reads reads x.are_reads are) in
        let c = x.count_is in
        let more = many.more in
        omega (arith, e, c, few, more)
    | inr x ↦ few_many (length reads) n (record { reads = reads; are_reads = are; count_is = refl; few = (let least : length reads ≤ 65536 = omega (arith, few) in least) }) x
  ]

  module _ (ir : Program) (form : IsForm p ir) where
    to_form : (r : LiveRead) → IsKeptRead p r → S.IsKeptRead ir r.f r.g r.dx r.dy
    to_form r is = record { kept = (form.kept r.f).1 is.kept; live = (form.live r.f r.g r.dx r.dy is.kept).1 is.live }

    of_form : (r : LiveRead) → S.IsKeptRead ir r.f r.g r.dx r.dy → IsKeptRead p r
    of_form r is = let kept = (form.kept r.f).0 is.kept in record { kept = kept; live = (form.live r.f r.g r.dx r.dy kept).0 is.live }

    -- the reads of a form are those of the program
    pub reads_of : (reads : List LiveRead) → AreReads ir reads → AreReadsOf p reads
    reads_of reads are = record {
      in_order = are.in_order;
      exact = λ r. (λ h. of_form r ((are.exact r.f r.g r.dx r.dy).0 h), λ h. (are.exact r.f r.g r.dx r.dy).1 (to_form r h));
    }

    pub same_reads : (s : Stencils) (reads : List LiveRead) → AreStencilsOf ir s → AreReadsOf p reads → s.reads ≡ reads
    same_reads s reads stencils are = one_list s.reads reads (reads_of s.reads stencils.reads) are

    pub too_many_of : (count : ℕ) → 4096 < count → HasCount ir count → HasTooMany p count
    too_many_of count more counted = record {
      more = more;
      counted = elim counted [
        | inl few ↦ inl (record { reads = few.reads; are_reads = reads_of few.reads few.exact; count_is = few.count_is; few = few.few })
        | inr many ↦ inr (record {
          reads = many.reads;
          in_order = many.some.in_order;
          sound = λ r h. of_form r (many.some.sound r.f r.g r.dx r.dy h);
          many = many.many;
          count_is = many.count_is;
        })
      ];
    }

-- the fault of too many reads
pub stencil_fault : (text : List ℕ) (p : Typing) (ir : Program) → IsText text p → IsWithin p → IsForm p ir → (e : StencilFault) → F.IsFault ir e → IsErrorBy (IsSourceFault text) (of_stencils e)
stencil_fault text p ir is within form (stencils.Reads count) (more, counted) = (p, is, within, too_many_of p ir form count more counted)
stencil_fault text p ir is within form stencils.OutOfMemory told = tt

-- what is given is of a text that is accepted
pub accepted_of : (text : List ℕ) (p : Typing) (ir : Program) (s : Stencils) → IsFront text p ir s → IsAccepted text p
accepted_of text p ir s is = record { program = is.program; within = is.within; reads = s.reads; are_reads = reads_of p ir is.form s.reads is.stencils.reads; few = is.few }
