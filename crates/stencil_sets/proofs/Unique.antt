-- A program has one list of live reads in order.
use Rattle.std.proofs.Common.{◌≡◌, ℕ, ◌≤◌, inl, inr, List, length, sym, ap, ◌∙◌, arith}
use Rattle.dk_base.specs.declared.stencils.LiveRead.{LiveRead}
use Rattle.dk_base.specs.Stencils.{Stencils}
use Rattle.pointwise_ir.specs.Programs.{Program}
use Rattle.pointwise_ir.specs.Stencils.{AreReads, AreStencilsOf}
use Rattle.pointwise_ir.proofs.ReadLists.{no_longer, same_list}
use Rattle.stencil_sets.specs.Live.{AreSome, HasFew, HasMany, HasCount}

pub one_list : (p : Program) (a b : List LiveRead) → AreReads p a → AreReads p b → a ≡ b
one_list p a b x y = same_list a b x.in_order y.in_order (λ r h. (y.exact r.f r.g r.dx r.dy).1 ((x.exact r.f r.g r.dx r.dy).0 h)) (λ r h. (x.exact r.f r.g r.dx r.dy).1 ((y.exact r.f r.g r.dx r.dy).0 h))

pub some_fewer : (p : Program) (a b : List LiveRead) → AreSome p a → AreReads p b → length a ≤ length b
some_fewer p a b x y = no_longer a b x.in_order y.in_order (λ r h. (y.exact r.f r.g r.dx r.dy).1 (x.sound r.f r.g r.dx r.dy h))

few_many : (p : Program) (m n : ℕ) → HasFew p m → HasMany p n → ⊥
few_many p m n a b = let l = some_fewer p b.reads a.reads b.some a.exact in let c = a.count_is in let f = a.few in let g = b.many in omega (arith, l, c, f, g)

pub one_count : (p : Program) (m n : ℕ) → HasCount p m → HasCount p n → m ≡ n
one_count p m n (inl a) (inl b) = a.count_is ∙ ap length (one_list p a.reads b.reads a.exact b.exact) ∙ sym b.count_is
one_count p m n (inl a) (inr b) = absurd (few_many p m n a b)
one_count p m n (inr a) (inl b) = absurd (few_many p n m b a)
one_count p m n (inr a) (inr b) = a.count_is ∙ sym b.count_is

pub not_too_many : (p : Program) (s : Stencils) (n : ℕ) → AreStencilsOf p s → length s.reads ≤ 4096 → HasCount p n → n ≤ 4096
not_too_many p s n are few (inl a) = let e = ap length (one_list p a.reads s.reads a.exact are.reads) in let c = a.count_is in omega (arith, e, c, few)
not_too_many p s n are few (inr b) = let l = some_fewer p b.reads s.reads b.some are.reads in let g = b.many in absurd (omega (arith, l, g, few))
