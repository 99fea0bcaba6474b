-- A text denotes one module, or has one fault.
use Rattle.std.proofs.Common.{◌≡◌, ◌⊎◌, inl, inr, ℕ, List, Option, Some, None, refl, sym, ap, ◌∙◌, subst, slice_get}
use Rattle.dk_base.specs.declared.span.Span.{Span}
use Rattle.dk_grammar.specs.Reading.{IsFaulty}
use Rattle.dk_grammar.proofs.Faulty.{one_faulty, none_faulty}
use Rattle.netlist.specs.declared.parts.Parts.{Parts}
use Rattle.netlist.specs.declared.fault.NetFault.{NetFault}
use Rattle.netlist.specs.declared.fault.NetFault.TheVariants.{Cycle}
use Rattle.netlist.specs.Names.{NamedNetlist}
use Rattle.netlist.specs.Faults.{IsModuleOf, IsFault as IsNetFault, Agrees as NetAgrees}
use Rattle.verilog_text.specs.declared.token.Token.{Token}
use Rattle.verilog_text.specs.declared.token.TokenKind.TheVariants.{Refused}
use Rattle.verilog_text.specs.declared.fault.LimitFault.{LimitFault}
use Rattle.verilog_text.specs.declared.fault.TextFault.{TextFault}
use Rattle.verilog_text.specs.declared.fault.TextFault.TheVariants.{Lex, Syntax, NotInSubset, Limit, Net}
use Rattle.verilog_text.specs.Grammar.{Source, Module}
use Rattle.verilog_text.specs.Limits.{limit_fault}
use Rattle.verilog_text.specs.Stands.{IsWritten, ArePartsOf, StandsFor}
use Rattle.verilog_text.specs.Faults.{IsModule, IsFaultyToken, IsRefusedAt, IsSyntaxAt, fault_span, HasNetFault, IsFault, Agrees}
use Rattle.verilog_text.proofs.Unique.{one_lexing, one_refused, no_tokens}
use Rattle.verilog_text.proofs.Modules.{one_source}
use Rattle.verilog_text.proofs.Sameness.{SameParts, same_module, same_fault}

-- one thing is written in a text
one_written : (text : List ℕ) (s t : Source) → IsWritten text s → IsWritten text t → s ≡ t
one_written text s t a b = one_source a.tokens s t a.is_module (subst (λ x. Module x t) (sym (one_lexing a.has_tokens b.tokens b.has_tokens)) b.is_module)

same_parts_here : (text : List ℕ) (s : Source) (p q : Parts) → ArePartsOf text s p → ArePartsOf text s q → SameParts p q
same_parts_here text s p q a b = record {
  name = a.name ∙ sym b.name;
  ports = a.ports ∙ sym b.ports;
  declarations = a.declarations ∙ sym b.declarations;
  assigns = a.assigns ∙ sym b.assigns;
  updates = a.updates ∙ sym b.updates;
}

same_parts : (text : List ℕ) (s t : Source) (p q : Parts) → IsWritten text s → IsWritten text t → ArePartsOf text s p → ArePartsOf text t q → SameParts p q
same_parts text s t p q v w a b = same_parts_here text s p q a (subst (λ x. ArePartsOf text x q) (sym (one_written text s t v w)) b)

pub one_module : (text : List ℕ) (m n : NamedNetlist) → StandsFor text m → StandsFor text n → m ≡ n
one_module text m n a b =
    let h = a.has_parts in
    let k = b.has_parts in
    a.is_module.is ∙ same_module a.parts b.parts (same_parts text h.source k.source a.parts b.parts h.written k.written h.parts k.parts) ∙ sym b.is_module.is

-- one faulty token
one_token : (o : Option Token) (t u : Token) → o ≡ Some t → o ≡ Some u → t ≡ u
one_token o t u p q = cc (p, q)

one_faulty_token : (text : List ℕ) (t u : Token) → IsFaultyToken text t → IsFaultyToken text u → t ≡ u
one_faulty_token text t u a b =
    let same : b.tokens ≡ a.tokens = one_lexing b.has_tokens a.tokens a.has_tokens in
    let faulty = subst (λ x. IsFaulty IsModule x b.index) same b.faulty in
    let index = one_faulty IsModule a.tokens a.index b.index a.faulty faulty in
    let at : slice_get a.tokens a.index ≡ Some u = subst (λ k. slice_get a.tokens k ≡ Some u) (sym index) (subst (λ x. slice_get x b.index ≡ Some u) same b.at) in
    one_token (slice_get a.tokens a.index) t u a.at at

not_written : (text : List ℕ) (t : Token) (s : Source) → IsFaultyToken text t → IsWritten text s → ⊥
not_written text t s a b = none_faulty IsModule a.tokens a.index (s, subst (λ x. Module x s) (one_lexing b.has_tokens a.tokens a.has_tokens) b.is_module) a.faulty

-- a cycle may be named at any of its targets
net_equal : (f g : NetFault) → NetAgrees f g → (f ≡ g) ⊎ ((j : ℕ) × (k : ℕ) × (f ≡ Cycle j) × (g ≡ Cycle k))
net_equal (Cycle j) (Cycle k) a = inr (j, k, refl, refl)
net_equal f g a = inl a

net_agree : (a b : Span) (f g : NetFault) → (f ≡ g) ⊎ ((j : ℕ) × (k : ℕ) × (f ≡ Cycle j) × (g ≡ Cycle k)) → (f ≡ g → a ≡ b) → Agrees (Net a f) (Net b g)
net_agree a b f g (inr (j, k, x, y)) s = subst (λ z. Agrees (Net a z) (Net b g)) (sym x) (subst (λ z. Agrees (Net a (Cycle j)) (Net b z)) (sym y) tt)
net_agree a b (Cycle j) (Cycle k) (inl e) s = tt
net_agree a b f g (inl e) s = ap (λ x. Net x f) (s e) ∙ ap (λ x. Net b x) e

one_span : (o : Option Span) (a b : Span) → o ≡ Some a → o ≡ Some b → a ≡ b
one_span o a b p q = cc (p, q)

one_limit : (o : Option LimitFault) (f g : LimitFault) → o ≡ Some f → o ≡ Some g → f ≡ g
one_limit o f g p q = cc (p, q)

no_limit : (o : Option LimitFault) (f : LimitFault) → o ≡ None → o ≡ Some f → ⊥
no_limit o f p q = cc (p, q)

module _ (agree : (p : Parts) (f g : NetFault) → IsNetFault p f → IsNetFault p g → NetAgrees f g) (text : List ℕ) where
  both_net : (a b : Span) (f g : NetFault) → HasNetFault text a f → HasNetFault text b g → Agrees (Net a f) (Net b g)
  both_net a b f g h k =
      let e = same_parts text k.source h.source k.parts h.parts k.written h.written k.are_parts h.are_parts in
      let same : h.source ≡ k.source = one_written text h.source k.source h.written k.written in
      let found = agree h.parts f g h.fault (same_fault k.parts h.parts e g k.fault) in
      let spans : f ≡ g → a ≡ b = λ x. one_span (fault_span k.source g) a b (subst (λ z. fault_span z g ≡ Some a) same (subst (λ z. fault_span h.source z ≡ Some a) x h.spanned)) k.spanned in
      net_agree a b f g (net_equal f g found) spans

  limit_or_net : (f : LimitFault) (a : Span) (g : NetFault) → (s : Source) × IsWritten text s × (limit_fault s ≡ Some f) → HasNetFault text a g → ⊥
  limit_or_net f a g h k = no_limit (limit_fault k.source) f k.limits (subst (λ z. limit_fault z ≡ Some f) (one_written text h.0 k.source h.1 k.written) h.2)

  both_limits : (f g : LimitFault) → (s : Source) × IsWritten text s × (limit_fault s ≡ Some f) → (s : Source) × IsWritten text s × (limit_fault s ≡ Some g) → f ≡ g
  both_limits f g h k = one_limit (limit_fault k.0) f g (subst (λ z. limit_fault z ≡ Some f) (one_written text h.0 k.0 h.1 k.1) h.2) k.2

  refused_or_not : (a b : Span) → IsSyntaxAt text a → IsRefusedAt text b → ⊥
  refused_or_not a b h k = h.allowed (subst (λ t. t.kind ≡ Refused) (one_faulty_token text k.token h.token k.faulty h.faulty) k.refused)

  pub one_fault : (f g : TextFault) → IsFault text f → IsFault text g → Agrees f g
  one_fault (Lex f) (Lex g) h k = ap Lex (one_refused h g k)
  one_fault (Lex f) (Syntax b) h k = absurd (no_tokens h k.faulty.tokens k.faulty.has_tokens)
  one_fault (Lex f) (NotInSubset b) h k = absurd (no_tokens h k.faulty.tokens k.faulty.has_tokens)
  one_fault (Lex f) (Limit g) h k = absurd (no_tokens h k.1.tokens k.1.has_tokens)
  one_fault (Lex f) (Net b g) h k = absurd (no_tokens h k.written.tokens k.written.has_tokens)
  one_fault (Syntax a) (Lex g) h k = absurd (no_tokens k h.faulty.tokens h.faulty.has_tokens)
  one_fault (Syntax a) (Syntax b) h k = ap Syntax (sym h.spanned ∙ ap (λ t. t.span) (one_faulty_token text h.token k.token h.faulty k.faulty) ∙ k.spanned)
  one_fault (Syntax a) (NotInSubset b) h k = absurd (refused_or_not a b h k)
  one_fault (Syntax a) (Limit g) h k = absurd (not_written text h.token k.0 h.faulty k.1)
  one_fault (Syntax a) (Net b g) h k = absurd (not_written text h.token k.source h.faulty k.written)
  one_fault (NotInSubset a) (Lex g) h k = absurd (no_tokens k h.faulty.tokens h.faulty.has_tokens)
  one_fault (NotInSubset a) (Syntax b) h k = absurd (refused_or_not b a k h)
  one_fault (NotInSubset a) (NotInSubset b) h k = ap NotInSubset (sym h.spanned ∙ ap (λ t. t.span) (one_faulty_token text h.token k.token h.faulty k.faulty) ∙ k.spanned)
  one_fault (NotInSubset a) (Limit g) h k = absurd (not_written text h.token k.0 h.faulty k.1)
  one_fault (NotInSubset a) (Net b g) h k = absurd (not_written text h.token k.source h.faulty k.written)
  one_fault (Limit f) (Lex g) h k = absurd (no_tokens k h.1.tokens h.1.has_tokens)
  one_fault (Limit f) (Syntax b) h k = absurd (not_written text k.token h.0 k.faulty h.1)
  one_fault (Limit f) (NotInSubset b) h k = absurd (not_written text k.token h.0 k.faulty h.1)
  one_fault (Limit f) (Limit g) h k = ap Limit (both_limits f g h k)
  one_fault (Limit f) (Net b g) h k = absurd (limit_or_net f b g h k)
  one_fault (Net a f) (Lex g) h k = absurd (no_tokens k h.written.tokens h.written.has_tokens)
  one_fault (Net a f) (Syntax b) h k = absurd (not_written text k.token h.source k.faulty h.written)
  one_fault (Net a f) (NotInSubset b) h k = absurd (not_written text k.token h.source k.faulty h.written)
  one_fault (Net a f) (Limit g) h k = absurd (limit_or_net g a f k h)
  one_fault (Net a f) (Net b g) h k = both_net a b f g h k

-- a text that denotes a module has no fault
module _ (apart : (p : Parts) (m : NamedNetlist) (f : NetFault) → IsModuleOf p m → IsNetFault p f → ⊥) (text : List ℕ) (m : NamedNetlist) where
  no_net_fault : (a : Span) (f : NetFault) → StandsFor text m → HasNetFault text a f → ⊥
  no_net_fault a f s k =
      let h = s.has_parts in
      let e = same_parts text k.source h.source k.parts s.parts k.written h.written k.are_parts h.parts in
      apart s.parts m f s.is_module (same_fault k.parts s.parts e f k.fault)

  pub no_fault : (f : TextFault) → StandsFor text m → IsFault text f → ⊥
  no_fault (Lex f) s k = no_tokens k s.has_parts.written.tokens s.has_parts.written.has_tokens
  no_fault (Syntax a) s k = not_written text k.token s.has_parts.source k.faulty s.has_parts.written
  no_fault (NotInSubset a) s k = not_written text k.token s.has_parts.source k.faulty s.has_parts.written
  no_fault (Limit f) s k =
      let h = s.has_parts in
      no_limit (limit_fault h.source) f h.limits (subst (λ z. limit_fault z ≡ Some f) (one_written text k.0 h.source k.1 h.written) k.2)
  no_fault (Net a f) s k = no_net_fault a f s k
