-- Each text denotes a module or has a fault.
use Rattle.std.proofs.Common.{◌≡◌, ◌≢◌, ◌⊎◌, inl, inr, ℕ, zero, suc, ◌<◌, ◌≤◌, List, [], ◌∷◌, length, Option, Some, None, true, false, refl, sym, subst, arith}
use Rattle.std.specs.Prelude.{map, slice_get, IsSome}
use Rattle.std.specs.Global.{Vec}
use Rattle.std.proofs.lemmas.List.{length-map}
use Rattle.dk_base.specs.declared.span.Span.{Span}
use Rattle.dk_grammar.specs.Reading.{IsFaulty}
use Rattle.netlist.specs.declared.parts.Parts.{Parts}
use Rattle.netlist.specs.declared.fault.NetFault.{NetFault}
use Rattle.netlist.specs.Names.{NamedNetlist}
use Rattle.netlist.specs.Faults.{IsFault as IsNetFault}
use Rattle.verilog_text.specs.declared.token.Token.{Token}
use Rattle.verilog_text.specs.declared.token.TokenKind.{TokenKind}
use Rattle.verilog_text.specs.declared.token.TokenKind.TheVariants as kind
use Rattle.verilog_text.specs.declared.fault.LimitFault.{LimitFault}
use Rattle.verilog_text.specs.declared.fault.TextFault.{TextFault}
use Rattle.verilog_text.specs.declared.fault.TextFault.TheVariants.{Lex, Syntax, NotInSubset, Limit, Net}
use Rattle.verilog_text.specs.Lexis.{HasTokens}
use Rattle.verilog_text.specs.Grammar.{Source, Module}
use Rattle.verilog_text.specs.Limits.{limit_fault}
use Rattle.verilog_text.specs.Stands.{bytes_at, port_of, declaration_of, assign_of, update_of, IsWritten, ArePartsOf, StandsFor}
use Rattle.verilog_text.specs.Faults.{IsModule, IsFaultyToken, fault_span, IsFault}
use Rattle.verilog_lexer.proofs.Positive.{few_tokens}
use Rattle.verilog_verdicts.proofs.Netted.{some}
use Rattle.verilog_verdicts.proofs.Lexed.{some_tokens, ended}
use Rattle.verilog_verdicts.proofs.Total.{some_source}
use Rattle.verilog_verdicts.proofs.Sized.{FitIn, fit_in}
use Rattle.verilog_read.proofs.Spanned.{fault_written}

abbrev Verdict : List ℕ → Type 0
Verdict text = ((m : NamedNetlist) × StandsFor text m) ⊎ ((f : TextFault) × IsFault text f)

-- the faulty token
token_at : (ts : List Token) (k : ℕ) → k < length ts → (t : Token) × (slice_get ts k ≡ Some t)
token_at [] k l = absurd (omega (arith, l))
token_at (t ∷ ts) zero l = (t, refl)
token_at (t ∷ ts) (suc k) l = token_at ts k (omega (arith, l))

is_refused : (k : TokenKind) → (k ≡ kind.Refused) ⊎ (k ≢ kind.Refused)
is_refused kind.Refused = inl refl
is_refused _ = inr (λ e. cc)

at_token : (text : List ℕ) (t : Token) → IsFaultyToken text t → Verdict text
at_token text t f = elim (is_refused t.kind) [
  | inl is ↦ inr (NotInSubset t.span, record { token = t; faulty = f; spanned = refl; refused = is })
  | inr other ↦ inr (Syntax t.span, record { token = t; faulty = f; spanned = refl; allowed = other })
]

-- a list of at most this many items, where a text of this length is held
vec_beside : {X Y : Type 0} (v : Vec Y) (xs : List X) → length xs ≤ length v.items → Vec X
vec_beside v xs l = record {
  ptr = v.ptr;
  len = length xs;
  cap = length xs;
  alloc = v.alloc;
  items = xs;
  ok = (refl, omega arith);
  small = (let a = v.ok.0 in let b = v.ok.1 in let c = v.small in omega (arith, l, a, b, c));
}

mapped : {X Y : Type 0} (f : X → Y) (xs : List X) (n : ℕ) → length xs ≤ n → length (map f xs) ≤ n
mapped f xs n l = let e = length-map xs f in omega (arith, e, l)

-- a text in which this is written
module _ (text : Vec ℕ) (s : Source) (w : IsWritten text.items s) (limits : limit_fault s ≡ None) where
  abbrev bytes : List ℕ
  bytes = text.items

  few : FitIn (length w.tokens) s
  few = fit_in w.is_module

  fits : (n : ℕ) → n < length w.tokens → n ≤ length bytes
  fits n l = let h = few_tokens w.has_tokens in omega (arith, h, l)

  parts : Parts
  parts = record {
    name = bytes_at bytes s.name;
    ports = vec_beside text (map (port_of bytes) s.ports) (mapped (port_of bytes) s.ports (length bytes) (fits (length s.ports) few.ports));
    declarations = vec_beside text (map (declaration_of bytes) s.declarations) (mapped (declaration_of bytes) s.declarations (length bytes) (fits (length s.declarations) few.declarations));
    assigns = vec_beside text (map (assign_of bytes) s.assigns) (mapped (assign_of bytes) s.assigns (length bytes) (fits (length s.assigns) few.assigns));
    updates = vec_beside text (map (update_of bytes) s.updates) (mapped (update_of bytes) s.updates (length bytes) (fits (length s.updates) few.updates));
  }

  are_parts : ArePartsOf bytes s parts
  unfolding vec_beside parts
  are_parts = record { name = refl; ports = refl; declarations = refl; assigns = refl; updates = refl }

  with_span : (f : NetFault) → IsNetFault parts f → (o : Option Span) → fault_span s f ≡ o → IsSome o → Verdict bytes
  with_span f is None e h = absurd (let no : false ≡ true = h in cc)
  with_span f is (Some span) e h = inr (Net span f, record { source = s; written = w; limits = limits; parts = parts; are_parts = are_parts; fault = is; spanned = e })

  at_parts : Verdict bytes
  at_parts = elim (some parts) [
    | inl m ↦ inl (m.0, record { parts = parts; has_parts = record { source = s; written = w; limits = limits; parts = are_parts }; is_module = m.1 })
    | inr f ↦ with_span f.0 f.1 (fault_span s f.0) refl (fault_written bytes s parts are_parts f.0 f.1)
  ]

at_source : (text : Vec ℕ) (s : Source) → IsWritten text.items s → (o : Option LimitFault) → limit_fault s ≡ o → Verdict text.items
at_source text s w None e = at_parts text s w e
at_source text s w (Some f) e = inr (Limit f, (s, w, e))

at_tokens : (text : Vec ℕ) (tokens : List Token) → HasTokens text.items tokens → ((s : Source) × Module tokens s) ⊎ ((k : ℕ) × IsFaulty IsModule tokens k) → Verdict text.items
at_tokens text tokens h (inl (s, m)) = at_source text s (record { tokens = tokens; has_tokens = h; is_module = m }) (limit_fault s) refl
at_tokens text tokens h (inr (k, f)) =
    let t = token_at tokens k f.inside in
    at_token text.items t.0 (record { tokens = tokens; has_tokens = h; index = k; faulty = f; at = t.1 })

-- each text denotes a module or has a fault
pub some_module : (text : Vec ℕ) → ((m : NamedNetlist) × StandsFor text.items m) ⊎ ((f : TextFault) × IsFault text.items f)
some_module text = elim (some_tokens text.items) [
  | inr f ↦ inr (Lex f.0, f.1)
  | inl h ↦
      let e = ended h.1 in
      at_tokens text h.0 h.1 (subst (λ x. ((s : Source) × Module x s) ⊎ ((k : ℕ) × IsFaulty IsModule x k)) (sym e.whole) (some_source e.before e.last e.is_end))
]
