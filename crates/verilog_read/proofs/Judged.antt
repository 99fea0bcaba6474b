-- What the passes say of the whole text.
use Rattle.std.proofs.Common.{◌≡◌, ℕ, List, Option, Some, None, Ok, Err, refl}
use Rattle.std.specs.Prelude.{Result, MatchResult, IsSome, IsErrAnd}
use Rattle.netlist.specs.declared.parts.Parts.{Parts}
use Rattle.netlist.specs.declared.fault.NetFault.{NetFault}
use Rattle.netlist.specs.Names.{NamedNetlist}
use Rattle.netlist.specs.Faults.{IsModuleOf, IsFault as IsNetFault}
use Rattle.dk_base.specs.declared.span.Span.{Span}
use Rattle.verilog_text.specs.declared.fault.TextFault.{TextFault}
use Rattle.verilog_text.specs.declared.fault.TextFault.TheVariants.{Net}
use Rattle.verilog_text.specs.declared.fault.TextError.{TextError}
use Rattle.verilog_text.specs.declared.fault.TextError.TheVariants.{Fault, OutOfMemory}
use Rattle.verilog_text.specs.Grammar.{Source}
use Rattle.verilog_text.specs.Limits.{limit_fault}
use Rattle.verilog_text.specs.Stands.{IsWritten, ArePartsOf, StandsFor}
use Rattle.verilog_text.specs.Faults.{fault_span, IsFault, IsErrorBy, Agrees}

pub stands : (text : List ℕ) (s : Source) (p : Parts) (m : NamedNetlist) → IsWritten text s → limit_fault s ≡ None → ArePartsOf text s p → IsModuleOf p m → StandsFor text m
stands text s p m w l a h = record { parts = p; has_parts = record { source = s; written = w; limits = l; parts = a }; is_module = h }

-- a net fault with its span
pub net_is : (text : List ℕ) (s : Source) (p : Parts) (f : NetFault) (g : TextFault) → IsWritten text s → limit_fault s ≡ None → ArePartsOf text s p → IsNetFault p f
    → IsSome (fault_span s f) → ((span : Span) → fault_span s f ≡ Some span → g ≡ Net span f) → IsFault text g
net_is text s p f g w l a h some spanned = by (fault_span s f) refl some
  where
    by : (o : Option Span) → fault_span s f ≡ o → IsSome o → IsFault text g
    by (Some span) e there = rw (spanned span e) (record { source = s; written = w; limits = l; parts = p; are_parts = a; fault = h; spanned = e })
    by None e there = absurd (cc)

-- what verilog_text says: a text denotes one module, or has one fault
pub record OneModule : Type 0 where
  pub one : (text : List ℕ) (m n : NamedNetlist) → StandsFor text m → StandsFor text n → m ≡ n
  pub agree : (text : List ℕ) (f g : TextFault) → IsFault text f → IsFault text g → Agrees f g
  pub apart : (text : List ℕ) (m : NamedNetlist) (f : TextFault) → StandsFor text m → IsFault text f → ⊥

pub accepts : OneModule → (text : List ℕ) (r : Result NamedNetlist TextError) → MatchResult r (StandsFor text) (IsErrorBy (IsFault text)) → (m : NamedNetlist) → StandsFor text m → MatchResult r (λ n. n ≡ m) (λ e. e ≡ OutOfMemory)
accepts l text (Ok n) a m h = l.one text n m a h
accepts l text (Err (Fault f)) a m h = absurd (l.apart text m f h a)
accepts l text (Err OutOfMemory) a m h = refl

pub refuses : OneModule → (text : List ℕ) (r : Result NamedNetlist TextError) → MatchResult r (StandsFor text) (IsErrorBy (IsFault text)) → (f : TextFault) → IsFault text f → IsErrAnd r (IsErrorBy (λ g. Agrees g f))
refuses l text (Ok n) a f h = l.apart text n f a h
refuses l text (Err (Fault g)) a f h = l.agree text g f a h
refuses l text (Err OutOfMemory) a f h = tt
