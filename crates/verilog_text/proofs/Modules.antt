-- Tokens say one thing.
use Rattle.std.proofs.Common.{◌≡◌, List, [], ◌∷◌, Option, Some, None, refl, sym, ap, ◌∙◌, subst}
use Rattle.verilog_text.specs.declared.token.Token.{Token}
use Rattle.verilog_text.specs.declared.token.Symbol.TheVariants as symbol
use Rattle.verilog_text.specs.declared.token.TokenKind.TheVariants as kind
use Rattle.verilog_text.specs.declared.written.WrittenPort.{WrittenPort}
use Rattle.dk_base.specs.declared.span.Span.{Span}
use Rattle.verilog_text.specs.declared.written.WrittenDeclaration.{WrittenDeclaration}
use Rattle.verilog_text.specs.declared.written.WrittenAssign.{WrittenAssign}
use Rattle.verilog_text.specs.declared.written.WrittenUpdate.{WrittenUpdate}
use Rattle.verilog_text.specs.Grammar.{Tokens, named, Ports, last, more, Each, none, more as further, Assign, assign, Update, Declares, Block, left_out, always, Source, Module, whole}
use Rattle.verilog_text.proofs.PartReaders.{port_of, assign_of, update_of, declaration_of}
use Rattle.verilog_text.proofs.ParsedParts.{port_is, assign_is, update_is, declaration_is}

-- one result
abbrev found_or : {V : Type 0} → V × Tokens → Option (V × Tokens) → V × Tokens
found_or d None = d
found_or d (Some x) = x

one_result : {V : Type 0} (o : Option (V × Tokens)) (v w : V) (a b : Tokens) → o ≡ Some (v, a) → o ≡ Some (w, b) → (v ≡ w) × (a ≡ b)
one_result o v w a b p q =
    let both = ap (λ x. found_or (v, a) x) (sym p ∙ q) in
    (ap (λ x. x.0) both, ap (λ x. x.1) both)

head_is : (a b : Token) (x y : Tokens) → a ∷ x ≡ b ∷ y → a ≡ b
head_is a b x y h = cc

tail_is : (a b : Token) (x y : Tokens) → a ∷ x ≡ b ∷ y → x ≡ y
tail_is a b x y h = cc

not_both_signs : (t u : Token) → t ≡ u → t.kind ≡ kind.Symbol symbol.Close → u.kind ≡ kind.Symbol symbol.Comma → ⊥
not_both_signs t u e p q =
    let f : kind.Symbol symbol.Close ≡ kind.Symbol symbol.Comma = sym p ∙ ap (λ x. x.kind) e ∙ q in cc

pub one_ports : {ts r : Tokens} {ps : List WrittenPort} → Ports ts ps r → (qs : List WrittenPort) (r' : Tokens) → Ports ts qs r' → (ps ≡ qs) × (r ≡ r')
one_ports {ts = ts} (last {rest = r} {p = p} {t = t} a c) qs r' (last {p = p'} {t = t'} a' c') =
    let e = one_result (port_of ts) p p' (t ∷ r) (t' ∷ r') (port_is a) (port_is a') in
    (ap (λ x. x ∷ []) e.0, tail_is t t' r r' e.1)
one_ports {ts = ts} (last {rest = r} {p = p} {t = t} a c) qs r' (more {mid = m'} {p = p'} {t = t'} a' c' d') =
    let e = one_result (port_of ts) p p' (t ∷ r) (t' ∷ m') (port_is a) (port_is a') in
    absurd (not_both_signs t t' (head_is t t' r m' e.1) c c')
one_ports {ts = ts} (more {mid = m} {p = p} {t = t} a c d) qs r' (last {p = p'} {t = t'} a' c') =
    let e = one_result (port_of ts) p p' (t ∷ m) (t' ∷ r') (port_is a) (port_is a') in
    absurd (not_both_signs t' t (sym (head_is t t' m r' e.1)) c' c)
one_ports {ts = ts} (more {mid = m} {p = p} {ps = ps} {t = t} a c d) qs r' (more {mid = m'} {p = p'} {ps = ps'} {t = t'} a' c' d') =
    let e = one_result (port_of ts) p p' (t ∷ m) (t' ∷ m') (port_is a) (port_is a') in
    let f = one_ports d ps' r' (subst (λ x. Ports x ps' r') (sym (tail_is t t' m m' e.1)) d') in
    let both : p ∷ ps ≡ p' ∷ ps' = ap (λ x. x ∷ ps) e.0 ∙ ap (λ x. p' ∷ x) f.0 in
    (both, f.1)

not_none : {V : Type 0} (o : Option (V × Tokens)) (v : V) (a : Tokens) → o ≡ None → o ≡ Some (v, a) → ⊥
not_none o v a p q = cc (p, q)

-- as many of them as there are
pub one_each : {V : Type 0} (One : Tokens → V → Tokens → Type 0) (read : Tokens → Option (V × Tokens)) (is : (ts rest : Tokens) (v : V) → One ts v rest → read ts ≡ Some (v, rest))
    → {ts r : Tokens} {vs : List V} → Each One ts vs r → read r ≡ None → (ws : List V) (r' : Tokens) → Each One ts ws r' → read r' ≡ None → (vs ≡ ws) × (r ≡ r')
one_each One read is none n ws r' none n' = (refl, refl)
one_each One read is {ts = ts} none n ws r' (further {mid = m'} {x = v'} a' d') n' = absurd (not_none (read ts) v' m' n (is ts m' v' a'))
one_each One read is {ts = ts} (further {mid = m} {x = v} a d) n ws r' none n' = absurd (not_none (read ts) v m n' (is ts m v a))
one_each One read is {ts = ts} (further {mid = m} {x = v} {xs = vs} a d) n ws r' (further {mid = m'} {x = v'} {xs = vs'} a' d') n' =
    let e = one_result (read ts) v v' m m' (is ts m v a) (is ts m' v' a') in
    let f = one_each One read is d n vs' r' (subst (λ x. Each One x vs' r') (sym e.1) d') n' in
    let both : v ∷ vs ≡ v' ∷ vs' = ap (λ x. x ∷ vs) e.0 ∙ ap (λ x. v' ∷ x) f.0 in
    (both, f.1)

-- where declarations, assigns and updates end
no_assign : {ts r : Tokens} {us : List WrittenUpdate} → Block ts us r → assign_of ts ≡ None
no_assign (left_out e) = rw e refl
no_assign (always a t o p c d b us e f) = rw a refl

no_declaration_here : {ts r : Tokens} {us : List WrittenUpdate} → Block ts us r → declaration_of ts ≡ None
no_declaration_here (left_out e) = rw e refl
no_declaration_here (always a t o p c d b us e f) = rw a refl

no_declaration : {ts mid r : Tokens} {as' : List WrittenAssign} {us : List WrittenUpdate} → Each Assign ts as' mid → Block mid us r → declaration_of ts ≡ None
no_declaration none b = no_declaration_here b
no_declaration (further (assign k n e r) d) b = rw k refl

pub one_block : {ts r : Tokens} {us : List WrittenUpdate} → Block ts us r → (vs : List WrittenUpdate) (r' : Tokens) → Block ts vs r' → us ≡ vs
one_block (left_out e) vs r' (left_out e') = refl
one_block (left_out e) vs r' (always a' t' o' p' c' d' b' us' f' g') = absurd (cc)
one_block (always a t o p c d b us f g) vs r' (left_out e') = absurd (cc)
one_block (always {end = end} {e = e} {rest = rest} a t o p c d b us f g) vs r' (always {end = end'} {e = e'} {rest = rest'} a' t' o' p' c' d' b' us' f' g') =
    let n : update_of (end ∷ e ∷ rest) ≡ None = rw f refl in
    let n' : update_of (end' ∷ e' ∷ rest') ≡ None = rw f' refl in
    (one_each Update update_of (λ ts rest v x. update_is x) us n vs (end' ∷ e' ∷ rest') us' n').0

abbrev source_with : Span → List WrittenPort → List WrittenDeclaration → List WrittenAssign → List WrittenUpdate → Source
source_with n ps ds as' us = record { name = n; ports = ps; declarations = ds; assigns = as'; updates = us }

same_source : (n n' : Span) (ps ps' : List WrittenPort) (ds ds' : List WrittenDeclaration) (as' as'' : List WrittenAssign) (us us' : List WrittenUpdate)
    → n ≡ n' → ps ≡ ps' → ds ≡ ds' → as' ≡ as'' → us ≡ us' → source_with n ps ds as' us ≡ source_with n' ps' ds' as'' us'
same_source n n' ps ps' ds ds' as' as'' us us' a b c d e = rw (a, b, c, d, e) refl

one_name : (o : Option Span) (a b : Span) → o ≡ Some a → o ≡ Some b → a ≡ b
one_name o a b p q = cc (p, q)

pub one_source : (tokens : Tokens) (s t : Source) → Module tokens s → Module tokens t → s ≡ t
one_source tokens s t (whole {t = w} {s = c} {ds = ds} {as' = as'} {us = us} {n = n} {ports = ps} {decls = xs} {assigns = ys} {updates = zs} m a o p e d f b z) (whole {s = c'} {ds = ds'} {as' = as''} {us = us'} {e = fin'} {n = n'} {ports = ps'} {decls = xs'} {assigns = ys'} {updates = zs'} m' a' o' p' e' d' f' b' z') =
    let ports = one_ports p ps' (c' ∷ ds') p' in
    let same_ds : ds' ≡ ds = sym (tail_is c c' ds ds' ports.1) in
    let decls = one_each Declares declaration_of (λ ts rest v x. declaration_is x) d (no_declaration f b) xs' as'' (subst (λ x. Each Declares x xs' as'') same_ds d') (no_declaration f' b') in
    let assigns = one_each Assign assign_of (λ ts rest v x. assign_is x) f (no_assign b) ys' us' (subst (λ x. Each Assign x ys' us') (sym decls.1) f') (no_assign b') in
    let updates : zs ≡ zs' = one_block b zs' (fin' ∷ []) (subst (λ x. Block x zs' (fin' ∷ [])) (sym assigns.1) b') in
    same_source n n' ps ps' xs xs' ys ys' zs zs' (one_name (named w.kind w.span) n n' a a') ports.0 decls.0 assigns.0 updates
