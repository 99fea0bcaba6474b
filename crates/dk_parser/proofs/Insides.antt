-- Enclosed expressions and reads, after their first token.
use Rattle.std.proofs.Common.{◌≡◌, ◌≢◌, ◌⊎◌, inl, inr, ◌<◌, ◌≤◌, [], ◌∷◌, ◌++◌, refl, ap, sym, ◌∙◌, subst, arith, append_assoc}
use Rattle.dk_base.specs.declared.span.Span.{Span}
use Rattle.dk_base.specs.declared.operator.Unary.{Unary}
use Rattle.dk_lexer.specs.declared.token.Token.{Token}
use Rattle.dk_grammar.specs.Reading.{Alike, Stuck}
use Rattle.dk_grammar.proofs.Stucks.{stuck_within, stuck_here, front_alike}
use Rattle.dk_parser.specs.declared.terminal.Mark.TheVariants as mark
use Rattle.source_words.specs.declared.word.Keyword.TheVariants.{Edge, Clamp}
use Rattle.dk_parser.specs.declared.terminal.Terminal.{Terminal}
use Rattle.dk_parser.specs.declared.terminal.Terminal.TheVariants.{Keyword}
use Rattle.dk_parser.specs.declared.tree.ImageRead.{ImageRead}
use Rattle.dk_parser.specs.declared.tree.Start.{Start}
use Rattle.dk_parser.specs.declared.tree.Binding.{Binding}
use Rattle.dk_parser.specs.declared.tree.Binding.TheVariants.{Operator, Clamps, Stops}
use Rattle.dk_parser.specs.declared.tree.Start.TheVariants.{Prefix, Constant, Image, Bracket, Pair, Absolute, Saturate, Choice, Nothing}
use Rattle.dk_parser.specs.Tree.{Tree, number, read, unary, binary, sat, select, at_span}
use Rattle.dk_parser.specs.Terminals.{terminal}
use Rattle.dk_parser.specs.Words.{Sign, over}
use Rattle.dk_parser.specs.Reads.{Unclamped, Reads, clamped_of, plain as unclamped', clamped}
use Rattle.dk_parser.specs.Grammar.{Tokens, comparison, primary, enclosed, Phrase, closed, reading, constant, bracket, pair, absolute, saturate, choice, binding, start}
use Rattle.dk_parser.specs.Front.{rank, precedence, IsEdge, IsFront}
use Rattle.dk_parser.specs.Faults.{Ends, Inside, Opens}
use Rattle.dk_parser.proofs.Tokens.{number_token}
use Rattle.dk_parser.proofs.ReadLaws.{clear_unclamped, reads_first}
use Rattle.dk_parser.proofs.Laws.{local, not_read, enclosed_first, head_is, tail_is}
use Rattle.dk_parser.proofs.Stucks.{alike_rank, ends_there}

-- The first token determines what follows it.
pub enclosed_out : {w r : Tokens} {e : Tree} {tok : Token} → Phrase enclosed (tok ∷ w) e r → Inside (start (terminal tok)) tok.span w e r
enclosed_out (constant n) = rw n (refl, refl)
enclosed_out {r = z} (bracket {e = x} {close = c} a p b) = rw a ((x, c.span), z, (c, p, b, refl), (refl, refl))
enclosed_out {r = z} (pair {ts = ts} {mid = m} {a = x} {b = y} {opening = u} {comma = v} {close = c} f a p d q b) =
    rw f (u.span, ts, (u, refl, (a, refl)), ((x, v.span), m, (v, p, d, refl), ((y, c.span), z, (c, q, b, refl), (refl, refl))))
enclosed_out {r = z} (absolute {ts = ts} {e = x} {opening = u} {close = c} f a p b) =
    rw f (u.span, ts, (u, refl, (a, refl)), ((x, c.span), z, (c, p, b, refl), (refl, refl)))
enclosed_out {r = z} (saturate {ts = ts} {e = x} {t = t} {opening = u} {comma = v} {word = w} {close = c} f a p d h b) =
    rw f (u.span, ts, (u, refl, (a, refl)), ((x, v.span), w ∷ c ∷ z, (v, p, d, refl), (t, c ∷ z, (w, refl, h), (c.span, z, (c, refl, (b, refl)), (refl, refl)))))
enclosed_out {r = z} (choice {ts = ts} {mid = m} {behind = n} {c = x} {a = y} {b = k} {opening = u} {comma = v} {second = s} {close = c} f a p d q g l b) =
    rw f (u.span, ts, (u, refl, (a, refl)), ((x, v.span), m, (v, p, d, refl), ((y, s.span), n, (s, q, g, refl), ((k, c.span), z, (c, l, b, refl), (refl, refl)))))

ended : {w m r : Tokens} {e e' : Tree} → Phrase enclosed w e m → e ≡ e' → m ≡ r → Phrase enclosed w e' r
ended {w = w} {r = r} {e = e} p a b = subst (λ x. Phrase enclosed w x r) a (subst (λ x. Phrase enclosed w e x) b p)

pub enclosed_in : (k : Start) (tok : Token) (w r : Tokens) (e : Tree) → start (terminal tok) ≡ k → Inside k tok.span w e r → Phrase enclosed (tok ∷ w) e r
enclosed_in (Constant v) tok w r e s q = ended (constant s) q.0 q.1
enclosed_in Bracket tok w r e s q = let c = q.2 in ended (bracket s c.1 c.2) (ap (λ x. at_span (over tok.span x) q.0.0) c.3 ∙ q.3.0) q.3.1
enclosed_in (Pair op) tok w r e s q =
    let o = q.2 in
    let i = q.3 in
    let j = i.3 in
    let a = i.2 in
    let b = j.2 in
    rw o.1 (ended (pair s o.2.0 a.1 a.2 b.1 b.2) (ap (λ x. binary (over tok.span x) op i.0.0 j.0.0) b.3 ∙ j.3.0) j.3.1)
enclosed_in Absolute tok w r e s q =
    let o = q.2 in
    let i = q.3 in
    let a = i.2 in
    rw o.1 (ended (absolute s o.2.0 a.1 a.2) (ap (λ x. unary (over tok.span x) Unary.Abs i.0.0) a.3 ∙ i.3.0) i.3.1)
enclosed_in Saturate tok w r e s q =
    let o = q.2 in
    let i = q.3 in
    let j = i.3 in
    let k = j.3 in
    let a = i.2 in
    let t = j.2 in
    let c = k.2 in
    let p = subst (λ x. Phrase comparison q.1 i.0.0 (a.0 ∷ x)) (t.1 ∙ ap (λ x. t.0 ∷ x) c.1) a.1 in
    rw o.1 (ended (saturate s o.2.0 p a.2 t.2 c.2.0) (ap (λ x. sat (over tok.span x) i.0.0 j.0) c.2.1 ∙ k.3.0) k.3.1)
enclosed_in Choice tok w r e s q =
    let o = q.2 in
    let i = q.3 in
    let j = i.3 in
    let k = j.3 in
    let a = i.2 in
    let b = j.2 in
    let c = k.2 in
    rw o.1 (ended (choice s o.2.0 a.1 a.2 b.1 b.2 c.1 c.2) (ap (λ x. select (over tok.span x) i.0.0 j.0.0 k.0.0) c.3 ∙ k.3.0) k.3.1)
enclosed_in (Prefix op) tok w r e s q = absurd q
enclosed_in Image tok w r e s q = absurd q
enclosed_in Nothing tok w r e s q = absurd q

not_image : (k : Start) → Opens k → k ≢ Image
not_image (Constant v) o e = cc
not_image Bracket o e = cc
not_image (Pair op) o e = cc
not_image Absolute o e = cc
not_image Saturate o e = cc
not_image Choice o e = cc
not_image (Prefix op) o e = cc
not_image Image o e = o
not_image Nothing o e = cc

primary_out : {w r : Tokens} {e : Tree} {tok : Token} → Phrase primary (tok ∷ w) e r → start (terminal tok) ≢ Image → Phrase enclosed (tok ∷ w) e r
primary_out (closed p) n = p
primary_out (reading p) n = let f = reads_first p in absurd (n (ap (λ x. start (terminal x)) (head_is _ _ _ _ f.2) ∙ f.3))

pub stuck_inside : (ts after at : Tokens) (tok : Token) (k : Start) → ts ≡ tok ∷ after → start (terminal tok) ≡ k → Opens k
    → Stuck (Inside k tok.span) after at → Stuck (Ends primary) ts at
stuck_inside ts after at tok k e s o h =
    rw e (stuck_within {P = Inside k tok.span} {Q = Ends primary} (tok ∷ [])
    (λ w u p. (u, (closed (enclosed_in k tok w [] u s p), omega arith)))
    (λ w r v a m. let d = primary_out m.0 (λ i. not_image k o (sym s ∙ i)) in (v, r, subst (λ x. Inside x tok.span w v r) s (enclosed_out d)))
    h)

precedence_positive : (b : Binding) → 0 < precedence b
precedence_positive Clamps = omega arith
precedence_positive (Operator n s) = omega arith
precedence_positive Stops = omega arith

pub rank_positive : (ts : Tokens) → 0 < rank ts
rank_positive [] = omega arith
rank_positive (t ∷ ts) = precedence_positive (binding (terminal t))

-- What begins no primary expression.
primary_first : {ts r : Tokens} {e : Tree} → Phrase primary ts e r → (tok : Token) × (s : Tokens) × (k : Start) × (ts ≡ tok ∷ s) × (start (terminal tok) ≡ k) × (Opens k ⊎ (k ≡ Image))
primary_first (closed p) = let f = enclosed_first p in (f.0, f.1, start (terminal f.0), f.2, refl, inl f.3)
primary_first (reading p) = let f = reads_first p in (f.0, f.1, start (terminal f.0), f.2, refl, inr f.3)

pub stuck_nothing : (ts : Tokens) → ((tok : Token) (s : Tokens) (k : Start) → ts ≡ tok ∷ s → start (terminal tok) ≡ k → (Opens k ⊎ (k ≡ Image)) → ⊥) → Stuck (Ends primary) ts ts
stuck_nothing ts none =
    let t = number_token 0 in
    stuck_here {P = Ends primary} ts (t.0 ∷ []) (number t.0.span 0) (closed (constant {v = 0} (rw t.1 refl)), omega arith)
    (λ w r v a m. let d = primary_first m.0 in let f = front_alike ts w d.1 d.0 a d.3 in none d.0 f.0 d.2 f.1 d.4 d.5)

-- No `edge` follows an enclosed expression.
enclosed_only : {ts w r : Tokens} {e v : Tree} → Phrase enclosed ts e w → Phrase primary ts v r → w ≡ r
enclosed_only {w = w} {r = r} p (closed q) = ends_there p (rank_positive w) q (rank_positive r)
enclosed_only p (reading q) = absurd (not_read p q)

pub stuck_edge : (ts rest : Tokens) (e : Tree) → Phrase enclosed ts e rest → rank rest ≤ 1 → Stuck (Ends primary) ts rest
stuck_edge ts rest e p h =
    let i = local p in
    record {
      taken = i.own;
      whole = i.whole;
      more = [];
      value = e;
      begins = (closed (i.again []), omega arith);
      none = λ w r v a m.
          let same = enclosed_only (i.again w) m.0 in
          let k = m.1 in
          let like = alike_rank rest w a in
          omega (arith, h, k, like, ap rank same);
    }

pub primary_whole : (ts after rest : Tokens) (e : Tree) (tok : Token) (k : Start) → ts ≡ tok ∷ after → start (terminal tok) ≡ k → Inside k tok.span after e rest → Phrase enclosed ts e rest
primary_whole ts after rest e tok k w s p = rw w (enclosed_in k tok after rest e s p)

-- Reads.
read_out : {w r : Tokens} {e : Tree} → Phrase primary w e r → (tok : Token) (s : Tokens) → w ≡ tok ∷ s → start (terminal tok) ≡ Image → Reads w e r
read_out (reading p) tok s e h = p
read_out (closed p) tok s e h =
    let f = enclosed_first p in
    let k : start (terminal f.0) ≡ Image = ap (λ x. start (terminal x)) (head_is _ _ _ _ (sym f.2 ∙ e)) ∙ h in
    absurd (subst Opens k f.3)

unclamped_out : {w r : Tokens} {e : Tree} → Reads w e r → (x : Span × ImageRead) × (s : Tokens) × Unclamped w x s
unclamped_out {r = r} (unclamped' {r = x} p) = (x, r, p)
unclamped_out {r = r} (clamped {r = x} {edge = a} {clamp = b} p f g) = (x, a ∷ b ∷ r, p)

pub stuck_unclamped : (ts after at : Tokens) (tok : Token) → ts ≡ tok ∷ after → start (terminal tok) ≡ Image → Stuck Unclamped ts at → Stuck (Ends primary) ts at
stuck_unclamped ts after at tok e s k =
    stuck_within {P = Unclamped} {Q = Ends primary} []
    (λ w u p. (read u.0 u.1, (reading (unclamped' p), omega arith)))
    (λ w r v a m. let like = subst (λ x. Alike x w) e a in unclamped_out (read_out m.0 tok like.0 like.1 s))
    k

-- After a read and `edge` comes `clamp`.
clamp_out : {ts w r : Tokens} {e : Tree} {x : Span × ImageRead} {edge : Token} → Unclamped ts x (edge ∷ w) → terminal edge ≡ Keyword Edge → Phrase primary ts e r → 1 < rank r
    → (z : Span) × Sign (mark.Reserved Clamp) w z r
clamp_out p f (closed q) h = absurd (not_read q (unclamped' p))
clamp_out p f (reading (unclamped' q)) h =
    let i = clear_unclamped.one q p in
    let n : rank _ ≡ 1 = ap rank i.1 ∙ rw f refl in
    absurd (omega (arith, n))
clamp_out p f (reading (clamped {edge = a} {clamp = b} q g k)) h =
    let i = clear_unclamped.one p q in (b.span, (b, tail_is _ _ _ _ i.1, (k, refl)))

pub stuck_clamp : (ts rest mid at : Tokens) (x : Span × ImageRead) (edge : Token) → Unclamped ts x rest → rest ≡ edge ∷ mid → terminal edge ≡ Keyword Edge
    → Stuck (Sign (mark.Reserved Clamp)) mid at → Stuck (Ends primary) ts at
stuck_clamp ts rest mid at x edge p e f k =
    let o = clear_unclamped.own p in
    let split : ts ≡ (o.0 ++ (edge ∷ [])) ++ mid = o.1 ∙ ap (λ y. o.0 ++ y) e ∙ sym (append_assoc o.0 (edge ∷ []) mid) in
    rw split (stuck_within {P = Sign (mark.Reserved Clamp)} {Q = Ends primary} (o.0 ++ (edge ∷ []))
    (λ w u m. (read (over x.0 m.0.span) (clamped_of x.1), (rw (append_assoc, m.1) (reading (clamped (o.2 (edge ∷ m.0 ∷ [])) f m.2.0)), omega arith)))
    (λ w r v a m. let d = clamp_out (o.2 (edge ∷ w)) f (rw append_assoc at m.0) m.1 in (d.0, r, d.1))
    k)

-- No second `edge` follows.
clamped_only : {ts w r : Tokens} {e : Tree} {x : Span × ImageRead} {edge clamp : Token} → Unclamped ts x (edge ∷ clamp ∷ w) → terminal edge ≡ Keyword Edge → Phrase primary ts e r → 1 < rank r → w ≡ r
clamped_only p f (closed q) h = absurd (not_read q (unclamped' p))
clamped_only p f (reading (unclamped' q)) h =
    let i = clear_unclamped.one q p in
    let n : rank _ ≡ 1 = ap rank i.1 ∙ rw f refl in
    absurd (omega (arith, n))
clamped_only p f (reading (clamped q g k)) h = let i = clear_unclamped.one p q in cc (i.1)

pub stuck_twice : (ts rest mid behind : Tokens) (x : Span × ImageRead) (edge clamp : Token) → Unclamped ts x rest → rest ≡ edge ∷ mid → terminal edge ≡ Keyword Edge
    → mid ≡ clamp ∷ behind → terminal clamp ≡ Keyword Clamp → rank behind ≤ 1 → Stuck (Ends primary) ts behind
stuck_twice ts rest mid behind x edge clamp p e f c g h =
    let o = clear_unclamped.own p in
    let two = edge ∷ clamp ∷ [] in
    record {
      taken = o.0 ++ two;
      whole = o.1 ∙ ap (λ y. o.0 ++ y) (e ∙ ap (λ y. edge ∷ y) c) ∙ sym (append_assoc o.0 two behind);
      more = [];
      value = read (over x.0 clamp.span) (clamped_of x.1);
      begins = (rw append_assoc (reading (clamped (o.2 (edge ∷ clamp ∷ [])) f g)), omega arith);
      none = λ w r v a m.
          let k = m.1 in
          let same = clamped_only (o.2 (edge ∷ clamp ∷ w)) f (rw append_assoc at m.0) k in
          let like = alike_rank behind w a in
          omega (arith, h, k, like, ap rank same);
    }

pub clamped_whole : (ts rest mid behind : Tokens) (x : Span × ImageRead) (edge clamp : Token) → Unclamped ts x rest → rest ≡ edge ∷ mid → terminal edge ≡ Keyword Edge
    → mid ≡ clamp ∷ behind → terminal clamp ≡ Keyword Clamp → Reads ts (read (over x.0 clamp.span) (clamped_of x.1)) behind
clamped_whole ts rest mid behind x edge clamp p e f c g = clamped (subst (λ y. Unclamped ts x y) (e ∙ ap (λ y. edge ∷ y) c) p) f g

pub edge_rank : (ts after : Tokens) → IsEdge ts after → rank ts ≤ 1
edge_rank ts after e = let f = e.is_edge in let h : rank ts ≡ 1 = ap rank e.whole ∙ rw f refl in omega (arith, h)

pub opens_all : (x : Start) → x ≢ Image → ((o : Unary) → x ≢ Prefix o) → x ≢ Nothing → Opens x
opens_all (Constant v) a b c = tt
opens_all Bracket a b c = tt
opens_all (Pair o) a b c = tt
opens_all Absolute a b c = tt
opens_all Saturate a b c = tt
opens_all Choice a b c = tt
opens_all Image a b c = absurd (a refl)
opens_all (Prefix o) a b c = absurd (b o refl)
opens_all Nothing a b c = absurd (c refl)

pub prefix_not : (x : Start) (o : Unary) → x ≡ Prefix o → Opens x ⊎ (x ≡ Image) → ⊥
prefix_not x o e (inl p) = subst Opens e p
prefix_not x o e (inr p) = cc (e, p)

pub nothing_not : (x : Start) → x ≡ Nothing → Opens x ⊎ (x ≡ Image) → ⊥
nothing_not x e (inl p) = subst Opens e p
nothing_not x e (inr p) = cc (e, p)

pub stuck_start : (ts after : Tokens) (t : Token) (kind : Terminal) (x : Start) → IsFront ts t kind after → x ≡ start kind → (Opens x ⊎ (x ≡ Image) → ⊥) → Stuck (Ends primary) ts ts
stuck_start ts after t kind x f e none =
    stuck_nothing ts (λ tok s k w g o.
    let same : k ≡ x = sym g ∙ ap (λ y. start (terminal y)) (head_is _ _ _ _ (sym w ∙ f.whole)) ∙ ap start f.kind_is ∙ sym e in
    none (subst (λ y. Opens y ⊎ (y ≡ Image)) same o))
