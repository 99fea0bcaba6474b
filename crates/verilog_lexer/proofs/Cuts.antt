-- The first token of what is left, and the tokens after it.
use Rattle.std.proofs.Common.{◌≡◌, ◌≢◌, ℕ, suc, ◌≤◌, ◌<◌, List, [], ◌∷◌, length, drop, Ok, Err, refl, sym, ap, ◌∙◌, subst, arith, length-drop}
use Rattle.verilog_text.specs.declared.token.Token.{Token}
use Rattle.verilog_text.specs.declared.token.LexKind.{LexKind}
use Rattle.verilog_text.specs.declared.token.TokenKind.{TokenKind}
use Rattle.verilog_text.specs.declared.token.TokenKind.TheVariants as kind
use Rattle.verilog_text.specs.declared.token.LexFault.{LexFault}
use Rattle.verilog_text.specs.Lexis.{Gap, none, Solid, Lexes, finish, next, Refused, here, later, lexeme, span_at}
use Rattle.verilog_text.proofs.Unique.{one_gap, one_lexeme, no_tokens}
use Rattle.verilog_lexer.specs.Left.{left_of, after, end_at, HasSome, IsCut, ended, found, IsPlace}
use Rattle.verilog_lexer.proofs.Gaps.{gap_fewer}
use Rattle.verilog_lexer.proofs.Lefts.{left_is}
use Rattle.verilog_lexer.proofs.Positive.{few_tokens, lexeme_has, bytes_of}
use Rattle.verilog_lexer.proofs.Ends.{no_end}

pub left_are : {total : ℕ} {rest : List ℕ} {ts : List Token} → Lexes total rest ts → left_of total rest ≡ ts
left_are {rest = r} l = left_is l (suc (length r)) (few_tokens l)

after_is : (k : TokenKind) (ts : List Token) → k ≢ kind.End → after k ts ≡ ts
after_is kind.End ts h = absurd (h refl)
after_is kind.Name ts h = refl
after_is kind.Clock ts h = refl
after_is (kind.Keyword w) ts h = refl
after_is kind.Refused ts h = refl
after_is (kind.Plain v) ts h = refl
after_is (kind.Sized c) ts h = refl
after_is (kind.Symbol s) ts h = refl

pub after_end : (t : Token) (ts : List Token) → t.kind ≡ kind.End → t ∷ after t.kind ts ≡ t ∷ []
after_end t ts e = ap (λ k. t ∷ after k ts) e

pub after_other : (t : Token) (ts : List Token) → t.kind ≢ kind.End → t ∷ after t.kind ts ≡ t ∷ ts
after_other t ts h = ap (λ x. t ∷ x) (after_is t.kind ts h)

-- the cut token, by what the bytes are
pub cut_end : (total : ℕ) (text bytes : List ℕ) → Gap text bytes → bytes ≡ [] → IsCut total text (end_at total) bytes
cut_end total text bytes g e = subst (λ x. IsCut total text (end_at total) x) (sym e) (ended (subst (λ x. Gap text x) e g))

pub cut_token : (total : ℕ) (text bytes behind after' : List ℕ) (first n : ℕ) (k : TokenKind) → Gap text bytes → Solid bytes → bytes ≡ first ∷ after' → lexeme first after' ≡ Ok (k, n) → behind ≡ drop n bytes
    → IsCut total text (record { span = span_at total bytes n; kind = k }) behind
cut_token total text bytes behind after' first n k g s e l b =
    subst (λ x. IsCut total text (record { span = span_at total x n; kind = k }) behind) (sym e)
    (found (subst (λ x. Gap text x) e g) (subst (λ x. Solid x) e s) l (b ∙ ap (λ x. drop n x) e))

pub cut_fault : (total : ℕ) (text bytes after' : List ℕ) (first n : ℕ) (k : LexKind) → Gap text bytes → Solid bytes → bytes ≡ first ∷ after' → lexeme first after' ≡ Err (k, n)
    → Refused total text (record { span = span_at total bytes n; kind = k })
cut_fault total text bytes after' first n k g s e l =
    subst (λ x. Refused total text (record { span = span_at total x n; kind = k })) (sym e) (here (subst (λ x. Gap text x) e g) (subst (λ x. Solid x) e s) l)

-- what follows a cut
pub cut_shorter : {total : ℕ} {text rest : List ℕ} {t : Token} → IsCut total text t rest → t.kind ≢ kind.End → length rest < length text
cut_shorter (ended g) h = absurd (h refl)
cut_shorter (found {bs = bs} {a = a} {n = n} g s l e) h =
    let p : 0 < n = subst (λ x. 0 < bytes_of x) l (lexeme_has a bs) in
    omega (arith, gap_fewer g, p, ap (λ x. length x) e, length-drop n (a ∷ bs))

pub cut_fewer : {total : ℕ} {text rest : List ℕ} {t : Token} → IsCut total text t rest → length rest ≤ length text
cut_fewer (ended g) = omega arith
cut_fewer (found {bs = bs} {a = a} {n = n} g s l e) = omega (arith, gap_fewer g, ap (λ x. length x) e, length-drop n (a ∷ bs))

pub cut_ended : {total : ℕ} {text rest : List ℕ} {t : Token} → IsCut total text t rest → t.kind ≡ kind.End → (t ≡ end_at total) × (rest ≡ [])
cut_ended (ended g) h = (refl, refl)
cut_ended (found {bs = bs} {a = a} {n = n} {kind = k} g s l e) h = absurd (no_end a n bs k l h)

-- the tokens of the text, from those after the cut
pub cut_lexes : {total : ℕ} {text rest : List ℕ} {t : Token} → IsCut total text t rest → (ts : List Token) → Lexes total rest ts → Lexes total text (t ∷ after t.kind ts)
cut_lexes (ended g) ts l = finish g
cut_lexes {total = total} (found {bs = bs} {a = a} {n = n} {kind = k} g s m e) ts l =
    rw (after_is k ts (no_end a n bs k m)) (next g s m (subst (λ x. Lexes total x ts) e l))

pub cut_refused : {total : ℕ} {text rest : List ℕ} {t : Token} {f : LexFault} → IsCut total text t rest → t.kind ≢ kind.End → Refused total rest f → Refused total text f
cut_refused (ended g) h r = absurd (h refl)
cut_refused {total = total} {f = f} (found g s m e) h r = later g s m (subst (λ x. Refused total x f) e r)

took : {total : ℕ} {text : List ℕ} {ts : List Token} → Lexes total text ts → (a : ℕ) (bs : List ℕ) → Gap text (a ∷ bs) → Solid (a ∷ bs) → (k : TokenKind) (n : ℕ) → lexeme a bs ≡ Ok (k, n)
    → (more : List Token) × Lexes total (drop n (a ∷ bs)) more
took (finish g) a bs g' s' k n e = let h = one_gap g tt (a ∷ bs) g' s' in absurd (cc)
took {total = total} (next {bs = x} {a = b} {n = m} {kind = y} {tokens = more} g s k l) a bs g' s' k' n e =
    let same = one_gap g s (a ∷ bs) g' s' in
    let both = one_lexeme b a m n x bs y k' k e same in
    let left : drop m (b ∷ x) ≡ drop n (a ∷ bs) = ap (λ z. drop z (b ∷ x)) both.1 ∙ ap (λ z. drop n z) same in
    (more, subst (λ z. Lexes total z more) left l)

pub cut_has : {total : ℕ} {text rest : List ℕ} {t : Token} → HasSome total text → IsCut total text t rest → HasSome total rest
cut_has {total = total} h (ended g) = record { tokens = end_at total ∷ []; lexes = finish none }
cut_has {total = total} h (found {bs = bs} {a = a} {n = n} {kind = k} g s m e) =
    let t = took h.lexes a bs g s k n m in
    record { tokens = t.0; lexes = subst (λ x. Lexes total x t.0) (sym e) t.1 }

pub cut_place : {total : ℕ} {text rest : List ℕ} {t : Token} → length text ≤ total → HasSome total text → IsCut total text t rest → IsPlace total t rest
cut_place f h c = record { fewer = omega (arith, f, cut_fewer c); has = cut_has h c; ended = cut_ended c }

-- the tokens that were left, from those that are left now
pub cut_left : {total : ℕ} {text rest : List ℕ} {t : Token} → HasSome total text → IsCut total text t rest → left_of total text ≡ t ∷ after t.kind (left_of total rest)
cut_left {total = total} {rest = rest} {t = t} h c =
    let b = cut_has h c in
    left_are (cut_lexes c b.tokens b.lexes) ∙ ap (λ x. t ∷ after t.kind x) (sym (left_are b.lexes))

pub no_refused : {total : ℕ} {text : List ℕ} {f : LexFault} → HasSome total text → Refused total text f → ⊥
no_refused h r = no_tokens r h.tokens h.lexes

-- after the end of the text nothing changes
pub end_stays : {total : ℕ} {old new : Token} {rest behind : List ℕ} → IsPlace total old rest → IsCut total rest new behind → old.kind ≡ kind.End
    → new ∷ after new.kind (left_of total behind) ≡ old ∷ after old.kind (left_of total rest)
end_stays {total = total} {old = old} {rest = rest} p c e =
    let h = p.ended e in
    let at : left_of total rest ≡ end_at total ∷ [] = ap (λ x. left_of total x) h.1 ∙ left_are {ts = end_at total ∷ []} (finish none) in
    let was : old ∷ after old.kind (left_of total rest) ≡ end_at total ∷ [] = ap (λ x. x ∷ after x.kind (left_of total rest)) h.0 in
    sym (cut_left p.has c) ∙ at ∙ sym was

-- what was passed over changes nothing
pub record Continues (source rest : List ℕ) : Type 0 where
  pub fewer : length rest ≤ length source
  pub has : HasSome (length source) rest → HasSome (length source) source
  pub refused : (f : LexFault) → Refused (length source) rest f → Refused (length source) source f

pub continues_start : (source : List ℕ) → Continues source source
continues_start source = record { fewer = omega arith; has = λ h. h; refused = λ f r. r }

pub continues_next : {source text rest : List ℕ} {t : Token} → Continues source text → IsCut (length source) text t rest → t.kind ≢ kind.End → Continues source rest
continues_next c k h = record {
  fewer = omega (arith, c.fewer, cut_fewer k);
  has = λ b. c.has (record { tokens = _; lexes = cut_lexes k b.tokens b.lexes });
  refused = λ f r. c.refused f (cut_refused k h r);
}

pub continues_end : {source text rest : List ℕ} {t : Token} → Continues source text → IsCut (length source) text t rest → t.kind ≡ kind.End → HasSome (length source) source
continues_end {source = source} c k h =
    let e = cut_ended k h in
    c.has (record { tokens = _; lexes = cut_lexes k (end_at (length source) ∷ []) (subst (λ x. Lexes (length source) x (end_at (length source) ∷ [])) (sym e.1) (finish none)) })

-- the tokens of a whole text, from its first one on
pub cut_whole : {total : ℕ} {text rest : List ℕ} {t : Token} → HasSome total text → IsCut total text t rest → Lexes total text (t ∷ after t.kind (left_of total rest))
cut_whole {total = total} {rest = rest} {t = t} h c =
    let b = cut_has h c in
    cut_lexes c (left_of total rest) (subst (λ x. Lexes total rest x) (sym (left_are b.lexes)) b.lexes)
