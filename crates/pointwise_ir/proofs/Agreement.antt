-- Expressions have the same value over pictures that agree where they read.
use Rattle.std.proofs.Common.{◌≡◌, ℕ, zero, suc, ◌+◌, ◌-◌, ◌<◌, ◌≤◌, List, [], ◌∷◌, ◌++◌, length, ℤ, pos, ◌+ℤ◌, refl, ap, sym, ◌∙◌, arith, inl, inr, length-append, if◌then◌else◌}
use Rattle.std.proofs.Math.ListN.{get_or-append}
use Rattle.std.proofs.Math.Seq.{get_or-append_right}
use Rattle.std.proofs.lemmas.Bool.{cases_lt}
use Rattle.dk_base.specs.Frames.{Size, in_frame, clamped, Picture}
use Rattle.dk_base.specs.Operators.{unary_value, binary_value, scaling_value, conversion_value, select_value}
use Rattle.pointwise_ir.specs.declared.expr.Edge.{Edge}
use Rattle.pointwise_ir.specs.declared.expr.Edge.TheVariants.{Zero, Clamp}
use Rattle.pointwise_ir.specs.Trees.{Tree, constant, read, shifted, unary, binary, select, convert, scale, EachImage}
use Rattle.dk_base.specs.Frames.{framed, picture_at}
use Rattle.pointwise_ir.specs.Meaning.{edged, value, pictures_from}

-- two pictures with the same pixels at all points
abbrev pub Agree : (p q : Picture) → Type 0
Agree p q = (x y : ℤ) → p x y ≡ q x y

pub framed_agrees : (size : Size) (p q : Picture) → Agree p q → Agree (framed size p) (framed size q)
framed_agrees size p q same x y = ap (λ v. if in_frame size x y then v else pos 0) (same x y)

pub edged_agrees : (size : Size) (edge : Edge) (p q : Picture) → Agree p q → Agree (edged size edge p) (edged size edge q)
edged_agrees size Zero p q same x y = framed_agrees size p q same x y
edged_agrees size Clamp p q same x y = same (clamped size.width x) (clamped size.height y)

pub value_agrees : (size : Size) (P : ℕ → Type 0) (one other : List Picture) → ((g : ℕ) → P g → Agree (picture_at one g) (picture_at other g)) → (e : Tree) → EachImage P e → Agree (value size one e) (value size other e)
value_agrees size P one other same (constant v t) each x y = refl
value_agrees size P one other same (read edge g dx dy) each x y = edged_agrees size edge (picture_at one g) (picture_at other g) (same g each) (x +ℤ dx) (y +ℤ dy)
value_agrees size P one other same (shifted edge dx dy a) each x y = edged_agrees size edge (value size one a) (value size other a) (value_agrees size P one other same a each) (x +ℤ dx) (y +ℤ dy)
value_agrees size P one other same (unary op a) each x y = ap (unary_value op) (value_agrees size P one other same a each x y)
value_agrees size P one other same (binary op a b) each x y =
    ap (λ v. binary_value op v (value size one b x y)) (value_agrees size P one other same a each.0 x y)
    ∙ ap (binary_value op (value size other a x y)) (value_agrees size P one other same b each.1 x y)
value_agrees size P one other same (select c a b) each x y =
    ap (λ v. select_value v (value size one a x y) (value size one b x y)) (value_agrees size P one other same c each.0 x y)
    ∙ ap (λ v. select_value (value size other c x y) v (value size one b x y)) (value_agrees size P one other same a each.1 x y)
    ∙ ap (select_value (value size other c x y) (value size other a x y)) (value_agrees size P one other same b each.2 x y)
value_agrees size P one other same (convert how a t) each x y = ap (conversion_value how t) (value_agrees size P one other same a each x y)
value_agrees size P one other same (scale op a k) each x y = ap (λ v. scaling_value op v k) (value_agrees size P one other same a each x y)

-- what holds of all images holds of each that is read
pub each_any : (P : ℕ → Type 0) → ((g : ℕ) → P g) → (e : Tree) → EachImage P e
each_any P all (constant v t) = tt
each_any P all (read edge g dx dy) = all g
each_any P all (shifted edge dx dy a) = each_any P all a
each_any P all (unary op a) = each_any P all a
each_any P all (binary op a b) = (each_any P all a, each_any P all b)
each_any P all (select c a b) = (each_any P all c, each_any P all a, each_any P all b)
each_any P all (convert how a t) = each_any P all a
each_any P all (scale op a k) = each_any P all a

-- of each image that is read, Q holds where P does
pub each_weaker : (P Q : ℕ → Type 0) → ((g : ℕ) → P g → Q g) → (e : Tree) → EachImage P e → EachImage Q e
each_weaker P Q all (constant v t) each = tt
each_weaker P Q all (read edge g dx dy) each = all g each
each_weaker P Q all (shifted edge dx dy a) each = each_weaker P Q all a each
each_weaker P Q all (unary op a) each = each_weaker P Q all a each
each_weaker P Q all (binary op a b) each = (each_weaker P Q all a each.0, each_weaker P Q all b each.1)
each_weaker P Q all (select c a b) each = (each_weaker P Q all c each.0, each_weaker P Q all a each.1, each_weaker P Q all b each.2)
each_weaker P Q all (convert how a t) each = each_weaker P Q all a each
each_weaker P Q all (scale op a k) each = each_weaker P Q all a each

-- the entry after the known ones
at_end : (known : List Picture) (p : Picture) (g : ℕ) → length known ≤ g → picture_at (known ++ p ∷ []) g ≡ picture_at (p ∷ []) (g - length known)
at_end known p g past = get_or-append_right known (p ∷ []) g (λ _ _. pos 0) past

-- one picture more on both sides
pub one_more : (one other : List Picture) (p q : Picture) → length one ≡ length other → ((g : ℕ) → Agree (picture_at one g) (picture_at other g)) → Agree p q →
    (g : ℕ) → Agree (picture_at (one ++ p ∷ []) g) (picture_at (other ++ q ∷ []) g)
one_more one other p q long same also g x y = elim (cases_lt g (length one)) [
  | inl lt ↦
      ap (λ (r : Picture). r x y) (get_or-append one (p ∷ []) (λ _ _. pos 0) g lt) ∙ same g x y
      ∙ sym (ap (λ (r : Picture). r x y) (get_or-append other (q ∷ []) (λ _ _. pos 0) g (let here : g < length other = omega (arith, long) in here)))
  | inr ge ↦
      ap (λ (r : Picture). r x y) (at_end one p g ge) ∙ last (g - length one)
      ∙ ap (λ k. picture_at (q ∷ []) (g - k) x y) long
      ∙ sym (ap (λ (r : Picture). r x y) (at_end other q g (let here : length other ≤ g = omega (arith, long) in here)))
]
  where
    last : (k : ℕ) → picture_at (p ∷ []) k x y ≡ picture_at (q ∷ []) k x y
    last zero = also x y
    last (suc k) = refl

-- pictures over known ones that agree
pub pictures_agree : (size : Size) (bodies : List Tree) (one other : List Picture) → length one ≡ length other → ((g : ℕ) → Agree (picture_at one g) (picture_at other g)) →
    (g : ℕ) → Agree (picture_at (pictures_from size one bodies) g) (picture_at (pictures_from size other bodies) g)
pictures_agree size [] one other long same g x y = same g x y
pictures_agree size (e ∷ bodies) one other long same g x y =
    let p = framed size (value size one e) in
    let q = framed size (value size other e) in
    let also : Agree p q = framed_agrees size (value size one e) (value size other e) (value_agrees size (λ _. Unit {0}) one other (λ h _. same h) e (each_any (λ _. Unit {0}) (λ _. tt) e)) in
    let longer : length (one ++ p ∷ []) ≡ length (other ++ q ∷ []) = length-append one (p ∷ []) ∙ ap (λ n. n + 1) long ∙ sym (length-append other (q ∷ [])) in
    pictures_agree size bodies (one ++ p ∷ []) (other ++ q ∷ []) longer (one_more one other p q long same also) g x y
