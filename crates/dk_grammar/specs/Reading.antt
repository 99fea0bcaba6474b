-- What is at the front of a list of tokens, and where a list stops being the beginning of a phrase.
use Rattle.std.specs.Prelude.{◌≡◌, ℕ, suc, ◌<◌, List, [], ◌∷◌, ◌++◌, length, take, Option, Some, Bool, true, false}

-- tokens, what is read at their front, and the tokens after it
abbrev pub Phrases : Type 0 → Type 0 → Type 1
Phrases T V = List T → V → List T → Type 0

-- one token, which is worth this
abbrev pub One : {T V : Type 0} → (T → V → Type 0) → Phrases T V
One {T = T} R ts v rest = (t : T) × (ts ≡ t ∷ rest) × R t v

-- a token is worth one thing, and there is one
pub record IsClass {T V : Type 0} (R : T → V → Type 0) : Type 0 where
  pub one : (t : T) (v w : V) → R t v → R t w → v ≡ w
  pub token : T
  pub value : V
  pub some : R token value

-- one after another, the second as the first says
abbrev pub Then : {T U V : Type 0} → Phrases T U → (U → Phrases T V) → Phrases T V
Then {T = T} {U = U} P Q ts v rest = (u : U) × (mid : List T) × P ts u mid × Q u mid v rest

-- nothing
abbrev pub Done : {T V : Type 0} → V → Phrases T V
Done v ts v' rest = (v ≡ v') × (ts ≡ rest)

-- any number of them one after another
pub data Many {T V : Type 0} (P : Phrases T V) : List T → List V → List T → Type 0 where
  none : {ts : List T} → Many P ts [] ts
  more : {ts mid rest : List T} {v : V} {vs : List V} → P ts v mid → Many P mid vs rest → Many P ts (v ∷ vs) rest

-- one or more of them
abbrev pub Several : {T V : Type 0} → Phrases T V → Phrases T (List V)
Several P = Then P (λ v. Then (Many P) (λ vs. Done (v ∷ vs)))

-- Elements one after another. The function says of the token after each of them whether it is followed by another one.
pub data Listed {T V : Type 0} (P : Phrases T V) (more : T → Option Bool) : List T → List V → List T → Type 0 where
  last : {ts mid rest : List T} {t : T} {v : V} → P ts v mid → mid ≡ t ∷ rest → more t ≡ Some false → Listed P more ts (v ∷ []) rest
  another : {ts mid after rest : List T} {t : T} {v : V} {vs : List V} → P ts v mid → mid ≡ t ∷ after → more t ≡ Some true → Listed P more after vs rest → Listed P more ts (v ∷ vs) rest

-- Elements one after another, where each says what the token after it may be, and that token says what comes next: from a state on to one that is the last.
pub data Chain {T M V : Type 0} (P : M → Phrases T V) (next : M → T → Option M) (last' : M → Bool) : M → List T → List V → List T → Type 0 where
  end : {m : M} {ts : List T} → last' m ≡ true → Chain P next last' m ts [] ts
  link : {m n : M} {ts mid after rest : List T} {t : T} {v : V} {vs : List V}
      → last' m ≡ false → P m ts v mid → mid ≡ t ∷ after → next m t ≡ Some n → Chain P next last' n after vs rest → Chain P next last' m ts (v ∷ vs) rest

-- the tokens begin as `at` does: with its first token, or with none where it has none
abbrev pub Alike : {T : Type 0} → List T → List T → Type 0
Alike [] ts = ts ≡ []
Alike {T = T} (t ∷ at) ts = (rest : List T) × (ts ≡ t ∷ rest)

-- The tokens before `at` begin a phrase, and those up to its first token begin none.
pub record Stuck {T V : Type 0} (P : Phrases T V) (ts at : List T) : Type 0 where
  pub taken : List T
  pub whole : ts ≡ taken ++ at
  pub more : List T
  pub value : V
  pub begins : P (taken ++ more) value []
  pub none : (w r : List T) (v : V) → Alike at w → P (taken ++ w) v r → ⊥

-- The token k is the faulty one: those before it begin a list of the language, and those up to it begin none.
abbrev pub Begins : {T : Type 0} → (List T → Type 0) → List T → Type 0
Begins {T = T} L ts = (more : List T) × L (ts ++ more)

pub record IsFaulty {T : Type 0} (L : List T → Type 0) (ts : List T) (k : ℕ) : Type 0 where
  pub inside : k < length ts
  pub before : Begins L (take k ts)
  pub none : Begins L (take (suc k) ts) → ⊥

-- Each phrase is its own tokens, whatever follows; the tokens determine where it ends and what it is; and there is one.
pub record Clear {T V : Type 0} (P : Phrases T V) : Type 0 where
  pub own : {ts rest : List T} {v : V} → P ts v rest → (o : List T) × (ts ≡ o ++ rest) × ((w : List T) → P (o ++ w) v w)
  pub one : {ts a b : List T} {v w : V} → P ts v a → P ts w b → (v ≡ w) × (a ≡ b)
  pub some : (w : List T) × (v : V) × P w v []
