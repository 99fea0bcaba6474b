-- What is added to a list, one part after another; what is added to a netlist leaves it without stops and under control.
use Rattle.std.proofs.Common.{◌≡◌, ◌⊎◌, ℕ, suc, ◌+◌, ◌<◌, ◌≤◌, ◌==◌, nat_lt, Bool, true, false, List, [], ◌∷◌, ◌++◌, length, get_or, Some, refl, sym, ap, subst, ◌∙◌, inl, inr, arith, append_assoc, append-nil}
use Rattle.std.specs.Prelude.{IsTrue, not, ◌&&◌, nat_le, All, Contains, slice_get}
use Rattle.std.specs.List.{list_any}
use Rattle.std.proofs.lemmas.Bool.{cases_lt}
use Rattle.std.proofs.lemmas.Option.{slice_get_within, slice_get_cases, same_Some, slice_get-get_or}
use Rattle.std.proofs.lemmas.List.{get_or_append_left}
use Rattle.std.proofs.lemmas.List.Elements.{All-nil, All-append, All-weaker, All-contains, Contains-append_right, Contains-append_cases}
use Rattle.wiring.specs.declared.right.Atom.{Atom}
use Rattle.wiring.specs.declared.right.Right.{Right}
use Rattle.wiring.specs.declared.right.Right.TheVariants.{Copy, Not, Binary, Choose, Join, Repeat, Bit, Slice, Word}
use Rattle.wiring.specs.declared.netlist.Net.{Net}
use Rattle.wiring.specs.declared.netlist.Net.TheVariants.{Input, Output, Wire, Reg}
use Rattle.wiring.specs.declared.netlist.Holder.{Holder}
use Rattle.wiring.specs.declared.netlist.Holder.TheVariants.{OfNet, OfArray}
use Rattle.wiring.specs.declared.netlist.Shape.{Shape}
use Rattle.wiring.specs.declared.netlist.Assign.{Assign}
use Rattle.wiring.specs.declared.netlist.Update.{Update}
use Rattle.wiring.specs.declared.netlist.Update.TheVariants.{Set, Put}
use Rattle.wiring.specs.BufferBits.{atom_reads, right_reads}
use Rattle.wiring.specs.Netlist.{Netlist}
use Rattle.wiring.specs.Snapshot.{accesses, accesses_of, right_accesses, update_accesses}
use Rattle.wiring.proofs.Search.{at_push}
use Rattle.wiring.proofs.Lists.{All-left, All-right}
use Rattle.net_build.specs.Includes.{Begins, Includes}
use Rattle.net_build.specs.Draft.{IsDraft, with_wire}
use Rattle.net_build.specs.Runs.{NeverStops, StaysInside}
use Rattle.net_build.specs.Control.{is_control_but, TakesControl, IsControlled, AddsNoReads, IsMadeOf}
use Rattle.net_build.specs.Depth.{SetsWithin}
use Rattle.net_build.proofs.Control.{sets_more, made_more, made_wider, is_none, copy_cases, copies_more, takes_more, control_beside}
use Rattle.net_build.proofs.Drafts.{append_behind}
use Rattle.net_build.proofs.Parts.{at_Begins, Includes-refl}
use Rattle.net_build.proofs.Stops.{stays_more}
use Rattle.line_buffer.specs.Added.{EachAdded}
use Rattle.line_buffer.specs.Buffers.{AddsBuffer, ReadsInside, is_added, TakesMade, TakesAdded, IsAdded}

pub added_same : {X : Type 0} (P : X → Type 0) (new old : List X) → new ≡ old → EachAdded P new old
added_same P new old e k x low at = absurd (omega (arith, low, slice_get_within new k x at, ap length e))

pub added_last : {X : Type 0} (P : X → Type 0) (old : List X) (x : X) → P x → EachAdded P (old ++ x ∷ []) old
added_last P old x is k y low at = elim (at_push old x y k at) as (λ _. P y) [
  | inl earlier ↦ absurd (omega (arith, low, slice_get_within old k y earlier))
  | inr last ↦ subst P last.1 is
]

pub added_as : {X : Type 0} (P : X → Type 0) (new other old : List X) → other ≡ new → EachAdded P new old → EachAdded P other old
added_as P new other old e all k x low at = all k x low (subst (λ xs. slice_get xs k ≡ Some x) e at)

pub added_weaker : {X : Type 0} (P Q : X → Type 0) (new old : List X) → ((x : X) → P x → Q x) → EachAdded P new old → EachAdded Q new old
added_weaker P Q new old more all k x low at = more x (all k x low at)

pub added_joined : {X : Type 0} (P : X → Type 0) (c b a : List X) → Begins b c → EachAdded P c b → EachAdded P b a → EachAdded P c a
added_joined P c b a begins later earlier k x low at = elim (slice_get_cases b k).1 as (λ _. P x) [
  | inl h ↦ (let same : h.0 ≡ x = same_Some h.0 x (sym (at_Begins b c k h.0 begins h.2) ∙ at) in subst P same (earlier k h.0 low h.2))
  | inr past ↦ later k x past.0 at
]

-- and so of each entry, where it is so of the old ones
pub added_all : {X : Type 0} (P : X → Type 0) (new old : List X) → Begins old new → EachAdded P new old → All P old → All P new
added_all {X} P new old begins added all k d lt = elim (cases_lt k (length old)) as (λ _. P (get_or new k d)) [
  | inl low ↦ (let same : get_or new k d ≡ get_or old k d = ap (λ (xs : List X). get_or xs k d) begins.1 ∙ get_or_append_left old begins.0 d k low in subst P (sym same) (all k d low))
  | inr high ↦ added k (get_or new k d) high (slice_get-get_or new k d lt)
]

-- the accesses of what is added
accesses-append : {X : Type 0} (f : X → List (ℕ × Atom Net)) (xs ys : List X) → accesses_of f (xs ++ ys) ≡ accesses_of f xs ++ accesses_of f ys
accesses-append f [] ys = refl
accesses-append f (x ∷ xs) ys = ap (λ l. f x ++ l) (accesses-append f xs ys) ∙ sym (append_assoc (f x) (accesses_of f xs) (accesses_of f ys))

each_access : {X : Type 0} (P : ℕ × Atom Net → Type 0) (f : X → List (ℕ × Atom Net)) (xs : List X) → ((k : ℕ) (x : X) → slice_get xs k ≡ Some x → All P (f x)) → All P (accesses_of f xs)
each_access P f [] all = All-nil P
each_access P f (x ∷ xs) all = All-append P (f x) (accesses_of f xs) (all 0 x refl) (each_access P f xs (λ k y at. all (suc k) y at))

all_accesses : {X : Type 0} (P : ℕ × Atom Net → Type 0) (f : X → List (ℕ × Atom Net)) (new old : List X) → Begins old new → EachAdded (λ x. All P (f x)) new old → All P (accesses_of f old) → All P (accesses_of f new)
all_accesses P f new old begins added all =
    subst (All P) (sym (ap (accesses_of f) begins.1 ∙ accesses-append f old begins.0)) (All-append P (accesses_of f old) (accesses_of f begins.0) all
    (each_access P f begins.0 (λ k x at. added (length old + k) x (omega arith) (subst (λ xs. slice_get xs (length old + k) ≡ Some x) (sym begins.1) (append_behind old begins.0 k x at)))))

-- as the netlist grows
-- an update that takes what is made of a base, or sets one of the copies, in a larger netlist with a wider base and more copies
pub takes_wider : (c b : Netlist) (base wide : Holder → Bool) (copies more : List ℕ) → Includes c b → ((h : Holder) → IsTrue (base h) → IsTrue (wide h)) → ((r : ℕ) → Contains copies r → Contains more r) → (u : Update) → TakesMade b base copies u → TakesMade c wide more u
takes_wider c b base wide copies more f up among (Set r x) (inl is) = inl (among r is)
takes_wider c b base wide copies more f up among (Set r x) (inr is) = inr (All-weaker (IsMadeOf b base) (IsMadeOf c wide) (λ h made. made_more c b wide f (made_wider b base wide up made)) (atom_reads x) is)
takes_wider c b base wide copies more f up among (Put x i y) is = tt

pub inside_more : (b a : Netlist) → Includes b a → (accesses : List (ℕ × Atom Net)) → All (StaysInside a) accesses → All (StaysInside b) accesses
inside_more b a f accesses is = All-weaker (StaysInside a) (StaysInside b) (λ x. stays_more b a x f) accesses is

-- a right side that reads no array has no access
no_access : (r : Right Net ℕ) → ((x : ℕ) → Contains (right_reads r) (OfArray x) → ⊥) → right_accesses r ≡ []
no_access (Copy a) none = refl
no_access (Not a) none = refl
no_access (Binary o a b) none = refl
no_access (Choose c a b) none = refl
no_access (Join a b) none = refl
no_access (Repeat n a) none = refl
no_access (Bit v k) none = refl
no_access (Slice v m l) none = refl
no_access (Word m i) none = absurd (none m (0, omega arith, refl))

pub none_inside : (new old : Netlist) → AddsNoReads new old → EachAdded (ReadsInside new) new.assigns old.assigns
none_inside new old none k a low at = subst (All (StaysInside new)) (sym (no_access a.right (λ x has. (let f : false ≡ true = none.each k a low at x has in cc)))) (All-nil (StaysInside new))

-- one wire more, or none
pub op_inside_in : (b new old : Netlist) (r : Right Net ℕ) → (new ≡ old) ⊎ (new ≡ with_wire old r) → All (StaysInside b) (right_accesses r) → EachAdded (ReadsInside b) new.assigns old.assigns
op_inside_in b new old r (inl e) is = added_same (ReadsInside b) new.assigns old.assigns (ap (λ (b : Netlist). b.assigns) e)
op_inside_in b new old r (inr e) is =
    added_as (ReadsInside b) (old.assigns ++ (record { target = Wire (length old.wires); right = r }) ∷ []) new.assigns old.assigns (ap (λ (b : Netlist). b.assigns) e)
    (added_last (ReadsInside b) old.assigns (record { target = Wire (length old.wires); right = r }) is)

-- an added register, by its parts
pub and_left : (p q : Bool) → IsTrue (p && q) → IsTrue p
and_left true q h = refl
and_left false q h = h

pub and_right : (p q : Bool) → IsTrue (p && q) → IsTrue q
and_right true q h = h
and_right false q h = (let f : IsTrue false = h in cc)

pub and_both : (p q : Bool) → IsTrue p → IsTrue q → IsTrue (p && q)
and_both true true p q = refl
and_both true false p q = q
and_both false q p r = p

pub le_is : (a b : ℕ) → a ≤ b → IsTrue (nat_le a b)
le_is a b h = grind arith

pub is_le : (a b : ℕ) → IsTrue (nat_le a b) → a ≤ b
is_le a b h = grind arith

pub lt_is : (a b : ℕ) → a < b → IsTrue (nat_lt a b)
lt_is a b h = grind arith

pub is_lt : (a b : ℕ) → IsTrue (nat_lt a b) → a < b
is_lt a b h = grind arith

pub added_low : (first end : ℕ) (copies : List ℕ) (k : ℕ) → IsTrue ((nat_le first k && nat_lt k end) && not (list_any (λ (r : ℕ). r == k) copies)) → first ≤ k
added_low first end copies k is = is_le first k (and_left (nat_le first k) (nat_lt k end) (and_left (nat_le first k && nat_lt k end) (not (list_any (λ (r : ℕ). r == k) copies)) is))

pub added_high : (first end : ℕ) (copies : List ℕ) (k : ℕ) → IsTrue ((nat_le first k && nat_lt k end) && not (list_any (λ (r : ℕ). r == k) copies)) → k < end
added_high first end copies k is = is_lt k end (and_right (nat_le first k) (nat_lt k end) (and_left (nat_le first k && nat_lt k end) (not (list_any (λ (r : ℕ). r == k) copies)) is))

pub added_none : (first end : ℕ) (copies : List ℕ) (k : ℕ) → IsTrue ((nat_le first k && nat_lt k end) && not (list_any (λ (r : ℕ). r == k) copies)) → Contains copies k → ⊥
added_none first end copies k is c = is_none copies k c (and_right (nat_le first k && nat_lt k end) (not (list_any (λ (r : ℕ). r == k) copies)) is)

pub not_copied : (copies : List ℕ) (k : ℕ) → (Contains copies k → ⊥) → IsTrue (not (list_any (λ (r : ℕ). r == k) copies))
not_copied copies k none = elim (copy_cases copies k) as (λ _. IsTrue (not (list_any (λ (r : ℕ). r == k) copies))) [ inl c ↦ absurd (none c) | inr free ↦ free ]

pub is_added_one : (first end : ℕ) (copies : List ℕ) (k : ℕ) → first ≤ k → k < end → (Contains copies k → ⊥) → IsTrue ((nat_le first k && nat_lt k end) && not (list_any (λ (r : ℕ). r == k) copies))
is_added_one first end copies k low high none = and_both (nat_le first k && nat_lt k end) (not (list_any (λ (r : ℕ). r == k) copies)) (and_both (nat_le first k) (nat_lt k end) (le_is first k low) (lt_is k end high)) (not_copied copies k none)

-- what a buffer adds never stops, and is controlled
pub buffer_stops : (new old : Netlist) (shapes : List Shape) (copies : List ℕ) → AddsBuffer new old shapes copies → NeverStops old → NeverStops new
buffer_stops new old shapes copies is never =
    let reads : List (ℕ × Atom Net) = accesses_of (λ (a : Assign). right_accesses a.right) old.assigns in
    let puts : List (ℕ × Atom Net) = accesses_of update_accesses old.updates in
    let all : All (StaysInside new) (accesses old) = inside_more new old is.includes (accesses old) never.inside in
    record {
      inside = All-append (StaysInside new) (accesses_of (λ (a : Assign). right_accesses a.right) new.assigns) (accesses_of update_accesses new.updates)
          (all_accesses (StaysInside new) (λ (a : Assign). right_accesses a.right) new.assigns old.assigns is.includes.assigns is.reads_inside (All-left (StaysInside new) reads puts all))
          (all_accesses (StaysInside new) update_accesses new.updates old.updates is.includes.updates is.puts_inside (All-right (StaysInside new) reads puts all));
    }

-- added registers are control, except the copies
added_control : (enable : Bool) (first end : ℕ) (copies others : List ℕ) → All (λ r. r < first) others → (h : Holder) → IsTrue (is_added enable first end copies h) → IsTrue (is_control_but enable (others ++ copies) h)
added_control enable first end copies others below (OfNet (Input k)) is = is
added_control enable first end copies others below (OfNet (Output k)) is = is
added_control enable first end copies others below (OfNet (Wire k)) is = is
added_control enable first end copies others below (OfNet (Reg k)) is =
    not_copied (others ++ copies) k (λ c. elim (Contains-append_cases others copies k c) as (λ _. ⊥) [
      | inl old ↦ (let low : k < first = All-contains (λ (r : ℕ). r < first) others k below old in omega (arith, low, added_low first end copies k is))
      | inr new ↦ added_none first end copies k is new
    ])
added_control enable first end copies others below (OfArray x) is = is

-- what sets a register takes control, by its parts
takes_control : (b : Netlist) (copies : List ℕ) (u : Update) → TakesMade b (is_control_but b.enable copies) copies u → TakesControl b copies u
takes_control b copies (Set r x) is = is
takes_control b copies (Put x i y) is = tt

pub buffer_control : (new old : Netlist) (shapes : List Shape) (copies others : List ℕ) → IsDraft old → AddsBuffer new old shapes copies → IsControlled old others → IsControlled new (others ++ copies)
buffer_control new old shapes copies others draft is old_is =
    let all : List ℕ = others ++ copies in
    record {
      there = All-append (λ (r : ℕ). r < length new.regs) others copies (copies_more new old others is.includes old_is.there) (All-weaker (IsAdded new old) (λ (r : ℕ). r < length new.regs) (λ r a. a.there) copies is.added);
      each = added_all (TakesControl new all) new.updates old.updates is.includes.updates
          (added_weaker (TakesAdded new old copies) (TakesControl new all) new.updates old.updates
          (λ u t. takes_control new all u (takes_wider new new (is_added new.enable (length old.regs) (length new.regs) copies) (is_control_but new.enable all) copies all (Includes-refl new) (added_control new.enable (length old.regs) (length new.regs) copies others old_is.there) (λ r c. Contains-append_right others copies r c) u t)) is.control)
          (All-weaker (TakesControl old all) (TakesControl new all) (takes_more new old is.includes all) old.updates
          (control_beside old draft others copies (All-weaker (IsAdded new old) (λ (r : ℕ). length old.regs ≤ r) (λ r a. a.beyond) copies is.added) old_is.each));
      levels = added_all (SetsWithin new) new.updates old.updates is.includes.updates is.levels (All-weaker (SetsWithin old) (SetsWithin new) (sets_more new old is.includes) old.updates old_is.levels);
    }

-- without copies of its own
pub plain_control : (new old : Netlist) (shapes : List Shape) (others : List ℕ) → AddsBuffer new old shapes [] → IsControlled old others → IsControlled new others
plain_control new old shapes others is old_is = record {
  there = copies_more new old others is.includes old_is.there;
  each = added_all (TakesControl new others) new.updates old.updates is.includes.updates
      (added_weaker (TakesAdded new old []) (TakesControl new others) new.updates old.updates
      (λ u t. takes_control new others u (takes_wider new new (is_added new.enable (length old.regs) (length new.regs) []) (is_control_but new.enable others) [] others (Includes-refl new)
      (λ h a. subst (λ (l : List ℕ). IsTrue (is_control_but new.enable l h)) (append-nil others) (added_control new.enable (length old.regs) (length new.regs) [] others old_is.there h a)) (λ r c. none r c) u t)) is.control)
      (All-weaker (TakesControl old others) (TakesControl new others) (takes_more new old is.includes others) old.updates old_is.each);
  levels = added_all (SetsWithin new) new.updates old.updates is.includes.updates is.levels (All-weaker (SetsWithin old) (SetsWithin new) (sets_more new old is.includes) old.updates old_is.levels);
}
  where
    none : (r : ℕ) → Contains [] r → Contains others r
    none r (i, l, e) = absurd (omega (arith, l))
