-- Leaves one after another.
use Rattle.std.proofs.Common.{◌≡◌, ℕ, List, [], ◌∷◌, ◌++◌, length, Some, sym, subst, inl, inr, arith, append_assoc, append-nil, length-append}
use Rattle.std.specs.Prelude.{slice_get}
use Rattle.std.proofs.lemmas.Option.{slice_get_within}
use Rattle.dk_base.specs.declared.ty.Ty.{Ty}
use Rattle.dk_base.specs.Types.{width_of as bits_of_type}
use Rattle.wiring.specs.declared.netlist.Net.{Net}
use Rattle.wiring.specs.Netlist.{Netlist}
use Rattle.wiring.proofs.Search.{at_push, last_push}
use Rattle.wiring.proofs.Lists.{slice_get-append}
use Rattle.net_build.specs.Includes.{Includes}
use Rattle.net_build.proofs.Parts.{Includes-trans}
use Rattle.pointwise_ir.specs.Programs.{Program}
use Rattle.edge_select.specs.declared.step.Step.{Step}
use Rattle.edge_select.specs.Steps.{LeadOn}
use Rattle.buffer_plan.specs.Plans.{Plan}
use Rattle.circuit.specs.Rounds.{type_at}
use Rattle.circuit.specs.declared.known.BodyLeaves.{BodyLeaves}
use Rattle.circuit.specs.Leaves.{LeafRead}
use Rattle.circuit.specs.Known.{PlacedRead, placed_at, IsAdded, ArePlaced, IsKnownNet}
use Rattle.circuit.specs.Taps.{size_in}
use Rattle.circuit.specs.Reads.{IsReadNet, IsPixelTest, AreLeafNets, HaveNets, AddsLeaves}
use Rattle.circuit.proofs.Lasting.{leaf_nets_more}

-- one more of each of two lists
zip_push : {X Y : Type 0} (P : X → Y → Type 0) (xs : List X) (ys : List Y) (x : X) (y : Y) → length ys ≡ length xs → ((i : ℕ) (a : X) (b : Y) → slice_get xs i ≡ Some a → slice_get ys i ≡ Some b → P a b) → P x y →
    (i : ℕ) (a : X) (b : Y) → slice_get (xs ++ x ∷ []) i ≡ Some a → slice_get (ys ++ y ∷ []) i ≡ Some b → P a b
zip_push P xs ys x y long each last i a b at on = elim (at_push xs x a i at) [
  | inl old ↦ elim (at_push ys y b i on) [
    | inl also ↦ each i a b old also
    | inr new ↦ absurd (let lt = slice_get_within xs i a old in let f : ⊥ = omega (arith, lt, new.0, long) in f)
  ]
  | inr new ↦ elim (at_push ys y b i on) [
    | inl old ↦ absurd (let lt = slice_get_within ys i b old in let f : ⊥ = omega (arith, lt, new.0, long) in f)
    | inr also ↦ subst (λ z. P z b) new.1 (subst (P x) also.1 last)
  ]
]

-- known reads are at their places also among more reads
placed_more : (ls : List LeafRead) (leaf : LeafRead) (known : List PlacedRead) → ArePlaced ls known → ArePlaced (ls ++ leaf ∷ []) known
placed_more ls leaf known are r has = slice_get-append ls (leaf ∷ []) r.place r.leaf (are r has)

-- and one more at the end
placed_new : (ls : List LeafRead) (leaf : LeafRead) (place : ℕ) (now known : List PlacedRead) → place ≡ length ls → IsAdded now known (placed_at leaf place) → ArePlaced ls known → ArePlaced (ls ++ leaf ∷ []) now
placed_new ls leaf place now known last added are r has = elim (added r has) as (λ _. slice_get (ls ++ leaf ∷ []) r.place ≡ Some r.leaf) [
  | inl old ↦ placed_more ls leaf known are r old
  | inr new ↦ subst (λ (q : PlacedRead). slice_get (ls ++ leaf ∷ []) q.place ≡ Some q.leaf) (sym new) (subst (λ (k : ℕ). slice_get (ls ++ leaf ∷ []) k ≡ Some leaf) (sym last) (last_push ls leaf))
]

module _ (p : Program) (plan : Plan) (taps : List (List Net)) (f : ℕ) where
  -- no leaf more
  pub leaves_none : (b : Netlist) (leaves : BodyLeaves) → AddsLeaves b b p plan taps f [] [] leaves leaves
  leaves_none b leaves = record {
    added = λ first ls ps inc are. subst (λ (xs : List LeafRead). HaveNets b first p plan taps f xs (ps ++ []) leaves) (sym (append-nil ls)) (subst (λ (ys : List (List Step)). HaveNets b first p plan taps f ls ys leaves) (sym (append-nil ps)) are);
  }

  -- a net for one read more
  read_more : (b first : Netlist) (ls : List LeafRead) (ps : List (List Step)) (now before : BodyLeaves) (leaf : LeafRead) (n : Ty × Net) → now.nets.reads.items ≡ before.nets.reads.items ++ n ∷ [] → now.nets.bits.items ≡ before.nets.bits.items →
      AreLeafNets b first p plan taps f ls ps before.nets.reads.items before.nets.bits.items → n.0 ≡ type_at p leaf.image → IsReadNet b first plan taps f leaf (bits_of_type n.0) n.1 → AreLeafNets b first p plan taps f (ls ++ leaf ∷ []) (ps ++ []) now.nets.reads.items now.nets.bits.items
  read_more b first ls ps now before leaf n reads bits here ty is =
      let all = before.nets.reads.items in
      let pushed : AreLeafNets b first p plan taps f (ls ++ leaf ∷ []) ps (all ++ n ∷ []) before.nets.bits.items = record {
        reads_are = (let l = length-append all (n ∷ []) in let k = length-append ls (leaf ∷ []) in omega (arith, l, k, here.reads_are));
        bits_are = here.bits_are;
        ty = zip_push (λ (l : LeafRead) (m : Ty × Net). m.0 ≡ type_at p l.image) ls all leaf n here.reads_are here.ty ty;
        read = zip_push (λ (l : LeafRead) (m : Ty × Net). IsReadNet b first plan taps f l (bits_of_type m.0) m.1) ls all leaf n here.reads_are here.read is;
        bit = here.bit;
      } in
      subst (λ (ys : List (List Step)). AreLeafNets b first p plan taps f (ls ++ leaf ∷ []) ys now.nets.reads.items now.nets.bits.items) (sym (append-nil ps))
      (subst (λ (rs : List (Ty × Net)). AreLeafNets b first p plan taps f (ls ++ leaf ∷ []) ps rs now.nets.bits.items) (sym reads)
      (subst (λ (bs : List Net). AreLeafNets b first p plan taps f (ls ++ leaf ∷ []) ps (all ++ n ∷ []) bs) (sym bits) pushed))

  -- a read that was not known, with a new net
  pub leaves_new : (new old : Netlist) (now before : BodyLeaves) (leaf : LeafRead) (n : Ty × Net) → Includes new old → now.nets.reads.items ≡ before.nets.reads.items ++ n ∷ [] → now.nets.bits.items ≡ before.nets.bits.items →
      IsAdded now.known before.known (placed_at leaf (length before.nets.reads.items)) → n.0 ≡ type_at p leaf.image → ((first : Netlist) → Includes old first → IsReadNet new first plan taps f leaf (bits_of_type n.0) n.1) → AddsLeaves new old p plan taps f (leaf ∷ []) [] now before
  leaves_new new old now before leaf n grows reads bits known ty is = record {
    added = λ first ls ps inc are. record {
      nets = read_more new first ls ps now before leaf n reads bits (leaf_nets_more new old grows first p plan taps f ls ps before.nets.reads.items before.nets.bits.items are.nets) ty (is first inc);
      placed = placed_new ls leaf (length before.nets.reads.items) now.known before.known are.nets.reads_are known are.placed;
    };
  }

  -- a known read, with the net of the equal one
  pub leaves_known : (b : Netlist) (now before : BodyLeaves) (leaf : LeafRead) (n : Ty × Net) → now.nets.reads.items ≡ before.nets.reads.items ++ n ∷ [] → now.nets.bits.items ≡ before.nets.bits.items → now.known ≡ before.known → IsKnownNet before.nets.reads.items before.known leaf n →
      AddsLeaves b b p plan taps f (leaf ∷ []) [] now before
  leaves_known b now before leaf n reads bits known is = record {
    added = λ first ls ps inc are. (
        let at = are.placed (placed_at leaf is.place) is.placed in
        record {
          nets = read_more b first ls ps now before leaf n reads bits are.nets (are.nets.ty is.place leaf n at is.there) (are.nets.read is.place leaf n at is.there);
          placed = subst (ArePlaced (ls ++ leaf ∷ [])) (sym known) (placed_more ls leaf before.known are.placed);
        });
  }

  -- one bit more
  pub leaves_bit : (new old : Netlist) (now before : BodyLeaves) (steps : List Step) (n : Net) → Includes new old → now.nets.reads.items ≡ before.nets.reads.items → now.nets.bits.items ≡ before.nets.bits.items ++ n ∷ [] → now.known ≡ before.known → IsPixelTest new plan f (LeadOn (size_in plan) steps) n →
      AddsLeaves new old p plan taps f [] (steps ∷ []) now before
  leaves_bit new old now before steps n grows reads bits known is = record {
    added = λ first ls ps inc are. (
        let here : AreLeafNets new first p plan taps f ls ps before.nets.reads.items before.nets.bits.items = leaf_nets_more new old grows first p plan taps f ls ps before.nets.reads.items before.nets.bits.items are.nets in
        let pushed : AreLeafNets new first p plan taps f ls (ps ++ steps ∷ []) before.nets.reads.items (before.nets.bits.items ++ n ∷ []) = record {
          reads_are = here.reads_are;
          bits_are = (let l = length-append before.nets.bits.items (n ∷ []) in let k = length-append ps (steps ∷ []) in omega (arith, l, k, here.bits_are));
          ty = here.ty;
          read = here.read;
          bit = zip_push (λ (s : List Step) (m : Net). IsPixelTest new plan f (LeadOn (size_in plan) s) m) ps before.nets.bits.items steps n here.bits_are here.bit is;
        } in
        subst (λ (xs : List LeafRead). HaveNets new first p plan taps f xs (ps ++ steps ∷ []) now) (sym (append-nil ls)) (record {
          nets = subst (λ (rs : List (Ty × Net)). AreLeafNets new first p plan taps f ls (ps ++ steps ∷ []) rs now.nets.bits.items) (sym reads)
              (subst (λ (bs : List Net). AreLeafNets new first p plan taps f ls (ps ++ steps ∷ []) before.nets.reads.items bs) (sym bits) pushed);
          placed = subst (ArePlaced ls) (sym known) are.placed;
        }));
  }

  -- some leaves, and then others
  pub leaves_on : (c b a : Netlist) (ls ms : List LeafRead) (ps qs : List (List Step)) (now mid before : BodyLeaves) → Includes b a → AddsLeaves b a p plan taps f ls ps mid before → AddsLeaves c b p plan taps f ms qs now mid → AddsLeaves c a p plan taps f (ls ++ ms) (ps ++ qs) now before
  leaves_on c b a ls ms ps qs now mid before grows one other = record {
    added = λ first xs ys inc are.
        let both = other.added first (xs ++ ls) (ys ++ ps) (Includes-trans b a first grows inc) (one.added first xs ys inc are) in
        subst (λ (zs : List LeafRead). HaveNets c first p plan taps f zs (ys ++ (ps ++ qs)) now) (append_assoc xs ls ms) (subst (λ (zs : List (List Step)). HaveNets c first p plan taps f ((xs ++ ls) ++ ms) zs now) (append_assoc ys ps qs) both);
  }
