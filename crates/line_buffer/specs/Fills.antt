-- What goes into the arrays of a buffer, as the assigns and the updates of a netlist have it.
use Rattle.std.specs.Prelude.{◌≡◌, ℕ, ◌-◌, ◌<◌, ◌≤◌, Bool, IsTrue, List, true, false, Contains}
use Rattle.wiring.specs.declared.right.Atom.TheVariants as atom
use Rattle.wiring.specs.declared.right.Right.{Right}
use Rattle.wiring.specs.declared.right.Right.TheVariants.{Choose, Word}
use Rattle.wiring.specs.declared.netlist.Net.{Net}
use Rattle.wiring.specs.declared.netlist.Net.TheVariants.{Reg}
use Rattle.wiring.specs.declared.netlist.Holder.TheVariants.{OfNet}
use Rattle.wiring.specs.declared.netlist.Update.TheVariants.{Set, Put}
use Rattle.wiring.specs.Netlist.{Netlist, enable_net}
use Rattle.net_build.specs.Control.{is_control}
use Rattle.net_build.specs.Depth.{IsWithin}
use Rattle.net_build.specs.Counters.{IsLoaded}
use Rattle.line_buffer.specs.Depths.{line_operators, ahead_operators}

-- an assign drives the net by this right side
abbrev pub HasRight : Netlist → Net → Right Net ℕ → Type 0
HasRight b n r = Contains b.assigns (record { target = n; right = r })

-- the net is the word of array x at this index
abbrev pub IsWordAt : Netlist → (x : ℕ) → (index word : Net) → Type 0
IsWordAt b x index word = HasRight b word (Word x (atom.Net index))

-- Register r copies a word of array x: it takes the word at the index `next`, which is made of rst, en and registers, with few operators. With `en` it takes it only where rst or en is 1, and else keeps what it holds.
pub record IsCopyOf (b : Netlist) (x r : ℕ) : Type 0 where
  pub next : Net
  pub control : IsWithin b (is_control b.enable) ahead_operators (OfNet next)
  pub ahead : Net
  pub read : IsWordAt b x next ahead
  pub taken : Net
  pub value : IsLoaded b (Reg r) ahead taken
  pub set : Contains b.updates (Set r (atom.Net taken))

-- the net is the word of array x at this index, if array x is one of those that are read directly, or the register that copies it
pub data ShowsWord (b : Netlist) (direct : ℕ → Bool) (copies : List ℕ) (x : ℕ) (index : Net) : Net → Type 0 where
  by_read : {word : Net} → IsTrue (direct x) → IsWordAt b x index word → ShowsWord b direct copies x index word
  by_copy : (r : ℕ) → Contains copies r → IsCopyOf b x r → ShowsWord b direct copies x index (Reg r)

-- the net is a word of array x, at an index that is made of rst, en and registers, with one operator at most
pub record IsWordOf (b : Netlist) (direct : ℕ → Bool) (copies : List ℕ) (x : ℕ) (word : Net) : Type 0 where
  pub index : Net
  pub control : IsWithin b (is_control b.enable) line_operators (OfNet index)
  pub shown : ShowsWord b direct copies x index word

-- Without `en` the net is `next` itself. With `en` it is driven by the choice of `next` where en is 1, and of `now` where it is 0.
pub record IsUnlessHeld (b : Netlist) (now next net : Net) : Type 0 where
  pub plain : b.enable ≡ false → net ≡ next
  pub held : b.enable ≡ true → HasRight b net (Choose (atom.Net enable_net) (atom.Net next) (atom.Net now))

-- Array x takes the net `from`: at an index that is made of rst, en and registers, with one operator at most, the net itself is put, or with `en` the choice by en between it and the word that is there.
pub record Takes (b : Netlist) (direct : ℕ → Bool) (copies : List ℕ) (x : ℕ) (from : Net) : Type 0 where
  pub index : Net
  pub control : IsWithin b (is_control b.enable) line_operators (OfNet index)
  pub word : Net
  pub shown : ShowsWord b direct copies x index word
  pub stored : Net
  pub value : IsUnlessHeld b word from stored
  pub put : Contains b.updates (Put x (atom.Net index) (atom.Net stored))

-- what an array of a buffer takes whose arrays begin at `first`: the first takes the image's net, each later one a word of the array before it
pub record IsFilled (b : Netlist) (direct : ℕ → Bool) (copies : List ℕ) (first : ℕ) (value : Net) (x : ℕ) : Type 0 where
  pub from : Net
  pub takes : Takes b direct copies x from
  pub net : x ≡ first → from ≡ value
  pub word : first < x → IsWordOf b direct copies (x - 1) from

-- each array from the first to before the end
abbrev pub AreFilled : Netlist → (direct : ℕ → Bool) → (copies : List ℕ) → (first end : ℕ) → (value : Net) → Type 0
AreFilled b direct copies first end value = (x : ℕ) → first ≤ x → x < end → IsFilled b direct copies first value x
