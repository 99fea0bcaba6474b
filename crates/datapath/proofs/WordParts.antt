-- Parts of words.
use Rattle.std.proofs.Common.{ℕ, ◌≡◌, ◌+◌, ◌-◌, ◌*◌, ◌/◌, ◌%◌, ◌≤◌, ◌^◌, ap, subst, sym, ◌∙◌, arith}
use Rattle.dk_base.proofs.Codes.{mod_same}
use Rattle.datapath.specs.declared.operand.Signal.{Signal}
use Rattle.datapath.specs.declared.operand.Signal.TheVariants as signal
use Rattle.wiring.specs.declared.netlist.Net.{Net}
use Rattle.wiring.specs.Netlist.{Netlist}
use Rattle.wiring.specs.Snapshot.{Snapshot}
use Rattle.wiring.specs.Rights.{repeated}
use Rattle.datapath.specs.Nets.{IsPartOf, HasWidth, IsWord, bits_of}
use Rattle.datapath.proofs.Growth.{fits_later, part_on}

-- all the bits
pub whole_part : (b : Netlist) (x : Signal) (low count w : ℕ) → count ≡ w → low + count ≤ w → HasWidth b x w → IsWord b x count (λ s. bits_of s x / 2 ^ low % 2 ^ count)
whole_part b x low count w e inside h =
    let z : low ≡ 0 = omega arith in
    let P : ℕ → Type 0 = λ n. HasWidth b x n in
    let k : HasWidth b x count = subst P (sym e) h in
    record {
      width = k;
      value = λ m s more is.
          let f = fits_later b m x count s k more is in
          let d : bits_of s x / 2 ^ 0 ≡ bits_of s x = grind arith in
          sym (ap (λ l. bits_of s x / 2 ^ l % 2 ^ count) z ∙ ap (λ n. n % 2 ^ count) d ∙ mod_same _ _ f);
    }

-- some of the bits of what a net names
pub part_word : (b c : Netlist) (n : Net) (r x : Signal) (low count w : ℕ) → IsPartOf b c → IsWord b (signal.Net n) w (λ s. bits_of s x) → IsWord c r count (λ s. bits_of s (signal.Net n) / 2 ^ low % 2 ^ count) →
    IsWord c r count (λ s. bits_of s x / 2 ^ low % 2 ^ count)
part_word b c n r x low count w more whole word = record {
  width = word.width;
  value = λ m s on is. word.value m s on is ∙ ap (λ v. v / 2 ^ low % 2 ^ count) (whole.value m s (part_on b c m more on) is);
}

-- copies of the sign bit, through three netlists
pub signs_of : (b c d : Netlist) (x s ss r : Signal) (high low : ℕ) → IsPartOf b c → IsPartOf c d → IsWord b s 1 (λ nets. bits_of nets x / 2 ^ (low - 1) % 2 ^ 1) →
    IsWord c ss high (λ nets. repeated high 1 (bits_of nets s)) → IsWord d r (high + low) (λ nets. bits_of nets ss * 2 ^ low + bits_of nets x) →
    IsWord d r (high + low) (λ nets. repeated high 1 (bits_of nets x / 2 ^ (low - 1) % 2 ^ 1) * 2 ^ low + bits_of nets x)
signs_of b c d x s ss r high low g h sign signs word = record {
  width = word.width;
  value = λ later nets grows is.
      let k = part_on c d later h grows in
      word.value later nets grows is ∙ ap (λ v. v * 2 ^ low + bits_of nets x) (signs.value later nets k is ∙ ap (repeated high 1) (sign.value later nets (part_on b c later g k) is));
}

-- zeros above
pub zeros_above : (b : Netlist) (z r x : Signal) (high low : ℕ) → ((s : Snapshot) → bits_of s z ≡ 0) → IsWord b r (high + low) (λ s. bits_of s z * 2 ^ low + bits_of s x) → IsWord b r (high + low) (λ s. bits_of s x)
zeros_above b z r x high low none word = record {
  width = word.width;
  value = λ m s more is. word.value m s more is ∙ ap (λ n. n * 2 ^ low + bits_of s x) (none s) ∙ (let e : 0 * 2 ^ low + bits_of s x ≡ bits_of s x = grind arith in e);
}
