-- When pixels leave.
use Rattle.std.proofs.Common.{◌≡◌, ◌+◌, ◌≤◌, ℕ, Bool, true, false, [], ◌∷◌, length, refl, sym, ap, subst, ◌∙◌, arith}
use Rattle.std.proofs.lemmas.List.Elements.{All-nil, All-cons}
use Rattle.std.specs.Prelude.{if◌then◌else◌, ◌&&◌, not, nat_le, bit_and}
use Rattle.wiring.specs.declared.netlist.Net.{Net}
use Rattle.wiring.specs.declared.right.Atom.TheVariants as atom
use Rattle.wiring.specs.declared.right.Operator.TheVariants.{And}
use Rattle.wiring.specs.declared.right.Right.TheVariants.{Binary}
use Rattle.wiring.specs.Netlist.{Netlist, enable_net}
use Rattle.wiring.specs.Snapshot.{net_value}
use Rattle.wiring.specs.Clock.{bit}
use Rattle.wiring.specs.History.{counted}
use Rattle.wiring.specs.declared.netlist.Holder.TheVariants.{OfNet}
use Rattle.net_build.specs.Includes.{Includes}
use Rattle.net_build.specs.Control.{is_control}
use Rattle.net_build.specs.Depth.{IsWithin, by_itself}
use Rattle.net_build.proofs.Depth.{within_deeper}
use Rattle.line_buffer.proofs.Depth.{index_within_more}
use Rattle.net_build.specs.Logic.{IsGate}
use Rattle.net_build.specs.Counters.{Starts, start_levels}
use Rattle.net_build.proofs.Runs.{clock_more, enable_shown}
use Rattle.circuit.specs.Ends.{IsStarted, valid_levels}

-- without en
pub started_free : (b : Netlist) (latency : ℕ) (n : Net) → b.enable ≡ false → Starts b latency n → IsWithin b (is_control b.enable) start_levels (OfNet n) → IsStarted b latency n
started_free b latency n free is depth = record {
  depth = within_deeper (omega arith) depth;
  started = λ m from before c s clock since. is.shown m from before c s clock since ∙ by m.enable c.reset c.enable (nat_le latency (length (counted m before))) (clock.whole.includes.enable ∙ free);
}
  where
    by : (e r n a : Bool) → e ≡ false → (if r then 0 else bit a) ≡ bit ((not r && not ((e && not r) && not n)) && a)
    by false true n a h = refl
    by false false n a h = refl
    by true r n a h = absurd (let f : ⊥ = cc in f)

-- and with it
pub started_enabled : (new old : Netlist) (latency : ℕ) (en begun n : Net) → new.enable ≡ true → en ≡ enable_net → Includes new old → Starts old latency begun → IsWithin old (is_control old.enable) start_levels (OfNet begun) → IsGate new old (Binary And (atom.Net en) (atom.Net begun)) n → IsStarted new latency n
started_enabled new old latency en begun n has en_is grows is depth g = record {
  depth = within_deeper (let l : 1 + start_levels ≤ valid_levels = omega arith in l)
      (g.within (is_control new.enable) start_levels
      (All-cons (IsWithin new (is_control new.enable) start_levels) (OfNet en) (OfNet begun ∷ []) (subst (λ (x : Net). IsWithin new (is_control new.enable) start_levels (OfNet x)) (sym en_is) (subst (λ (e : Bool). IsWithin new (is_control e) start_levels (OfNet enable_net)) (sym has) (by_itself refl)))
      (All-cons (IsWithin new (is_control new.enable) start_levels) (OfNet begun) [] (index_within_more new old start_levels begun grows depth) (All-nil (IsWithin new (is_control new.enable) start_levels)))));
  started = λ m from before c s clock since.
      let whole : m.enable ≡ true = clock.whole.includes.enable ∙ has in
      let given : net_value s en ≡ bit c.enable = ap (net_value s) en_is ∙ enable_shown m from before c s clock.at whole in
      let begins = is.shown m from before c s (clock_more new old m from before c s grows clock) since in
      g.value m s clock.whole.includes clock.at.snapshot.settled
      ∙ ap (λ (v : ℕ). bit_and v (net_value s begun)) given
      ∙ ap (λ (v : ℕ). bit_and (bit c.enable) v) begins
      ∙ by m.enable c.reset c.enable (nat_le latency (length (counted m before))) whole;
}
  where
    by : (e r n a : Bool) → e ≡ true → bit_and (bit n) (if r then 0 else bit a) ≡ bit ((not r && not ((e && not r) && not n)) && a)
    by true true true a h = refl
    by true true false a h = refl
    by true false true true h = refl
    by true false true false h = refl
    by true false false true h = refl
    by true false false false h = refl
    by false r n a h = absurd (let f : ⊥ = cc in f)
