-- A buffer as the netlist grows.
use Rattle.std.proofs.Common.{ℕ, Bool, List, sym, subst, ◌∙◌}
use Rattle.wiring.specs.declared.netlist.Net.{Net}
use Rattle.wiring.specs.declared.netlist.Holder.TheVariants.{OfNet}
use Rattle.wiring.specs.Netlist.{Netlist}
use Rattle.net_build.specs.Includes.{Includes}
use Rattle.wiring.specs.Clock.{Clock}
use Rattle.net_build.specs.Draft.{IsNet}
use Rattle.net_build.specs.Runs.{IsReady}
use Rattle.net_build.specs.Depth.{IsWithin}
use Rattle.net_build.proofs.Depth.{within_more}
use Rattle.net_build.proofs.Grown.{net_more, width_more}
use Rattle.net_build.proofs.Runs.{clock_more}
use Rattle.line_buffer.specs.Places.{Place}
use Rattle.line_buffer.specs.Buffers.{IsBuffer, AreMadeOfBuffer, is_buffer}

pub buffer_more : (b a : Netlist) (copies : List ℕ) (place : (age t : ℕ) → Place) (ages : List ℕ) (taps : List Net) (value : Net) → Includes b a → IsNet a value → IsBuffer a copies place ages taps value → IsBuffer b copies place ages taps value
buffer_more b a copies place ages taps value f net is = record {
  one_each = is.one_each;
  net = λ k tap at. net_more b a f tap (is.net k tap at);
  width = λ k tap at. width_more b a f tap (is.net k tap at).declared ∙ is.width k tap at ∙ sym (width_more b a f value net.declared);
  now = is.now;
  word = λ k age tap ea some et m from before c s clock. is.word k age tap ea some et m from before c s (clock_more b a m from before c s f clock);
  goes_on = λ pixel count delay m from before c s clock. is.goes_on pixel count delay m from before c s (clock_more b a m from before c s f clock);
  waits = λ m from before c s clock. is.waits m from before c s (clock_more b a m from before c s f clock);
}

pub buffer_made_more : (b a : Netlist) (most first end : ℕ) (ages : List ℕ) (taps : List Net) → Includes b a → AreMadeOfBuffer a most first end ages taps → AreMadeOfBuffer b most first end ages taps
buffer_made_more b a most first end ages taps f is k age tap ea some et =
    subst (λ (e : Bool). IsWithin b (is_buffer e first end) most (OfNet tap)) (sym f.enable) (within_more b a (is_buffer a.enable first end) f (is k age tap ea some et))

-- with more copies less is stated
pub buffer_ready : (b : Netlist) (copies more : List ℕ) (place : (age t : ℕ) → Place) (ages : List ℕ) (taps : List Net) (value : Net) → ((before : List Clock) → IsReady more before → IsReady copies before) → IsBuffer b copies place ages taps value → IsBuffer b more place ages taps value
buffer_ready b copies more place ages taps value ready is = record {
  one_each = is.one_each;
  net = is.net;
  width = is.width;
  now = is.now;
  word = is.word;
  goes_on = is.goes_on;
  waits = λ m from before c s clock set. is.waits m from before c s clock (ready before set);
}
