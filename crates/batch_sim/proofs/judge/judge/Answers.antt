use Rattle.std.proofs.Common.{rules, ◌∙◌, ℕ, List, Vec, length, ap, sym, subst, arith}
use Rattle.std.specs.declared.alloc.Global.{Global}
use Rattle.cycle_sim.specs.Slots.{words_of}
use Rattle.lane_rows.specs.Values.{values_of, items_of}
use Rattle.batch_rows.specs.declared.module_code.WordRead.{WordRead}
use Rattle.batch_rows.specs.declared.module_code.WordPut.{WordPut}
use Rattle.batch_sim.specs.Arrays.{AreAccessRows, AreKept, ArePut, HaveLong}
use Rattle.batch_sim.specs.Checked.{AreRegisterRows}
use Rattle.batch_sim.proofs.Judged.{judged_by}
use Rattle.batch_sim.proofs.judge.judge.Goals as goal

pub pass_arrays-requires : goal.pass_arrays-requires
pass_arrays-requires c =
    let rows = values_of c.args.rows.now in
    let count = c.args.piece.now.count in
    let arrays = sym (ap (λ (a : List (Vec ℕ Global)). length a) c.deref_mut.ensures.value) in
    record {
      reads = ap (λ (rs : List WordRead). length rs) c.deref-2.ensures.value ∙ c.requires.rows.reads ∙ arrays;
      puts = ap (λ (ps : List WordPut). length ps) c.deref-3.ensures.value ∙ c.requires.rows.puts ∙ arrays;
      losts = ap (λ (a : List (Vec ℕ Global)). length a) c.deref_mut-2.ensures.value ∙ c.requires.rows.losts ∙ arrays;
      rows = subst (λ (rs : List WordRead). AreAccessRows rows count rs c.deref-3.result.now) (sym c.deref-2.ensures.value)
          (subst (λ (ps : List WordPut). AreAccessRows rows count c.args.engine.now.code.reads.items ps) (sym c.deref-3.ensures.value) c.requires.rows.wide.arrays);
      room = record { spares = c.requires.rows.room.spares; to = omega (arith, c.are_right.ensures.spare, c.requires.rows.room.to) };
      lost = subst (λ (a : List (Vec ℕ Global)). HaveLong (items_of a) count) (sym c.deref_mut-2.ensures.value) c.requires.rows.lost;
    }

pub returns : goal.returns
returns c =
    let code = c.args.engine.now.code in
    let rows = values_of c.args.rows.now in
    let count = c.args.piece.now.count in
    let right = c.are_right.ensures.right c.if-not-are_right.false in
    let passed = c.if-not-pass_arrays.false in
    let arrays = c.deref_mut.ensures.value in
    record {
      yes = λ _.
          judged_by c.args.engine.now rows c.args.piece.now c.args.stored.now c.take_registers.new.regs c.pass_arrays.new.arrays
          (c.take_registers.auto.regs ∙ ap (λ (h : List ℕ). length h) c.deref_mut-3.ensures.value)
          (c.pass_arrays.auto.arrays ∙ ap (λ (a : List (Vec ℕ Global)). length a) arrays)
          right.given
          (subst (λ (h : List ℕ). AreRegisterRows rows count code.first_reg h code.nexts.items) c.deref.ensures.value right.kept)
          (subst (λ (a : List (Vec ℕ Global)). AreKept rows code.reads.items code.puts.items count (words_of a) (length a)) arrays
          (subst (λ (ps : List WordPut). AreKept rows code.reads.items ps count (words_of c.deref_mut.result.now) (length c.deref_mut.result.now)) c.deref-3.ensures.value
          (subst (λ (rs : List WordRead). AreKept rows rs c.deref-3.result.now count (words_of c.deref_mut.result.now) (length c.deref_mut.result.now)) c.deref-2.ensures.value (c.pass_arrays.ensures.passed.kept passed))))
          (subst (λ (a : List (Vec ℕ Global)). ArePut rows code.puts.items count (words_of a) (words_of c.pass_arrays.new.arrays) (length a)) arrays
          (subst (λ (ps : List WordPut). ArePut rows ps count (words_of c.deref_mut.result.now) (words_of c.pass_arrays.new.arrays) (length c.deref_mut.result.now)) c.deref-3.ensures.value (c.pass_arrays.ensures.passed.put passed)))
          c.take_registers.ensures;
      back = search rules;
    }
