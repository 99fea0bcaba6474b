use Rattle.std.proofs.Common.{◌≡◌, ◌≤◌, ◌∙◌, ℕ, List, length, take, ap, sym, subst, rules, arith}
use Rattle.std.specs.Prelude.{slice_index}
use Rattle.std.proofs.lemmas.List.{get_or-take, length-take-le}
use Rattle.batch_rows.specs.Rights.{IsAtomRow}
use Rattle.lane_rows.specs.Words.{words_after, IsReadUpTo, AreInside}
use Rattle.lane_rows.specs.Values.{values_of}
use Rattle.lane_rows.proofs.LaneRows.{map_same}
use Rattle.batch_sim.proofs.OnePass.{undone}
use Rattle.batch_guess.proofs.Tables.{in_place}
use Rattle.batch_sim.proofs.judge.arrays.undo_words.Goals as goal

pub returns : goal.returns
returns c = record {
  room =
      let index = c.args.room.now.index in
      let value = c.args.room.now.value in
      let count : ℕ = c.args.undo.now.count in
      let index_size : length c.atom_words.new.to ≡ length index.items = c.atom_words.ensures.count ∙ ap (λ (l : List ℕ). length l) c.deref_mut.ensures.value in
      let value_size : length c.atom_words-2.new.to ≡ length value.items = c.atom_words-2.ensures.count ∙ ap (λ (l : List ℕ). length l) c.deref_mut-2.ensures.value in
      record {
        read = c.requires.undo.room.read;
        index = subst (λ (ws : List ℕ). count ≤ length ws) (sym (in_place index.len index.items c.atom_words.new.to (search rules) index_size)) (omega (arith, index_size, c.requires.undo.room.index));
        value = subst (λ (ws : List ℕ). count ≤ length ws) (sym (in_place value.len value.items c.atom_words-2.new.to (search rules) value_size)) (omega (arith, value_size, c.requires.undo.room.value));
        target = c.requires.undo.room.target;
      };
  long = search rules;
  back = λ before put same was.
      let rows = values_of c.args.rows.now in
      let words : List ℕ = c.args.words.now in
      let new : List ℕ = c.take_back.new.words in
      let count : ℕ = c.args.undo.now.count in
      let room : List ℕ = c.args.room.now.index.items in
      let to : List ℕ = c.atom_words.new.to in
      let whole : List ℕ = c.deref.result.now in
      let cut : List ℕ = take count whole in
      let front : List ℕ = take count c.args.undo.now.lost.now in
      let len : c.args.room.now.index.len ≡ length room = search rules in
      let size : length to ≡ length room = c.atom_words.ensures.count ∙ ap (λ (l : List ℕ). length l) c.deref_mut.ensures.value in
      let is : whole ≡ to = c.deref.ensures.value ∙ in_place c.args.room.now.index.len room to len size in
      let index : IsAtomRow rows c.args.undo.now.put.now.index count cut = λ t l. get_or-take count whole t 0 l ∙ ap (λ (r : List ℕ). slice_index r t) is ∙ c.atom_words.ensures.row t l in
      let inside : count ≤ length whole = omega (arith, ap (λ (l : List ℕ). length l) is, size, c.requires.undo.room.index) in
      let long : length cut ≡ count = length-take-le count whole inside in
      undone rows c.args.undo.now.put.now count before words new c.args.undo.now.lost.now cut c.atom_words-2.new.to index c.atom_words-2.ensures.row long c.requires.several put same was c.requires.undo.inside
      (subst (λ (m : List ℕ). (b v : List ℕ) → words ≡ words_after b m v (length cut) → AreInside (length cut) m (length b) → IsReadUpTo (length cut) b front m m v → new ≡ b) (map_same cut) c.take_back.ensures.words);
}
