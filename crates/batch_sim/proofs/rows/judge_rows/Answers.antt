use Rattle.std.proofs.Common.{ℕ, arith, sym, subst, rules}
use Rattle.wiring.specs.Snapshot.{Contents, FitsContents}
use Rattle.lane_rows.specs.Values.{values_of}
use Rattle.batch_rows.specs.Code.{AllHold}
use Rattle.batch_sim.specs.Stored.{contents_in}
use Rattle.batch_sim.proofs.Judged.{wide_of, counts_of, dins_for, ran_of, fits_of, fits_either}
use Rattle.batch_sim.proofs.rows.judge_rows.Goals as goal

pub judge_guess-requires : goal.judge_guess-requires
judge_guess-requires c =
    let m = c.args.sim.now.netlist in
    let g = c.args.rows.now.guess in
    let has = c.has_room.ensures c.if-not-has_room.false in
    let counts = counts_of m g.engine c.requires.rows.engine c.args.stored.now c.requires.piece.fits in
    record {
      wide = wide_of m c.requires.piece.rules g.engine c.requires.rows.engine (values_of g.rows) g.long c.args.piece.now.count c.law.ensures.rows (omega (arith, has.most, c.requires.rows.wide));
      room = has.room;
      losts = search rules;
      lost = has.lost;
      regs = counts.0;
      reads = counts.1;
      puts = counts.2;
      dins = dins_for m g.engine c.requires.rows.engine c.args.piece.now c.requires.piece.piece;
    }

pub returns-clause-tries : goal.returns-clause-tries
returns-clause-tries c =
    let m = c.args.sim.now.netlist in
    let g = c.args.rows.now.guess in
    let code = g.engine.code in
    let has = c.has_room.ensures c.if-not-has_room.false in
    let hold = subst (λ (n : ℕ). AllHold code.widths.items g.long (values_of g.rows) n code.instructions.items) c.requires.all c.law.ensures.hold in
    record {
      most = λ _. has.most;
      fits = fits_either m c.judge_guess.result (contents_in c.judge_guess.new.stored)
          (λ yes. fits_of m c.requires.piece.rules g.engine c.requires.rows.engine (values_of g.rows) g.long c.args.piece.now c.law.ensures.rows (omega (arith, has.most, c.requires.rows.wide))
          c.requires.piece.piece.within c.args.stored.now c.judge_guess.new.stored c.requires.piece.fits c.requires.piece.piece.inputs.fit hold (c.judge_guess.ensures.yes yes))
          (λ no. subst (λ (h : Contents). FitsContents m h) (sym (c.judge_guess.ensures.back no)) c.requires.piece.fits);
      ran = λ yes. ran_of m c.requires.piece.rules g.engine c.requires.rows.engine (values_of g.rows) g.long c.args.piece.now c.law.ensures.rows (omega (arith, has.most, c.requires.rows.wide))
          c.requires.piece.piece.within c.args.stored.now c.judge_guess.new.stored c.requires.piece.fits c.requires.piece.piece.inputs.fit hold (c.judge_guess.ensures.yes yes);
      back = c.judge_guess.ensures.back;
    }
