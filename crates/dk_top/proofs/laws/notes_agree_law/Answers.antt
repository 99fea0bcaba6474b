use Rattle.dk_top.proofs.AgreeLemmas.{Laws}
use Rattle.dk_top.proofs.NotesLemmas.{one_plan, notes_agree, notes_there}
use Rattle.dk_top.proofs.laws.notes_agree_law.Goals as goal

pub returns : goal.returns
returns c =
    let laws : Laws = record {
      one_program = c.one_source_law.ensures.program;
      one_system = c.one_at_age_law.ensures.system;
      one_vector = c.one_limit_law.ensures.vector;
      picture = c.drive_shows_law.ensures.picture;
      rasters = c.drive_shows_law.ensures.rasters;
      valuation = c.one_valuation_law.ensures;
      next = c.one_next_law.ensures;
      some_run = c.one_run_law.ensures.some;
      one_rounds = c.one_input_law.ensures.rounds;
    } in
    record {
      plan = one_plan laws;
      agree = λ source file age p plan rounds has fits. notes_agree laws source file age p plan rounds has fits.holds;
      some = λ source file age p plan rounds has fits. notes_there laws source file age p plan rounds has fits.holds;
    }
