use Rattle.dk_top.proofs.AgreeLemmas.{Laws}
use Rattle.dk_laws.proofs.SimLemmas.{sim_shows, sim_only}
use Rattle.dk_laws.proofs.compiled.compile_then_sim_law.Goals as goal

pub returns : goal.returns
returns c =
    let laws : Laws = record {
      one_program = c.one_source_law.ensures.program;
      one_system = c.one_at_age_law.ensures.system;
      one_vector = c.one_limit_law.ensures.vector;
      picture = c.drive_shows_law.ensures.picture;
      rasters = c.drive_shows_law.ensures.rasters;
      valuation = c.one_valuation_law.ensures;
      next = c.one_next_law.ensures;
      some_run = c.one_run_law.ensures.some;
      one_rounds = c.one_input_law.ensures.rounds;
    } in
    record {
      shows = λ given fill. sim_shows laws given fill;
      only = λ given fill. sim_only laws given fill;
    }
