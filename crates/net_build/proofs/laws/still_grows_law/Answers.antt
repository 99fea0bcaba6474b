use Rattle.net_build.proofs.Standing.{still_wires, still_reg, still_array, still_update, still_said, still_among, still_copies, still_none, all_still}
use Rattle.net_build.proofs.laws.still_grows_law.Goals as goal

pub returns-clause-wires : goal.returns-clause-wires
returns-clause-wires c new old copies free f adds is = still_wires new old copies free f adds is

pub returns-clause-reg : goal.returns-clause-reg
returns-clause-reg c b w copies free is = still_reg b w copies free is

pub returns-clause-array : goal.returns-clause-array
returns-clause-array c b s copies free is = still_array b s copies free is

pub returns-clause-update : goal.returns-clause-update
returns-clause-update c b u copies free is = still_update b u copies free is

pub returns-clause-said : goal.returns-clause-said
returns-clause-said c b copies h free said is = still_said b copies h free said is

pub returns-clause-among : goal.returns-clause-among
returns-clause-among c b copies free more among is = still_among b copies free more among is

pub returns-clause-copies : goal.returns-clause-copies
returns-clause-copies c b copies more free is = still_copies b copies more free is

pub returns-clause-none : goal.returns-clause-none
returns-clause-none c b regs arrays = still_none b regs arrays

pub returns-clause-all : goal.returns-clause-all
returns-clause-all c b copies h is d = all_still b copies h is d
