use Rattle.ms_kept.proofs.Idle.{idle_writes_not, idle_turns_not}
use Rattle.ms_kept.proofs.laws.idle_instructions_write_not.Goals as goal

pub returns-clause-at_all : goal.returns-clause-at_all
returns-clause-at_all c = idle_writes_not

pub returns-clause-in_turn : goal.returns-clause-in_turn
returns-clause-in_turn c = idle_turns_not
