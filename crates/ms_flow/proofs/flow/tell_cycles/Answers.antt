use Rattle.ms_flow.proofs.flow.tell_cycles.Goals as goal

pub returns-then-known-clause-cycles : goal.returns-then-known-clause-cycles
returns-then-known-clause-cycles c = c.loop_table.ensures.cycles (c.requires.known c.if-known.true)

pub returns-then-is_reducible-clause-cycles : goal.returns-then-is_reducible-clause-cycles
returns-then-is_reducible-clause-cycles c = c.loop_table.ensures.cycles (c.is_reducible.ensures.told.0 c.if-is_reducible.true)
