use Rattle.ms_test_functions.proofs.pointers.cut_back.Goals as goal

pub renew-requires-clause-ready : goal.renew-requires-clause-ready
renew-requires-clause-ready g c = rw c.cut.ensures (c.tables_kept.ensures.cut c.args.f.now c.args.alias.now 1 0 c.requires)
