use Rattle.ms_build.specs.Accesses.{event_of}
use Rattle.ms_walk.proofs.Turns.{last_in_turn, ends_are_defs}
use Rattle.ms_walk.proofs.search.last_in_turn.Goals as goal

pub returns : goal.returns
returns c =
    let f = c.args.of.now.func.now in
    let a = c.args.of.now.alias.now in
    let loc = c.args.loc.now in
    last_in_turn c.answer_behind.ensures f a c.args.q.0 c.args.i.0 loc (event_of c.in_ok-found.found) _ c.args.turn.now.insts.items c.args.turn.now.starts.items c.numbered.ensures.one_place c.requires.pointed.formed.closed
    (c.tests_told.ensures.in_turn f a c.requires.pointed.alias loc) c.requires.reached c.requires.turn c.requires.behind c.in_ok-found.ensures c.or_first.ensures

pub last_before-requires-clause-defs : goal.last_before-requires-clause-defs
last_before-requires-clause-defs c =
    let f = c.args.of.now.func.now in
    let loc = c.args.loc.now in
    ends_are_defs f c.args.of.now.alias.now loc c.args.turn.now.insts.items c.numbered.ensures.one_place (c.tests_told.ensures.in_turn f c.args.of.now.alias.now c.requires.pointed.alias loc)
