use Rattle.std.proofs.Common.{◌∙◌, sym}
use Rattle.ms_climb.proofs.Events.{def_here, def_nowhere}
use Rattle.ms_walk.proofs.writers.is_def_of.Goals as goal

pub returns-in-Some : goal.returns-in-Some
returns-in-Some c =
    let f = c.in-Some.ensures.found in
    c.writes.ensures ∙ sym (def_here _ c.args.i.0 f.0 f.1 f.2 c.in-Some.inst.now c.kind_of.result c.numbered.ensures.one_place f.3 f.4 c.kind_of.ensures)

pub returns-in-None : goal.returns-in-None
returns-in-None c = sym (def_nowhere _ c.args.i.0 c.in-None.ensures.found)
