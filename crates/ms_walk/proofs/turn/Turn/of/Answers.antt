use Rattle.std.proofs.Common.{Bool, List, length, refl, subst}
use Rattle.ms_ir.proofs.FuncLemmas.{somewhere_and_nowhere}
use Rattle.ms_walk.specs.Turn.{AreMarkedTo}
use Rattle.ms_walk.proofs.Marks.{marks_behind}
use Rattle.ms_walk.proofs.turn.Turn.of.Goals as goal

pub unreachable-requires : goal.unreachable-requires
unreachable-requires c = somewhere_and_nowhere c.args.func.now.blocks c.args.q.0 c.requires.there c.in-None.ensures

pub returns : goal.returns
returns c =
    let f = c.args.func.now in
    let at = c.in-Some.ensures in
    marks_behind f c.numbered.ensures.one_place c.lies_told.ensures.own c.lies_told.ensures.other c.requires.closed c.args.q.0 c.in-Some.found.0.0 c.in-Some.found.1 at.0 at.1
    _ c.in_ok-insts.insts.items c.in_ok-starts.starts.items refl c.args.flow.now.graph c.requires.graph (c.same_paths.ensures.on_every_path f.blocks) c.in_ok-starts.ensures
    (subst (λ (starts : List Bool). AreMarkedTo f.blocks starts c.in-Some.found.0.0 c.in-Some.found.1 (length f.blocks) c.in_ok-insts.insts.items) c.as_slice.ensures.value c.in_ok-insts.ensures)
