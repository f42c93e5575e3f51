use Rattle.std.proofs.Common.{◌∙◌, List, ap, subst, sym}
use Rattle.ms_paths.specs.Flow.{IsClosed}
use Rattle.ms_ir.specs.Func.{Block}
use Rattle.ms_ir.specs.Graph.{graph_of}
use Rattle.ms_flow.specs.Table.{edges_of}
use Rattle.ms_test_functions.proofs.update.shift_with.Goals as goal

pub returns : goal.returns
returns g c =
    let i = c.args.i.0 in
    let old = c.args.f.now in
    let new = c.shift.new.func in
    let same = c.without_told.ensures.shifted old new i c.args.b.0 0 c.shift.ensures.shifted in
    record {
      graph = c.requires.graph ∙ sym (sym (c.without_told.ensures.edges i new.blocks) ∙ ap edges_of same ∙ c.without_told.ensures.edges i old.blocks);
      closed =
          (c.without_told.ensures.closed i new.blocks).0
          (subst (λ (bs : List Block). IsClosed (graph_of bs)) (sym same) ((c.without_told.ensures.closed i old.blocks).1 c.requires.closed));
      reducible = c.requires.reducible;
      form = c.shift.ensures.form;
      places = c.shift.ensures.places;
      waiting = c.shift.ensures.waiting;
    }
