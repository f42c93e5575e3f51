use Rattle.std.proofs.Common.{List, sym, subst}
use Rattle.ms_paths.specs.Flow.{Block as Run, IsReached}
use Rattle.ms_ir.specs.Func.{FuncState}
use Rattle.ms_session.specs.Annotated.{HasUses}
use Rattle.ms_session.specs.Shown.{reached_in}
use Rattle.ms_session.proofs.session.Session.text.Goals as goal

pub returns-clause-walks : goal.returns-clause-walks
returns-clause-walks c =
    let f = c.self.inside.func in
    let g = c.self.inside.flow.graph in
    let told = c.order_told.ensures.reached g c.self.invariant.1 in
    let uses : HasUses f c.count_uses-walks.result = record {
      reached = reached_in g;
      reached_are = λ b. (
        λ t. (c.same_paths.ensures.reached f.blocks b).0 (subst (λ (r : List Run). IsReached r b) c.self.invariant.0 ((told b).0 t)),
        λ r. (told b).1 (subst (λ (k : List Run). IsReached k b) (sym c.self.invariant.0) ((c.same_paths.ensures.reached f.blocks b).1 r)),
      );
      count_is = c.count_uses-walks.ensures;
    } in
    subst (λ (s : FuncState). HasUses s c.count_uses-walks.result) c.self.view_is uses
