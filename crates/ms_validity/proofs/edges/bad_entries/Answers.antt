use Rattle.std.specs.Prelude.{IsTrue, ◌↔◌}
use Rattle.std.proofs.lemmas.Result.{IfOk-weaker}
use Rattle.ms_ir.specs.Sound.{HasTwoValues}
use Rattle.ms_validity.specs.Tables.{HasBadEntriesFor}
use Rattle.ms_validity.proofs.EdgeLemmas.{fit_told}
use Rattle.ms_validity.proofs.edges.bad_entries.Goals as goal

pub returns-else-branch : goal.returns-else-branch
returns-else-branch c =
    IfOk-weaker c.two_values.result (λ t. IsTrue t ↔ HasTwoValues c.in-Phi.entries) (λ t. IsTrue t ↔ HasBadEntriesFor c.args.sources.now c.args.inst.now)
    (fit_told c.args.sources.now c.args.inst.now c.in-Phi.entries c.in-Phi.ty c.in-Phi.tail c.in_ok-other_edges-in-Phi.field-0 c.in-Phi.is c.in_ok-other_edges-in-Phi.ensures c.if-branch.false)
    c.two_values.ensures
