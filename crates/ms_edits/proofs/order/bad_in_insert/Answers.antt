use Rattle.std.proofs.Common.{inl}
use Rattle.std.specs.Prelude.{IsTrue, ◌↔◌}
use Rattle.std.proofs.lemmas.Result.{IfOk-weaker}
use Rattle.ms_ir.specs.declared.inst.Edit.TheVariants.{Insert}
use Rattle.ms_ir.specs.Uses.{operands_of}
use Rattle.ms_ir.specs.Edits.{HasBadOrder}
use Rattle.ms_edited.proofs.Faults.{movable_is}
use Rattle.ms_edits.specs.Told.{HasIn, IsLateAt}
use Rattle.ms_edits.proofs.PlaceLemmas.{in_func}
use Rattle.ms_edits.proofs.InsertLemmas.{inserted_told}
use Rattle.ms_edits.proofs.order.bad_in_insert.Goals as goal

pub has_late-requires-clause-there : goal.has_late-requires-clause-there
has_late-requires-clause-there c = in_func c.args.func.now c.args.block.0 (λ no. c.requires.names (inl no))

pub returns : goal.returns
returns c =
    let f = c.args.func.now in
    let inst = c.args.inst.now in
    IfOk-weaker c.has_late.result (λ t. IsTrue t ↔ HasIn (operands_of inst) (IsLateAt f c.args.block.0 c.args.place)) (λ t. IsTrue t ↔ HasBadOrder f (Insert c.args.block c.args.place inst c.args.name.now))
    (λ t told. inserted_told f c.numbered.ensures c.requires.sound c.args.block c.args.place inst c.args.name.now c.requires.names c.requires.places (movable_is inst c.requires.kind) t told)
    c.has_late.ensures
