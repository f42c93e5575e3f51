use Rattle.std.proofs.Common.{sym, subst}
use Rattle.std.specs.Prelude.{IfOk, IsTrue, ◌↔◌}
use Rattle.ms_ir.specs.declared.inst.Edit.{Edit}
use Rattle.ms_ir.specs.Edits.{HasBadKind, HasBadName, HasBadOrder, HasBadPlace}
use Rattle.ms_edits.proofs.MoveLemmas.{can_move, moved_plain}
use Rattle.ms_edits.proofs.order.bad_order.Goals as goal

pub bad_in_insert-requires-clause-names : goal.bad_in_insert-requires-clause-names
bad_in_insert-requires-clause-names c = subst (λ (e : Edit). HasBadName c.args.func.now e → ⊥) c.in-Insert.is c.requires.names

pub bad_in_insert-requires-clause-places : goal.bad_in_insert-requires-clause-places
bad_in_insert-requires-clause-places c = subst (λ (e : Edit). HasBadPlace c.args.func.now e → ⊥) c.in-Insert.is c.requires.places

pub bad_in_insert-requires-clause-kind : goal.bad_in_insert-requires-clause-kind
bad_in_insert-requires-clause-kind c = subst (λ (e : Edit). HasBadKind c.args.func.now e → ⊥) c.in-Insert.is c.requires.kind

pub bad_in_move-requires-clause-moves : goal.bad_in_move-requires-clause-moves
bad_in_move-requires-clause-moves c =
    can_move c.args.func.now c.in-Move.block c.in-Move.place c.in-Move.to_block c.in-Move.to_place
    (subst (λ (e : Edit). HasBadName c.args.func.now e → ⊥) c.in-Move.is c.requires.names) (subst (λ (e : Edit). HasBadPlace c.args.func.now e → ⊥) c.in-Move.is c.requires.places)

pub bad_in_move-requires-clause-plain : goal.bad_in_move-requires-clause-plain
bad_in_move-requires-clause-plain c =
    moved_plain c.args.func.now c.in-Move.block c.in-Move.place c.in-Move.to_block c.in-Move.to_place (subst (λ (e : Edit). HasBadKind c.args.func.now e → ⊥) c.in-Move.is c.requires.kind)

pub returns-in-Insert : goal.returns-in-Insert
returns-in-Insert c = subst (λ (e : Edit). IfOk c.bad_in_insert.result (λ t. IsTrue t ↔ HasBadOrder c.args.func.now e)) (sym c.in-Insert.is) c.bad_in_insert.ensures

pub returns-in-Move : goal.returns-in-Move
returns-in-Move c = subst (λ (e : Edit). IfOk c.bad_in_move.result (λ t. IsTrue t ↔ HasBadOrder c.args.func.now e)) (sym c.in-Move.is) c.bad_in_move.ensures
