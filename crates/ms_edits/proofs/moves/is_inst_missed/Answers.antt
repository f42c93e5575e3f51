use Rattle.std.proofs.Common.{List, sym, subst}
use Rattle.std.specs.Prelude.{IsTrue, ◌↔◌}
use Rattle.ms_ir.specs.declared.inst.Inst.{Inst}
use Rattle.ms_ir.specs.Uses.{Use, uses_at}
use Rattle.ms_edits.specs.declared.spots.After.TheVariants.{Moved}
use Rattle.ms_edits.specs.Told.{HasIn}
use Rattle.ms_edits.specs.Moved.{IsUseMissed, func_after}
use Rattle.ms_edits.proofs.OrderLemmas.{plain_uses}
use Rattle.ms_edits.proofs.moves.is_inst_missed.Goals as goal

pub returns-in-Some : goal.returns-in-Some
returns-in-Some c =
    let blocks = (func_after c.args.func.now (Moved c.args.from c.args.to)).blocks in
    subst (λ (e : Inst). IsTrue c.is_phi_missed.result ↔ HasIn (uses_at blocks c.args.at.block c.args.at.place e) (IsUseMissed blocks c.args.to c.args.l))
    (sym c.in-Some.ensures.2) c.is_phi_missed.ensures

pub returns-in-None : goal.returns-in-None
returns-in-None c =
    let blocks = (func_after c.args.func.now (Moved c.args.from c.args.to)).blocks in
    subst (λ (us : List Use). IsTrue c.is_operand_missed.result ↔ HasIn us (IsUseMissed blocks c.args.to c.args.l))
    (sym (plain_uses blocks c.args.at.block c.args.at.place c.args.inst.now c.in-None.ensures)) c.is_operand_missed.ensures
