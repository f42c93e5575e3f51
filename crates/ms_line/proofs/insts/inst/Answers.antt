use Rattle.ms_line.proofs.InstLines.{no_inst, no_tokens_inst, inst_named_told, inst_unnamed_told}
use Rattle.ms_line.proofs.insts.inst.Goals as goal

pub returns-in_default : goal.returns-in_default
returns-in_default c = no_inst c.args.line.now c.args.tokens.now (no_tokens_inst c.args.line.now c.args.tokens.now c.in_default.ensures.cells)

pub returns-in_ok-named-in-Some-2 : goal.returns-in_ok-named-in-Some-2
returns-in_ok-named-in-Some-2 c =
    let told = rw c.in-Some-2.is at c.in_ok-name.ensures in
    inst_named_told c.args.line.now c.args.tokens.now c.in-Some.rest.now c.in-Some.first c.in-Some-2.name c.in_ok-named-in-Some-2.field-0 c.in-Some.ensures.cells told.0 told.1 c.in_ok-named-in-Some-2.ensures

pub returns-in_ok-made-in-None : goal.returns-in_ok-made-in-None
returns-in_ok-made-in-None c =
    let told = rw c.in-None.is at c.in_ok-name.ensures in
    inst_unnamed_told c.args.line.now c.args.tokens.now c.in-Some.rest.now c.in-Some.first c.in_ok-made-in-None.field-0 c.in-Some.ensures.cells told c.in_ok-made-in-None.ensures
