use Rattle.std.proofs.Common.{refl}
use Rattle.ms_grammar.specs.declared.line.Line.TheVariants.{Inst}
use Rattle.ms_script.proofs.Insertion.{inst_found, none_fitting, past_so}
use Rattle.ms_script.proofs.inserted.inst_of.Goals as goal

pub returns-in-Ok-clause-ok : goal.returns-in-Ok-clause-ok
returns-in-Ok-clause-ok c = inst_found c.args.m.now c.args.line.now c.in-Ok.said c.fitting_of.result c.in-Ok.ensures.ok c.fitting_of.ensures.ok

pub returns-in-Ok-clause-err : goal.returns-in-Ok-clause-err
returns-in-Ok-clause-err c = none_fitting c.args.m.now c.args.line.now c.in-Ok.said c.fitting_of.result c.in-Ok.ensures.ok c.fitting_of.ensures.err

pub returns-in-Err-NotOfProfile-clause-err : goal.returns-in-Err-NotOfProfile-clause-err
returns-in-Err-NotOfProfile-clause-err c = λ says. (rw c.in-Err-NotOfProfile.field-0-is at c.in-Err-NotOfProfile.ensures.err) (Inst says.result says.inst) says.says

pub returns-in-Ok-true-clause-err : goal.returns-in-Ok-true-clause-err
returns-in-Ok-true-clause-err c =
    let says = c.in-Ok-true.ensures.0 c.in-Ok-true.field-0-test in
    (says, past_so c.args.line.now c.args.m.now says (rw c.in-Err-TooLong.field-0-is at c.in-Err-TooLong.ensures.err))
