use Rattle.std.proofs.Common.{sym, subst}
use Rattle.ms_grammar.specs.Limits.{IsSmallInst}
use Rattle.ms_line_insts.specs.Found.{SpellInst}
use Rattle.ms_line.proofs.InstLines.{whole_told, past_told}
use Rattle.ms_line.proofs.insts.made.Goals as goal

pub returns-in-Some-Whole : goal.returns-in-Some-Whole
returns-in-Some-Whole c =
    let line = c.args.line.now in
    let tokens = c.args.tokens.now in
    let told = rw c.in-Some-Whole.field-0-is at (rw c.in-Some-Whole.is at c.in_ok-inst.ensures) in
    whole_told c.args.name line tokens c.in-Some-Whole.inst c.whole.result (subst (λ i. SpellInst line tokens i) (sym told.2.0) told.1) (subst (λ i. IsSmallInst i) (sym told.2.0) told.2.1) c.whole.ensures

pub returns-in-Some-Past : goal.returns-in-Some-Past
returns-in-Some-Past c =
    let told = rw c.in-Some-Past.field-0-is at (rw c.in-Some-Past.is at c.in_ok-inst.ensures) in
    past_told c.args.name c.args.line.now c.args.tokens.now told.0 c.past.result told.1 told.2.1 (c.past.ensures told.0 told.1 told.2)

pub returns-in-None : goal.returns-in-None
returns-in-None c = let told = rw c.in-None.is at c.in_ok-inst.ensures in λ inst h made. told inst h
