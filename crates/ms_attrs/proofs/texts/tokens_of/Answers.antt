use Rattle.std.proofs.Common.{refl}
use Rattle.ms_attrs.specs.Texts.{whole, broken}
use Rattle.ms_attrs.proofs.texts.tokens_of.Goals as goal

pub returns-in-Ok-clause-texts : goal.returns-in-Ok-clause-texts
returns-in-Ok-clause-texts c = whole _ c.in-Ok.ensures.ok refl

pub returns-in-Err-Bad-clause-texts : goal.returns-in-Err-Bad-clause-texts
returns-in-Err-Bad-clause-texts c =
    let cause = rw c.in-Err-Bad.field-0-is at c.in-Err-Bad.ensures.err in
    broken c.in-Err-Bad.field-0-0 cause (rw c.new.ensures refl)
