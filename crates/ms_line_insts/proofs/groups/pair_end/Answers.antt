use Rattle.std.proofs.Common.{subst}
use Rattle.ms_ir.specs.declared.names.Ty.{Ty}
use Rattle.ms_grammar.specs.Fits.{IsValue}
use Rattle.ms_grammar.specs.declared.line.RawVal.{RawVal}
use Rattle.ms_line_insts.proofs.groups.pair_end.Goals as goal

pub returns-in_default : goal.returns-in_default
returns-in_default c = λ p fits h. (rw c.in_default.is at c.in_ok-first.ensures) p.0 _ fits.0 h

pub returns-in-Some-2 : goal.returns-in-Some-2
returns-in-Some-2 c =
    let a = (rw c.in-Some.is at c.in_ok-first.ensures) in
    let e = rw c.in-Some-2.is at c.in_ok-second.ensures in
    record { fits = (a.fits, e.fits); spelt = a.on _ (e.spelt) }

pub returns-in-None : goal.returns-in-None
returns-in-None c =
    λ p fits h.
    let b = (rw c.in-Some.is at c.in_ok-first.ensures).back p.0 _ fits.0 h in
    (rw c.in-None.is at c.in_ok-second.ensures) p.1 (subst (λ (g : Ty × RawVal). IsValue g.0 p.1.0) b.same fits.1) (b.further)
