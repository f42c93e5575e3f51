use Rattle.std.proofs.Common.{refl, subst}
use Rattle.ms_grammar.specs.Fits.{IsEntryOf}
use Rattle.ms_grammar.specs.Kept.{Each}
use Rattle.ms_ir.specs.declared.names.Ty.{Ty}
use Rattle.ms_grammar.specs.Form.{no_scale}
use Rattle.ms_grammar.specs.declared.line.RawInst.TheVariants.{Phi}
use Rattle.ms_line_insts.proofs.Fronts.{blank_on, blank_off}
use Rattle.ms_line_insts.proofs.Spelt.{of_inst, to_inst}
use Rattle.ms_line_insts.proofs.phi.phi.Goals as goal

pub returns-in_default : goal.returns-in_default
returns-in_default c = λ ty entries rest s. c.in_default.ensures ty _ tt (of_inst c.args.line.now c.args.tokens.now (Phi ty entries rest) s)

pub returns-in-Some-2 : goal.returns-in-Some-2
returns-in-Some-2 c =
    let e = rw c.in-Some-2.is at c.in_ok-entries.ensures in
    let inst = Phi c.in-Some.ty c.in-Some-2.entries c.in-Some-2.tail in
    (inst, to_inst c.args.line.now c.args.tokens.now no_scale inst (c.in-Some.ensures.on _ (blank_on c.args.line.now c.in-Some.at_entries.now _ e.spelt)) e.fits, (refl, tt))

pub returns-in-None : goal.returns-in-None
returns-in-None c =
    λ ty entries rest s.
    let b = c.in-Some.ensures.back ty _ tt (of_inst c.args.line.now c.args.tokens.now (Phi ty entries rest) s) in
    (rw c.in-None.is at c.in_ok-entries.ensures) (entries, rest) (s.fits.0, subst (λ (t : Ty). Each (IsEntryOf t) entries) b.same s.fits.1) (blank_off c.args.line.now c.in-Some.at_entries.now _ b.further)
