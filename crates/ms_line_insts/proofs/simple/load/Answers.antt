use Rattle.std.proofs.Common.{refl}
use Rattle.ms_grammar.specs.Form.{no_scale}
use Rattle.ms_grammar.specs.declared.line.RawInst.TheVariants.{Load}
use Rattle.ms_line_insts.proofs.Spelt.{of_inst, to_inst}
use Rattle.ms_line_insts.proofs.simple.load.Goals as goal

pub returns-in_default : goal.returns-in_default
returns-in_default c = λ ty ptr rest s. c.in_default.ensures ty _ s.fits.0 (of_inst c.args.line.now c.args.tokens.now (Load ty ptr rest) s)

pub returns-in-Some-2 : goal.returns-in-Some-2
returns-in-Some-2 c =
    let a = c.in-Some.ensures in
    let e = rw c.in-Some-2.is at c.in_ok-ptr.ensures in
    let inst = Load c.in-Some.ty c.in-Some-2.ptr c.in-Some-2.tail in
    (inst, to_inst c.args.line.now c.args.tokens.now no_scale inst (a.on _ e.spelt) (a.fits, e.fits), (refl, tt))

pub returns-in-None : goal.returns-in-None
returns-in-None c =
    λ ty ptr rest s.
    let b = c.in-Some.ensures.back ty _ s.fits.0 (of_inst c.args.line.now c.args.tokens.now (Load ty ptr rest) s) in
    (rw c.in-None.is at c.in_ok-ptr.ensures) (ptr, rest) s.fits.1 b.further
