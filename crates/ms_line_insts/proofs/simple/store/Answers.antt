use Rattle.std.proofs.Common.{refl}
use Rattle.ms_grammar.specs.Form.{no_scale}
use Rattle.ms_grammar.specs.declared.line.RawInst.TheVariants.{Store}
use Rattle.ms_line_insts.proofs.Spelt.{of_inst, to_inst}
use Rattle.ms_line_insts.proofs.simple.store.Goals as goal

pub returns-in_default : goal.returns-in_default
returns-in_default c =
    λ ty val ptr rest s. (rw c.in_default.is at c.in_ok-given.ensures) (ty, val) _ (s.fits.0, s.fits.1) (of_inst c.args.line.now c.args.tokens.now (Store ty val ptr rest) s)

pub returns-in-Some-2 : goal.returns-in-Some-2
returns-in-Some-2 c =
    let a = rw c.in-Some.is at c.in_ok-given.ensures in
    let e = rw c.in-Some-2.is at c.in_ok-ptr.ensures in
    let inst = Store c.in-Some.given.0 c.in-Some.given.1 c.in-Some-2.ptr c.in-Some-2.tail in
    (inst, to_inst c.args.line.now c.args.tokens.now no_scale inst (a.on _ e.spelt) (a.fits.0, a.fits.1, e.fits), (refl, tt))

pub returns-in-None : goal.returns-in-None
returns-in-None c =
    λ ty val ptr rest s.
    let b = (rw c.in-Some.is at c.in_ok-given.ensures).back (ty, val) _ (s.fits.0, s.fits.1) (of_inst c.args.line.now c.args.tokens.now (Store ty val ptr rest) s) in
    (rw c.in-None.is at c.in_ok-ptr.ensures) (ptr, rest) s.fits.2 b.further
