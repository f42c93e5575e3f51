use Rattle.std.proofs.Common.{refl}
use Rattle.ms_grammar.specs.Form.{no_scale}
use Rattle.ms_grammar.specs.declared.line.RawInst.TheVariants.{Select}
use Rattle.ms_line_insts.proofs.Spelt.{of_inst, to_inst}
use Rattle.ms_line_insts.proofs.simple.select.Goals as goal

pub returns-in_default : goal.returns-in_default
returns-in_default c = λ cond ty a b rest s. (rw c.in_default.is at c.in_ok-cond.ensures) cond _ s.fits.0 (of_inst c.args.line.now c.args.tokens.now (Select cond ty a b rest) s)

pub returns-in_default-2 : goal.returns-in_default-2
returns-in_default-2 c =
    λ cond ty a b rest s.
    let k = (rw c.in-Some.is at c.in_ok-cond.ensures).back cond _ s.fits.0 (of_inst c.args.line.now c.args.tokens.now (Select cond ty a b rest) s) in
    (rw c.in_default-2.is at c.in_ok-choice.ensures) ((ty, a), (b, rest)) (s.fits.1, s.fits.2) k.further

pub returns : goal.returns
returns c =
    let f = rw c.in-Some.is at c.in_ok-cond.ensures in
    let e = rw c.in-Some-2.is at c.in_ok-choice.ensures in
    let inst = Select c.in-Some.cond c.in-Some-2.choice.0.0 c.in-Some-2.choice.0.1 c.in-Some-2.choice.1.0 c.in-Some-2.choice.1.1 in
    (inst, to_inst c.args.line.now c.args.tokens.now no_scale inst (f.on _ e.spelt) (f.fits, e.fits.0, e.fits.1), (refl, tt))
