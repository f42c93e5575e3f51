use Rattle.std.proofs.Common.{refl}
use Rattle.ms_grammar.specs.Form.{no_scale}
use Rattle.ms_grammar.specs.declared.line.RawInst.TheVariants.{Bin}
use Rattle.ms_line_insts.specs.Ends.{pair_end_parts}
use Rattle.ms_line_insts.proofs.Spelt.{of_inst, to_inst}
use Rattle.ms_line_insts.proofs.simple.binary.Goals as goal

pub returns-in_default : goal.returns-in_default
returns-in_default c =
    λ op flags ty a b rest s. c.in_default.ensures (op, flags) (pair_end_parts ((ty, a), (b, rest))) (ty, _, refl) s.fits.0 (of_inst c.args.line.now c.args.tokens.now (Bin op flags ty a b rest) s)

pub returns-in_default-2 : goal.returns-in_default-2
returns-in_default-2 c =
    λ op flags ty a b rest s.
    let k = c.in-Some.ensures.back (op, flags) (pair_end_parts ((ty, a), (b, rest))) (ty, _, refl) s.fits.0 (of_inst c.args.line.now c.args.tokens.now (Bin op flags ty a b rest) s) in
    (rw c.in_default-2.is at c.in_ok-pair.ensures) ((ty, a), (b, rest)) ((s.fits.1, s.fits.2), s.fits.3) k.further

pub returns : goal.returns
returns c =
    let f = c.in-Some.ensures in
    let e = rw c.in-Some-2.is at c.in_ok-pair.ensures in
    let inst = Bin c.in-Some.op c.in-Some.flags c.in-Some-2.pair.0.0 c.in-Some-2.pair.0.1 c.in-Some-2.pair.1.0 c.in-Some-2.pair.1.1 in
    (inst, to_inst c.args.line.now c.args.tokens.now no_scale inst (f.on _ e.spelt) (f.fits, e.fits.0.0, e.fits.0.1, e.fits.1), (refl, tt))
