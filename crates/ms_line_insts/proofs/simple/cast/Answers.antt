use Rattle.std.proofs.Common.{refl, subst}
use Rattle.ms_ir.specs.declared.inst.CastOp.{CastOp}
use Rattle.ms_ir.specs.declared.inst.Flags.{Flags}
use Rattle.ms_grammar.specs.Fits.{Converts}
use Rattle.ms_grammar.specs.Form.{no_scale}
use Rattle.ms_grammar.specs.declared.line.RawInst.TheVariants.{Cast}
use Rattle.ms_line_insts.specs.Ends.{tailed}
use Rattle.ms_line_insts.specs.Heads.{converted_parts}
use Rattle.ms_line_insts.proofs.Spelt.{of_inst, to_inst}
use Rattle.ms_line_insts.proofs.simple.cast.Goals as goal

pub returns-in_default : goal.returns-in_default
returns-in_default c =
    λ op flags from a to rest s.
    c.in_default.ensures (op, flags) (tailed converted_parts (((from, a), to), rest)) (from, _, refl) s.fits.0 (of_inst c.args.line.now c.args.tokens.now (Cast op flags from a to rest) s)

pub returns-in_default-2 : goal.returns-in_default-2
returns-in_default-2 c =
    λ op flags from a to rest s.
    let k = c.in-Some.ensures.back (op, flags) (tailed converted_parts (((from, a), to), rest)) (from, _, refl) s.fits.0 (of_inst c.args.line.now c.args.tokens.now (Cast op flags from a to rest) s) in
    (rw c.in_default-2.is at c.in_ok-conversion.ensures) (((from, a), to), rest) (s.fits.1, s.fits.2, subst (λ (h : CastOp × Flags). Converts h.0 from to) k.same s.fits.3, s.fits.4) k.further

pub returns : goal.returns
returns c =
    let f = c.in-Some.ensures in
    let e = rw c.in-Some-2.is at c.in_ok-conversion.ensures in
    let inst = Cast c.in-Some.op c.in-Some.flags c.in-Some-2.conversion.0.0.0 c.in-Some-2.conversion.0.0.1 c.in-Some-2.conversion.0.1 c.in-Some-2.conversion.1 in
    (inst, to_inst c.args.line.now c.args.tokens.now no_scale inst (f.on _ e.spelt) (f.fits, e.fits.0, e.fits.1, e.fits.2, e.fits.3), (refl, tt))
