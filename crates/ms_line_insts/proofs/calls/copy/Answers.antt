use Rattle.std.proofs.Common.{◌<◌, ◌≤◌, ℕ, refl, ap, subst, arith}
use Rattle.ms_grammar.specs.declared.line.RawInst.TheVariants.{Copy}
use Rattle.ms_line_insts.proofs.Spelt.{of_inst, to_inst}
use Rattle.ms_line_insts.proofs.ArgLemmas.{comma_marks}
use Rattle.ms_grammar.specs.Form.{no_scale}
use Rattle.ms_line_insts.proofs.calls.copy.Goals as goal

pub returns-in_default : goal.returns-in_default
returns-in_default c =
    λ to from len head post rest s.
    (rw c.in_default.is at c.in_ok-front.ensures) (head, (to, from)) _ (comma_marks c.args.line.now _) ((s.fits.0, s.fits.2), (s.fits.1, s.fits.3)) (of_inst c.args.line.now c.args.tokens.now (Copy to from len head post rest) s)

pub returns-in_default-2 : goal.returns-in_default-2
returns-in_default-2 c =
    λ to from len head post rest s.
    let a = rw c.in-Some.is at c.in_ok-front.ensures in
    let b = a.back (head, (to, from)) _ (comma_marks c.args.line.now _) ((s.fits.0, s.fits.2), (s.fits.1, s.fits.3)) (of_inst c.args.line.now c.args.tokens.now (Copy to from len head post rest) s) in
    (rw c.in_default-2.is at c.in_ok-len.ensures) (len, (post, rest)) tt b.further

pub returns-in_default-len : goal.returns-in_default-len
returns-in_default-len c =
    let a = rw c.in-Some.is at c.in_ok-front.ensures in
    let e = rw c.in-Some-2.is at c.in_ok-len.ensures in
    let inst = Copy c.in-Some.front.1.0 c.in-Some.front.1.1 e.0 c.in-Some.front.0 c.in-Some-2.end.0 c.in-Some-2.end.1 in
    let big : 4096 < e.0 = (rw c.in_default-len.is at e.2) in
    (inst, to_inst c.args.line.now c.args.tokens.now no_scale inst (a.on _ e.1.spelt) (a.fits.0.0, a.fits.1.0, a.fits.0.1, a.fits.1.1), (refl, λ small. omega arith))

pub returns : goal.returns
returns c =
    let a = rw c.in-Some.is at c.in_ok-front.ensures in
    let e = rw c.in-Some-2.is at c.in_ok-len.ensures in
    let few = (rw c.in-Some-len.is at e.2) in
    let made = λ (n : ℕ). Copy c.in-Some.front.1.0 c.in-Some.front.1.1 n c.in-Some.front.0 c.in-Some-2.end.0 c.in-Some-2.end.1 in
    (made e.0, to_inst c.args.line.now c.args.tokens.now no_scale (made e.0) (a.on _ e.1.spelt) (a.fits.0.0, a.fits.1.0, a.fits.0.1, a.fits.1.1), (ap made few.0, subst (λ (n : ℕ). n ≤ 4096) few.0 few.1))
