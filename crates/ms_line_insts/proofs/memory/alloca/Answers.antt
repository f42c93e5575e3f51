use Rattle.std.proofs.Common.{◌<◌, ℕ, ◌∷◌, refl, sym, subst, arith}
use Rattle.ms_grammar.specs.Kept.{IsObject}
use Rattle.ms_grammar.specs.Parts.{texts, kept_text}
use Rattle.ms_grammar.specs.Form.{no_scale}
use Rattle.ms_grammar.specs.declared.line.RawInst.TheVariants.{Alloca}
use Rattle.ms_line_insts.proofs.Spelt.{of_inst, to_inst}
use Rattle.ms_line_insts.proofs.CutLemmas.{sized, alloca_back, alloca_no, alloca_on}
use Rattle.ms_line_insts.proofs.memory.alloca.Goals as goal

pub returns-in_default : goal.returns-in_default
returns-in_default c =
    λ size head rest s.
    let h0 = of_inst c.args.line.now c.args.tokens.now (Alloca size head rest) s in
    c.in_default.ensures _ h0

pub returns-in_default-object_cut : goal.returns-in_default-object_cut
returns-in_default-object_cut c =
    λ size head rest s.
    let h0 = of_inst c.args.line.now c.args.tokens.now (Alloca size head rest) s in
    let e1 = c.in-Some.ensures in
    let h1 = e1.back _ h0 in
    alloca_no c.args.line.now c.in-Some.at_type.now size head _ c.in_default-object_cut.ensures h1

pub returns-in_default-2 : goal.returns-in_default-2
returns-in_default-2 c =
    λ size head rest s.
    let h0 = of_inst c.args.line.now c.args.tokens.now (Alloca size head rest) s in
    let e1 = c.in-Some.ensures in
    let h1 = e1.back _ h0 in
    let e2 = c.in-Some-object_cut.ensures in
    let b2 = alloca_back c.args.line.now c.in-Some.at_type.now c.in-Some-object_cut.object.now c.in-Some-object_cut.at_tail.now size head _ e2 h1 in
    let h2 = b2.further in
    (rw c.in_default-2.is at c.in_ok-tail.ensures) rest h2

pub returns-in_default-object_size : goal.returns-in_default-object_size
returns-in_default-object_size c =
    let e1 = c.in-Some.ensures in
    let e2 = c.in-Some-object_cut.ensures in
    let z = sized e2.passes.0 (texts c.args.line.now c.in-Some-object_cut.object.now) e2.passes.1 in
    let inst = Alloca z.0 (kept_text c.args.line.now c.in-Some-object_cut.object.now) c.in-Some-2.tail in
    let big : 65536 < z.0 = c.in_default-object_size.ensures z.0 z.1 z.2 in
    (inst, to_inst c.args.line.now c.args.tokens.now no_scale inst (e1.on _ (alloca_on c.args.line.now c.in-Some.at_type.now c.in-Some-object_cut.object.now c.in-Some-object_cut.at_tail.now z.0 z.1 (kept_text c.args.line.now c.in-Some-object_cut.object.now) _ e2.whole z.2 refl (rw c.in-Some-2.is at c.in_ok-tail.ensures))) tt, (refl, λ small. omega arith))

pub returns : goal.returns
returns c =
    let e1 = c.in-Some.ensures in
    let e2 = c.in-Some-object_cut.ensures in
    let z = sized e2.passes.0 (texts c.args.line.now c.in-Some-object_cut.object.now) e2.passes.1 in
    let f = c.in-Some-object_size.ensures z.0 z.1 z.2 in
    let inst = Alloca c.in-Some-object_size.size c.in_ok-head.head c.in-Some-2.tail in
    (inst, to_inst c.args.line.now c.args.tokens.now no_scale inst (e1.on _ (alloca_on c.args.line.now c.in-Some.at_type.now c.in-Some-object_cut.object.now c.in-Some-object_cut.at_tail.now c.in-Some-object_size.size z.1 c.in_ok-head.head _ e2.whole (subst (λ (n : ℕ). IsObject (n ∷ z.1) (texts c.args.line.now c.in-Some-object_cut.object.now)) (sym f.0) z.2) c.in_ok-head.ensures (rw c.in-Some-2.is at c.in_ok-tail.ensures))) tt, (refl, f.1))
