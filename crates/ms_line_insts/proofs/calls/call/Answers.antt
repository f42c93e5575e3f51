use Rattle.std.proofs.Common.{[], ◌∷◌, ◌++◌, map, refl, sym, append_assoc}
use Rattle.ms_grammar.specs.declared.line.RawInst.TheVariants.{Call}
use Rattle.ms_line_insts.proofs.Spelt.{of_inst, to_inst}
use Rattle.ms_line_insts.proofs.Lists.{of_parts}
use Rattle.ms_line_insts.specs.CallFronts.{closed_args, args_end_parts}
use Rattle.ms_grammar.specs.Form.{word_part, arg_parts, end_parts, listed, no_scale}
use Rattle.ms_grammar.specs.declared.keyword.Keyword.TheVariants as word
use Rattle.ms_line_insts.proofs.calls.call.Goals as goal

pub returns-in_default : goal.returns-in_default
returns-in_default c =
    λ callee ret args head post rest s.
    (rw c.in_default.is at c.in_ok-start.ensures) (ret, head, callee) _ (s.fits.0, s.fits.1) (of_inst c.args.line.now c.args.tokens.now (Call callee ret args head post rest) s)

pub returns : goal.returns
returns c =
    let a = rw c.in-Some.is at c.in_ok-start.ensures in
    let e = rw c.in-Some-2.is at c.in_ok-end.ensures in
    let args = c.in-Some-2.end.0 in
    let end = end_parts c.in-Some-2.end.1.0 c.in-Some-2.end.1.1 in
    let inst = Call c.in-Some.start.2 c.in-Some.start.0 args c.in-Some.start.1 c.in-Some-2.end.1.0 c.in-Some-2.end.1.1 in
    (inst, to_inst c.args.line.now c.args.tokens.now no_scale inst (a.on _ (of_parts c.args.line.now c.in-Some.at_args.now (closed_args args ++ end) (listed (map arg_parts args) ++ word_part word.Close ∷ end) (append_assoc (listed (map arg_parts args)) (word_part word.Close ∷ []) end) e.spelt)) (a.fits.0, a.fits.1, e.fits), (refl, tt))

pub returns-in_default-2 : goal.returns-in_default-2
returns-in_default-2 c =
    λ callee ret args head post rest s.
    let b = (rw c.in-Some.is at c.in_ok-start.ensures).back (ret, head, callee) _ (s.fits.0, s.fits.1) (of_inst c.args.line.now c.args.tokens.now (Call callee ret args head post rest) s) in
    let h = of_parts c.args.line.now c.in-Some.at_args.now (listed (map arg_parts args) ++ word_part word.Close ∷ end_parts post rest) (args_end_parts (args, (post, rest))) (sym (append_assoc (listed (map arg_parts args)) (word_part word.Close ∷ []) (end_parts post rest))) b.further in
    (rw c.in_default-2.is at c.in_ok-end.ensures) (args, (post, rest)) s.fits.2 h
