use Rattle.std.proofs.Common.{◌∙◌, ap, length, arith, length-set}
use Rattle.std.specs.Prelude.{false}
use Rattle.ms_form.specs.Form.{FormState}
use Rattle.ms_update.proofs.Cleared.{cleared_start, cleared_whole}
use Rattle.ms_update.proofs.dropping.clear_block.Goals as goal

pub unlink-requires : goal.unlink-requires
unlink-requires c =
    let f = c.args.form.now in
    let same = ap (λ (k : FormState). length k.phis) c.set_phi.ensures.phi ∙ length-set f.phis c.args.b.0 false in
    let lt = c.requires.there in
    omega arith

pub forget-requires-clause-numbers : goal.forget-requires-clause-numbers
forget-requires-clause-numbers c =
    let same = c.unlink.ensures.changed.numbers ∙ ap (λ (k : FormState). length k.defs) c.set_phi.ensures.phi in
    let all = c.requires.numbers in
    omega arith

pub returns : goal.returns
returns c =
    let f = c.args.form.now in
    let blocks = c.args.func.now.blocks in
    cleared_whole blocks c.args.b.0 f c.unlink.new.form c.forget.new.form
    (cleared_start blocks c.args.b f c.set_phi.new.self c.unlink.new.form c.requires.there c.set_phi.ensures.phi c.set_phi.ensures.places c.unlink.ensures.changed) c.forget.ensures
