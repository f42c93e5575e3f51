use Rattle.std.proofs.Common.{length-set}
use Rattle.std.specs.Prelude.{false}
use Rattle.std.proofs.Math.ListN.{set}
use Rattle.ms_build.specs.Changes.{emptied, all_replaced}
use Rattle.ms_build.proofs.Entries.{changed_list, has_list-phis}
use Rattle.ms_build.proofs.Out.{out_of}
use Rattle.ms_build.proofs.settling.take_out.Goals as goal

pub replace_phi-requires-clause-block : goal.replace_phi-requires-clause-block
replace_phi-requires-clause-block c = rw (c.empty_operands.ensures.changed.phis, c.set_phi.ensures.phi, length-set c.args.form.now.phis c.args.b.0 false) c.requires.block

pub replace_phi-requires-clause-access : goal.replace_phi-requires-clause-access
replace_phi-requires-clause-access c =
    changed_list (emptied c.args.b) c.set_phi.new.self c.empty_operands.new.form c.args.a c.empty_operands.ensures.changed
    (rw c.set_phi.ensures.phi (has_list-phis c.args.form.now (set c.args.form.now.phis c.args.b.0 false) c.args.a (length-set c.args.form.now.phis c.args.b.0 false) c.requires.access))

pub link-requires-clause-user : goal.link-requires-clause-user
link-requires-clause-user c =
    rw (c.replace_phi.ensures.changed.phis, c.empty_operands.ensures.changed.phis, c.set_phi.ensures.phi, length-set c.args.form.now.phis c.args.b.0 false) c.requires.block

pub link-requires-clause-access : goal.link-requires-clause-access
link-requires-clause-access c =
    changed_list (all_replaced c.args.b c.args.a) c.empty_operands.new.form c.replace_phi.new.form c.args.a c.replace_phi.ensures.changed
    (changed_list (emptied c.args.b) c.set_phi.new.self c.empty_operands.new.form c.args.a c.empty_operands.ensures.changed
    (rw c.set_phi.ensures.phi (has_list-phis c.args.form.now (set c.args.form.now.phis c.args.b.0 false) c.args.a (length-set c.args.form.now.phis c.args.b.0 false) c.requires.access)))

pub returns-clause-out : goal.returns-clause-out
returns-clause-out c =
    out_of c.args.b c.args.a c.args.form.now c.set_phi.new.self c.empty_operands.new.form c.replace_phi.new.form c.link.new.form c.set_phi.ensures.phi
    c.empty_operands.ensures.changed c.empty_operands.ensures.waiting c.replace_phi.ensures.changed c.replace_phi.ensures.awaited c.link.ensures.changed c.link.ensures.waiting

pub returns-clause-places : goal.returns-clause-places
returns-clause-places c = λ counts insts h.
    c.link.ensures.changed.places counts insts (c.replace_phi.ensures.changed.places counts insts (c.empty_operands.ensures.changed.places counts insts (c.set_phi.ensures.places counts insts h)))
