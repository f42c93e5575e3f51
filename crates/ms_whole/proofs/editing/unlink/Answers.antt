use Rattle.std.proofs.Common.{refl, sym, subst}
use Rattle.ms_ir.specs.declared.inst.Edit.TheVariants.{Unlink}
use Rattle.ms_ir.specs.Func.{FuncState}
use Rattle.ms_alias.specs.Tables.{IsReady}
use Rattle.ms_whole.proofs.Faultless.{can_cut}
use Rattle.ms_whole.proofs.Edited.{whole_behind}
use Rattle.ms_whole.proofs.editing.unlink.Goals as goal

pub drop_edge-requires-clause-block : goal.drop_edge-requires-clause-block
drop_edge-requires-clause-block c = (can_cut c.args.parts.now.func c.args.block c.args.slot c.requires.faultless).block

pub drop_edge-requires-clause-branch : goal.drop_edge-requires-clause-branch
drop_edge-requires-clause-branch c = (can_cut c.args.parts.now.func c.args.block c.args.slot c.requires.faultless).branch

pub drop_edge-requires-clause-slot : goal.drop_edge-requires-clause-slot
drop_edge-requires-clause-slot c = (can_cut c.args.parts.now.func c.args.block c.args.slot c.requires.faultless).slot_is

pub renew-requires-clause-ready : goal.renew-requires-clause-ready
renew-requires-clause-ready c =
    subst (λ (g : FuncState). IsReady g c.args.parts.now.alias) (sym c.drop_edge.ensures.func)
    (c.tables_kept.ensures.cut c.args.parts.now.func c.args.parts.now.alias c.args.block.0 c.args.slot c.requires.whole.alias)

pub returns-clause-whole : goal.returns-clause-whole
returns-clause-whole c =
    let old = c.args.parts.now in
    let f = c.args.parts.now.func in
    let e = Unlink c.args.block c.args.slot in
    let keeps = c.edits_keep_right.ensures.told f e _ (record { own_only = refl; unlinked = refl }) old.kept c.after.new.self c.after.ensures.stays in
    whole_behind c.edits_keep_right.ensures.right f c.drop_edge.new.func e old.flow c.drop_edge.new.flow old.form c.drop_edge.new.form old.alias c.renew.new.self old.kept c.after.new.self c.drop_edge.ensures.func
    c.requires.faultless c.numbered.ensures c.numbered-2.ensures (c.edits_keep_sound.ensures f e c.numbered.ensures c.requires.whole.sound tt c.requires.faultless) c.requires.whole
    c.drop_edge.ensures.graph c.drop_edge.ensures.reducible c.drop_edge.ensures.form c.drop_edge.ensures.places c.drop_edge.ensures.waiting c.renew.ensures keeps
