use Rattle.std.proofs.Common.{sym, subst}
use Rattle.ms_ir.specs.declared.inst.Edit.TheVariants.{Insert}
use Rattle.ms_ir.specs.Func.{FuncState}
use Rattle.ms_alias.specs.Tables.{HasPointers}
use Rattle.ms_cache.specs.Stays.{AreWhatStays}
use Rattle.ms_whole.proofs.Faultless.{can_put}
use Rattle.ms_whole.proofs.Edited.{put_ready, put_told, says, whole_behind}
use Rattle.ms_whole.proofs.editing.insert.Goals as goal

pub put_inst-i-requires-clause-block : goal.put_inst-i-requires-clause-block
put_inst-i-requires-clause-block c = (can_put c.args.parts.now.func c.args.block c.args.place c.args.inst c.args.name c.requires.faultless).block

pub put_inst-i-requires-clause-place : goal.put_inst-i-requires-clause-place
put_inst-i-requires-clause-place c = (can_put c.args.parts.now.func c.args.block c.args.place c.args.inst c.args.name c.requires.faultless).place

pub insert-requires-clause-there : goal.insert-requires-clause-there
insert-requires-clause-there c =
    let f = c.args.parts.now.func in
    let sound = c.edits_keep_sound.ensures f (Insert c.args.block c.args.place c.args.inst c.args.name) c.numbered.ensures c.requires.whole.sound c.requires.fitting c.requires.faultless in
    (put_ready f c.numbered.ensures c.args.block c.args.place c.args.inst c.args.name c.requires.faultless c.args.parts.now.flow c.args.parts.now.form c.args.parts.now.alias c.args.parts.now.kept c.requires.whole sound
    c.put_inst-i.new.self c.put_inst-i.result c.put_inst-i.ensures.put c.put_inst-i.ensures.number).there

pub insert-requires-clause-form : goal.insert-requires-clause-form
insert-requires-clause-form c =
    let f = c.args.parts.now.func in
    let sound = c.edits_keep_sound.ensures f (Insert c.args.block c.args.place c.args.inst c.args.name) c.numbered.ensures c.requires.whole.sound c.requires.fitting c.requires.faultless in
    (put_ready f c.numbered.ensures c.args.block c.args.place c.args.inst c.args.name c.requires.faultless c.args.parts.now.flow c.args.parts.now.form c.args.parts.now.alias c.args.parts.now.kept c.requires.whole sound
    c.put_inst-i.new.self c.put_inst-i.result c.put_inst-i.ensures.put c.put_inst-i.ensures.number).form

pub note_put-captured-requires : goal.note_put-captured-requires
note_put-captured-requires c =
    let f = c.args.parts.now.func in
    let can = can_put f c.args.block c.args.place c.args.inst c.args.name c.requires.faultless in
    subst (λ (g : FuncState). HasPointers g c.args.parts.now.alias) (sym c.put_inst-i.ensures.put)
    (c.tables_kept.ensures.put f c.args.parts.now.alias c.args.block.0 c.args.place c.args.inst c.args.name (c.makes_none.ensures.movable c.args.inst can.movable) c.requires.whole.alias)

pub returns-clause-whole : goal.returns-clause-whole
returns-clause-whole c =
    let f = c.args.parts.now.func in
    let e = Insert c.args.block c.args.place c.args.inst c.args.name in
    let old = c.args.parts.now in
    let sound = c.edits_keep_sound.ensures f e c.numbered.ensures c.requires.whole.sound c.requires.fitting c.requires.faultless in
    let ready = put_ready f c.numbered.ensures c.args.block c.args.place c.args.inst c.args.name c.requires.faultless old.flow old.form old.alias old.kept c.requires.whole sound
    c.put_inst-i.new.self c.put_inst-i.result c.put_inst-i.ensures.put c.put_inst-i.ensures.number in
    let told = put_told f c.put_inst-i.new.self c.args.block c.args.place c.args.inst c.args.name c.told-put.result c.put_inst-i.result _ _ c.put_inst-i.ensures.put
    (says c.told-put.result c.put_inst-i.result _ _ c.told-put.ensures.inst c.told-put.ensures.def c.told-put.ensures.captured c.told-put.ensures.own_only c.told-put.ensures.unlinked)
    c.put_inst-i.ensures.number c.is_def-def.ensures (c.note_put-captured.ensures.changed f c.requires.whole.alias) in
    let keeps = c.edits_keep_right.ensures.told f e c.told-put.result told old.kept c.after.new.self
    (subst (λ (g : FuncState). AreWhatStays g c.told-put.result old.kept c.after.new.self) c.put_inst-i.ensures.put c.after.ensures.stays) in
    whole_behind c.edits_keep_right.ensures.right f c.put_inst-i.new.self e old.flow old.flow old.form c.insert.new.form old.alias c.note_put-captured.new.self old.kept c.after.new.self
    c.put_inst-i.ensures.put c.requires.faultless c.numbered.ensures c.numbered-2.ensures sound c.requires.whole ready.graph c.requires.whole.formed.reducible c.insert.ensures.form
    c.insert.ensures.places c.insert.ensures.waiting c.note_put-captured.ensures.alias keeps

pub returns-clause-kept : goal.returns-clause-kept
returns-clause-kept c =
    let f = c.args.parts.now.func in
    let e = Insert c.args.block c.args.place c.args.inst c.args.name in
    let old = c.args.parts.now in
    let told = put_told f c.put_inst-i.new.self c.args.block c.args.place c.args.inst c.args.name c.told-put.result c.put_inst-i.result _ _ c.put_inst-i.ensures.put
    (says c.told-put.result c.put_inst-i.result _ _ c.told-put.ensures.inst c.told-put.ensures.def c.told-put.ensures.captured c.told-put.ensures.own_only c.told-put.ensures.unlinked)
    c.put_inst-i.ensures.number c.is_def-def.ensures (c.note_put-captured.ensures.changed f c.requires.whole.alias) in
    c.edits_keep_right.ensures.told f e c.told-put.result told old.kept c.after.new.self
    (subst (λ (g : FuncState). AreWhatStays g c.told-put.result old.kept c.after.new.self) c.put_inst-i.ensures.put c.after.ensures.stays)
