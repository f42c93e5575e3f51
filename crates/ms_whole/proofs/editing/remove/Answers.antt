use Rattle.std.proofs.Common.{◌∙◌, ℕ, sym, ap, subst}
use Rattle.std.proofs.lemmas.Bool.{true≢false}
use Rattle.ms_ir.specs.declared.inst.Edit.TheVariants.{Remove}
use Rattle.ms_ir.specs.Func.{FuncState}
use Rattle.ms_flow.specs.Table.{edges_of}
use Rattle.ms_form.specs.Form.{HasPlaces}
use Rattle.ms_form.specs.Counts.{pred_counts}
use Rattle.ms_build.specs.Built.{IsFormOf}
use Rattle.ms_alias.specs.Roots.{makes_pointer}
use Rattle.ms_whole.proofs.Faultless.{can_take, taken_is, taken_inst}
use Rattle.ms_whole.proofs.Noted.{still_tables}
use Rattle.ms_whole.proofs.Edited.{take_told, says, whole_behind}
use Rattle.ms_whole.proofs.editing.remove.Goals as goal

pub found_at-def-requires-clause-block : goal.found_at-def-requires-clause-block
found_at-def-requires-clause-block c = (can_take c.args.parts.now.func c.args.block c.args.place c.requires.faultless).block

pub found_at-def-requires-clause-place : goal.found_at-def-requires-clause-place
found_at-def-requires-clause-place c = (can_take c.args.parts.now.func c.args.block c.args.place c.requires.faultless).place

pub after-requires : goal.after-requires
after-requires c = λ asks. still_tables c.args.parts.now.func c.note_take-captured.new.self c.found_at-def.result.0 c.note_take-captured.ensures.pointers c.note_take-captured.ensures.captured
    (λ o. true≢false (sym ((c.note_take-captured.ensures.changed c.args.parts.now.func c.requires.whole.alias).1 o) ∙ sym c.told-taken.ensures.captured ∙ asks.2))

pub returns-clause-func : goal.returns-clause-func
returns-clause-func c =
    taken_is c.args.parts.now.func c.take.new.func c.found_at-def.result.0.0 c.args.block.0 c.args.place c.found_at-def.ensures.0 c.take.ensures.0 c.numbered.ensures c.found_at-def.ensures.1 c.take.ensures.1

pub returns-clause-whole : goal.returns-clause-whole
returns-clause-whole c =
    let old = c.args.parts.now in
    let f = c.args.parts.now.func in
    let g = c.take.new.func in
    let i = c.found_at-def.result.0 in
    let x = c.found_at-def.ensures.0 in
    let at = c.found_at-def.ensures.1 in
    let inst = c.take.ensures.0 in
    let taken = c.take.ensures.1 in
    let e = Remove c.args.block c.args.place in
    let is = taken_is f g i.0 c.args.block.0 c.args.place x inst c.numbered.ensures at taken in
    let idle = ap makes_pointer (taken_inst f g i.0 c.args.block.0 c.args.place x inst c.numbered.ensures at taken)
    ∙ c.makes_none.ensures.movable x.inst ((can_take f c.args.block c.args.place c.requires.faultless).movable x at.found) in
    let told = take_told f g c.args.block c.args.place x c.told-taken.result i _ _ is at
    (says c.told-taken.result i _ _ c.told-taken.ensures.inst c.told-taken.ensures.def c.told-taken.ensures.captured c.told-taken.ensures.own_only c.told-taken.ensures.unlinked) c.found_at-def.ensures.2
    (c.captures_told.ensures.taken f g i inst c.numbered.ensures taken idle c.note_take-captured.result (c.note_take-captured.ensures.changed f c.requires.whole.alias)) in
    let keeps = c.edits_keep_right.ensures.told f e c.told-taken.result told old.kept c.after.new.self c.after.ensures.stays in
    let without = c.without_told.ensures.taken f g i.0 inst c.numbered.ensures taken in
    let graph = c.requires.whole.formed.graph ∙ sym (ap (λ (k : FuncState). edges_of k.blocks) without ∙ c.without_told.ensures.edges i.0 f.blocks) in
    whole_behind c.edits_keep_right.ensures.right f g e old.flow old.flow old.form c.remove.new.form old.alias c.note_take-captured.new.self old.kept c.after.new.self is c.requires.faultless
    c.numbered.ensures c.numbered-2.ensures (c.edits_keep_sound.ensures f e c.numbered.ensures c.requires.whole.sound tt c.requires.faultless) c.requires.whole graph c.requires.whole.formed.reducible
    (subst (λ (k : FuncState). IsFormOf k c.remove.new.form) (sym without) c.remove.ensures.form)
    (subst (λ (m : ℕ). HasPlaces (pred_counts old.flow) m c.remove.new.form) (sym (ap (λ (k : FuncState). k.made) is)) c.remove.ensures.places) c.remove.ensures.waiting
    (c.tables_kept.ensures.take f g c.note_take-captured.new.self i inst c.numbered.ensures taken idle c.note_take-captured.ensures.pointers c.note_take-captured.ensures.captured) keeps

pub returns-clause-kept : goal.returns-clause-kept
returns-clause-kept c =
    let old = c.args.parts.now in
    let f = c.args.parts.now.func in
    let g = c.take.new.func in
    let i = c.found_at-def.result.0 in
    let x = c.found_at-def.ensures.0 in
    let at = c.found_at-def.ensures.1 in
    let inst = c.take.ensures.0 in
    let taken = c.take.ensures.1 in
    let is = taken_is f g i.0 c.args.block.0 c.args.place x inst c.numbered.ensures at taken in
    let idle = ap makes_pointer (taken_inst f g i.0 c.args.block.0 c.args.place x inst c.numbered.ensures at taken)
    ∙ c.makes_none.ensures.movable x.inst ((can_take f c.args.block c.args.place c.requires.faultless).movable x at.found) in
    let told = take_told f g c.args.block c.args.place x c.told-taken.result i _ _ is at
    (says c.told-taken.result i _ _ c.told-taken.ensures.inst c.told-taken.ensures.def c.told-taken.ensures.captured c.told-taken.ensures.own_only c.told-taken.ensures.unlinked) c.found_at-def.ensures.2
    (c.captures_told.ensures.taken f g i inst c.numbered.ensures taken idle c.note_take-captured.result (c.note_take-captured.ensures.changed f c.requires.whole.alias)) in
    c.edits_keep_right.ensures.told f (Remove c.args.block c.args.place) c.told-taken.result told old.kept c.after.new.self c.after.ensures.stays
