use Rattle.std.proofs.Common.{◌∙◌, ℕ, sym, subst}
use Rattle.ms_ir.specs.declared.inst.Edit.TheVariants.{Move}
use Rattle.ms_ir.specs.Func.{FuncState}
use Rattle.ms_ir.specs.Edits.{edited}
use Rattle.ms_update.specs.Reads.{IsPutCost}
use Rattle.ms_update.proofs.Shifted.{edges_shifted}
use Rattle.ms_whole.proofs.Faultless.{can_leave, can_come, come_place, shifted_is}
use Rattle.ms_whole.proofs.Edited.{move_told, says, whole_behind}
use Rattle.ms_whole.proofs.editing.shift.Goals as goal

pub found_at-def-requires-clause-block : goal.found_at-def-requires-clause-block
found_at-def-requires-clause-block c = (can_leave c.args.parts.now.func c.args.block c.args.place c.args.to_block c.args.to_place c.requires.faultless).block

pub found_at-def-requires-clause-place : goal.found_at-def-requires-clause-place
found_at-def-requires-clause-place c = (can_leave c.args.parts.now.func c.args.block c.args.place c.args.to_block c.args.to_place c.requires.faultless).place

pub shift-requires-clause-block : goal.shift-requires-clause-block
shift-requires-clause-block c = (can_come c.args.parts.now.func c.args.block c.args.place c.args.to_block c.args.to_place c.requires.faultless).0

pub shift-requires-clause-place : goal.shift-requires-clause-place
shift-requires-clause-place c =
    come_place c.args.parts.now.func c.numbered.ensures c.args.block c.args.place c.args.to_block c.args.to_place c.requires.faultless c.found_at-def.result.0.0 c.found_at-def.ensures.0 c.found_at-def.ensures.1

pub returns-clause-whole : goal.returns-clause-whole
returns-clause-whole c =
    let old = c.args.parts.now in
    let f = c.args.parts.now.func in
    let g = c.shift.new.func in
    let i = c.found_at-def.result.0 in
    let x = c.found_at-def.ensures.0 in
    let at = c.found_at-def.ensures.1 in
    let e = Move c.args.block c.args.place c.args.to_block c.args.to_place in
    let can = can_leave f c.args.block c.args.place c.args.to_block c.args.to_place c.requires.faultless in
    let lt = (can_come f c.args.block c.args.place c.args.to_block c.args.to_place c.requires.faultless).0 in
    let none = c.makes_none.ensures.one f i.0 c.args.block.0 c.args.place x c.numbered.ensures at (c.makes_none.ensures.movable x.inst (can.movable x at.found)) in
    let is = shifted_is f g i.0 c.args.block c.args.place c.args.to_block c.args.to_place x c.numbered.ensures at c.shift.ensures.shifted in
    let told = move_told f g c.args.block c.args.place c.args.to_block c.args.to_place x c.told-moved.result i _ is at
    (says c.told-moved.result i _ _ c.told-moved.ensures.inst c.told-moved.ensures.def c.told-moved.ensures.captured c.told-moved.ensures.own_only c.told-moved.ensures.unlinked) c.found_at-def.ensures.2
    (c.captures_told.ensures.moved f g i.0 c.args.to_block.0 c.args.to_place c.shift.ensures.shifted lt none) in
    let keeps = c.edits_keep_right.ensures.told f e c.told-moved.result told old.kept c.after.new.self c.after.ensures.stays in
    let graph = c.requires.whole.formed.graph ∙ sym (edges_shifted i.0 f.blocks g.blocks (c.without_told.ensures.shifted f g i.0 c.args.to_block.0 c.args.to_place c.shift.ensures.shifted)) in
    whole_behind c.edits_keep_right.ensures.right f g e old.flow old.flow old.form c.shift.new.form old.alias old.alias old.kept c.after.new.self is c.requires.faultless c.numbered.ensures c.numbered-2.ensures
    (c.edits_keep_sound.ensures f e c.numbered.ensures c.requires.whole.sound tt c.requires.faultless) c.requires.whole graph c.requires.whole.formed.reducible c.shift.ensures.form c.shift.ensures.places
    c.shift.ensures.waiting (c.shift_kept.ensures.tables f g i.0 c.args.to_block.0 c.args.to_place c.shift.ensures.shifted lt none old.alias c.requires.whole.alias) keeps

pub returns-clause-kept : goal.returns-clause-kept
returns-clause-kept c =
    let old = c.args.parts.now in
    let f = c.args.parts.now.func in
    let g = c.shift.new.func in
    let i = c.found_at-def.result.0 in
    let x = c.found_at-def.ensures.0 in
    let at = c.found_at-def.ensures.1 in
    let can = can_leave f c.args.block c.args.place c.args.to_block c.args.to_place c.requires.faultless in
    let lt = (can_come f c.args.block c.args.place c.args.to_block c.args.to_place c.requires.faultless).0 in
    let none = c.makes_none.ensures.one f i.0 c.args.block.0 c.args.place x c.numbered.ensures at (c.makes_none.ensures.movable x.inst (can.movable x at.found)) in
    let is = shifted_is f g i.0 c.args.block c.args.place c.args.to_block c.args.to_place x c.numbered.ensures at c.shift.ensures.shifted in
    let told = move_told f g c.args.block c.args.place c.args.to_block c.args.to_place x c.told-moved.result i _ is at
    (says c.told-moved.result i _ _ c.told-moved.ensures.inst c.told-moved.ensures.def c.told-moved.ensures.captured c.told-moved.ensures.own_only c.told-moved.ensures.unlinked) c.found_at-def.ensures.2
    (c.captures_told.ensures.moved f g i.0 c.args.to_block.0 c.args.to_place c.shift.ensures.shifted lt none) in
    c.edits_keep_right.ensures.told f (Move c.args.block c.args.place c.args.to_block c.args.to_place) c.told-moved.result told old.kept c.after.new.self c.after.ensures.stays

pub returns-clause-reads : goal.returns-clause-reads
returns-clause-reads c =
    let f = c.args.parts.now.func in
    let g = c.shift.new.func in
    let x = c.found_at-def.ensures.0 in
    let at = c.found_at-def.ensures.1 in
    let r = c.shift.ensures.reads in
    let is = shifted_is f g c.found_at-def.result.0.0 c.args.block c.args.place c.args.to_block c.args.to_place x c.numbered.ensures at c.shift.ensures.shifted in (
      r.0,
      (
        x,
        at.found,
        subst (λ (n : ℕ). IsPutCost f.blocks (edited f (Move c.args.block c.args.place c.args.to_block c.args.to_place)).blocks (record { 0 = n }) r.0) (sym at.numbered) (subst (λ (k : FuncState). IsPutCost f.blocks k.blocks c.found_at-def.result.0 r.0) is r.1),
      ),
      r.2,
    )
