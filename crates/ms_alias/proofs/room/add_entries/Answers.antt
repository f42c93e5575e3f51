use Rattle.std.proofs.Common.{◌≡◌, get_or, sym, subst}
use Rattle.std.proofs.lemmas.Option.{get_or_from_slice_get}
use Rattle.ms_ir.specs.declared.inst.Entry.{Entry}
use Rattle.ms_alias.specs.Building.{HaveGlobals}
use Rattle.ms_alias.specs.Bases.{pointers_in}
use Rattle.ms_alias.proofs.Rooms.{have_entry, longer_on, entry_vals, take_whole}
use Rattle.ms_alias.proofs.room.add_entries.Goals as goal

pub loop-k-preserved : goal.loop-k-preserved
loop-k-preserved c =
    let i = c.loop-k.invariant in
    let h = c.in_ok-add_val.ensures in
    let e : Entry = c.entry_at.result in
    let is : e ≡ get_or c.args.entries.now c.loop-k.k e = sym (get_or_from_slice_get c.args.entries.now c.loop-k.k e e c.entry_at.ensures) in
    (longer_on c.args.columns.now.items c.loop-k.columns.items c.add_val.new.columns.items i.0 h.longer, have_entry c.loop-k.columns.items c.add_val.new.columns.items c.args.entries.now c.loop-k.k e c.loop-k-test.true is i.1 h.longer h.globals)

pub returns-clause-globals : goal.returns-clause-globals
returns-clause-globals c =
    subst (λ es. HaveGlobals c.loop-k.columns.items (pointers_in (entry_vals es))) (take_whole c.args.entries.now c.loop-k.k c.loop-k-test.false) c.loop-k.invariant.1
