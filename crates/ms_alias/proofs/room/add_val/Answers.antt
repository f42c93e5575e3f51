use Rattle.std.proofs.Common.{sym, ap, ◌∙◌, Some}
use Rattle.std.specs.Prelude.{position}
use Rattle.ms_alias.specs.declared.loc.Root.TheVariants.{Global}
use Rattle.ms_alias.specs.Roots.{pointer_of}
use Rattle.ms_alias.specs.Tables.{same_root}
use Rattle.ms_alias.proofs.Rooms.{have_val, have_pushed, have_some}
use Rattle.ms_alias.proofs.room.add_val.Goals as goal

pub returns-in_ok-push-clause-globals : goal.returns-in_ok-push-clause-globals
returns-in_ok-push-clause-globals c =
    have_val c.push.new.self.items (pointer_of c.args.val) c.in-Some-Global.g (sym c.pointer_of.ensures ∙ c.in-Some-Global.is ∙ ap Some c.in-Some-Global.field-0-is) (have_pushed c.args.columns.now.items c.push.new.self.items c.in-Some-Global.g c.in_ok-push.ensures.items)

pub returns-else-is_none-clause-globals : goal.returns-else-is_none-clause-globals
returns-else-is_none-clause-globals c =
    let found = have_some c.column_of.result c.if-is_none.ensures in
    have_val c.args.columns.now.items (pointer_of c.args.val) c.in-Some-Global.g (sym c.pointer_of.ensures ∙ c.in-Some-Global.is ∙ ap Some c.in-Some-Global.field-0-is)
    (found.0, ap (position (same_root (Global c.in-Some-Global.g))) (sym c.as_slice.ensures.value) ∙ sym c.column_of.ensures ∙ found.1)
