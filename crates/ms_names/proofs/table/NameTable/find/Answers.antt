use Rattle.ms_names.proofs.PlaceLemmas.{absent_nowhere}
use Rattle.std.proofs.Common.{◌∙◌, ap, sym}
use Rattle.ms_names.specs.Places.{name_place}
use Rattle.ms_names.proofs.table.NameTable.find.Goals as goal

pub returns-in-Absent : goal.returns-in-Absent
returns-in-Absent c = absent_nowhere c.args.self.now ∙ ap (name_place c.args.self.now) (sym c.in-Absent.is)
