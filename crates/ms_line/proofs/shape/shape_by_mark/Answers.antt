use Rattle.ms_grammar.specs.Parts.{texts, bytes_at}
use Rattle.ms_line.proofs.ShapeLemmas.{kind_told, other_mark}
use Rattle.ms_line.proofs.shape.shape_by_mark.Goals as goal

pub returns-in-Local : goal.returns-in-Local
returns-in-Local c = rw (kind_told c.args.first.kind (bytes_at c.args.line.now c.args.first) c.requires.first.bytes, c.in-Local.is) c.shape_by_third.ensures

pub returns-in-Global : goal.returns-in-Global
returns-in-Global c = rw (kind_told c.args.first.kind (bytes_at c.args.line.now c.args.first) c.requires.first.bytes, c.in-Global.is)

pub returns-in_default : goal.returns-in_default
returns-in_default c =
    rw (kind_told c.args.first.kind (bytes_at c.args.line.now c.args.first) c.requires.first.bytes)
    (other_mark c.args.first.kind (texts c.args.line.now c.args.rest.now) c.in_default.not-Local c.in_default.not-Global)
