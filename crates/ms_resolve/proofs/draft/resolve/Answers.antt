use Rattle.std.proofs.Common.{◌∙◌, length, sym, ap, arith}
use Rattle.ms_resolve.proofs.ResolveFacts.{least_told, fault_told, new_told, resolved_told}
use Rattle.ms_resolve.proofs.draft.resolve.Goals as goal

pub returns-in-Ok-Some-clause-err : goal.returns-in-Ok-Some-clause-err
returns-in-Ok-Some-clause-err c =
    let draft = c.args.draft.now in
    let items = c.requires.shape.0 in
    let shape = c.requires.shape.1 in
    fault_told draft items shape c.in-Ok-Some.line
    (least_told draft c.as_slice-lines.result.now items shape c.in-Ok.symbols _ c.as_slice-lines.ensures c.in-Ok.ensures (sym c.in-Ok-Some.field-0-is ∙ c.in-Ok-Some.ensures))

pub build-requires-clause-new : goal.build-requires-clause-new
build-requires-clause-new c =
    let draft = c.args.draft.now in
    let items = c.requires.shape.0 in
    let shape = c.requires.shape.1 in
    new_told draft c.as_slice-lines.result.now items shape c.as_slice-lines.ensures
    (least_told draft c.as_slice-lines.result.now items shape c.in-Ok.symbols _ c.as_slice-lines.ensures c.in-Ok.ensures (sym c.in-Ok-None.field-0-is ∙ c.in-Ok-None.ensures))

pub build-requires-clause-few : goal.build-requires-clause-few
build-requires-clause-few c = omega (arith, c.requires.few.lines, ap length c.as_slice-lines.ensures)

pub returns-in-Ok-build-clause-ok : goal.returns-in-Ok-build-clause-ok
returns-in-Ok-build-clause-ok c =
    let draft = c.args.draft.now in
    let items = c.requires.shape.0 in
    let shape = c.requires.shape.1 in
    resolved_told draft c.as_slice-lines.result.now items shape c.in-Ok.symbols c.in-Ok-build.resolved c.as_slice-lines.ensures c.in-Ok.ensures
    (least_told draft c.as_slice-lines.result.now items shape c.in-Ok.symbols _ c.as_slice-lines.ensures c.in-Ok.ensures (sym c.in-Ok-None.field-0-is ∙ c.in-Ok-None.ensures))
    c.in-Ok-build.ensures.module_is c.in-Ok-build.ensures.distinct c.in-Ok-build.ensures.lines_are
