use Rattle.ms_output.proofs.Rendered.{renders_by}
use Rattle.ms_output.proofs.output.render.Goals as goal

pub render_draft-requires : goal.render_draft-requires
render_draft-requires c = (c.args.bytes.now, c.in-Ok.ensures.ok)

pub returns-in-Ok : goal.returns-in-Ok
returns-in-Ok c = renders_by c.args.wanted c.args.bytes.now c.in-Ok.draft c.render_draft.result c.in-Ok.ensures.ok c.render_draft.ensures
