use Rattle.std.proofs.Common.{◌∙◌, sym, subst}
use Rattle.ms_paths.specs.Flow.{IsClosed}
use Rattle.ms_session.proofs.Annotates.{annotated_text}
use Rattle.ms_session.proofs.notes.annotated.Goals as goal

pub returns : goal.returns
returns c =
    let g = c.args.of.now.flow.now.graph in
    let f = c.args.of.now.func.now in
    let closed : IsClosed g = subst IsClosed (sym c.requires.formed.graph) (c.same_paths.ensures.closed f.blocks c.requires.formed.closed) in
    annotated_text c.one_answer.ensures.one c.args.names.now f c.args.of.now.form.now g c.in_ok-numbers.numbers.all c.as_slice.result.now _ _
    c.requires.formed.graph
    (λ b. c.order_told.ensures.reached g closed b)
    (λ b e h. c.sources_told.ensures.edges g closed b e h)
    (λ a slot r lt. c.sources_told.ensures.all g closed a slot r lt)
    (λ b. c.same_paths.ensures.reached f.blocks b)
    c.numbered.ensures.one_place c.requires.formed.form c.in_ok-numbers.ensures (c.as_slice.ensures ∙ c.in_ok-labels.ensures)
    c.in_ok-phi_notes.ensures c.in_ok-inst_notes.ensures (c.same_paths.ensures.blocks f.blocks) c.in_ok-print_func.ensures
