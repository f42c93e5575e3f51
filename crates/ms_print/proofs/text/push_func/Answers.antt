use Rattle.std.proofs.Common.{◌∙◌, ap}
use Rattle.ms_print.specs.Numbering.{shown_params}
use Rattle.ms_print.proofs.TextLemmas.{func_done}
use Rattle.ms_print.proofs.text.push_func.Goals as goal

pub returns : goal.returns
returns c =
    let shown = c.in_ok-params.ensures.params ∙ ap (shown_params 0) (c.as_slice.ensures ∙ c.params.ensures) in
    func_done c.args.names.now c.args.func.now c.args.notes.now c.in_ok-tables_of.field-0 c.in_ok-params.params c.args.out.now.items _ _ _
    shown c.in_ok-tables_of.ensures.locals c.in_ok-tables_of.ensures.labels c.in_ok-push_define.ensures c.in_ok-push_blocks.ensures c.in_ok-push_made.ensures
