use Rattle.std.proofs.Common.{◌∙◌, ◌++◌, List, ℕ, sym, ap, arith, append-nil}
use Rattle.std.proofs.lemmas.Option.{slice_get_within}
use Rattle.ms_ir.specs.declared.module.Item.{Item}
use Rattle.ms_print.specs.Text.{items_text}
use Rattle.ms_print.proofs.TextLemmas.{items_more, past_items}
use Rattle.ms_print.proofs.module.print_module.Goals as goal

pub loop-item-preserved : goal.loop-item-preserved
loop-item-preserved c =
    let items = c.args.module.now.items in
    let at = sym c.in-Some.ensures in
    let within = slice_get_within items c.loop-item.n c.in-Some.item.now at in
    record {
      text = items_more c.args.module.now c.loop-item.before c.has_body-body.result items c.loop-item.n c.in-Some.item.now c.loop-item.out.items _ _
          at c.has_body-body.ensures c.in_ok-push_gap.ensures c.in_ok-push_item.ensures ∙ c.loop-item.invariant.text;
      within = omega (arith, within);
    }

pub returns : goal.returns
returns c =
    let out = c.loop-item.out.items in
    let rest : List Item → List ℕ = λ r. out ++ items_text c.args.module.now c.loop-item.before r in
    c.from_vec.ensures ∙ sym (append-nil out) ∙ ap rest (sym (past_items c.args.module.now.items c.loop-item.n c.in_default.ensures)) ∙ c.loop-item.invariant.text
