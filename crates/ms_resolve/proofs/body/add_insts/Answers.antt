use Rattle.std.proofs.Common.{◌≡◌, ◌∙◌, ◌+◌, ◌∷◌, ℕ, ap, sym, drop}
use Rattle.std.proofs.lemmas.List.{drop_more}
use Rattle.ms_grammar.specs.declared.line.Line.{Line}
use Rattle.ms_resolve.specs.Reader.{scope_by}
use Rattle.ms_resolve.proofs.BuildLemmas.{insts_more}
use Rattle.ms_resolve.proofs.body.add_insts.Goals as goal

pub loop-line-preserved : goal.loop-line-preserved
loop-line-preserved c =
    let lines = c.args.lines.now in
    let i = c.loop-line.line-index in
    let x = c.loop-line-item.result in
    let cut : drop i lines ≡ x ∷ drop (i + 1) lines = drop_more lines i x c.loop-line-test.true ∙ ap (λ (y : ℕ × Line). y ∷ drop (i + 1) lines) (sym c.loop-line-item.is) in
    insts_more (scope_by c.args.reader.now) c.loop-line.b c.in_ok-b.b c.loop-line.func c.inst_line.new.func x (drop (i + 1) lines) (drop i lines) _
    cut c.in_ok-inst_line.ensures c.in_ok-b.ensures c.loop-line.invariant
