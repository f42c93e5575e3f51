use Rattle.std.proofs.Common.{◌++◌, ap, ◌∙◌, arith}
use Rattle.std.proofs.lemmas.List.{length-take, length-drop}
use Rattle.std.proofs.lemmas.Result.{err_from_is_err_and}
use Rattle.std.specs.Option.{option_map}
use Rattle.ms_cli.proofs.Taken.{cut_at, cut_answer, written_then, front_more}
use Rattle.ms_cli.proofs.sink.write_all.Goals as goal

pub returns-in_err-taken : goal.returns-in_err-taken
returns-in_err-taken g c =
    let inv = c.loop-taken.invariant in
    let e = c.in_err-taken.ensures in
    let p = err_from_is_err_and c.from_residual.result c.from_residual.ensures.1 in
    cut_answer c.from_residual.result _ p.1
    (cut_at c.loop-taken-test.true (record { written = inv.written; kept = inv.kept }) e.bytes e.cause e.later)

pub loop-taken-preserved : goal.loop-taken-preserved
loop-taken-preserved g c =
    let inv = c.loop-taken.invariant in
    let e = c.in_ok-taken.ensures in
    let bytes = c.args.bytes.now in
    record {
      within = let h = simp (length-take, length-drop) at e.takes.0 in omega arith;
      written =
          written_then _ _ _ _ _ inv.written e.bytes
          ∙ ap (λ k. option_map (λ t. t ++ k) (g.O.Sink.written c.args.out.now)) (front_more bytes c.loop-taken.taken c.min-count.result c.in_ok-taken.field-0 e.takes.0);
      kept = e.cause ∙ inv.kept;
    }
