use Rattle.std.proofs.Common.{◌∙◌, sym}
use Rattle.ms_flow.specs.Table.{edges_of}
use Rattle.ms_build.specs.Accesses.{event_of, defining_at}
use Rattle.ms_ir.proofs.FuncLemmas.{at_and_nowhere}
use Rattle.ms_session.proofs.UseLemmas.{access_reached, shown_def, shown_use, shown_neither}
use Rattle.ms_session.proofs.lines.inst_line.Goals as goal

pub returns-in_ok-def_line-in-Some-Def : goal.returns-in_ok-def_line-in-Some-Def
returns-in_ok-def_line-in-Some-Def c = λ b k x at.
    shown_def c.args.of.now.func.now c.args.numbers.now.all c.args.i.0 c.in-Some.last (defining_at c.args.of.now.form.now c.args.i.0) c.in-Some-Def.field-0 _
    (sym c.defining.ensures ∙ c.in-Some.is) c.in-Some-Def.field-0-is c.in_ok-def_line-in-Some-Def.ensures b k x at (c.in-Some-Def.ensures.each b k x at)

pub named_by_use-requires-clause-reached : goal.named_by_use-requires-clause-reached
named_by_use-requires-clause-reached c =
    let f = c.args.of.now.func.now in
    let found = c.in-Some-Reads.ensures.found in
    record {
      block = found.0;
      place = found.1;
      inst = found.2;
      at = found.3;
      reached = access_reached f c.args.of.now.form.now c.requires.formed.form c.numbered.ensures.one_place
          (c.order_told.ensures.reached (edges_of f.blocks) (c.same_paths.ensures.closed f.blocks c.requires.formed.closed))
          (c.same_paths.ensures.reached f.blocks) c.args.i.0 c.in-Some.last (sym c.defining.ensures ∙ c.in-Some.is) found.0 found.1 found.2 found.3;
    }

pub returns-in_ok-use_line-in-Some-Reads : goal.returns-in_ok-use_line-in-Some-Reads
returns-in_ok-use_line-in-Some-Reads c = λ b k x at.
    shown_use c.args.of.now.func.now c.args.numbers.now.all c.args.i.0 c.in-Some.last (defining_at c.args.of.now.form.now c.args.i.0) (event_of c.in_ok-clobber-in-Some-Reads.clobber) c.in-Some-Reads.field-0 _
    (sym c.defining.ensures ∙ c.in-Some.is) c.in-Some-Reads.field-0-is (c.in_ok-use_line-in-Some-Reads.ensures c.args.i.0) b k x at (c.in-Some-Reads.ensures.each b k x at)
    (c.in_ok-clobber-in-Some-Reads.ensures b k x at)

pub returns-in-Some-Neither : goal.returns-in-Some-Neither
returns-in-Some-Neither c = λ b k x at.
    shown_neither c.args.of.now.func.now c.args.numbers.now.all c.args.i.0 c.in-Some.last (defining_at c.args.of.now.form.now c.args.i.0) c.in-Some-Neither.field-0
    (sym c.defining.ensures ∙ c.in-Some.is) c.in-Some-Neither.field-0-is b k x at (c.in-Some-Neither.ensures.each b k x at)

pub returns-in-None-kind : goal.returns-in-None-kind
returns-in-None-kind c = λ b k x at. absurd (at_and_nowhere c.args.of.now.func.now.blocks c.args.i.0 b k x c.in-None-kind.ensures.found at)
