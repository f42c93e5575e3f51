use Rattle.std.proofs.Common.{List, [], ◌∷◌, None, refl}
use Rattle.ms_ir.specs.declared.names.Name.TheVariants.{Absent}
use Rattle.ms_grammar.specs.declared.line.RawTerm.TheVariants.{Ret}
use Rattle.ms_resolve.specs.Shape.{BlockLines, FuncLines, ItemLines, body}
use Rattle.ms_test_texts.proofs.names.draft.Goals as goal

pub returns-clause-shape : goal.returns-clause-shape
returns-clause-shape c =
    let block : BlockLines = record {
      label = None;
      insts = record { line = 2; name = Absent; inst = c.args.inst } ∷ [];
      end = record { line = 3; term = Ret None c.new.result };
    } in
    let f : FuncLines = record { line = 1; head = c.args.head; blocks = block ∷ []; close = 4 } in
    let items : List ItemLines = body f ∷ [] in (
      items,
      record {
        lines = rw (c.in_ok-push-4.ensures.ok, c.in_ok-push-3.ensures.ok, c.in_ok-push-2.ensures.ok, c.in_ok-push.ensures.ok, c.new-lines.ensures) refl;
        each = (tt, tt);
      },
    )
