-- Room for more instructions changes nothing else.
use Rattle.std.proofs.Common.{◌≡◌, ℕ}
use Rattle.ms_ir.specs.Func.{FuncState}
use Rattle.ms_flow.specs.Flow.{FlowState}
use Rattle.ms_form.specs.Form.{FormState}
use Rattle.ms_test_functions.specs.Together.{IsTogether}

pub together_still : (func new : FuncState) (flow : FlowState) (table after : FormState) (n m : ℕ) → new ≡ record func { spare = n } → after ≡ record table { spare = m } → IsTogether func flow table → IsTogether new flow after
together_still func new flow table after n m e d t = rw (e, d) (record {
  graph = t.graph;
  closed = t.closed;
  reducible = t.reducible;
  form = record {
    phis = t.form.phis;
    entering = t.form.entering;
    no_entering = t.form.no_entering;
    operands = t.form.operands;
    no_operand = t.form.no_operand;
    defining = t.form.defining;
    no_defining = t.form.no_defining;
    lasts = t.form.lasts;
  };
  places = record { blocks = t.places.blocks; slots = t.places.slots; numbers = t.places.numbers };
  waiting = t.waiting;
})
