-- One answer more.
use Rattle.std.proofs.Common.{Result, Ok, Err}
use Rattle.std.specs.Prelude.{List, IfErr}
use Rattle.ms_ir.specs.Func.{FuncState}
use Rattle.ms_flow.specs.Flow.{FlowState}
use Rattle.ms_form.specs.Form.{FormState}
use Rattle.ms_alias.specs.Tables.{AliasState}
use Rattle.ms_cache.specs.Stays.{Kept}
use Rattle.ms_kept.specs.Answers.{AreRight}
use Rattle.ms_whole.specs.Whole.{IsWhole}

pub none_kept : {T E : Type 0} (r : Result T E) (P : Type 0) → P → IfErr r (λ x. P)
none_kept (Ok t) P p = tt
none_kept (Err e) P p = p

pub with_answer : {f : FuncState} {flow : FlowState} {h : FormState} {a : AliasState} {old new : List Kept} → IsWhole f flow h a old → AreRight f new → IsWhole f flow h a new
with_answer w right = record {
  formed = w.formed;
  places = w.places;
  waiting = w.waiting;
  alias = w.alias;
  sound = w.sound;
  right = right;
}
