-- Runs of a function: what is seen of one after so many steps.
use Rattle.std.specs.Prelude.{ℕ, zero, suc, List, take, Option}
use Rattle.ms_ir.specs.Func.{FuncState}
use Rattle.ms_meaning.specs.Values.{Byte, Value}
use Rattle.ms_meaning.specs.States.{Input, Made, begun}
use Rattle.ms_meaning.specs.Steps.{Moment, On, Over, Waiting, Lost, next}

-- The function has ended: its calls, its result and what the outer objects then hold. Or it goes on, or waits, after these calls. Or
-- it did what has no meaning.
pub data Outcome : Type 0 where
  Ended : (calls : List Made) (result : Option Value) (objects : List (List Byte)) → Outcome
  Going : (calls : List Made) → Outcome
  Wrong : Outcome

abbrev pub outcome : Moment → Outcome
outcome (On s) = Going s.calls
outcome (Over result s) = Ended s.calls result (take s.outer s.objects)
outcome (Waiting s) = Going s.calls
outcome Lost = Wrong

-- the run after so many steps
abbrev pub moment : FuncState → Input → ℕ → Moment
moment f input zero = On (begun input)
moment f input (suc n) = next f (moment f input n)

abbrev pub run : FuncState → Input → ℕ → Outcome
run f input n = outcome (moment f input n)
