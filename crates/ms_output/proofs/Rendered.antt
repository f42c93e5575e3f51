-- What is told of a draft is told of the bytes that it was read from.
use Rattle.std.proofs.Common.{◌≡◌, ℕ, List, [], inr, Some, Result, Ok, Err, ap, subst, ◌∙◌, arith, slice_index_or}
use Rattle.ms_grammar.specs.declared.line.Line.{Line}
use Rattle.ms_read.specs.Draft.{IsDraft}
use Rattle.ms_validity.specs.Cause.{IsValidCause, IsLoopCause}
use Rattle.ms_validity.specs.declared.fault.ValidFault.{ValidFault}
use Rattle.ms_validity.specs.declared.fault.ValidFault.TheVariants as valid
use Rattle.ms_output.specs.Funcs.{funcs_said}
use Rattle.ms_output.specs.Output.{refusal_at, valid_refusal, IsFuncIn}
use Rattle.ms_output.specs.Told.{Renders, RendersDraft}
use Rattle.ms_output.specs.declared.refusal.Refusal.{Refusal}
use Rattle.ms_output.specs.declared.unwritten.Unwritten.{Unwritten}
use Rattle.ms_output.specs.declared.unwritten.Unwritten.TheVariants.{Refused, Memory}
use Rattle.ms_output.specs.declared.wanted.Wanted.{Wanted}
use Rattle.ms_output.proofs.Causes.{refusal_is, number_of, place_of}
use Rattle.ms_output.proofs.Heads.{loop_func}

number_told : (number place : ℕ) (r : Refusal) → refusal_at number place ≡ Some r → number ≡ r.number
number_told number place r told = ap number_of (refusal_is number place r told)

place_told : (number place : ℕ) (r : Refusal) → refusal_at number place ≡ Some r → place ≡ r.place
place_told number place r told = ap place_of (refusal_is number place r told)

-- a refusal with the number 7 is that of a function for its loops, and its name is told
func_told : (bytes : List ℕ) (draft : List (ℕ × Line)) (fault : ValidFault) (r : Refusal) (func : List ℕ) → IsDraft bytes draft → IsValidCause draft fault
    → valid_refusal fault ≡ Some r → r.number ≡ 7 → func ≡ slice_index_or (funcs_said draft) r.place [] → IsFuncIn bytes r.place func
func_told bytes draft (valid.Name n) r func read cause told seven name = let k : 3 ≡ 7 = number_told 3 n r told ∙ seven in absurd (omega (arith, k))
func_told bytes draft (valid.Types n) r func read cause told seven name = let k : 4 ≡ 7 = number_told 4 n r told ∙ seven in absurd (omega (arith, k))
func_told bytes draft (valid.Edges n) r func read cause told seven name = let k : 5 ≡ 7 = number_told 5 n r told ∙ seven in absurd (omega (arith, k))
func_told bytes draft (valid.Order n) r func read cause told seven name = let k : 6 ≡ 7 = number_told 6 n r told ∙ seven in absurd (omega (arith, k))
func_told bytes draft (valid.Irreducible f) r func read cause told seven name =
    loop_func bytes draft r.place func read (subst (λ (n : ℕ). IsLoopCause draft n) (place_told 7 f.0 r told) cause) name
func_told bytes draft valid.Memory r func read cause told seven name = absurd (cc)

pub renders_by : (wanted : Wanted) (bytes : List ℕ) (draft : List (ℕ × Line)) (result : Result (List ℕ) Unwritten) → IsDraft bytes draft → RendersDraft wanted draft result → Renders wanted bytes result
renders_by wanted bytes draft (Ok text) read h = record { draft = draft; m = h.m; read = read; accepted = h.accepted; written = h.written }
renders_by wanted bytes draft (Err (Refused r func)) read h = (
  inr (record { draft = draft; fault = h.fault; read = read; cause = h.cause; told = h.told.0 }),
  λ seven. func_told bytes draft h.fault r func read h.cause h.told.0 seven (h.told.1 seven),
)
renders_by wanted bytes draft (Err Memory) read h = tt
