-- One row more behind those that are read.
use Rattle.std.proofs.Common.{◌≡◌, ℕ, ◌+◌, ◌≤◌, ◌<◌, List, [], ◌∷◌, ◌++◌, length, Option, Some, None, refl, sym, ap, subst, ◌∙◌, arith, append_assoc, append-nil, length-append}
use Rattle.std.specs.Prelude.{Result, Ok, Err, IfOk, IfErr, OnOk}
use Rattle.ms_ir.specs.declared.names.FuncNo.{FuncNo}
use Rattle.ms_ir.specs.Module.{ModuleState}
use Rattle.ms_read.specs.Rows.{rows_of}
use Rattle.ms_script.specs.Lines.{SaysEdit, IsSmall}
use Rattle.ms_script.specs.Script.{Say, IsRead, step_of, steps_from, IsFirstBad, SaysNothing, IsTooMuch, IsScriptCause}
use Rattle.ms_script.specs.Next.{IsTaken, FailsSo, FailsPush}
use Rattle.ms_script.specs.declared.edit.RawEdit.{RawEdit}
use Rattle.ms_script.specs.declared.edit.Step.{Step}
use Rattle.ms_script.specs.declared.fault.ScriptFault.{ScriptFault}
use Rattle.ms_script.specs.declared.fault.ScriptFault.TheVariants.{ScriptText, ScriptLimit, Memory}

say_more : (m : ModuleState) (rows : List (List ℕ)) (lines : List (Option (FuncNo × RawEdit))) (row : List ℕ) (one : Option (FuncNo × RawEdit)) → Say m rows lines
    → SaysEdit m row one → IsSmall one → Say m (rows ++ row ∷ []) (lines ++ one ∷ [])
say_more m [] [] row one h says small = (says, small, tt)
say_more m [] (l ∷ lines) row one h says small = absurd h
say_more m (r ∷ rows) [] row one h says small = absurd h
say_more m (r ∷ rows) (l ∷ lines) row one h says small = (h.0, h.1, say_more m rows lines row one h.2 says small)

pub read_more : (m : ModuleState) (rows : List (List ℕ)) (lines : List (Option (FuncNo × RawEdit))) (row : List ℕ) (one : Option (FuncNo × RawEdit)) → IsRead m rows lines
    → SaysEdit m row one → IsSmall one → length lines + 1 ≤ 4096 → IsRead m (rows ++ row ∷ []) (lines ++ one ∷ [])
read_more m rows lines row one h says small few = record {
  say = say_more m rows lines row one h.say says small;
  few = (let more : length (lines ++ one ∷ []) ≡ length lines + 1 = simp length-append in omega (arith, few, more));
}

-- the step of one line more stands behind the others
steps_more : (n : ℕ) (lines : List (Option (FuncNo × RawEdit))) (one : Option (FuncNo × RawEdit))
    → steps_from n (lines ++ one ∷ []) ≡ steps_from n lines ++ step_of (n + length lines) one
steps_more n [] one = let same : n + 0 ≡ n = omega arith in append-nil (step_of n one) ∙ ap (λ k. step_of k one) (sym same)
steps_more n (l ∷ lines) one =
    let same : n + 1 + length lines ≡ n + length (l ∷ lines) = omega arith in
    ap (λ (xs : List Step). step_of n l ++ xs) (steps_more (n + 1) lines one)
    ∙ sym (append_assoc (step_of n l) (steps_from (n + 1) lines) (step_of (n + 1 + length lines) one))
    ∙ ap (λ k. (step_of n l ++ steps_from (n + 1) lines) ++ step_of k one) same

pub steps_so : (new old : List Step) (lines : List (Option (FuncNo × RawEdit))) (one : Option (FuncNo × RawEdit)) (read : ℕ) → old ≡ steps_from 1 lines → read ≡ length lines
    → new ≡ old ++ step_of (read + 1) one → new ≡ steps_from 1 (lines ++ one ∷ [])
steps_so new old lines one read old_is read_is new_is =
    let number : read + 1 ≡ 1 + length lines = omega (arith, read_is) in
    new_is ∙ ap (λ (xs : List Step). xs ++ step_of (read + 1) one) old_is
    ∙ ap (λ k. steps_from 1 lines ++ step_of k one) number ∙ sym (steps_more 1 lines one)

-- what is pushed is taken, and what is not fails
pub taken_by : {E : Type 0} (m : ModuleState) (number : ℕ) (row : List ℕ) (old new : List Step) (one : Option (FuncNo × RawEdit)) (result : Result (Unit {0}) E)
    → SaysEdit m row one × IsSmall one → OnOk result ((number ≤ 4096) × (new ≡ old ++ step_of number one)) → OnOk result (IsTaken m number row old new)
taken_by m number row old new one (Ok _) says h = record { one = one; says = says.0; small = says.1; few = h.0; script_is = h.1 }
taken_by m number row old new one (Err _) says h = tt

pub fails_by : (m : ModuleState) (number : ℕ) (row : List ℕ) (one : Option (FuncNo × RawEdit)) (fault : ScriptFault) → SaysEdit m row one → FailsPush number fault → FailsSo m number row fault
fails_by m number row one (ScriptText n) says h = absurd h
fails_by m number row one (ScriptLimit n) says h = (h.0, record { one = one; says = says; past = λ small few. omega (arith, h.1, few) })
fails_by m number row one Memory says h = tt

pub push_fails : {X : Type 0} (m : ModuleState) (number : ℕ) (row : List ℕ) (one : Option (FuncNo × RawEdit)) (result : Result X ScriptFault) → SaysEdit m row one
    → IfErr result (FailsPush number) → IfErr result (FailsSo m number row)
push_fails m number row one (Ok _) says h = tt
push_fails m number row one (Err fault) says h = fails_by m number row one fault says h

pub too_much : (m : ModuleState) (number : ℕ) (row : List ℕ) → (h : (one : Option (FuncNo × RawEdit)) × SaysEdit m row one × (IsSmall one → ⊥)) → IsTooMuch m number row
too_much m number row h = record { one = h.0; says = h.1; past = λ small few. h.2 small }

-- the cause is that of the first row that fails
pub cause_of : (bytes : List ℕ) (m : ModuleState) (before : List (List ℕ)) (row : List ℕ) (rest : List (List ℕ)) (lines : List (Option (FuncNo × RawEdit))) (number : ℕ) (fault : ScriptFault)
    → rows_of bytes ≡ before ++ row ∷ rest → IsRead m before lines → number ≡ length lines + 1 → FailsSo m number row fault → IsScriptCause bytes m fault
cause_of bytes m before row rest lines number (ScriptText n) rows read is h =
    record { before = before; row = row; rest = rest; lines = lines; rows_are = rows; read = read; number_is = h.0 ∙ is; fails = h.1 }
cause_of bytes m before row rest lines number (ScriptLimit n) rows read is h =
    record { before = before; row = row; rest = rest; lines = lines; rows_are = rows; read = read; number_is = h.0 ∙ is; fails = subst (λ k. IsTooMuch m k row) (sym h.0) h.1 }
cause_of bytes m before row rest lines number Memory rows read is h = tt
