-- What a run has to do: it is decided by the words, and by what the files hold.
use Rattle.std.specs.Prelude.{◌≡◌, ◌<◌, ◌≤◌, ◌^◌, ℕ, ◌⊎◌, List, ◌++◌, length, Option, Some, None, IfSome, IsSome}
use Rattle.ms_ir.specs.Module.{ModuleState}
use Rattle.ms_grammar.specs.declared.line.Line.{Line}
use Rattle.ms_print.specs.Text.{module_text}
use Rattle.ms_read.specs.Draft.{IsDraft}
use Rattle.ms_validity.specs.Cause.{IsAccepted}
use Rattle.ms_validity.specs.Faults.{bodies_there}
use Rattle.ms_again.specs.Again.{IsReadAgain}
use Rattle.ms_output.specs.Forms.{AreForms}
use Rattle.ms_output.specs.Output.{limit, IsOutput, IsRefusal, IsFuncIn}
use Rattle.ms_output.specs.declared.refusal.Refusal.{Refusal}
use Rattle.ms_cli.specs.Words.{Asked, asked_of}
use Rattle.ms_cli.specs.declared.status.Status.{Status}
use Rattle.ms_cli.specs.declared.status.Status.TheVariants.{Done, Refused, Usage}

-- to say that the words are not of the command, to refuse the file with a number and a place, or to write a text
pub data Job : Type 0 where
  BadWords : Job
  Refuses : (number place : ℕ) → Job
  Writes : (text : List ℕ) → Job

-- these are the bytes of a file, where the files tell them
abbrev pub AreHeld : (List ℕ → Option (List ℕ)) → List ℕ → List ℕ → Type 0
AreHeld holds name bytes = IfSome (holds name) (λ all. bytes ≡ all)

-- the words ask for this, and the file that they name is not too long and holds these bytes
pub record IsLoaded (holds : List ℕ → Option (List ℕ)) (words : List (List ℕ)) (asked : Asked) (bytes : List ℕ) : Type 0 where
  pub asked_is : asked_of words ≡ Some asked
  pub held : AreHeld holds asked.file bytes
  pub short : length bytes ≤ limit

-- this is what is written
pub record IsWritten (holds : List ℕ → Option (List ℕ)) (words : List (List ℕ)) (text : List ℕ) : Type 0 where
  pub asked : Asked
  pub bytes : List ℕ
  pub loaded : IsLoaded holds words asked bytes
  pub output : IsOutput asked.wanted bytes text

-- What is written ends in the text of the module that the file's bytes are accepted as; before it stand the printed forms. Where that text is shorter than
-- 10^9 bytes, so that each number in it has nine digits at most, it is read and accepted as the same module, and as no other, and printed as the same text.
pub record EndsInModule (holds : List ℕ → Option (List ℕ)) (words : List (List ℕ)) (text : List ℕ) : Type 0 where
  pub asked : Asked
  pub bytes : List ℕ
  pub draft : List (ℕ × Line)
  pub m : ModuleState
  pub forms : List ℕ
  pub loaded : IsLoaded holds words asked bytes
  pub read : IsDraft bytes draft
  pub accepted : IsAccepted draft m
  pub formed : AreForms m.names asked.wanted.prints (bodies_there m) forms
  pub text_is : text ≡ forms ++ module_text m
  pub again : length (module_text m) < 10 ^ 9 → IsReadAgain m

-- the file that the words name is too long
pub record IsTooLong (holds : List ℕ → Option (List ℕ)) (words : List (List ℕ)) (r : Refusal) : Type 0 where
  pub asked : Asked
  pub asked_is : asked_of words ≡ Some asked
  pub long : IfSome (holds asked.file) (λ all. limit < length all)
  pub refusal_is : r ≡ record { number = 10; place = 0 }

-- the file that the words name is not too long, and its bytes are refused so
pub record IsBadFile (holds : List ℕ → Option (List ℕ)) (words : List (List ℕ)) (r : Refusal) : Type 0 where
  pub asked : Asked
  pub bytes : List ℕ
  pub loaded : IsLoaded holds words asked bytes
  pub refusal : IsRefusal bytes r

-- the file that the words name is refused so
abbrev pub IsRefused : (List ℕ → Option (List ℕ)) → List (List ℕ) → Refusal → Type 0
IsRefused holds words r = IsTooLong holds words r ⊎ IsBadFile holds words r

-- this is what a run with these words has to do
abbrev pub IsJob : (List ℕ → Option (List ℕ)) → List (List ℕ) → Job → Type 0
IsJob holds words BadWords = asked_of words ≡ None
IsJob holds words (Refuses number place) = IsRefused holds words (record { number = number; place = place })
IsJob holds words (Writes text) = IsWritten holds words text

-- this is the name of the function with a number in the module of the file that the words name
pub record IsFuncOf (holds : List ℕ → Option (List ℕ)) (words : List (List ℕ)) (number : ℕ) (name : List ℕ) : Type 0 where
  pub asked : Asked
  pub bytes : List ℕ
  pub loaded : IsLoaded holds words asked bytes
  pub func : IsFuncIn bytes number name

-- where a function is refused, this is its name
abbrev pub IsTheFunc : (List ℕ → Option (List ℕ)) → List (List ℕ) → Status → List ℕ → Type 0
IsTheFunc holds words (Refused r) name = r.number ≡ 7 → IsFuncOf holds words r.place name
IsTheFunc holds words _ name = Unit {0}

-- the files tell what the file that the words name holds
abbrev pub IsTold : (List ℕ → Option (List ℕ)) → List (List ℕ) → Type 0
IsTold holds words = (asked : Asked) → asked_of words ≡ Some asked → IsSome (holds asked.file)

-- the status of a job that was done
abbrev pub status_of : Job → Status
status_of BadWords = Usage
status_of (Refuses number place) = Refused (record { number = number; place = place })
status_of (Writes text) = Done
