-- What a sink has taken of bytes that were to be written.
use Rattle.std.specs.Prelude.{◌≡◌, ◌≤◌, ℕ, List, [], ◌++◌, Option, Result, Ok, Err}
use Rattle.std.specs.Option.{option_map}
use Rattle.ms_io.specs.Faults.{Rose}
use Rattle.ms_io.specs.declared.faults.SinkFault.{SinkFault}

-- A sink has taken a part of these bytes from their front: all of them, where its count of faults did not rise. The
-- count never falls, and it is as before where all was taken.
pub record TakesFront (bytes : List ℕ) (before after : Option (List ℕ)) (faults_before faults_after : ℕ) : Type 0 where
  pub front : List ℕ
  pub rest : List ℕ
  pub bytes_are : bytes ≡ front ++ rest
  pub written : after ≡ option_map (λ told. told ++ front) before
  pub whole : (Rose faults_before faults_after → ⊥) → rest ≡ []
  pub kept : rest ≡ [] → faults_after ≡ faults_before
  pub later : faults_before ≤ faults_after

-- all of these bytes were taken
pub record IsWhole (bytes : List ℕ) (before after : Option (List ℕ)) (faults_before faults_after : ℕ) : Type 0 where
  pub written : after ≡ option_map (λ told. told ++ bytes) before
  pub kept : faults_after ≡ faults_before

-- a fault came, and a part of these bytes was taken before it
pub record IsCut (bytes : List ℕ) (before after : Option (List ℕ)) (faults_before faults_after : ℕ) : Type 0 where
  pub taken : TakesFront bytes before after faults_before faults_after
  pub risen : Rose faults_before faults_after

-- what was taken, by the answer
abbrev pub TakesAll : List ℕ → Option (List ℕ) → Option (List ℕ) → ℕ → ℕ → Result (Unit {0}) SinkFault → Type 0
TakesAll bytes before after faults_before faults_after (Ok _) = IsWhole bytes before after faults_before faults_after
TakesAll bytes before after faults_before faults_after (Err _) = IsCut bytes before after faults_before faults_after
