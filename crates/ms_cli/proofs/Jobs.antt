-- A run has one job at most, and what follows from it. The laws of outputs are premises here.
use Rattle.std.proofs.Common.{◌≡◌, ◌<◌, ◌≤◌, ◌^◌, ℕ, Bool, true, List, [], ◌++◌, length, ◌⊎◌, inl, inr, Option, Some, None, IsSome, IfSome, if◌then◌else◌, refl, ap, sym, ◌∙◌, subst, arith}
use Rattle.std.specs.Option.{option_map}
use Rattle.ms_io.specs.Faults.{Rose}
use Rattle.ms_ir.specs.Module.{ModuleState}
use Rattle.ms_grammar.specs.declared.line.Line.{Line}
use Rattle.ms_print.specs.Text.{module_text}
use Rattle.ms_read.specs.Draft.{IsDraft}
use Rattle.ms_validity.specs.Cause.{IsAccepted}
use Rattle.ms_again.specs.Again.{IsReadAgain}
use Rattle.ms_output.specs.Output.{limit, IsOutput, IsRefusal}
use Rattle.ms_output.specs.declared.refusal.Refusal.{Refusal}
use Rattle.ms_output.specs.declared.wanted.Wanted.{Wanted}
use Rattle.ms_cli.specs.Words.{Asked, asked_of, shows_in, asks_module}
use Rattle.ms_cli.specs.Job.{Job, BadWords, Refuses, Writes, IsLoaded, IsWritten, IsTooLong, IsRefused, IsJob, IsTold, EndsInModule, status_of}
use Rattle.ms_cli.specs.Run.{FilesSeen, SinkSeen, IsFailed, HasRun}
use Rattle.ms_cli.specs.declared.status.Status.{Status}
use Rattle.ms_cli.specs.declared.status.Status.TheVariants.{Done, Refused, Usage, ReadFault, WriteFault, Memory}

-- bytes have one output at most, or one refusal at most, and never both
pub record IsOneOutput : Type 0 where
  pub text : (wanted : Wanted) (bytes t u : List ℕ) → IsOutput wanted bytes t → IsOutput wanted bytes u → t ≡ u
  pub refusal : (bytes : List ℕ) (r s : Refusal) → IsRefusal bytes r → IsRefusal bytes s → r ≡ s
  pub apart : (wanted : Wanted) (bytes t : List ℕ) (r : Refusal) → IsOutput wanted bytes t → IsRefusal bytes r → ⊥

some_same : (a b : Asked) → Some a ≡ Some b → a ≡ b
some_same a b e = cc

all_same : (o : Option (List ℕ)) (x y : List ℕ) → IsSome o → IfSome o (λ all. x ≡ all) → IfSome o (λ all. y ≡ all) → x ≡ y
all_same None x y s p q = cc
all_same (Some all) x y s p q = p ∙ sym q

asked_same : {holds : List ℕ → Option (List ℕ)} {words : List (List ℕ)} {a b : Asked} {x y : List ℕ} → IsLoaded holds words a x → IsLoaded holds words b y → a ≡ b
asked_same {a = a} {b = b} p q = some_same a b (sym p.asked_is ∙ q.asked_is)

bytes_same : {holds : List ℕ → Option (List ℕ)} {words : List (List ℕ)} {a b : Asked} {x y : List ℕ} → IsTold holds words → IsLoaded holds words a x → IsLoaded holds words b y → x ≡ y
bytes_same {holds} {words} {a} {b} {x} {y} told p q =
    let P : Asked → Type 0 = λ k. IfSome (holds k.file) (λ all. y ≡ all) in
    all_same (holds a.file) x y (told a p.asked_is) p.held (subst P (sym (asked_same p q)) q.held)

short_and_long : (o : Option (List ℕ)) (x : List ℕ) → IsSome o → IfSome o (λ all. x ≡ all) → length x ≤ limit → IfSome o (λ all. limit < length all) → ⊥
short_and_long None x s p h k = cc
short_and_long (Some all) x s p h k = omega (arith, h, k, ap length p)

not_long : {holds : List ℕ → Option (List ℕ)} {words : List (List ℕ)} {a : Asked} {x : List ℕ} {r : Refusal} → IsTold holds words → IsLoaded holds words a x → IsTooLong holds words r → ⊥
not_long {holds} {words} {a} {x} told l t =
    let P : Asked → Type 0 = λ k. IfSome (holds k.file) (λ all. limit < length all) in
    let e : t.asked ≡ a = some_same t.asked a (sym t.asked_is ∙ l.asked_is) in
    short_and_long (holds a.file) x (told a l.asked_is) l.held l.short (subst P e t.long)

refused_same : IsOneOutput → {holds : List ℕ → Option (List ℕ)} {words : List (List ℕ)} {r s : Refusal} → IsTold holds words → IsRefused holds words r → IsRefused holds words s → r ≡ s
refused_same one told (inl a) (inl b) = a.refusal_is ∙ sym b.refusal_is
refused_same one told (inl a) (inr b) = absurd (not_long told b.loaded a)
refused_same one told (inr a) (inl b) = absurd (not_long told a.loaded b)
refused_same one {r = r} {s = s} told (inr a) (inr b) =
    one.refusal a.bytes r s a.refusal (subst (λ (k : List ℕ). IsRefusal k s) (bytes_same told b.loaded a.loaded) b.refusal)

refused_asks : {holds : List ℕ → Option (List ℕ)} {words : List (List ℕ)} {r : Refusal} → IsRefused holds words r → (asked : Asked) × (asked_of words ≡ Some asked)
refused_asks (inl a) = (a.asked, a.asked_is)
refused_asks (inr b) = (b.asked, b.loaded.asked_is)

not_both : IsOneOutput → {holds : List ℕ → Option (List ℕ)} {words : List (List ℕ)} {r : Refusal} {text : List ℕ} → IsTold holds words → IsRefused holds words r → IsWritten holds words text → ⊥
not_both one told (inl a) w = not_long told w.loaded a
not_both one {r = r} {text = text} told (inr b) w =
    one.apart w.asked.wanted w.bytes text r w.output (subst (λ (k : List ℕ). IsRefusal k r) (bytes_same told b.loaded w.loaded) b.refusal)

text_same : IsOneOutput → {holds : List ℕ → Option (List ℕ)} {words : List (List ℕ)} {x y : List ℕ} → IsTold holds words → IsWritten holds words x → IsWritten holds words y → x ≡ y
text_same one {x = x} {y = y} told w v =
    let asked = asked_same v.loaded w.loaded in
    let bytes = bytes_same told v.loaded w.loaded in
    one.text w.asked.wanted w.bytes x y w.output
    (subst (λ (k : List ℕ). IsOutput w.asked.wanted k y) bytes (subst (λ (k : Asked). IsOutput k.wanted v.bytes y) asked v.output))

none_and_some : (words : List (List ℕ)) (asked : Asked) → asked_of words ≡ None → asked_of words ≡ Some asked → ⊥
none_and_some words asked p q = let e : None ≡ Some asked = sym p ∙ q in absurd (cc)

abbrev refuses : Refusal → Job
refuses r = Refuses r.number r.place

-- where the files tell, a run has one job at most
abbrev pub IsDecided : Type 0
IsDecided = (holds : List ℕ → Option (List ℕ)) (words : List (List ℕ)) (a b : Job) → IsTold holds words → IsJob holds words a → IsJob holds words b → a ≡ b

pub one_job_by : IsOneOutput → IsDecided
one_job_by one holds words BadWords BadWords told p q = refl
one_job_by one holds words BadWords (Refuses m n) told p q = let e = refused_asks q in absurd (none_and_some words e.0 p e.1)
one_job_by one holds words BadWords (Writes x) told p q = absurd (none_and_some words q.asked p q.loaded.asked_is)
one_job_by one holds words (Refuses m n) BadWords told p q = let e = refused_asks p in absurd (none_and_some words e.0 q e.1)
one_job_by one holds words (Refuses m n) (Refuses k l) told p q = ap refuses (refused_same one told p q)
one_job_by one holds words (Refuses m n) (Writes x) told p q = absurd (not_both one told p q)
one_job_by one holds words (Writes x) BadWords told p q = absurd (none_and_some words p.asked q p.loaded.asked_is)
one_job_by one holds words (Writes x) (Refuses m n) told p q = absurd (not_both one told q p)
one_job_by one holds words (Writes x) (Writes y) told p q = ap Writes (text_same one told p q)

failed : (seen : FilesSeen) (o : Option Asked) → IfSome o (λ asked. IsFailed seen asked.file) → IsSome o → Rose seen.faults_before seen.faults_after
failed seen None f s = absurd (cc)
failed seen (Some asked) f s = f.risen

-- a run in which no count rose did the job, or found no memory
pub complete_by : IsDecided → (seen : FilesSeen) (out : SinkSeen) (words : List (List ℕ)) (status : Status) (job : Job) → HasRun seen out words status → IsTold seen.holds words → IsJob seen.holds words job
    → (Rose seen.faults_before seen.faults_after → ⊥) → (Rose out.faults_before out.faults_after → ⊥) → (status ≡ status_of job) ⊎ (status ≡ Memory)
complete_by one seen out words Done job r told j read written = inl (ap status_of (one seen.holds words (Writes r.text) job told r.job j))
complete_by one seen out words (Refused n) job r told j read written = inl (ap status_of (one seen.holds words (Refuses n.number n.place) job told r.undone.0 j))
complete_by one seen out words Usage job r told j read written = inl (ap status_of (one seen.holds words BadWords job told r.undone.0 j))
complete_by one seen out words ReadFault job r told j read written = absurd (read (failed seen (asked_of words) r.undone.0 r.undone.1))
complete_by one seen out words WriteFault job r told j read written = absurd (written r.taken.risen)
complete_by one seen out words Memory job r told j read written = inr refl

-- an accepted module that is printed is read again
abbrev pub IsReading : Type 0
IsReading = (bytes : List ℕ) (draft : List (ℕ × Line)) (m : ModuleState) → IsDraft bytes draft → IsAccepted draft m → length (module_text m) < 10 ^ 9 → IsReadAgain m

-- what is written where the module is asked for
ends_in_module : IsReading → {holds : List ℕ → Option (List ℕ)} {words : List (List ℕ)} {text : List ℕ} → IsWritten holds words text → asks_module words ≡ true → EndsInModule holds words text
ends_in_module reading {words = words} w asks =
    let o = w.output in
    let shown : w.asked.wanted.shows_module ≡ true = ap shows_in (sym w.loaded.asked_is) ∙ asks in
    record {
      asked = w.asked;
      bytes = w.bytes;
      draft = o.draft;
      m = o.m;
      forms = o.written.forms;
      loaded = w.loaded;
      read = o.read;
      accepted = o.accepted;
      formed = o.written.formed;
      text_is = o.written.text_is ∙ ap (λ (b : Bool). o.written.forms ++ (if b then module_text o.m else [])) shown;
      again = reading w.bytes o.draft o.m o.read o.accepted;
    }

-- a run that is done wrote it
pub module_by : IsReading → (seen : FilesSeen) (out : SinkSeen) (words : List (List ℕ)) (status : Status) → HasRun seen out words status → status ≡ Done → asks_module words ≡ true
    → (text : List ℕ) × EndsInModule seen.holds words text × (out.written_after ≡ option_map (λ before. before ++ text) out.written_before)
module_by reading seen out words Done r done asks = (r.text, ends_in_module reading r.job asks, r.taken.written)
module_by reading seen out words (Refused n) r done asks = absurd (cc)
module_by reading seen out words Usage r done asks = absurd (cc)
module_by reading seen out words ReadFault r done asks = absurd (cc)
module_by reading seen out words WriteFault r done asks = absurd (cc)
module_by reading seen out words Memory r done asks = absurd (cc)
