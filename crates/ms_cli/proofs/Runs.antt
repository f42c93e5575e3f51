-- What follows for a run from what its parts answered.
use Rattle.std.proofs.Common.{◌≡◌, inl, inr, ℕ, List, Option, Some, IsSome, IfSome, refl, ap, sym, ◌∙◌, subst, arith}
use Rattle.std.specs.Prelude.{Ok, Err}
use Rattle.ms_output.specs.Told.{IsUnwritten}
use Rattle.ms_output.specs.declared.refusal.Refusal.{Refusal}
use Rattle.ms_output.specs.declared.unwritten.Unwritten.{Unwritten}
use Rattle.ms_output.specs.declared.unwritten.Unwritten.TheVariants as unwritten
use Rattle.ms_cli.specs.Words.{Asked, asked_of}
use Rattle.ms_cli.specs.Job.{IsLoaded, IsTheFunc}
use Rattle.ms_cli.specs.Run.{FilesSeen, IsFailed, IsUnloaded, IsUndone, Loads, Computes, ended_by}
use Rattle.ms_cli.specs.declared.ending.Ending.{Ending}
use Rattle.ms_cli.specs.declared.status.Status.{Status}
use Rattle.ms_cli.specs.declared.status.Status.TheVariants as status

-- why there is nothing to write, and the name of a refused function
abbrev Ends : FilesSeen → List (List ℕ) → Status → List ℕ → Type 0
Ends seen words s func = IsUndone seen words s × IsTheFunc seen.holds words s func

asks : (words : List (List ℕ)) (asked : Asked) → asked_of words ≡ Some asked → IsSome (asked_of words)
asks words asked e = subst (λ (o : Option Asked). IsSome o) (sym e) refl

-- there is no output for bytes that were loaded
pub unwritten_by : (seen : FilesSeen) (words : List (List ℕ)) (asked : Asked) (bytes shown : List ℕ) (why : Unwritten) (ending : Ending)
    → asked_of words ≡ Some asked → Loads seen asked.file (Ok bytes) → shown ≡ bytes → ending ≡ ended_by why → IsUnwritten shown why → Computes seen words (Err ending)
unwritten_by seen words asked bytes shown (unwritten.Refused refusal func) ending is loads same e h =
    let u = subst (λ (k : List ℕ). IsUnwritten k (unwritten.Refused refusal func)) same h in
    let loaded : IsLoaded seen.holds words asked bytes = record { asked_is = is; held = loads.0; short = loads.1 } in
    subst (λ (k : Ending). Computes seen words (Err k)) (sym e)
    ((inr (record { asked = asked; bytes = bytes; loaded = loaded; refusal = u.0 }), loads.2), λ seven. record { asked = asked; bytes = bytes; loaded = loaded; func = u.1 seven })
unwritten_by seen words asked bytes shown unwritten.Memory ending is loads same e h =
    subst (λ (k : Ending). Computes seen words (Err k)) (sym e) ((asks words asked is, loads.2), tt)

abbrev number_of : Refusal → ℕ
number_of r = r.number

unloaded_as : (seen : FilesSeen) (words : List (List ℕ)) (asked : Asked) (s : Status) (func : List ℕ) → asked_of words ≡ Some asked → IsUnloaded seen asked.file s → Ends seen words s func
unloaded_as seen words asked (status.Refused r) func e u =
    ((inl (record { asked = asked; asked_is = e; long = u.1; refusal_is = u.0 }), u.2), λ seven. let k : 10 ≡ 7 = sym (ap number_of u.0) ∙ seven in absurd (omega (arith, k)))
unloaded_as seen words asked status.ReadFault func e u = ((subst (λ (o : Option Asked). IfSome o (λ a. IsFailed seen a.file)) (sym e) u, asks words asked e), tt)
unloaded_as seen words asked status.Memory func e u = ((asks words asked e, u), tt)
unloaded_as seen words asked status.Done func e u = absurd u
unloaded_as seen words asked status.Usage func e u = absurd u
unloaded_as seen words asked status.WriteFault func e u = absurd u

-- the file was not loaded
pub unloaded_by : (seen : FilesSeen) (words : List (List ℕ)) (asked : Asked) (s : Status) (ending : Ending) → asked_of words ≡ Some asked → ending.status ≡ s → IsUnloaded seen asked.file s → Computes seen words (Err ending)
unloaded_by seen words asked s ending e is u = subst (λ (k : Status). Ends seen words k ending.func) (sym is) (unloaded_as seen words asked s ending.func e u)
