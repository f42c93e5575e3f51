-- The words that begin the lines of a script. Proofs see each as a whole.
use Rattle.std.specs.Prelude.{ℕ, List, codes}
use Rattle.ms_script.specs.declared.verb.Verb.{Verb}
use Rattle.ms_script.specs.declared.verb.Verb.TheVariants.{Insert, Remove, Move, Unlink}

unfoldable pub verb_text : Verb → List ℕ
verb_text Insert = codes "insert"
verb_text Remove = codes "remove"
verb_text Move = codes "move"
verb_text Unlink = codes "unlink"
