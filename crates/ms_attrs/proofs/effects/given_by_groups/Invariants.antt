use Rattle.std.proofs.Common.{◌≡◌, ◌≤◌, ℕ, List, drop}
use Rattle.ms_attrs.specs.Texts.{texts_of, CutsLines}
use Rattle.ms_attrs.specs.Effects.{both, groups_given, named}
use Rattle.ms_attrs.proofs.effects.given_by_groups.Given as goal

-- the tokens so far have given these flags
abbrev pub invariant-loop-token : goal.invariant-loop-token
invariant-loop-token l = record {
  few : l.depth ≤ l.token-index;
  so_far : (cut : List ℕ → List (List ℕ)) → CutsLines cut
      → both l.effects (groups_given cut l.groups (named l.depth (texts_of l.line (drop l.token-index l.tokens)))) ≡ groups_given cut l.groups (named 0 (texts_of l.line l.tokens));
}
