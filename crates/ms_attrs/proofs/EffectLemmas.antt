-- What several things give together.
use Rattle.std.proofs.Common.{◌≡◌, ◌==◌, ℕ, Bool, true, false, ◌&&◌, List, [], ◌∷◌, ◌++◌, refl, sym, ap, ◌∙◌}
use Rattle.std.proofs.lemmas.Bool.{eqb-true, false_from_ne_true}
use Rattle.ms_ir.specs.declared.inst.Effects.{Effects}
use Rattle.ms_attrs.specs.Memory.{everything}
use Rattle.ms_attrs.specs.declared.part.Part.{Part}
use Rattle.ms_attrs.specs.Parts.{part_of}
use Rattle.ms_attrs.specs.Outer.{depth_behind, argument, outer}
use Rattle.ms_attrs.specs.Effects.{both, given_by, all_given, groups_given, group_given, name_in, named}

and_assoc : (a b c : Bool) → ((a && b) && c) ≡ (a && (b && c))
and_assoc true b c = refl
and_assoc false b c = refl

and_true : (a : Bool) → (a && true) ≡ a
and_true true = refl
and_true false = refl

pub both_assoc : (a b c : Effects) → both (both a b) c ≡ both a (both b c)
both_assoc a b c =
    cc (and_assoc a.arg_read b.arg_read c.arg_read, and_assoc a.arg_write b.arg_write c.arg_write, and_assoc a.other_read b.other_read c.other_read, and_assoc a.other_write b.other_write c.other_write, and_assoc a.hidden_read b.hidden_read c.hidden_read, and_assoc a.hidden_write b.hidden_write c.hidden_write)

pub everything_both : (a : Effects) → both everything a ≡ a
everything_both a = refl

pub both_everything : (a : Effects) → both a everything ≡ a
both_everything a =
    rw (and_true a.arg_read, and_true a.arg_write, and_true a.other_read, and_true a.other_write, and_true a.hidden_read, and_true a.hidden_write) refl

-- the groups of two lists
pub groups_given_append : (cut : List ℕ → List (List ℕ)) (groups : List (ℕ × List ℕ)) (xs ys : List (List ℕ)) → groups_given cut groups (xs ++ ys) ≡ both (groups_given cut groups xs) (groups_given cut groups ys)
groups_given_append cut groups [] ys = sym (everything_both (groups_given cut groups ys))
groups_given_append cut groups (x ∷ xs) ys =
    ap (both (group_given cut groups x)) (groups_given_append cut groups xs ys) ∙ sym (both_assoc (group_given cut groups x) (groups_given cut groups xs) (groups_given cut groups ys))

-- the first part gives its flags
pub given_here : (e next : Effects) (depth : ℕ) (p : Part) (ps behind : List Part) → depth ≡ 0 → behind ≡ ps → next ≡ given_by p (argument behind) → both (both e next) (all_given (outer (depth_behind depth p) ps)) ≡ both e (all_given (outer depth (p ∷ ps)))
given_here e next depth p ps behind none same is =
    rw (is, same, none) (both_assoc e (given_by p (argument ps)) (all_given (outer (depth_behind 0 p) ps)))

-- in brackets it gives none
pub given_inside : (e : Effects) (depth : ℕ) (p : Part) (ps : List Part) → (depth ≡ 0 → ⊥) → both e (all_given (outer (depth_behind depth p) ps)) ≡ both e (all_given (outer depth (p ∷ ps)))
given_inside e depth p ps some = let no : (depth == 0) ≡ false = false_from_ne_true (depth == 0) (λ t. some (eqb-true depth 0 t)) in rw no refl

-- a name outside all brackets gives what its group gives
pub named_here : (cut : List ℕ → List (List ℕ)) (groups : List (ℕ × List ℕ)) (e next : Effects) (depth : ℕ) (t : List ℕ) (ts : List (List ℕ)) → depth ≡ 0 → next ≡ groups_given cut groups (name_in t)
    → both (both e next) (groups_given cut groups (named (depth_behind depth (part_of t)) ts)) ≡ both e (groups_given cut groups (named depth (t ∷ ts)))
named_here cut groups e next depth t ts none is =
    let behind = named (depth_behind 0 (part_of t)) ts in
    rw (is, none) (both_assoc e (groups_given cut groups (name_in t)) (groups_given cut groups behind) ∙ ap (both e) (sym (groups_given_append cut groups (name_in t) behind)))

-- in brackets it gives nothing
pub named_inside : (depth : ℕ) (t : List ℕ) (ts : List (List ℕ)) → (depth ≡ 0 → ⊥) → named (depth_behind depth (part_of t)) ts ≡ named depth (t ∷ ts)
named_inside depth t ts some = let no : (depth == 0) ≡ false = false_from_ne_true (depth == 0) (λ t. some (eqb-true depth 0 t)) in rw no refl
