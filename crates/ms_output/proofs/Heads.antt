-- The functions that the lines of a draft name are those of its module.
use Rattle.std.proofs.Common.{◌≡◌, ℕ, zero, suc, true, false, is_some, List, [], ◌∷◌, ◌++◌, Option, Some, None, refl, sym, ap, ◌∙◌, append_assoc, map, slice_get, slice_index_or}
use Rattle.std.specs.List.{flat_map}
use Rattle.ms_grammar.specs.Kept.{Each}
use Rattle.ms_grammar.specs.declared.line.Line.{Line}
use Rattle.ms_grammar.specs.declared.line.Line.TheVariants as said
use Rattle.ms_ir.specs.Func.{FuncState}
use Rattle.ms_ir.specs.Module.{ModuleState}
use Rattle.ms_resolve.specs.Shape.{LabelLine, InstLine, BlockLines, FuncLines, ItemLines, plain, body, label_lines, inst_line, block_lines, func_lines, item_lines, IsItem}
use Rattle.ms_resolve.specs.Module.{func_names_in, bodies_in, scope_of}
use Rattle.ms_resolve.specs.Scope.{Scope}
use Rattle.ms_read.specs.Draft.{IsDraft}
use Rattle.ms_validity.specs.Cause.{IsLoopCause}
use Rattle.ms_output.specs.Funcs.{funcs_said}
use Rattle.ms_output.specs.Output.{IsFuncIn}

abbrev Lines : Type 0
Lines = List (ℕ × Line)

insts_say : (xs : List InstLine) (rest : Lines) → funcs_said (map inst_line xs ++ rest) ≡ funcs_said rest
insts_say [] rest = refl
insts_say (x ∷ xs) rest = insts_say xs rest

block_says : (b : BlockLines) (rest : Lines) → funcs_said (block_lines b ++ rest) ≡ funcs_said rest
block_says b rest = by_label b.label
  where
    behind : funcs_said ((map inst_line b.insts ++ (b.end.line, said.Term b.end.term) ∷ []) ++ rest) ≡ funcs_said rest
    behind = ap funcs_said (append_assoc (map inst_line b.insts) ((b.end.line, said.Term b.end.term) ∷ []) rest) ∙ insts_say b.insts ((b.end.line, said.Term b.end.term) ∷ rest)

    by_label : (l : Option LabelLine) → funcs_said ((label_lines l ++ map inst_line b.insts ++ (b.end.line, said.Term b.end.term) ∷ []) ++ rest) ≡ funcs_said rest
    by_label None = behind
    by_label (Some l) = behind

blocks_say : (bs : List BlockLines) (rest : Lines) → funcs_said (flat_map block_lines bs ++ rest) ≡ funcs_said rest
blocks_say [] rest = refl
blocks_say (b ∷ bs) rest = ap funcs_said (append_assoc (block_lines b) (flat_map block_lines bs) rest) ∙ block_says b (flat_map block_lines bs ++ rest) ∙ blocks_say bs rest

func_says : (f : FuncLines) (rest : Lines) → funcs_said (func_lines f ++ rest) ≡ f.head.name ∷ funcs_said rest
func_says f rest =
    let close = (f.close, said.Close) ∷ [] in
    ap (λ k. f.head.name ∷ k) (ap funcs_said (append_assoc (flat_map block_lines f.blocks) close rest) ∙ blocks_say f.blocks ((f.close, said.Close) ∷ rest))

funcs_are : (items : List ItemLines) → Each IsItem items → funcs_said (flat_map item_lines items) ≡ flat_map func_names_in items
funcs_are [] each = refl
funcs_are (body f ∷ items) each = func_says f (flat_map item_lines items) ∙ ap (λ k. f.head.name ∷ k) (funcs_are items each.1)
funcs_are (plain n (said.Declare head) ∷ items) each = ap (λ k. head.name ∷ k) (funcs_are items each.1)
funcs_are (plain n (said.Kept _) ∷ items) each = funcs_are items each.1
funcs_are (plain n (said.Group _ _) ∷ items) each = funcs_are items each.1
funcs_are (plain n (said.GlobalVar _ _) ∷ items) each = funcs_are items each.1
funcs_are (plain n said.Empty ∷ items) each = let k : false ≡ true = each.0 in absurd (cc)
funcs_are (plain n said.Close ∷ items) each = let k : false ≡ true = each.0 in absurd (cc)
funcs_are (plain n (said.Label _) ∷ items) each = let k : false ≡ true = each.0 in absurd (cc)
funcs_are (plain n (said.Define _) ∷ items) each = let k : false ≡ true = each.0 in absurd (cc)
funcs_are (plain n (said.Inst _ _) ∷ items) each = let k : false ≡ true = each.0 in absurd (cc)
funcs_are (plain n (said.Term _) ∷ items) each = let k : false ≡ true = each.0 in absurd (cc)

abbrev HasName : List ItemLines → ℕ → Type 0
HasName items n = (name : List ℕ) × (slice_get (flat_map func_names_in items) n ≡ Some name)

-- each function with a body has a name
body_named : (scope : FuncLines → Scope) (spare : List ℕ → ℕ) (items : List ItemLines) (n : ℕ) (f : Option FuncState)
    → slice_get (flat_map (bodies_in scope spare) items) n ≡ Some f → HasName items n
body_named scope spare [] n f e = let k : false ≡ true = ap is_some e in absurd (cc)
body_named scope spare (body lines ∷ items) zero f e = (lines.head.name, refl)
body_named scope spare (body lines ∷ items) (suc n) f e = body_named scope spare items n f e
body_named scope spare (plain k (said.Declare head) ∷ items) zero f e = (head.name, refl)
body_named scope spare (plain k (said.Declare head) ∷ items) (suc n) f e = body_named scope spare items n f e
body_named scope spare (plain k said.Empty ∷ items) n f e = body_named scope spare items n f e
body_named scope spare (plain k said.Close ∷ items) n f e = body_named scope spare items n f e
body_named scope spare (plain k (said.Kept _) ∷ items) n f e = body_named scope spare items n f e
body_named scope spare (plain k (said.Group _ _) ∷ items) n f e = body_named scope spare items n f e
body_named scope spare (plain k (said.GlobalVar _ _) ∷ items) n f e = body_named scope spare items n f e
body_named scope spare (plain k (said.Label _) ∷ items) n f e = body_named scope spare items n f e
body_named scope spare (plain k (said.Define _) ∷ items) n f e = body_named scope spare items n f e
body_named scope spare (plain k (said.Inst _ _) ∷ items) n f e = body_named scope spare items n f e
body_named scope spare (plain k (said.Term _) ∷ items) n f e = body_named scope spare items n f e

found_is : (xs : List (List ℕ)) (n : ℕ) (x : List ℕ) → slice_get xs n ≡ Some x → slice_index_or xs n [] ≡ x
found_is [] n x e = let k : false ≡ true = ap is_some e in absurd (cc)
found_is (y ∷ xs) zero x e = inner y x e
  where
    inner : (a b : List ℕ) → Some a ≡ Some b → a ≡ b
    inner a b e = cc
found_is (y ∷ xs) (suc n) x e = found_is xs n x e

abbrev funcs_of_module : ModuleState → List (List ℕ)
funcs_of_module m = m.names.funcs

abbrev bodies_of_module : ModuleState → List (Option FuncState)
bodies_of_module m = m.bodies

-- the name that the lines give is that of the refused function
pub loop_func : (bytes : List ℕ) (draft : List (ℕ × Line)) (n : ℕ) (name : List ℕ) → IsDraft bytes draft → IsLoopCause draft n → name ≡ slice_index_or (funcs_said draft) n [] → IsFuncIn bytes n name
loop_func bytes draft n name read cause name_is =
    let items = cause.items in
    let whole = cause.named.whole in
    let body = cause.irreducible.has in
    let there = body_named (scope_of whole.meaning.effects whole.meaning.keeps items) whole.spare items n (Some body.f)
    (ap (λ k. slice_get (bodies_of_module k) n) (sym whole.module_is) ∙ body.body) in
    let said_are : funcs_said draft ≡ flat_map func_names_in items = ap funcs_said cause.named.shape.lines ∙ funcs_are items cause.named.shape.each in
    let same : name ≡ there.0 = name_is ∙ ap (λ k. slice_index_or k n []) said_are ∙ found_is (flat_map func_names_in items) n there.0 there.1 in
    record {
      draft = draft;
      items = items;
      m = cause.m;
      read = read;
      named = cause.named;
      name_is = ap (λ k. slice_get (funcs_of_module k) n) whole.module_is ∙ there.1 ∙ ap Some (sym same);
    }
