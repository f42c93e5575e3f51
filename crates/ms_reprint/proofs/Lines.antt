-- The lines of an accepted function, under its printed names: what some line of the grammar says for each instruction, with its names renamed.
use Rattle.std.proofs.Common.{◌≡◌, ◌≤◌, ◌<◌, ◌+◌, ◌^◌, ℕ, suc, Bool, true, false, if◌then◌else◌, List, [], ◌∷◌, ◌++◌, length, map, refl, sym, ap, subst, ◌∙◌, arith}
use Rattle.std.specs.Prelude.{slice_index_or}
use Rattle.std.specs.List.{flat_map}
use Rattle.std.specs.Option.{is_some}
use Rattle.ms_ir.specs.declared.names.Name.{Name}
use Rattle.ms_ir.specs.declared.names.Name.TheVariants.{Absent}
use Rattle.ms_ir.specs.declared.names.Param.{Param}
use Rattle.ms_ir.specs.Func.{Placed, Block, FuncState}
use Rattle.ms_ir.specs.Module.{ModuleState}
use Rattle.ms_grammar.specs.Kept.{Each}
use Rattle.ms_grammar.specs.declared.line.Head.{Head}
use Rattle.ms_resolve.specs.Shape.{InstLine, BlockLines, FuncLines, HasLabel, HasBlocks}
use Rattle.ms_resolve.specs.Made.{Made, makes, param_made, inst_made, block_made, made_in, named_in, locals_of, blocks_of}
use Rattle.ms_resolve.specs.Scope.{Scope, number_of_name}
use Rattle.ms_print.specs.Numbering.{shown_name, free_after, shown_params, free_after_params, free_after_inst, free_after_insts, free_after_block}
use Rattle.ms_valid.specs.Func.{IsSaidTerm}
use Rattle.ms_again.proofs.Renaming.{Renaming, renamed_inst, renamed_term}
use Rattle.ms_again.proofs.Names.{shown, named_by, free_by, locals_in, blocks_in, params_free}
use Rattle.ms_again.proofs.Again.{label_again}
use Rattle.ms_again.proofs.Right.{names_in, shown_next}
use Rattle.ms_reprint.proofs.Joined.{settled}
use Rattle.ms_reprint.proofs.Plain.{IsPlainInst}
use Rattle.ms_again.proofs.AgainNames.{AreAgain, IsAgain, again_join, keys_again, locals_keyed, blocks_keyed, names_keyed, locals_by_key, blocks_by_key, name_by_key, label_named, label_block, params_again, params_next, params_less, makes_again, made_as, one_again, one_next, one_less, label_is_again, free_join}

-- ---- what a function makes

abbrev pub thing_of_inst : Placed → List Made
thing_of_inst x = made_as 0 x.name (is_some x.result)

abbrev pub things_of_block : Block → List Made
things_of_block b = record { line = 0; is_block = true; name = b.name } ∷ flat_map thing_of_inst b.insts

abbrev pub things : FuncState → List Made
things f = map (param_made 0) f.params ++ flat_map things_of_block f.blocks

abbrev pub insts_many : List Block → ℕ
insts_many [] = 0
insts_many (b ∷ bs) = suc (length b.insts) + insts_many bs

-- how many things these are at most
abbrev pub size_of : FuncState → ℕ
size_of f = length f.params + insts_many f.blocks

-- ---- lines

-- the names that numbers get: of locals by their places, and of blocks
pub record Target : Type 0 where
  pub locals : List Name
  pub blocks : List Name
  pub at : ℕ → ℕ

-- a line's names become those of its numbers
abbrev pub ren : Target → Scope → Renaming
ren t s = record {
  local = λ n. slice_index_or t.locals (t.at (number_of_name s.locals n)) Absent;
  block = λ n. slice_index_or t.blocks (number_of_name s.blocks n) Absent;
}

-- some line says the instruction with its numbers summed up, and gives a result where it does
pub record LineOf (m : ModuleState) (x : Placed) : Type 0 where
  pub said : IsPlainInst m (settled x.inst)
  pub makes_is : makes said.line ≡ is_some x.result
  pub unnamed : is_some x.result ≡ false → x.name ≡ Absent

pub record BlockOf (m : ModuleState) (b : Block) : Type 0 where
  pub insts : Each (LineOf m) b.insts
  pub term : IsSaidTerm m b.term

abbrev pub inst_line_of : (m : ModuleState) → Target → ℕ → (x : Placed) → LineOf m x → InstLine
inst_line_of m t next x h = record { line = 0; name = (if is_some x.result then shown_name next x.name else Absent); inst = renamed_inst (ren t h.said.scope) h.said.line }

abbrev pub insts_lines : (m : ModuleState) → Target → ℕ → (xs : List Placed) → Each (LineOf m) xs → List InstLine
insts_lines m t next [] h = []
insts_lines m t next (x ∷ xs) h = inst_line_of m t next x h.0 ∷ insts_lines m t (free_after_inst next x) xs h.1

abbrev pub lines_of_block : (m : ModuleState) → Target → Bool → ℕ → (b : Block) → BlockOf m b → BlockLines
lines_of_block m t first next b h = record {
  label = label_again first 0 next b.name;
  insts = insts_lines m t (free_after next b.name) b.insts h.insts;
  end = record { line = 0; term = renamed_term (ren t h.term.scope) h.term.line };
}

abbrev pub blocks_lines : (m : ModuleState) → Target → Bool → ℕ → (bs : List Block) → Each (BlockOf m) bs → List BlockLines
blocks_lines m t first next [] h = []
blocks_lines m t first next (b ∷ bs) h = lines_of_block m t first next b h.0 ∷ blocks_lines m t false (free_after_block next b) bs h.1

abbrev pub lines_of : (m : ModuleState) → Target → Head → (f : FuncState) → Each (BlockOf m) f.blocks → FuncLines
lines_of m t head f h = record {
  line = 0;
  head = record head { params = shown_params 0 f.params };
  blocks = blocks_lines m t true (free_after_params 0 f.params) f.blocks h;
  close = 0;
}

-- ---- their names are read as they are

inst_next : (next : ℕ) (x : Placed) → free_by shown next (thing_of_inst x) ≡ free_after_inst next x
inst_next next x = one_next 0 next x.name (is_some x.result)

pub insts_next : (next : ℕ) (xs : List Placed) → free_by shown next (flat_map thing_of_inst xs) ≡ free_after_insts next xs
insts_next next [] = refl
insts_next next (x ∷ xs) = free_join next (thing_of_inst x) (flat_map thing_of_inst xs) ∙ ap (λ k. free_by shown k (flat_map thing_of_inst xs)) (inst_next next x) ∙ insts_next (free_after_inst next x) xs

pub block_next : (next : ℕ) (b : Block) → free_by shown next (things_of_block b) ≡ free_after_block next b
block_next next b = insts_next (free_after next b.name) b.insts

pub inst_less : (next : ℕ) (x : Placed) → free_after_inst next x ≤ next + 1
inst_less next x = one_less next x.name (is_some x.result)

pub insts_less : (next : ℕ) (xs : List Placed) → free_after_insts next xs ≤ next + length xs
insts_less next [] = omega arith
insts_less next (x ∷ xs) = let more = inst_less next x in let rest = insts_less (free_after_inst next x) xs in omega arith

pub block_less : (next : ℕ) (b : Block) → free_after_block next b ≤ next + suc (length b.insts)
block_less next b = let more = shown_next next b.name in let rest = insts_less (free_after next b.name) b.insts in omega arith

pub makes_as : (m : ModuleState) (t : Target) (x : Placed) (h : LineOf m x) → makes (renamed_inst (ren t h.said.scope) h.said.line) ≡ is_some x.result
makes_as m t x h = makes_again (ren t h.said.scope) h.said.line ∙ h.makes_is

insts_made : (m : ModuleState) (t : Target) (next : ℕ) (xs : List Placed) (h : Each (LineOf m) xs) → next + length xs ≤ 10 ^ 9 →
    AreAgain next (flat_map inst_made (insts_lines m t next xs h)) (flat_map thing_of_inst xs)
insts_made m t next [] h few = tt
insts_made m t next (x ∷ xs) h few =
    let name : Name = if is_some x.result then shown_name next x.name else Absent in
    let more = inst_less next x in
    let line = inst_line_of m t next x h.0 in
    let later = flat_map inst_made (insts_lines m t (free_after_inst next x) xs h.1) in
    let one : AreAgain next (inst_made line) (thing_of_inst x) =
    subst (λ b. AreAgain next (made_as 0 name b) (thing_of_inst x)) (sym (makes_as m t x h.0)) (one_again 0 0 next x.name (is_some x.result) (omega arith)) in
    let rest = insts_made m t (free_after_inst next x) xs h.1 (omega arith) in
    again_join next (inst_made line) (thing_of_inst x) later (flat_map thing_of_inst xs) one
    (subst (λ k. AreAgain k later (flat_map thing_of_inst xs)) (sym (inst_next next x)) rest)

block_made_as : (m : ModuleState) (t : Target) (first : Bool) (next : ℕ) (b : Block) (h : BlockOf m b) → next + suc (length b.insts) ≤ 10 ^ 9 →
    AreAgain next (block_made 0 (lines_of_block m t first next b h)) (things_of_block b)
block_made_as m t first next b h few =
    let label = label_again first 0 next b.name in
    let more = shown_next next b.name in (
      label_block 0 label,
      subst (λ n. IsAgain next n b.name) (sym (label_named 0 label)) (label_is_again first 0 next b.name (omega arith)),
      insts_made m t (free_after next b.name) b.insts h.insts (omega arith),
    )

blocks_made_as : (m : ModuleState) (t : Target) (first : Bool) (next : ℕ) (bs : List Block) (h : Each (BlockOf m) bs) → next + insts_many bs ≤ 10 ^ 9 →
    AreAgain next (flat_map (block_made 0) (blocks_lines m t first next bs h)) (flat_map things_of_block bs)
blocks_made_as m t first next [] h few = tt
blocks_made_as m t first next (b ∷ bs) h few =
    let more = block_less next b in
    let later = flat_map (block_made 0) (blocks_lines m t false (free_after_block next b) bs h.1) in
    let rest = blocks_made_as m t false (free_after_block next b) bs h.1 (omega arith) in
    again_join next (block_made 0 (lines_of_block m t first next b h.0)) (things_of_block b) later (flat_map things_of_block bs)
    (block_made_as m t first next b h.0 (omega arith))
    (subst (λ k. AreAgain k later (flat_map things_of_block bs)) (sym (block_next next b)) rest)

params_free_is : (next : ℕ) (ps : List Param) → free_after_params next ps ≡ params_free shown next ps
params_free_is next [] = refl
params_free_is next (p ∷ ps) = params_free_is (free_after next p.name) ps

pub func_made_as : (m : ModuleState) (t : Target) (head : Head) (f : FuncState) (h : Each (BlockOf m) f.blocks) → size_of f ≤ 10 ^ 9 → AreAgain 0 (made_in (lines_of m t head f h)) (things f)
func_made_as m t head f h few =
    let less = params_less 0 f.params in
    let free = params_free_is 0 f.params in
    let later = flat_map (block_made 0) (blocks_lines m t true (free_after_params 0 f.params) f.blocks h) in
    again_join 0 (map (param_made 0) (shown_params 0 f.params)) (map (param_made 0) f.params) later (flat_map things_of_block f.blocks)
    (params_again 0 0 0 f.params (omega arith))
    (subst (λ k. AreAgain k later (flat_map things_of_block f.blocks)) (free ∙ sym (params_next 0 0 f.params)) (blocks_made_as m t true (free_after_params 0 f.params) f.blocks h (omega arith)))

-- the names of locals and of blocks, and all of them
pub locals_are : (m : ModuleState) (t : Target) (head : Head) (f : FuncState) (h : Each (BlockOf m) f.blocks) → size_of f ≤ 10 ^ 9 → locals_of (lines_of m t head f h) ≡ locals_in (named_by shown 0 (things f))
locals_are m t head f h few =
    let F = lines_of m t head f h in
    locals_keyed (named_in F) ∙ ap locals_by_key (keys_again 0 (made_in F) (things f) (func_made_as m t head f h few)) ∙ sym (locals_keyed (named_by shown 0 (things f)))

pub blocks_are : (m : ModuleState) (t : Target) (head : Head) (f : FuncState) (h : Each (BlockOf m) f.blocks) → size_of f ≤ 10 ^ 9 → blocks_of (lines_of m t head f h) ≡ blocks_in (named_by shown 0 (things f))
blocks_are m t head f h few =
    let F = lines_of m t head f h in
    blocks_keyed (named_in F) ∙ ap blocks_by_key (keys_again 0 (made_in F) (things f) (func_made_as m t head f h few)) ∙ sym (blocks_keyed (named_by shown 0 (things f)))

pub names_are : (m : ModuleState) (t : Target) (head : Head) (f : FuncState) (h : Each (BlockOf m) f.blocks) → size_of f ≤ 10 ^ 9 → names_in (named_in (lines_of m t head f h)) ≡ names_in (named_by shown 0 (things f))
names_are m t head f h few =
    let F = lines_of m t head f h in
    names_keyed (named_in F) ∙ ap (λ (ks : List (Bool × Name)). map name_by_key ks) (keys_again 0 (made_in F) (things f) (func_made_as m t head f h few)) ∙ sym (names_keyed (named_by shown 0 (things f)))

-- ---- their shape

each_label : (m : ModuleState) (t : Target) (next : ℕ) (bs : List Block) (h : Each (BlockOf m) bs) → Each HasLabel (blocks_lines m t false next bs h)
each_label m t next [] h = tt
each_label m t next (b ∷ bs) h = (refl, each_label m t (free_after_block next b) bs h.1)

pub has_blocks : (m : ModuleState) (t : Target) (next : ℕ) (bs : List Block) (h : Each (BlockOf m) bs) → 0 < length bs → HasBlocks (blocks_lines m t true next bs h)
has_blocks m t next [] h some = absurd (omega arith)
has_blocks m t next (b ∷ bs) h some = each_label m t (free_after_block next b) bs h.1
