-- The lines of an accepted function have no fault in their names, their types, their edges or the order of uses.
use Rattle.std.proofs.Common.{◌≡◌, ◌<◌, ◌+◌, ℕ, zero, suc, Bool, true, false, if◌then◌else◌, nat_lt, List, [], ◌∷◌, Option, Some, None, length, map, take, refl, sym, ap, subst, ◌∙◌, inl, inr, ⊎_elim, arith}
use Rattle.std.specs.Prelude.{slice_get}
use Rattle.std.specs.List.{flat_map}
use Rattle.std.specs.Option.{is_some}
use Rattle.std.proofs.lemmas.Option.{slice_get_within}
use Rattle.ms_ir.specs.declared.names.Name.{Name}
use Rattle.ms_ir.specs.declared.names.Ty.{Ty}
use Rattle.ms_ir.specs.declared.names.Ty.TheVariants.{I1}
use Rattle.ms_ir.specs.declared.names.Param.{Param}
use Rattle.ms_ir.specs.declared.names.LocalNo.{LocalNo}
use Rattle.ms_ir.specs.declared.inst.Val.{Val}
use Rattle.ms_ir.specs.declared.inst.Arg.{Arg}
use Rattle.ms_ir.specs.declared.inst.Inst.{Inst}
use Rattle.ms_ir.specs.declared.inst.Term.{Term}
use Rattle.ms_ir.specs.declared.module.Sig.{Sig}
use Rattle.ms_ir.specs.Inst.{has_result, result_type}
use Rattle.ms_ir.specs.Func.{Placed, Block, FuncState, insts_at}
use Rattle.ms_ir.specs.Locals.{HasType, IsNumbered}
use Rattle.ms_ir.specs.Module.{ModuleState}
use Rattle.ms_ir.specs.Uses.{Operand}
use Rattle.ms_ir.specs.Sound.{HasOtherType}
use Rattle.ms_ir.specs.SoundFunc.{IsValueIn, IsSoundInst, IsSoundTerm}
use Rattle.ms_grammar.specs.Kept.{Each}
use Rattle.ms_grammar.specs.Fits.{IsInt, IsValue, FitsTerm}
use Rattle.ms_grammar.specs.declared.line.RawVal.{RawVal}
use Rattle.ms_grammar.specs.declared.line.RawVal.TheVariants.{Num, Local, Global}
use Rattle.ms_grammar.specs.declared.line.RawInst.{RawInst}
use Rattle.ms_grammar.specs.declared.line.RawInst.TheVariants.{Alloca, Gep, Step, Load, Store, Copy, Call, Bin, Cmp, Select, Cast, Phi}
use Rattle.ms_grammar.specs.declared.line.RawTerm.{RawTerm}
use Rattle.ms_grammar.specs.declared.line.RawTerm.TheVariants.{Br, CondBr, Ret, Unreachable}
use Rattle.ms_resolve.specs.Shape.{InstLine, BlockLines, FuncLines}
use Rattle.ms_resolve.specs.Made.{makes, made_in, named_in, name_of_made}
use Rattle.ms_resolve.specs.Scope.{Scope, number_of_name, inst_of, term_of}
use Rattle.ms_resolve.specs.Used.{Names, values_of, term_values, inst_blocks, term_blocks, callee_of, local_of, global_of, inst_names, term_names}
use Rattle.ms_resolve.specs.Faults.{IsIn, IsMadeAgain, StandsAt, UsesUnknown, HasFaultIn}
use Rattle.ms_resolve.specs.Faults as named
use Rattle.ms_resolve.proofs.FirstFacts.{local_first, block_first}
use Rattle.ms_validity.specs.Faults.{HasInst, HasTerm, CallsOtherwise, ReturnsOtherwise, HasTypeFaultIn, HasEdgeFaultIn, HasOrderFaultIn, type_of_arg}
use Rattle.ms_validity.specs.Faults as valid
use Rattle.ms_validity.proofs.ListLemmas.{in_nil, in_one, in_flat, in_append, get_map, map_get}
use Rattle.ms_valid.specs.Func.{IsAcceptedFunc}
use Rattle.ms_again.specs.Same.{plain_param}
use Rattle.ms_again.specs.Ordered.{results_in, place_in, local_at, arg_by, ordered, ordered_local, ordered_val}
use Rattle.ms_again.proofs.AgainNames.{none_small}
use Rattle.ms_again.proofs.NameSound.{names_as, inst_used, term_used}
use Rattle.ms_again.proofs.Renaming.{renamed_val, renamed_inst}
use Rattle.ms_again.proofs.Right.{AreApart, apart_at, names_in}
use Rattle.ms_again.proofs.Sites.{at_each}
use Rattle.ms_reprint.proofs.Parts.{operand_by, same_result}
use Rattle.ms_reprint.proofs.Sound.{was_giver, was_local}
use Rattle.ms_reprint.proofs.Lines.{ren, LineOf, BlockOf, inst_line_of, insts_lines, lines_of_block, blocks_lines, lines_of, things, func_made_as, locals_are, blocks_are, names_are}
use Rattle.ms_reprint.proofs.Names.{AreGiven, target_of, is_there}
use Rattle.ms_reprint.proofs.Said.{IsKnownVal, IsKnownBlock, IsKnownUse, inst_use, term_use}
use Rattle.ms_reprint.proofs.Plain.{SaidWithNumbers, plain_said, settled_result, settled_sound}
use Rattle.ms_reprint.proofs.Built.{InstFacts, AllInsts, BlockFacts, AllBlocks}
use Rattle.ms_print.specs.Numbering.{free_after, free_after_inst, free_after_block, free_after_params}

-- ---- an accepted function with its lines

pub record Lined (m : ModuleState) (f : FuncState) : Type 0 where
  pub numbered : IsNumbered f
  pub accepted : IsAcceptedFunc m f
  pub given : AreGiven f
  pub blocks : Each (BlockOf m) f.blocks
  pub facts : AllBlocks m f f.blocks blocks

abbrev pub func_lines : (m : ModuleState) (f : FuncState) → Lined m f → FuncLines
func_lines m f w = lines_of m (target_of f) w.accepted.all_said.head f w.blocks

pub result_made : (s : Scope) (i : RawInst) → has_result (inst_of s i) ≡ makes i
result_made s (Alloca size head rest) = refl
result_made s (Gep base offset head index rest) = refl
result_made s (Step base offset terms head index rest) = refl
result_made s (Load ty ptr rest) = refl
result_made s (Store ty v ptr rest) = refl
result_made s (Copy to from len head behind rest) = refl
result_made s (Call callee ret args head behind rest) = refl
result_made s (Bin op flags ty a b rest) = refl
result_made s (Cmp pred flags ty a b rest) = refl
result_made s (Select c ty a b rest) = refl
result_made s (Cast op flags from a to rest) = refl
result_made s (Phi ty entries rest) = refl

pub insts_both : (m : ModuleState) (f : FuncState) (xs : List Placed) → ((k : ℕ) (x : Placed) → slice_get xs k ≡ Some x → (h : LineOf m x) × InstFacts m f x h) → (hs : Each (LineOf m) xs) × AllInsts m f xs hs
insts_both m f [] g = (tt, tt)
insts_both m f (x ∷ xs) g =
    let one = g 0 x refl in
    let rest = insts_both m f xs (λ k y e. g (suc k) y e) in
    ((one.0, rest.0), (one.1, rest.1))

pub blocks_both : (m : ModuleState) (f : FuncState) (bs : List Block) → ((b : ℕ) (x : Block) → slice_get bs b ≡ Some x → (h : BlockOf m x) × BlockFacts m f x h) → (hs : Each (BlockOf m) bs) × AllBlocks m f bs hs
blocks_both m f [] g = (tt, tt)
blocks_both m f (x ∷ bs) g =
    let one = g 0 x refl in
    let rest = blocks_both m f bs (λ k y e. g (suc k) y e) in
    ((one.0, rest.0), (one.1, rest.1))

pub block_insts : (bs : List Block) (b : ℕ) (x : Block) → slice_get bs b ≡ Some x → insts_at bs b ≡ x.insts
block_insts [] b x e = absurd (cc)
block_insts (y ∷ bs) zero x e = let same : y ≡ x = cc in ap (λ (z : Block). z.insts) same
block_insts (y ∷ bs) (suc b) x e = block_insts bs b x e

pub none_result : (o : Option LocalNo) → is_some o ≡ false → o ≡ None
none_result None e = refl
none_result (Some l) e = absurd (cc)

pub inst_both : SaidWithNumbers → (m : ModuleState) (f : FuncState) → IsNumbered f → IsAcceptedFunc m f → AreGiven f → (b k : ℕ) (x : Placed) → slice_get (insts_at f.blocks b) k ≡ Some x → (h : LineOf m x) × InstFacts m f x h
inst_both law m f numbered a given b k x at =
    let said = plain_said law m x.inst (a.all_said.insts b k x at) in
    let made : makes said.line ≡ is_some x.result = sym (result_made said.scope said.line) ∙ ap has_result (sym said.is) ∙ settled_result x.inst ∙ sym (numbered.gives b k x at) in
    let sound : IsSoundInst f b k (inst_of said.scope said.line) = subst (λ (i : Inst). IsSoundInst f b k i) said.is (settled_sound f b k x.inst (a.sound.insts b k x at)) in (
      record { said = said; makes_is = made; unnamed = λ e. a.unnamed b k x at (none_result x.result e) },
      record {
        known = inst_use f given said.scope b k said.line sound;
        range = λ l e. (numbered.result_range l b k x (record { found = at; gives = e })).0;
      },
    )

abbrev pub lined : SaidWithNumbers → (m : ModuleState) (f : FuncState) → IsNumbered f → IsAcceptedFunc m f → AreGiven f → Lined m f
lined law m f numbered a given =
    let both = blocks_both m f f.blocks (λ b x at.
    let insts = insts_both m f x.insts (λ k y e. inst_both law m f numbered a given b k y (ap (λ (xs : List Placed). slice_get xs k) (block_insts f.blocks b x at) ∙ e)) in
    let said = a.all_said.terms b x at in
    let sound : IsSoundTerm f b (term_of said.scope said.line) = subst (λ (t : Term). IsSoundTerm f b t) said.is (a.sound.terms b x at) in (
      record { insts = insts.0; term = said },
      record { insts = insts.1; term = term_use f given said.scope b x said.line a.sound.closed at said.is sound },
    )) in
    record { numbered = numbered; accepted = a; given = given; blocks = both.0; facts = both.1 }

-- ---- where lines come from

pub record FromInst (m : ModuleState) (f : FuncState) (xs : List Placed) (k : ℕ) (line : InstLine) : Type 0 where
  pub x : Placed
  pub there : slice_get xs k ≡ Some x
  pub of : LineOf m x
  pub facts : InstFacts m f x of
  pub is : line.inst ≡ renamed_inst (ren (target_of f) of.said.scope) of.said.line

inst_from : (m : ModuleState) (f : FuncState) (next : ℕ) (xs : List Placed) (h : Each (LineOf m) xs) → AllInsts m f xs h → (k : ℕ) (line : InstLine) → slice_get (insts_lines m (target_of f) next xs h) k ≡ Some line → FromInst m f xs k line
inst_from m f next [] h facts k line e = absurd (cc)
inst_from m f next (x ∷ xs) h facts zero line e =
    let same : inst_line_of m (target_of f) next x h.0 ≡ line = cc in record { x = x; there = refl; of = h.0; facts = facts.0; is = ap (λ (y : InstLine). y.inst) (sym same) }
inst_from m f next (x ∷ xs) h facts (suc k) line e =
    let r = inst_from m f (free_after_inst next x) xs h.1 facts.1 k line e in record { x = r.x; there = r.there; of = r.of; facts = r.facts; is = r.is }

pub record FromLines (m : ModuleState) (f : FuncState) (bs : List Block) (b : ℕ) (lines : BlockLines) : Type 0 where
  pub x : Block
  pub there : slice_get bs b ≡ Some x
  pub of : BlockOf m x
  pub facts : BlockFacts m f x of
  pub first : Bool
  pub next : ℕ
  pub is : lines ≡ lines_of_block m (target_of f) first next x of

lines_from : (m : ModuleState) (f : FuncState) (first : Bool) (next : ℕ) (bs : List Block) (h : Each (BlockOf m) bs) → AllBlocks m f bs h → (b : ℕ) (lines : BlockLines) → slice_get (blocks_lines m (target_of f) first next bs h) b ≡ Some lines → FromLines m f bs b lines
lines_from m f first next [] h facts b lines e = absurd (cc)
lines_from m f first next (x ∷ bs) h facts zero lines e =
    let same : lines_of_block m (target_of f) first next x h.0 ≡ lines = cc in
    record { x = x; there = refl; of = h.0; facts = facts.0; first = first; next = next; is = sym same }
lines_from m f first next (x ∷ bs) h facts (suc b) lines e =
    let r = lines_from m f false (free_after_block next x) bs h.1 facts.1 b lines e in
    record { x = r.x; there = r.there; of = r.of; facts = r.facts; first = r.first; next = r.next; is = r.is }

pub block_of_lines : (m : ModuleState) (f : FuncState) (w : Lined m f) (b : ℕ) (lines : BlockLines) → slice_get (func_lines m f w).blocks b ≡ Some lines → FromLines m f f.blocks b lines
block_of_lines m f w b lines e = lines_from m f true (free_after_params 0 f.params) f.blocks w.blocks w.facts b lines e

pub inst_of_lines : (m : ModuleState) (f : FuncState) (bs : List Block) (b : ℕ) (lines : BlockLines) (r : FromLines m f bs b lines) (k : ℕ) (line : InstLine) → slice_get lines.insts k ≡ Some line → FromInst m f r.x.insts k line
inst_of_lines m f bs b lines r k line e =
    inst_from m f (free_after r.next r.x.name) r.x.insts r.of.insts r.facts.insts k line (subst (λ (l : BlockLines). slice_get l.insts k ≡ Some line) r.is e)

-- ---- no global stands in a terminator

no_global : (ty : Ty) (v : RawVal) → IsInt ty → IsValue ty v → (n : List ℕ) → IsIn (global_of v) n → ⊥
no_global ty (Num own k) int h n on = in_nil n on
no_global ty (Local k) int h n on = in_nil n on
no_global ty (Global k) int h n on = let none : 0 < 0 = subst (λ t. IsInt t) h.0 int in omega arith

one_flat : (v : RawVal) (n : List ℕ) → IsIn (flat_map global_of (v ∷ [])) n → IsIn (global_of v) n
one_flat v n on = ⊎_elim (λ (l : IsIn (global_of v) n). l) (λ (r : IsIn [] n). absurd (in_nil n r)) (in_append (global_of v) [] n on)

pub term_globals_none : (t : RawTerm) → FitsTerm t → (n : List ℕ) → IsIn (flat_map global_of (term_values t)) n → ⊥
term_globals_none (Br to rest) h n on = in_nil n on
term_globals_none (CondBr c a b rest) h n on = no_global I1 c (omega arith) h.0 n (one_flat c n on)
term_globals_none (Ret None rest) h n on = in_nil n on
term_globals_none (Ret (Some g) rest) h n on = no_global g.0 g.1 h.0 h.1 n (one_flat g.1 n on)
term_globals_none (Unreachable rest) h n on = in_nil n on

-- ---- names

made_apart : (m : ModuleState) (f : FuncState) (w : Lined m f) (n : ℕ) → IsMadeAgain (named_in (func_lines m f w)) n → ⊥
made_apart m f w n h =
    let F = func_lines m f w in
    let names = names_in (named_in F) in
    let apart : AreApart names = subst (λ ns. AreApart ns) (sym (names_are m (target_of f) w.accepted.all_said.head f w.blocks w.given.few)) w.given.apart in
    let one : slice_get names h.first ≡ Some h.one.name = map_get name_of_made (named_in F) h.first h.one h.first_is in
    let two : slice_get names h.at ≡ Some h.one.name = map_get name_of_made (named_in F) h.at h.other h.at_is ∙ ap Some (sym h.same) in
    let same : h.first ≡ h.at = apart_at names h.first h.at h.one.name apart one two in
    let before = h.before in
    omega arith

val_there : (f : FuncState) (given : AreGiven f) (s : Scope) (v : RawVal) (n : Name) → IsKnownVal (target_of f) s v → IsIn (local_of (renamed_val (ren (target_of f) s) v)) n → IsIn (target_of f).locals n
val_there f given s (Num ty k) n h on = absurd (in_nil n on)
val_there f given s (Global k) n h on = absurd (in_nil n on)
val_there f given s (Local k) n h on =
    let there = is_there (target_of f).locals ((target_of f).at (number_of_name s.locals k)) h given.locals_apart given.locals_named in
    subst (λ q. IsIn (target_of f).locals q) (in_one _ n on) ((target_of f).at (number_of_name s.locals k), there.there)

local_there : (f : FuncState) (given : AreGiven f) (s : Scope) (vals : List RawVal) (n : Name) → Each (IsKnownVal (target_of f) s) vals → IsIn (flat_map local_of (map (renamed_val (ren (target_of f) s)) vals)) n → IsIn (target_of f).locals n
local_there f given s vals n h on =
    let at = in_flat local_of (map (renamed_val (ren (target_of f) s)) vals) n on in
    let from = get_map (renamed_val (ren (target_of f) s)) vals at.1.0 at.0 at.1.1 in
    val_there f given s from.0 n (at_each (IsKnownVal (target_of f) s) vals at.1.0 from.0 h from.1) (subst (λ (v : RawVal). IsIn (local_of v) n) (sym from.2) at.2)

block_there : (f : FuncState) (given : AreGiven f) (s : Scope) (froms : List Name) (n : Name) → Each (IsKnownBlock (target_of f) s) froms → IsIn (map (ren (target_of f) s).block froms) n → IsIn (target_of f).blocks n
block_there f given s froms n h on =
    let from = get_map (ren (target_of f) s).block froms on.0 n on.1 in
    let known = at_each (IsKnownBlock (target_of f) s) froms on.0 from.0 h from.1 in
    let there = is_there (target_of f).blocks (number_of_name s.blocks from.0) known given.blocks_apart given.blocks_named in
    subst (λ q. IsIn (target_of f).blocks q) from.2 (number_of_name s.blocks from.0, there.there)

use_known : (m : ModuleState) (f : FuncState) (w : Lined m f) (s : Scope) (known : List (List ℕ)) (vals : List RawVal) (froms : List Name) (symbols : List (List ℕ)) → IsKnownUse (target_of f) s vals froms →
    ((n : List ℕ) → IsIn symbols n → IsIn known n) → UsesUnknown (named_in (func_lines m f w)) known (names_as (ren (target_of f) s) vals froms symbols) → ⊥
use_known m f w s known vals froms symbols h there (named.UsesUnknown.local n on none) =
    none (local_first (func_lines m f w) (made_apart m f w) n
    (subst (λ (ns : List Name). IsIn ns n) (sym (locals_are m (target_of f) w.accepted.all_said.head f w.blocks w.given.few)) (local_there f w.given s vals n h.vals on)))
use_known m f w s known vals froms symbols h there (named.UsesUnknown.block n on none) =
    none (block_first (func_lines m f w) (made_apart m f w) n
    (subst (λ (ns : List Name). IsIn ns n) (sym (blocks_are m (target_of f) w.accepted.all_said.head f w.blocks w.given.few)) (block_there f w.given s froms n h.froms on)))
use_known m f w s known vals froms symbols h there (named.UsesUnknown.global n on none) = none (there n on)

abbrev pub AreKnown : ModuleState → List (List ℕ) → Type 0
AreKnown m known = ((n : List ℕ) → IsIn m.names.globals n → IsIn known n) × ((n : List ℕ) → IsIn m.names.funcs n → IsIn known n)

line_known : (m : ModuleState) (f : FuncState) (w : Lined m f) (known : List (List ℕ)) → AreKnown m known → (n : ℕ) (used : Names) → StandsAt (func_lines m f w) n used → UsesUnknown (named_in (func_lines m f w)) known used → ⊥
line_known m f w known all n used (named.StandsAt.inst b x ib ii on is) unknown =
    let r = block_of_lines m f w ib.0 b ib.1 in
    let i = inst_of_lines m f f.blocks ib.0 b r ii.0 x ii.1 in
    let line = i.of.said.line in
    let s = i.of.said.scope in
    let uses : used ≡ names_as (ren (target_of f) s) (values_of line) (inst_blocks line) (inst_names line).symbols = is ∙ ap inst_names i.is ∙ inst_used (ren (target_of f) s) line in
    use_known m f w s known (values_of line) (inst_blocks line) (inst_names line).symbols i.facts.known
    (λ q there. ⊎_elim
    (λ (g : IsIn (flat_map global_of (values_of line)) q). all.0 q (i.of.said.globals q g))
    (λ (c : IsIn (callee_of line) q). all.1 q (i.of.said.callee q c))
    (in_append (flat_map global_of (values_of line)) (callee_of line) q there))
    (subst (λ (u : Names). UsesUnknown (named_in (func_lines m f w)) known u) uses unknown)
line_known m f w known all n used (named.StandsAt.term b ib on is) unknown =
    let r = block_of_lines m f w ib.0 b ib.1 in
    let line = r.of.term.line in
    let s = r.of.term.scope in
    let uses : used ≡ names_as (ren (target_of f) s) (term_values line) (term_blocks line) (term_names line).symbols =
    is ∙ ap (λ (y : BlockLines). term_names y.end.term) r.is ∙ term_used (ren (target_of f) s) line in
    use_known m f w s known (term_values line) (term_blocks line) (term_names line).symbols r.facts.term (λ q there. absurd (term_globals_none line r.of.term.says.fits q there))
    (subst (λ (u : Names). UsesUnknown (named_in (func_lines m f w)) known u) uses unknown)

pub no_name_fault : (m : ModuleState) (f : FuncState) (w : Lined m f) (known : List (List ℕ)) → AreKnown m known → (n : ℕ) → HasFaultIn known (func_lines m f w) n → ⊥
no_name_fault m f w known all n (named.HasFaultIn.small h) =
    none_small 0 (made_in (func_lines m f w)) (things f) h.at h.number h.thing (func_made_as m (target_of f) w.accepted.all_said.head f w.blocks w.given.few) h.found h.written h.small
no_name_fault m f w known all n (named.HasFaultIn.again h) = made_apart m f w n h
no_name_fault m f w known all n (named.HasFaultIn.unknown used stands unknown) = line_known m f w known all n used stands unknown

-- ---- types

-- a local has one type
one_type : (f : FuncState) (l : LocalNo) (a b : Ty) → IsNumbered f → HasType f l a → HasType f l b → a ≡ b
one_type f l a b numbered (inl p) (inl q) = let same : Some p.0 ≡ Some q.0 = sym p.1 ∙ q.1 in let one : p.0 ≡ q.0 = cc in sym p.2 ∙ ap (λ (x : Param). x.ty) one ∙ q.2
one_type f l a b numbered (inl p) (inr g) = let within = slice_get_within f.params l.0 p.0 p.1 in let range = (numbered.result_range l g.0 g.1 g.2 g.3).0 in absurd (omega arith)
one_type f l a b numbered (inr g) (inl p) = let within = slice_get_within f.params l.0 p.0 p.1 in let range = (numbered.result_range l g.0 g.1 g.2 g.3).0 in absurd (omega arith)
one_type f l a b numbered (inr g) (inr h) =
    let at = numbered.one_giver l g.0 g.1 h.0 h.1 g.2 h.2 g.3 h.3 in
    let there : slice_get (insts_at f.blocks h.0) h.1 ≡ Some g.2 = subst (λ k. slice_get (insts_at f.blocks h.0) k ≡ Some g.2) at.1 (subst (λ c. slice_get (insts_at f.blocks c) g.1 ≡ Some g.2) at.0 g.3.found) in
    let same : Some g.2 ≡ Some h.2 = sym there ∙ h.3.found in
    let one : g.2 ≡ h.2 = cc in
    let both : Some a ≡ Some b = sym g.4 ∙ ap (λ (x : Placed). result_type x.inst) one ∙ h.4 in
    cc

low_stays : (p : ℕ) (ks : List ℕ) (l : ℕ) → local_at p ks l < p → local_at p ks l ≡ l
low_stays p ks l h = by (nat_lt l p) refl
  where
    by : (t : Bool) → nat_lt l p ≡ t → local_at p ks l ≡ l
    by true t = ap (λ (b : Bool). if b then l else p + place_in ks l) t
    by false t = let high = ap (λ (b : Bool). if b then l else p + place_in ks l) t in absurd (omega arith)

type_back : (f : FuncState) (l : LocalNo) (ty : Ty) → HasType (ordered f) (ordered_local f l) ty → HasType f l ty
type_back f l ty (inl (p, at, is)) =
    let was = get_map plain_param f.params (ordered_local f l).0 p at in
    let less = slice_get_within f.params (ordered_local f l).0 was.0 was.1 in
    let stays = low_stays (length f.params) (results_in f.blocks) l.0 less in
    inl (was.0, subst (λ k. slice_get f.params k ≡ Some was.0) stays was.1, ap (λ (q : Param). q.ty) was.2 ∙ is)
type_back f l ty (inr (b, k, y, gives, is)) =
    let was = was_giver f l b k y gives in
    inr (b, k, was.x, was.gives, sym (same_result (ordered_val f) was.x.inst) ∙ ap (λ (z : Placed). result_type z.inst) (sym was.is) ∙ is)

pub no_other_type : (f : FuncState) → IsNumbered f → (o p : Operand) → IsValueIn f p.ty p.val → operand_by (ordered_val f) p ≡ o → HasOtherType (ordered f) o → ⊥
no_other_type f numbered o p value is (l, ty, val_is, has, other) =
    let was = was_local f p.val l (ap (λ (q : Operand). q.val) is ∙ val_is) in
    let own : HasType f was.0 p.ty = subst (λ (v : Val). IsValueIn f p.ty v) was.1 value in
    let back : HasType f was.0 ty = type_back f was.0 ty (subst (λ (k : LocalNo). HasType (ordered f) k ty) (sym was.2) has) in
    other (one_type f was.0 ty p.ty numbered back own ∙ ap (λ (q : Operand). q.ty) is)

args_types : (v : Val → Val) (args : List Arg) → map type_of_arg (map (arg_by v) args) ≡ map type_of_arg args
args_types v [] = refl
args_types v (a ∷ args) = ap (λ (ts : List Ty). a.ty ∷ ts) (args_types v args)

pub fits_back : (sig : Sig) (v : Val → Val) (args : List Arg) → valid.ArgsFit sig args → valid.ArgsFit sig (map (arg_by v) args)
fits_back sig v args h = ap (λ (ts : List Ty). if sig.variadic then take (length sig.params) ts else ts) (args_types v args) ∙ h
