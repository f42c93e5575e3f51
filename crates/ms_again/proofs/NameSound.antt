-- The printed items have no fault in their names where the items have none.
use Rattle.std.proofs.Common.{◌≡◌, ◌+◌, ℕ, zero, suc, Bool, true, false, List, [], ◌∷◌, ◌++◌, Option, Some, None, map, length, refl, sym, ap, subst, ◌∙◌, arith}
use Rattle.std.specs.Prelude.{slice_get}
use Rattle.std.specs.List.{flat_map}
use Rattle.ms_ir.specs.declared.names.Name.{Name}
use Rattle.ms_grammar.specs.Kept.{Each}
use Rattle.ms_grammar.specs.declared.line.Line.{Line}
use Rattle.ms_grammar.specs.declared.line.RawVal.{RawVal}
use Rattle.ms_grammar.specs.declared.line.RawVal.TheVariants.{Num, Local, Global}
use Rattle.ms_grammar.specs.declared.line.RawArg.{RawArg}
use Rattle.ms_grammar.specs.declared.line.RawEntry.{RawEntry}
use Rattle.ms_grammar.specs.declared.line.RawIndex.{RawIndex}
use Rattle.ms_grammar.specs.declared.line.RawInst.{RawInst}
use Rattle.ms_grammar.specs.declared.line.RawInst.TheVariants.{Alloca, Gep, Step, Load, Store, Copy, Call, Bin, Cmp, Select, Cast, Phi}
use Rattle.ms_grammar.specs.declared.line.RawTerm.{RawTerm}
use Rattle.ms_grammar.specs.declared.line.RawTerm.TheVariants.{Br, CondBr, Ret, Unreachable}
use Rattle.ms_resolve.specs.Shape.{InstLine, BlockLines, FuncLines, ItemLines, plain, body}
use Rattle.ms_resolve.specs.Made.{made_in, named_in, name_of_made}
use Rattle.ms_resolve.specs.Used.{Names, values_of, term_values, inst_blocks, term_blocks, callee_of, local_of, global_of, arg_value, index_value, entry_value, entry_block, inst_names, term_names}
use Rattle.ms_resolve.specs.Faults.{IsIn, NamesFirst, symbols_of, name_of_symbol, IsSymbolAgain, IsMadeAgain, StandsAt, UsesUnknown, HasFaultIn, HasNameFault}
use Rattle.ms_resolve.specs.Faults as named
use Rattle.ms_resolve.specs.Cause.{NoNameFault}
use Rattle.ms_resolve.proofs.FirstFacts.{local_first, block_first}
use Rattle.ms_resolve.proofs.Members.{among_in}
use Rattle.ms_validity.proofs.ListLemmas.{in_nil, in_one, in_flat, get_map, map_get}
use Rattle.ms_again.proofs.Renaming.{Renaming, renamed_val, renamed_arg, renamed_entry, renamed_index, renamed_inst, renamed_term}
use Rattle.ms_again.proofs.Right.{AreApart, apart_at, names_in}
use Rattle.ms_again.proofs.Names.{shown, locals_listed, blocks_listed, block_free, inst_free, label_name}
use Rattle.ms_again.proofs.Again.{renaming, label_said, block_said, insts_again, block_again, blocks_again, start, func_said, gap_said, func_again, items_again}
use Rattle.ms_again.proofs.AgainNames.{locals_again, blocks_are_again, names_again, none_small, func_made}
use Rattle.ms_again.proofs.Sites.{at_each, known_symbols, symbol_in}
use Rattle.ms_again.proofs.Uses.{IsRightVal, IsRightBlock, IsRightUse, IsRightInst, IsRightLines}
use Rattle.ms_again.proofs.Lines.{IsFineNamed}
use Rattle.ms_again.proofs.Draft.{AreNamed}
use Rattle.ms_again.proofs.Same.{symbols_same}

-- each printed function, block and instruction comes from one
pub record FromFunc (items : List ItemLines) (k : ℕ) (new : FuncLines) : Type 0 where
  pub row : ℕ
  pub f : FuncLines
  pub there : slice_get items k ≡ Some (body f)
  pub is : new ≡ func_again row f

same_body : (f g : FuncLines) → Some (body f) ≡ Some (body g) → f ≡ g
same_body f g e = cc

no_plain : (n : ℕ) (l : Line) (f : FuncLines) → Some (plain n l) ≡ Some (body f) → ⊥
no_plain n l f e = cc

pub item_from : (row : ℕ) (before : Option Bool) (items : List ItemLines) (k : ℕ) (new : FuncLines) → slice_get (items_again row before items) k ≡ Some (body new) → FromFunc items k new
item_from row before [] k new e = absurd (cc)
item_from row before (plain n line ∷ rest) zero new e = absurd (no_plain _ line new e)
item_from row before (plain n line ∷ rest) (suc k) new e =
    let r = item_from (row + length (gap_said before false) + 1) (Some false) rest k new e in record { row = r.row; f = r.f; there = r.there; is = r.is }
item_from row before (body f ∷ rest) zero new e =
    let at = row + length (gap_said before true) in record { row = at; f = f; there = refl; is = sym (same_body (func_again at f) new e) }
item_from row before (body f ∷ rest) (suc k) new e =
    let r = item_from (row + length (gap_said before true) + length (func_said f)) (Some true) rest k new e in record { row = r.row; f = r.f; there = r.there; is = r.is }

pub record FromBlock (r : Renaming) (bs : List BlockLines) (k : ℕ) (new : BlockLines) : Type 0 where
  pub first : Bool
  pub row : ℕ
  pub next : ℕ
  pub block : BlockLines
  pub there : slice_get bs k ≡ Some block
  pub is : new ≡ block_again r first row next block

same_block : (x y : BlockLines) → Some x ≡ Some y → x ≡ y
same_block x y e = cc

pub block_from : (r : Renaming) (first : Bool) (row next : ℕ) (bs : List BlockLines) (k : ℕ) (new : BlockLines) → slice_get (blocks_again r first row next bs) k ≡ Some new → FromBlock r bs k new
block_from r first row next [] k new e = absurd (cc)
block_from r first row next (b ∷ bs) zero new e =
    record { first = first; row = row; next = next; block = b; there = refl; is = sym (same_block (block_again r first row next b) new e) }
block_from r first row next (b ∷ bs) (suc k) new e =
    let s = block_from r false (row + length (block_said r first next b)) (block_free shown next b) bs k new e in
    record { first = s.first; row = s.row; next = s.next; block = s.block; there = s.there; is = s.is }

pub record FromInst (r : Renaming) (xs : List InstLine) (k : ℕ) (new : InstLine) : Type 0 where
  pub line : InstLine
  pub there : slice_get xs k ≡ Some line
  pub is : new.inst ≡ renamed_inst r line.inst

same_line : (x y : InstLine) → Some x ≡ Some y → x ≡ y
same_line x y e = cc

pub inst_from : (r : Renaming) (row next : ℕ) (xs : List InstLine) (k : ℕ) (new : InstLine) → slice_get (insts_again r row next xs) k ≡ Some new → FromInst r xs k new
inst_from r row next [] k new e = absurd (cc)
inst_from r row next (x ∷ xs) zero new e = record { line = x; there = refl; is = ap (λ (y : InstLine). y.inst) (sym (same_line _ new e)) }
inst_from r row next (x ∷ xs) (suc k) new e =
    let s = inst_from r (row + 1) (inst_free shown next x) xs k new e in record { line = s.line; there = s.there; is = s.is }

-- what a printed line uses
args_values : (r : Renaming) (args : List RawArg) → map arg_value (map (renamed_arg r) args) ≡ map (renamed_val r) (map arg_value args)
args_values r [] = refl
args_values r (a ∷ args) = ap (λ (vs : List RawVal). renamed_val r a.val ∷ vs) (args_values r args)

entries_values : (r : Renaming) (es : List RawEntry) → map entry_value (map (renamed_entry r) es) ≡ map (renamed_val r) (map entry_value es)
entries_values r [] = refl
entries_values r (e ∷ es) = ap (λ (vs : List RawVal). renamed_val r e.val ∷ vs) (entries_values r es)

entries_froms : (r : Renaming) (es : List RawEntry) → map entry_block (map (renamed_entry r) es) ≡ map r.block (map entry_block es)
entries_froms r [] = refl
entries_froms r (e ∷ es) = ap (λ (ns : List Name). r.block e.from ∷ ns) (entries_froms r es)

terms_values : (r : Renaming) (terms : List RawIndex) → map index_value (map (renamed_index r) terms) ≡ map (renamed_val r) (map index_value terms)
terms_values r [] = refl
terms_values r (t ∷ terms) = ap (λ (vs : List RawVal). renamed_val r t.val ∷ vs) (terms_values r terms)

pub inst_values_are : (r : Renaming) (i : RawInst) → values_of (renamed_inst r i) ≡ map (renamed_val r) (values_of i)
inst_values_are r (Alloca size head rest) = refl
inst_values_are r (Gep base offset head index rest) = refl
inst_values_are r (Step base offset terms head index rest) = ap (λ (vs : List RawVal). renamed_val r base ∷ vs) (terms_values r terms)
inst_values_are r (Load ty ptr rest) = refl
inst_values_are r (Store ty val ptr rest) = refl
inst_values_are r (Copy to from len head behind rest) = refl
inst_values_are r (Call callee ret args head behind rest) = args_values r args
inst_values_are r (Bin op flags ty a b rest) = refl
inst_values_are r (Cmp pred flags ty a b rest) = refl
inst_values_are r (Select cond ty a b rest) = refl
inst_values_are r (Cast op flags from a to rest) = refl
inst_values_are r (Phi ty entries rest) = entries_values r entries

pub inst_blocks_are : (r : Renaming) (i : RawInst) → inst_blocks (renamed_inst r i) ≡ map r.block (inst_blocks i)
inst_blocks_are r (Alloca size head rest) = refl
inst_blocks_are r (Gep base offset head index rest) = refl
inst_blocks_are r (Step base offset terms head index rest) = refl
inst_blocks_are r (Load ty ptr rest) = refl
inst_blocks_are r (Store ty val ptr rest) = refl
inst_blocks_are r (Copy to from len head behind rest) = refl
inst_blocks_are r (Call callee ret args head behind rest) = refl
inst_blocks_are r (Bin op flags ty a b rest) = refl
inst_blocks_are r (Cmp pred flags ty a b rest) = refl
inst_blocks_are r (Select cond ty a b rest) = refl
inst_blocks_are r (Cast op flags from a to rest) = refl
inst_blocks_are r (Phi ty entries rest) = entries_froms r entries

pub callee_is : (r : Renaming) (i : RawInst) → callee_of (renamed_inst r i) ≡ callee_of i
callee_is r (Alloca size head rest) = refl
callee_is r (Gep base offset head index rest) = refl
callee_is r (Step base offset terms head index rest) = refl
callee_is r (Load ty ptr rest) = refl
callee_is r (Store ty val ptr rest) = refl
callee_is r (Copy to from len head behind rest) = refl
callee_is r (Call callee ret args head behind rest) = refl
callee_is r (Bin op flags ty a b rest) = refl
callee_is r (Cmp pred flags ty a b rest) = refl
callee_is r (Select cond ty a b rest) = refl
callee_is r (Cast op flags from a to rest) = refl
callee_is r (Phi ty entries rest) = refl

pub term_values_are : (r : Renaming) (t : RawTerm) → term_values (renamed_term r t) ≡ map (renamed_val r) (term_values t)
term_values_are r (Br to rest) = refl
term_values_are r (CondBr cond if_true if_false rest) = refl
term_values_are r (Ret None rest) = refl
term_values_are r (Ret (Some given) rest) = refl
term_values_are r (Unreachable rest) = refl

pub term_blocks_are : (r : Renaming) (t : RawTerm) → term_blocks (renamed_term r t) ≡ map r.block (term_blocks t)
term_blocks_are r (Br to rest) = refl
term_blocks_are r (CondBr cond if_true if_false rest) = refl
term_blocks_are r (Ret None rest) = refl
term_blocks_are r (Ret (Some given) rest) = refl
term_blocks_are r (Unreachable rest) = refl

one_global : (r : Renaming) (v : RawVal) → global_of (renamed_val r v) ≡ global_of v
one_global r (Num ty n) = refl
one_global r (Local n) = refl
one_global r (Global n) = refl

globals_are : (r : Renaming) (vs : List RawVal) → flat_map global_of (map (renamed_val r) vs) ≡ flat_map global_of vs
globals_are r [] = refl
globals_are r (v ∷ vs) =
    ap (λ (ws : List (List ℕ)). ws ++ flat_map global_of (map (renamed_val r) vs)) (one_global r v) ∙ ap (λ (ws : List (List ℕ)). global_of v ++ ws) (globals_are r vs)

pub inst_globals : (r : Renaming) (i : RawInst) → flat_map global_of (values_of (renamed_inst r i)) ≡ flat_map global_of (values_of i)
inst_globals r i = ap (λ vs. flat_map global_of vs) (inst_values_are r i) ∙ globals_are r (values_of i)

pub term_globals : (r : Renaming) (t : RawTerm) → flat_map global_of (term_values (renamed_term r t)) ≡ flat_map global_of (term_values t)
term_globals r t = ap (λ vs. flat_map global_of vs) (term_values_are r t) ∙ globals_are r (term_values t)

abbrev pub names_as : Renaming → List RawVal → List Name → List (List ℕ) → Names
names_as r vals froms symbols = record { locals = flat_map local_of (map (renamed_val r) vals); blocks = map r.block froms; symbols = symbols }

pub inst_used : (r : Renaming) (i : RawInst) → inst_names (renamed_inst r i) ≡ names_as r (values_of i) (inst_blocks i) (inst_names i).symbols
inst_used r i =
    let P : List RawVal → List Name → List (List ℕ) → Names = λ vs ns ws. record { locals = flat_map local_of vs; blocks = ns; symbols = ws } in
    ap (λ vs. P vs (inst_blocks (renamed_inst r i)) (flat_map global_of (values_of (renamed_inst r i)) ++ callee_of (renamed_inst r i))) (inst_values_are r i)
    ∙ ap (λ ns. P (map (renamed_val r) (values_of i)) ns (flat_map global_of (values_of (renamed_inst r i)) ++ callee_of (renamed_inst r i))) (inst_blocks_are r i)
    ∙ ap (λ ws. P (map (renamed_val r) (values_of i)) (map r.block (inst_blocks i)) (ws ++ callee_of (renamed_inst r i))) (inst_globals r i)
    ∙ ap (λ ws. P (map (renamed_val r) (values_of i)) (map r.block (inst_blocks i)) (flat_map global_of (values_of i) ++ ws)) (callee_is r i)

pub term_used : (r : Renaming) (t : RawTerm) → term_names (renamed_term r t) ≡ names_as r (term_values t) (term_blocks t) (term_names t).symbols
term_used r t =
    let P : List RawVal → List Name → List (List ℕ) → Names = λ vs ns ws. record { locals = flat_map local_of vs; blocks = ns; symbols = ws } in
    ap (λ vs. P vs (term_blocks (renamed_term r t)) (flat_map global_of (term_values (renamed_term r t)))) (term_values_are r t)
    ∙ ap (λ ns. P (map (renamed_val r) (term_values t)) ns (flat_map global_of (term_values (renamed_term r t)))) (term_blocks_are r t)
    ∙ ap (λ ws. P (map (renamed_val r) (term_values t)) (map r.block (term_blocks t)) ws) (term_globals r t)

-- a use of a printed name is a use of one that there is
val_there : (f : FuncLines) (v : RawVal) (name : Name) → IsRightVal f v → IsIn (local_of (renamed_val (renaming f) v)) name → IsIn (locals_listed shown f) name
val_there f (Num ty n) name h on = absurd (in_nil name on)
val_there f (Local n) name h on = subst (λ m. IsIn (locals_listed shown f) m) (in_one _ name on) (among_in (locals_listed shown f) _ h.there)
val_there f (Global n) name h on = absurd (in_nil name on)

local_there : (f : FuncLines) (vals : List RawVal) (name : Name) → Each (IsRightVal f) vals → IsIn (flat_map local_of (map (renamed_val (renaming f)) vals)) name → IsIn (locals_listed shown f) name
local_there f vals name h on =
    let at = in_flat local_of (map (renamed_val (renaming f)) vals) name on in
    let from = get_map (renamed_val (renaming f)) vals at.1.0 at.0 at.1.1 in
    val_there f from.0 name (at_each (IsRightVal f) vals at.1.0 from.0 h from.1) (subst (λ (v : RawVal). IsIn (local_of v) name) (sym from.2) at.2)

block_there : (f : FuncLines) (froms : List Name) (name : Name) → Each (IsRightBlock f) froms → IsIn (map (renaming f).block froms) name → IsIn (blocks_listed shown f) name
block_there f froms name h on =
    let from = get_map (renaming f).block froms on.0 name on.1 in
    let right = at_each (IsRightBlock f) froms on.0 from.0 h from.1 in
    subst (λ m. IsIn (blocks_listed shown f) m) from.2 (among_in (blocks_listed shown f) _ right.there)

-- no name of a printed function is made again
made_apart : (row : ℕ) (f : FuncLines) → IsFineNamed f → (n : ℕ) → IsMadeAgain (named_in (func_again row f)) n → ⊥
made_apart row f fine n h =
    let names = names_in (named_in (func_again row f)) in
    let apart : AreApart names = subst (λ ns. AreApart ns) (sym (names_again row f fine.few)) fine.names.apart in
    let one : slice_get names h.first ≡ Some h.one.name = map_get name_of_made (named_in (func_again row f)) h.first h.one h.first_is in
    let two : slice_get names h.at ≡ Some h.one.name = map_get name_of_made (named_in (func_again row f)) h.at h.other h.at_is ∙ ap Some (sym h.same) in
    let same : h.first ≡ h.at = apart_at names h.first h.at h.one.name apart one two in
    let before = h.before in
    omega arith

-- so each names what has it
printed_local : (row : ℕ) (f : FuncLines) → IsFineNamed f → (q : Name) → IsIn (locals_listed shown f) q → NamesFirst (named_in (func_again row f)) false q
printed_local row f fine q h = local_first (func_again row f) (made_apart row f fine) q (subst (λ (ns : List Name). IsIn ns q) (sym (locals_again row f fine.few)) h)

printed_block : (row : ℕ) (f : FuncLines) → IsFineNamed f → (q : Name) → IsIn (blocks_listed shown f) q → NamesFirst (named_in (func_again row f)) true q
printed_block row f fine q h = block_first (func_again row f) (made_apart row f fine) q (subst (λ (ns : List Name). IsIn ns q) (sym (blocks_are_again row f fine.few)) h)

use_known : (row : ℕ) (f : FuncLines) → IsFineNamed f → (known : List (List ℕ)) (vals : List RawVal) (froms : List Name) (symbols : List (List ℕ)) → IsRightUse f vals froms → ((w : List ℕ) → IsIn symbols w → IsIn known w) →
    UsesUnknown (named_in (func_again row f)) known (names_as (renaming f) vals froms symbols) → ⊥
use_known row f fine known vals froms symbols right there (named.UsesUnknown.local name on none) = none (printed_local row f fine name (local_there f vals name right.vals on))
use_known row f fine known vals froms symbols right there (named.UsesUnknown.block name on none) = none (printed_block row f fine name (block_there f froms name right.froms on))
use_known row f fine known vals froms symbols right there (named.UsesUnknown.global name on none) = none (there name on)

-- a line of a printed function
line_known : (items : List ItemLines) (row : ℕ) (f : FuncLines) → NoNameFault items → IsIn items (body f) → IsFineNamed f → (n : ℕ) (used : Names) → StandsAt (func_again row f) n used →
    UsesUnknown (named_in (func_again row f)) (known_symbols items) used → ⊥
line_known items row f sound il fine n used (named.StandsAt.inst b x ib ii on is) unknown =
    let r = renaming f in
    let block = block_from r true (row + 1) (start f) f.blocks ib.0 b ib.1 in
    let here : slice_get (block_again r block.first block.row block.next block.block).insts ii.0 ≡ Some x = subst (λ (y : BlockLines). slice_get y.insts ii.0 ≡ Some x) block.is ii.1 in
    let line = inst_from r (block.row + length (label_said block.first block.next (label_name block.block.label))) _ block.block.insts ii.0 x here in
    let uses : used ≡ names_as r (values_of line.line.inst) (inst_blocks line.line.inst) (inst_names line.line.inst).symbols = is ∙ ap inst_names line.is ∙ inst_used r line.line.inst in
    let lines = at_each (IsRightLines f) f.blocks ib.0 block.block fine.uses block.there in
    let right = at_each (IsRightInst f) block.block.insts ii.0 line.line lines.insts line.there in
    let stands : StandsAt f line.line.line (inst_names line.line.inst) = named.StandsAt.inst block.block line.line (ib.0, block.there) (ii.0, line.there) refl refl in
    use_known row f fine (known_symbols items) (values_of line.line.inst) (inst_blocks line.line.inst) (inst_names line.line.inst).symbols right
    (λ w there. symbol_in items f line.line.line (inst_names line.line.inst) sound il stands w there)
    (subst (λ (u : Names). UsesUnknown (named_in (func_again row f)) (known_symbols items) u) uses unknown)
line_known items row f sound il fine n used (named.StandsAt.term b ib on is) unknown =
    let r = renaming f in
    let block = block_from r true (row + 1) (start f) f.blocks ib.0 b ib.1 in
    let uses : used ≡ names_as r (term_values block.block.end.term) (term_blocks block.block.end.term) (term_names block.block.end.term).symbols =
    is ∙ ap (λ (y : BlockLines). term_names y.end.term) block.is ∙ term_used r block.block.end.term in
    let lines = at_each (IsRightLines f) f.blocks ib.0 block.block fine.uses block.there in
    let stands : StandsAt f block.block.end.line (term_names block.block.end.term) = named.StandsAt.term block.block (ib.0, block.there) refl refl in
    use_known row f fine (known_symbols items) (term_values block.block.end.term) (term_blocks block.block.end.term) (term_names block.block.end.term).symbols lines.term
    (λ w there. symbol_in items f block.block.end.line (term_names block.block.end.term) sound il stands w there)
    (subst (λ (u : Names). UsesUnknown (named_in (func_again row f)) (known_symbols items) u) uses unknown)

-- a printed function
func_known : (items : List ItemLines) (row : ℕ) (f : FuncLines) → NoNameFault items → IsIn items (body f) → IsFineNamed f → (n : ℕ) → HasFaultIn (known_symbols (items_again 1 None items)) (func_again row f) n → ⊥
func_known items row f sound il fine n (named.HasFaultIn.small h) =
    none_small 0 (made_in (func_again row f)) (made_in f) h.at h.number h.thing (func_made row f fine.few) h.found h.written h.small
func_known items row f sound il fine n (named.HasFaultIn.again h) = made_apart row f fine n h
func_known items row f sound il fine n (named.HasFaultIn.unknown used stands unknown) =
    line_known items row f sound il fine n used stands (subst (λ (ws : List (List ℕ)). UsesUnknown (named_in (func_again row f)) ws used) (symbols_same 1 None items) unknown)

-- functions and globals
symbols_apart : (items : List ItemLines) → NoNameFault items → (n : ℕ) → IsSymbolAgain (symbols_of (items_again 1 None items)) n → ⊥
symbols_apart items sound n h =
    let new = symbols_of (items_again 1 None items) in
    let old = symbols_of items in
    let same = symbols_same 1 None items in
    let one = get_map name_of_symbol old h.first h.one.name (ap (λ (ws : List (List ℕ)). slice_get ws h.first) (sym same) ∙ map_get name_of_symbol new h.first h.one h.first_is) in
    let two = get_map name_of_symbol old h.at h.other.name (ap (λ (ws : List (List ℕ)). slice_get ws h.at) (sym same) ∙ map_get name_of_symbol new h.at h.other h.at_is) in
    sound two.0.line (named.HasNameFault.symbol (record {
      first = h.first;
      at = h.at;
      before = h.before;
      one = one.0;
      other = two.0;
      first_is = one.1;
      at_is = two.1;
      same = one.2 ∙ h.same ∙ sym two.2;
      on = refl;
    }))

pub names_sound : (items : List ItemLines) → NoNameFault items → AreNamed items → NoNameFault (items_again 1 None items)
names_sound items sound all n (named.HasNameFault.symbol h) = symbols_apart items sound n h
names_sound items sound all n (named.HasNameFault.inside new il fault) =
    let from = item_from 1 None items il.0 new il.1 in
    let there : IsIn items (body from.f) = (il.0, from.there) in
    func_known items from.row from.f sound there (all.each from.f there) n
    (subst (λ (g : FuncLines). HasFaultIn (known_symbols (items_again 1 None items)) g n) from.is fault)
