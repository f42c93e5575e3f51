-- The lines of a module without faults: which names they use.
use Rattle.std.proofs.Common.{◌≡◌, ◌⊎◌, inl, inr, ⊎_elim, ℕ, zero, suc, Bool, true, false, List, [], ◌∷◌, ◌++◌, Option, Some, None, map, if◌then◌else◌, refl, sym, ap, subst, ◌∙◌, bytes_eq}
use Rattle.std.specs.Prelude.{slice_get}
use Rattle.std.specs.List.{flat_map}
use Rattle.std.specs.Option.{option_map}
use Rattle.std.specs.Cmp.Lexicographic.{bytes_decides, nat_list_eq_equiv}
use Rattle.std.proofs.lemmas.Bool.{cases_Bool, both_ways}
use Rattle.ms_ir.specs.declared.names.Name.{Name}
use Rattle.ms_ir.specs.declared.names.Name.TheVariants.{Word, Number, Absent}
use Rattle.ms_ir.specs.declared.names.Ty.{Ty}
use Rattle.ms_ir.specs.declared.names.Ty.TheVariants.{I1, Ptr}
use Rattle.ms_ir.specs.declared.inst.Effects.{Effects}
use Rattle.ms_ir.specs.Func.{FuncState}
use Rattle.ms_grammar.specs.Kept.{Each, IndexItem}
use Rattle.ms_grammar.specs.Kept.IndexItem.{constant as a_number, term as a_local}
use Rattle.ms_grammar.specs.Form.{Scale, name_text}
use Rattle.ms_grammar.specs.Fits.{IsNamed, IsWordName, IsValue, IsArg, IsEntryOf, IsLocal, AreTerms, FitsInst, FitsTerm}
use Rattle.ms_grammar.specs.declared.line.Line.{Line}
use Rattle.ms_grammar.specs.declared.line.Line.TheVariants as said
use Rattle.ms_grammar.specs.declared.line.RawVal.{RawVal}
use Rattle.ms_grammar.specs.declared.line.RawVal.TheVariants.{Num, Local, Global}
use Rattle.ms_grammar.specs.declared.line.RawArg.{RawArg}
use Rattle.ms_grammar.specs.declared.line.RawEntry.{RawEntry}
use Rattle.ms_grammar.specs.declared.line.RawIndex.{RawIndex}
use Rattle.ms_grammar.specs.declared.line.RawInst.{RawInst}
use Rattle.ms_grammar.specs.declared.line.RawInst.TheVariants.{Alloca, Gep, Step, Load, Store, Copy, Call, Bin, Cmp, Select, Cast, Phi}
use Rattle.ms_grammar.specs.declared.line.RawTerm.{RawTerm}
use Rattle.ms_grammar.specs.declared.line.RawTerm.TheVariants.{Br, CondBr, Ret, Unreachable}
use Rattle.ms_resolve.specs.Shape.{InstLine, BlockLines, FuncLines, ItemLines, plain, body, label_lines, inst_line, block_lines, func_lines}
use Rattle.ms_resolve.specs.Made.{locals_of, blocks_of}
use Rattle.ms_resolve.specs.Used.{Names, values_of, term_values, inst_blocks, term_blocks, arg_value, index_value, entry_value, entry_block}
use Rattle.ms_resolve.specs.Faults.{IsIn, IsNotIn, Symbol, symbols_of, item_symbols, name_of_symbol, StandsAt, HasNameFault}
use Rattle.ms_resolve.specs.Faults as named
use Rattle.ms_resolve.specs.Cause.{NoNameFault}
use Rattle.ms_resolve.specs.Places.{is_word_there}
use Rattle.ms_resolve.specs.Scope.{Scope, number_of_word, or_first, func_of}
use Rattle.ms_resolve.specs.Module.{names_of, scope_of, bodies_in, funcs_of, body_in, module_of, func_names_in, global_names_in}
use Rattle.ms_resolve.proofs.FirstFacts.{first_local, first_block}
use Rattle.ms_resolve.proofs.Members.{Among, among_in, in_among, there_word, word_there_any}
use Rattle.ms_resolve.proofs.PlaceLemmas.{seek, seek_is}
use Rattle.ms_print.specs.Lines.{word_at, text_in}
use Rattle.ms_validity.specs.Faults.{IsBody, body_there, bodies_there}
use Rattle.ms_validity.proofs.ListLemmas.{in_nil, in_here, in_one, in_flat, flat_in, get_map, map_get}
use Rattle.ms_again.proofs.Fine.{IsFine, each_first, each_second}
use Rattle.ms_again.proofs.Right.{known_name, named_same}

-- members of lists
pub each_at : {X : Type 0} (P : X → Type 0) (xs : List X) → ((k : ℕ) (x : X) → slice_get xs k ≡ Some x → P x) → Each P xs
each_at P [] h = tt
each_at P (x ∷ xs) h = (h 0 x refl, each_at P xs (λ k y e. h (suc k) y e))

same_member : {X : Type 0} (x y : X) → Some x ≡ Some y → x ≡ y
same_member x y e = cc

pub at_each : {X : Type 0} (P : X → Type 0) (xs : List X) (k : ℕ) (x : X) → Each P xs → slice_get xs k ≡ Some x → P x
at_each P [] k x h e = absurd (cc)
at_each P (y ∷ ys) zero x h e = subst (λ z. P z) (same_member y x e) h.0
at_each P (y ∷ ys) (suc k) x h e = at_each P ys k x h.1 e

pub each_flat : {X Y : Type 0} (P : Y → Type 0) (g : X → List Y) (xs : List X) → Each P (flat_map g xs) → Each (λ x. Each P (g x)) xs
each_flat P g [] h = tt
each_flat P g (x ∷ xs) h = (each_first P (g x) (flat_map g xs) h, each_flat P g xs (each_second P (g x) (flat_map g xs) h))

-- lines of which each has a property
abbrev pub IsEntryBy : (Line → Type 0) → ℕ × Line → Type 0
IsEntryBy P e = P e.1

pub record IsBlockBy (P : Line → Type 0) (b : BlockLines) : Type 0 where
  pub labels : Each (IsEntryBy P) (label_lines b.label)
  pub insts : Each (λ (x : InstLine). P (said.Inst x.name x.inst)) b.insts
  pub term : P (said.Term b.end.term)

pub record IsFuncBy (P : Line → Type 0) (f : FuncLines) : Type 0 where
  pub define : P (said.Define f.head)
  pub blocks : Each (IsBlockBy P) f.blocks
  pub close : P said.Close

insts_by : (P : Line → Type 0) (xs : List InstLine) → Each (IsEntryBy P) (map inst_line xs) → Each (λ (x : InstLine). P (said.Inst x.name x.inst)) xs
insts_by P [] h = tt
insts_by P (x ∷ xs) h = (h.0, insts_by P xs h.1)

block_by : (P : Line → Type 0) (b : BlockLines) → Each (IsEntryBy P) (block_lines b) → IsBlockBy P b
block_by P b h =
    let end : List (ℕ × Line) = (b.end.line, said.Term b.end.term) ∷ [] in
    let front = each_first (IsEntryBy P) (label_lines b.label ++ map inst_line b.insts) end h in
    let last = each_second (IsEntryBy P) (label_lines b.label ++ map inst_line b.insts) end h in
    record {
      labels = each_first (IsEntryBy P) (label_lines b.label) (map inst_line b.insts) front;
      insts = insts_by P b.insts (each_second (IsEntryBy P) (label_lines b.label) (map inst_line b.insts) front);
      term = last.0;
    }

blocks_by : (P : Line → Type 0) (bs : List BlockLines) → Each (λ b. Each (IsEntryBy P) (block_lines b)) bs → Each (IsBlockBy P) bs
blocks_by P [] h = tt
blocks_by P (b ∷ bs) h = (block_by P b h.0, blocks_by P bs h.1)

pub func_by : (P : Line → Type 0) (f : FuncLines) → Each (IsEntryBy P) (func_lines f) → IsFuncBy P f
func_by P f h =
    let close : List (ℕ × Line) = (f.close, said.Close) ∷ [] in
    let last = each_second (IsEntryBy P) (flat_map block_lines f.blocks) close h.1 in
    record {
      define = h.0;
      blocks = blocks_by P f.blocks (each_flat (IsEntryBy P) block_lines f.blocks (each_first (IsEntryBy P) (flat_map block_lines f.blocks) close h.1));
      close = last.0;
    }

-- lines that are fine
abbrev pub IsFineEntry : ℕ × Line → Type 0
IsFineEntry = IsEntryBy IsFine

abbrev pub IsFineBlock : BlockLines → Type 0
IsFineBlock = IsBlockBy IsFine

abbrev pub IsFineFunc : FuncLines → Type 0
IsFineFunc = IsFuncBy IsFine

pub fine_func : (f : FuncLines) → Each IsFineEntry (func_lines f) → IsFineFunc f
fine_func f h = func_by IsFine f h

-- the names that fine lines have
abbrev pub IsNamedVal : RawVal → Type 0
IsNamedVal (Num ty n) = Unit {0}
IsNamedVal (Local n) = IsNamed n
IsNamedVal (Global n) = IsWordName n

named_val : (ty : Ty) (v : RawVal) → IsValue ty v → IsNamedVal v
named_val ty (Num own n) h = tt
named_val ty (Local n) h = h
named_val ty (Global n) h = h.1

named_args : (args : List RawArg) → Each IsArg args → Each IsNamedVal (map arg_value args)
named_args [] h = tt
named_args (a ∷ args) h = (named_val a.ty a.val h.0, named_args args h.1)

named_entries : (ty : Ty) (es : List RawEntry) → Each (IsEntryOf ty) es → Each IsNamedVal (map entry_value es)
named_entries ty [] h = tt
named_entries ty (e ∷ es) h = (named_val ty e.val h.0.0, named_entries ty es h.1)

named_froms : (ty : Ty) (es : List RawEntry) → Each (IsEntryOf ty) es → Each IsNamed (map entry_block es)
named_froms ty [] h = tt
named_froms ty (e ∷ es) h = (h.0.1, named_froms ty es h.1)

local_named : (v : RawVal) → IsLocal v → IsNamedVal v
local_named (Num ty n) h = tt
local_named (Local n) h = h
local_named (Global n) h = absurd h

named_terms : (sizes : List ℕ) (items : List IndexItem) (terms : List RawIndex) → AreTerms sizes items terms → Each IsNamedVal (map index_value terms)
named_terms sizes [] [] h = tt
named_terms sizes [] (t ∷ terms) h = absurd (cc)
named_terms [] (item ∷ items) terms h = absurd h
named_terms (size ∷ sizes) (a_number v ∷ items) terms h = named_terms sizes items terms h
named_terms (size ∷ sizes) (a_local ty ∷ items) [] h = absurd h
named_terms (size ∷ sizes) (a_local ty ∷ items) (t ∷ terms) h = (local_named t.val h.0.2, named_terms sizes items terms h.1)

pub inst_values : (scale : Scale) (i : RawInst) → FitsInst scale i → Each IsNamedVal (values_of i)
inst_values scale (Alloca size head rest) h = tt
inst_values scale (Gep base offset head index rest) h = (named_val Ptr base h.0, tt)
inst_values scale (Step base offset terms head index rest) h = (named_val Ptr base h.0, named_terms scale.sizes scale.items terms h.2)
inst_values scale (Load ty ptr rest) h = (named_val Ptr ptr h.1, tt)
inst_values scale (Store ty val ptr rest) h = (named_val ty val h.1, (named_val Ptr ptr h.2, tt))
inst_values scale (Copy to from len head behind rest) h = (named_val to.ty to.val h.2, (named_val from.ty from.val h.3, tt))
inst_values scale (Call callee ret args head behind rest) h = named_args args h.2
inst_values scale (Bin op flags ty a b rest) h = (named_val ty a h.2, (named_val ty b h.3, tt))
inst_values scale (Cmp pred flags ty a b rest) h = (named_val ty a h.2, (named_val ty b h.3, tt))
inst_values scale (Select cond ty a b rest) h = (named_val I1 cond h.0, (named_val ty a h.1, (named_val ty b h.2, tt)))
inst_values scale (Cast op flags from a to rest) h = (named_val from a h.4, tt)
inst_values scale (Phi ty entries rest) h = named_entries ty entries h.1

pub inst_froms : (scale : Scale) (i : RawInst) → FitsInst scale i → Each IsNamed (inst_blocks i)
inst_froms scale (Alloca size head rest) h = tt
inst_froms scale (Gep base offset head index rest) h = tt
inst_froms scale (Step base offset terms head index rest) h = tt
inst_froms scale (Load ty ptr rest) h = tt
inst_froms scale (Store ty val ptr rest) h = tt
inst_froms scale (Copy to from len head behind rest) h = tt
inst_froms scale (Call callee ret args head behind rest) h = tt
inst_froms scale (Bin op flags ty a b rest) h = tt
inst_froms scale (Cmp pred flags ty a b rest) h = tt
inst_froms scale (Select cond ty a b rest) h = tt
inst_froms scale (Cast op flags from a to rest) h = tt
inst_froms scale (Phi ty entries rest) h = named_froms ty entries h.1

pub term_named : (t : RawTerm) → FitsTerm t → Each IsNamedVal (term_values t)
term_named (Br to rest) h = tt
term_named (CondBr cond if_true if_false rest) h = (named_val I1 cond h.0, tt)
term_named (Ret None rest) h = tt
term_named (Ret (Some given) rest) h = (named_val given.0 given.1 h.1, tt)
term_named (Unreachable rest) h = tt

pub term_froms : (t : RawTerm) → FitsTerm t → Each IsNamed (term_blocks t)
term_froms (Br to rest) h = (h, tt)
term_froms (CondBr cond if_true if_false rest) h = (h.1, (h.2, tt))
term_froms (Ret None rest) h = tt
term_froms (Ret (Some given) rest) h = tt
term_froms (Unreachable rest) h = tt

-- words among words
record FoundWord (words : List (List ℕ)) (w : List ℕ) : Type 0 where
  pub place : ℕ
  pub sought : seek (bytes_eq w) words ≡ Some place
  pub there : slice_get words place ≡ Some w

word_step : (w x : List ℕ) (xs : List (List ℕ)) (b : Bool) → bytes_eq w x ≡ b → (x ≡ w) ⊎ Among xs w → (Among xs w → FoundWord xs w) → FoundWord (x ∷ xs) w
word_step w x xs true t h more =
    record { place = 0; sought = ap (λ (b : Bool). if b then Some 0 else option_map suc (seek (bytes_eq w) xs)) t; there = ap Some (sym ((bytes_decides w x).0 t)) }
word_step w x xs false t h more = elim h [
  | inl e ↦ absurd (both_ways (bytes_eq w x) t (ap (bytes_eq w) e ∙ nat_list_eq_equiv.refl w))
  | inr later ↦
      let r = more later in
      record {
        place = suc r.place;
        sought = ap (λ (b : Bool). if b then Some 0 else option_map suc (seek (bytes_eq w) xs)) t ∙ ap (option_map suc) r.sought;
        there = r.there;
      }
]

found_word : (w : List ℕ) (words : List (List ℕ)) → Among words w → FoundWord words w
found_word w [] h = absurd h
found_word w (x ∷ xs) h = word_step w x xs (bytes_eq w x) refl h (λ later. found_word w xs later)

word_again : (words : List (List ℕ)) (w : List ℕ) → Among words w → word_at words (number_of_word words w) ≡ Word w
word_again words w h =
    let r = found_word w words h in
    let number : number_of_word words w ≡ r.place = ap or_first (seek_is (bytes_eq w) words ∙ r.sought) in
    ap (λ k. word_at words k) number ∙ ap (λ (o : Option (List ℕ)). Word (text_in o)) r.there

pub name_again : (words : List (List ℕ)) (n : Name) → IsWordName n → Among words (name_text n) → word_at words (number_of_word words (name_text n)) ≡ n
name_again words (Word w) h on = word_again words w on
name_again words (Number k) h on = absurd h
name_again words Absent h on = absurd h

known_word : (words : List (List ℕ)) (w : List ℕ) → (IsNotIn words w → ⊥) → Among words w
known_word words w h = ⊎_elim
    (λ (t : is_word_there words w ≡ true). there_word words w t)
    (λ (f : is_word_there words w ≡ false). absurd (h (λ i. both_ways (is_word_there words w) f (word_there_any words w (in_among words w i)))))
    (cases_Bool (is_word_there words w))

-- a symbol is a function or a global
item_named : (item : ItemLines) (sym : Symbol) → IsIn (item_symbols item) sym → IsIn (func_names_in item) sym.name ⊎ IsIn (global_names_in item) sym.name
item_named (plain n said.Empty) sym h = absurd (in_nil sym h)
item_named (plain n said.Close) sym h = absurd (in_nil sym h)
item_named (plain n (said.Kept t)) sym h = absurd (in_nil sym h)
item_named (plain n (said.Group g t)) sym h = absurd (in_nil sym h)
item_named (plain n (said.GlobalVar g t)) sym h = let e = in_one _ sym h in inr (subst (λ (z : List ℕ). IsIn (g ∷ []) z) (ap name_of_symbol e) (in_here g []))
item_named (plain n (said.Label l)) sym h = absurd (in_nil sym h)
item_named (plain n (said.Declare d)) sym h = let e = in_one _ sym h in inl (subst (λ (z : List ℕ). IsIn (d.name ∷ []) z) (ap name_of_symbol e) (in_here d.name []))
item_named (plain n (said.Define d)) sym h = absurd (in_nil sym h)
item_named (plain n (said.Inst r i)) sym h = absurd (in_nil sym h)
item_named (plain n (said.Term t)) sym h = absurd (in_nil sym h)
item_named (body l) sym h = let e = in_one _ sym h in inl (subst (λ (z : List ℕ). IsIn (l.head.name ∷ []) z) (ap name_of_symbol e) (in_here l.head.name []))

known_named : (items : List ItemLines) (name : List ℕ) → IsIn (map name_of_symbol (symbols_of items)) name
    → IsIn (flat_map func_names_in items) name ⊎ IsIn (flat_map global_names_in items) name
known_named items name h =
    let r = get_map name_of_symbol (symbols_of items) h.0 name h.1 in
    let w = in_flat item_symbols items r.0 (h.0, r.1) in
    ⊎_elim (λ (f : IsIn (func_names_in w.0) r.0.name). inl (subst (λ (z : List ℕ). IsIn (flat_map func_names_in items) z) r.2 (flat_in func_names_in items w.0 r.0.name w.1 f)))
    (λ (g : IsIn (global_names_in w.0) r.0.name). inr (subst (λ (z : List ℕ). IsIn (flat_map global_names_in items) z) r.2 (flat_in global_names_in items w.0 r.0.name w.1 g)))
    (item_named w.0 r.0 w.2)

-- what a line uses is made somewhere
abbrev pub known_symbols : List ItemLines → List (List ℕ)
known_symbols items = map name_of_symbol (symbols_of items)

pub local_known : (items : List ItemLines) (f : FuncLines) (n : ℕ) (used : Names) → NoNameFault items → IsIn items (body f) → StandsAt f n used → (q : Name) → IsNamed q → IsIn used.locals q → Among (locals_of f) q
local_known items f n used sound il stands q is_name on =
    known_name (locals_of f) q (named_same q is_name) (λ none. sound n (named.HasNameFault.inside f il (named.HasFaultIn.unknown used stands (named.UsesUnknown.local q on (λ first. none (first_local f q first))))))

pub block_known : (items : List ItemLines) (f : FuncLines) (n : ℕ) (used : Names) → NoNameFault items → IsIn items (body f) → StandsAt f n used → (q : Name) → IsNamed q → IsIn used.blocks q → Among (blocks_of f) q
block_known items f n used sound il stands q is_name on =
    known_name (blocks_of f) q (named_same q is_name) (λ none. sound n (named.HasNameFault.inside f il (named.HasFaultIn.unknown used stands (named.UsesUnknown.block q on (λ first. none (first_block f q first))))))

pub symbol_in : (items : List ItemLines) (f : FuncLines) (n : ℕ) (used : Names) → NoNameFault items → IsIn items (body f) → StandsAt f n used → (w : List ℕ) → IsIn used.symbols w → IsIn (known_symbols items) w
symbol_in items f n used sound il stands w on =
    among_in (known_symbols items) w
    (known_word (known_symbols items) w (λ none. sound n (named.HasNameFault.inside f il (named.HasFaultIn.unknown used stands (named.UsesUnknown.global w on none)))))

pub symbol_known : (items : List ItemLines) (f : FuncLines) (n : ℕ) (used : Names) → NoNameFault items → IsIn items (body f) → StandsAt f n used → (w : List ℕ) → IsIn used.symbols w →
    IsIn (names_of items).funcs w ⊎ IsIn (names_of items).globals w
symbol_known items f n used sound il stands w on = known_named items w (symbol_in items f n used sound il stands w on)

-- the bodies of a module
abbrev pub built : (List ℕ → Effects) → (List ℕ → Bool) → (List ℕ → ℕ) → List ItemLines → FuncLines → FuncState
built effects keeps spare items l = func_of (scope_of effects keeps items l) (spare l.head.name) l

bodies_are : (scope : FuncLines → Scope) (spare : List ℕ → ℕ) (items : List ItemLines)
    → flat_map body_there (flat_map (bodies_in scope spare) items) ≡ map (λ (l : FuncLines). func_of (scope l) (spare l.head.name) l) (funcs_of items)
bodies_are scope spare [] = refl
bodies_are scope spare (plain n said.Empty ∷ items) = bodies_are scope spare items
bodies_are scope spare (plain n said.Close ∷ items) = bodies_are scope spare items
bodies_are scope spare (plain n (said.Kept t) ∷ items) = bodies_are scope spare items
bodies_are scope spare (plain n (said.Group g t) ∷ items) = bodies_are scope spare items
bodies_are scope spare (plain n (said.GlobalVar g t) ∷ items) = bodies_are scope spare items
bodies_are scope spare (plain n (said.Label l) ∷ items) = bodies_are scope spare items
bodies_are scope spare (plain n (said.Declare h) ∷ items) = bodies_are scope spare items
bodies_are scope spare (plain n (said.Define h) ∷ items) = bodies_are scope spare items
bodies_are scope spare (plain n (said.Inst r i) ∷ items) = bodies_are scope spare items
bodies_are scope spare (plain n (said.Term t) ∷ items) = bodies_are scope spare items
bodies_are scope spare (body l ∷ items) = ap (λ (xs : List FuncState). func_of (scope l) (spare l.head.name) l ∷ xs) (bodies_are scope spare items)

pub bodies_built : (effects : List ℕ → Effects) (keeps : List ℕ → Bool) (spare : List ℕ → ℕ) (items : List ItemLines) →
    bodies_there (module_of effects keeps spare items) ≡ map (built effects keeps spare items) (funcs_of items)
bodies_built effects keeps spare items = bodies_are (scope_of effects keeps items) spare items

pub body_at : (effects : List ℕ → Effects) (keeps : List ℕ → Bool) (spare : List ℕ → ℕ) (items : List ItemLines) (p : ℕ) (l : FuncLines) → slice_get (funcs_of items) p ≡ Some l →
    IsBody items (module_of effects keeps spare items) l (built effects keeps spare items l)
body_at effects keeps spare items p l e = record {
  place = p;
  lines_are = e;
  body_is = ap (λ (xs : List FuncState). slice_get xs p) (bodies_built effects keeps spare items) ∙ map_get (built effects keeps spare items) (funcs_of items) p l e;
}

func_item : (item : ItemLines) (l : FuncLines) → IsIn (body_in item) l → item ≡ body l
func_item (plain n line) l h = absurd (in_nil l h)
func_item (body k) l h = ap body (in_one k l h)

pub func_in : (items : List ItemLines) (p : ℕ) (l : FuncLines) → slice_get (funcs_of items) p ≡ Some l → IsIn items (body l)
func_in items p l e =
    let w = in_flat body_in items l (p, e) in
    subst (λ (z : ItemLines). IsIn items z) (func_item w.0 l w.2) w.1

pub func_there : (items : List ItemLines) (l : FuncLines) → IsIn items (body l) → IsIn (funcs_of items) l
func_there items l h = flat_in body_in items (body l) l h (in_here l [])
