-- Lines with other names of locals and blocks are in the grammar and within its limits, where those are names and short.
use Rattle.std.proofs.Common.{◌≡◌, ℕ, Bool, true, false, List, [], ◌∷◌, ◌++◌, Some, None, map, if◌then◌else◌, refl, sym, ap, subst, ◌∙◌, arith}
use Rattle.std.specs.List.{flat_map}
use Rattle.ms_ir.specs.declared.names.Ty.{Ty}
use Rattle.ms_ir.specs.declared.names.Ty.TheVariants.{I1, Ptr}
use Rattle.ms_ir.specs.declared.names.Name.{Name}
use Rattle.ms_ir.specs.declared.names.Name.TheVariants as name
use Rattle.ms_ir.specs.declared.names.Param.{Param}
use Rattle.ms_grammar.specs.Kept.{Each, IndexItem}
use Rattle.ms_grammar.specs.Kept.IndexItem.{constant as a_number, term as a_local}
use Rattle.ms_grammar.specs.Form.{Scale, name_text, printed}
use Rattle.ms_grammar.specs.Fits.{IsNamed, MayBeNamed, IsValue, IsArg, IsParam, IsEntryOf, IsLocal, AreTerms, FitsInst, FitsTerm, IsMade}
use Rattle.ms_grammar.specs.Limits.{IsShort, names_of_value, names_of_arg, names_of_param, names_of_entry, names_of_index, names_of_inst, names_of_term, IsSmallTerm, IsSmallInst, IsWithinLimits}
use Rattle.ms_grammar.specs.Grammar.{Says, kept_of, without_name}
use Rattle.ms_grammar.specs.declared.line.Head.{Head}
use Rattle.ms_grammar.specs.declared.line.Line.{Line}
use Rattle.ms_grammar.specs.declared.line.Line.TheVariants as said
use Rattle.ms_grammar.specs.declared.line.RawVal.{RawVal}
use Rattle.ms_grammar.specs.declared.line.RawVal.TheVariants.{Num, Local, Global}
use Rattle.ms_grammar.specs.declared.line.RawArg.{RawArg}
use Rattle.ms_grammar.specs.declared.line.RawEntry.{RawEntry}
use Rattle.ms_grammar.specs.declared.line.RawIndex.{RawIndex}
use Rattle.ms_grammar.specs.declared.line.RawInst.{RawInst}
use Rattle.ms_grammar.specs.declared.line.RawInst.TheVariants.{Alloca, Gep, Step, Load, Store, Copy, Call, Bin, Cmp, Select, Cast, Phi}
use Rattle.ms_grammar.specs.declared.line.RawTerm.{RawTerm}
use Rattle.ms_grammar.specs.declared.line.RawTerm.TheVariants.{Br, CondBr, Ret, Unreachable}
use Rattle.ms_line.specs.Cause.{IsRead}
use Rattle.ms_line.proofs.Again.{kept_within}
use Rattle.ms_print.specs.Numbering.{shown_params}
use Rattle.ms_resolve.specs.Made.{makes}
use Rattle.ms_resolve.specs.Used.{values_of, term_values, inst_blocks, term_blocks, arg_value, index_value, entry_value, entry_block}
use Rattle.ms_again.proofs.Renaming.{Renaming, renamed_val, renamed_arg, renamed_entry, renamed_index, renamed_inst, renamed_term}
use Rattle.ms_again.proofs.Renamed.{with_params, define_back, inst_line_back, term_line_back, label_line_back}
use Rattle.ms_again.proofs.Quiet.{IsPrinted, printed_by, kept_printed}

-- a line that is said by its printed form, one row, within the limits
pub record IsFine (l : Line) : Type 0 where
  pub whole : IsPrinted l
  pub within : IsWithinLimits l

-- a name that a line may have, within the limits
abbrev pub IsGood : Name → Type 0
IsGood n = IsNamed n × IsShort (name_text n)

abbrev pub IsGoodVal : Renaming → RawVal → Type 0
IsGoodVal r (Num ty n) = Unit {0}
IsGoodVal r (Local n) = IsGood (r.local n)
IsGoodVal r (Global n) = Unit {0}

abbrev pub IsGoodBlock : Renaming → Name → Type 0
IsGoodBlock r n = IsGood (r.block n)

-- the same without limits
abbrev pub IsFitVal : Renaming → RawVal → Type 0
IsFitVal r (Num ty n) = Unit {0}
IsFitVal r (Local n) = IsNamed (r.local n)
IsFitVal r (Global n) = Unit {0}

abbrev pub IsFitBlock : Renaming → Name → Type 0
IsFitBlock r n = IsNamed (r.block n)

fit_val : (r : Renaming) (v : RawVal) → IsGoodVal r v → IsFitVal r v
fit_val r (Num ty n) h = tt
fit_val r (Local n) h = h.0
fit_val r (Global n) h = tt

fit_vals : (r : Renaming) (vs : List RawVal) → Each (IsGoodVal r) vs → Each (IsFitVal r) vs
fit_vals r [] h = tt
fit_vals r (v ∷ vs) h = (fit_val r v h.0, fit_vals r vs h.1)

fit_blocks : (r : Renaming) (ns : List Name) → Each (IsGoodBlock r) ns → Each (IsFitBlock r) ns
fit_blocks r [] h = tt
fit_blocks r (n ∷ ns) h = (h.0.0, fit_blocks r ns h.1)

-- members of lists
pub each_join : {X : Type 0} (P : X → Type 0) (xs ys : List X) → Each P xs → Each P ys → Each P (xs ++ ys)
each_join P [] ys a b = b
each_join P (x ∷ xs) ys a b = (a.0, each_join P xs ys a.1 b)

pub each_first : {X : Type 0} (P : X → Type 0) (xs ys : List X) → Each P (xs ++ ys) → Each P xs
each_first P [] ys h = tt
each_first P (x ∷ xs) ys h = (h.0, each_first P xs ys h.1)

pub each_second : {X : Type 0} (P : X → Type 0) (xs ys : List X) → Each P (xs ++ ys) → Each P ys
each_second P [] ys h = h
each_second P (x ∷ xs) ys h = each_second P xs ys h.1

-- values
fits_val : (r : Renaming) (ty : Ty) (v : RawVal) → IsValue ty v → IsFitVal r v → IsValue ty (renamed_val r v)
fits_val r ty (Num own n) h g = h
fits_val r ty (Local n) h g = g
fits_val r ty (Global n) h g = h

fits_args : (r : Renaming) (args : List RawArg) → Each IsArg args → Each (IsFitVal r) (map arg_value args) → Each IsArg (map (renamed_arg r) args)
fits_args r [] h g = tt
fits_args r (a ∷ args) h g = (fits_val r a.ty a.val h.0 g.0, fits_args r args h.1 g.1)

fits_entries : (r : Renaming) (ty : Ty) (es : List RawEntry) → Each (IsEntryOf ty) es → Each (IsFitVal r) (map entry_value es) → Each (IsFitBlock r) (map entry_block es) →
    Each (IsEntryOf ty) (map (renamed_entry r) es)
fits_entries r ty [] h g b = tt
fits_entries r ty (e ∷ es) h g b = ((fits_val r ty e.val h.0.0 g.0, b.0), fits_entries r ty es h.1 g.1 b.1)

some_entries : (r : Renaming) (es : List RawEntry) → (es ≡ [] → ⊥) → map (renamed_entry r) es ≡ [] → ⊥
some_entries r [] h e = h refl
some_entries r (x ∷ es) h e = absurd (cc)

fits_local : (r : Renaming) (v : RawVal) → IsLocal v → IsFitVal r v → IsLocal (renamed_val r v)
fits_local r (Num ty n) h g = h
fits_local r (Local n) h g = g
fits_local r (Global n) h g = h

fits_terms : (r : Renaming) (sizes : List ℕ) (items : List IndexItem) (terms : List RawIndex) → AreTerms sizes items terms → Each (IsFitVal r) (map index_value terms) →
    AreTerms sizes items (map (renamed_index r) terms)
fits_terms r sizes [] [] h g = refl
fits_terms r sizes [] (t ∷ terms) h g = absurd (cc)
fits_terms r [] (item ∷ items) terms h g = absurd h
fits_terms r (size ∷ sizes) (a_number v ∷ items) terms h g = fits_terms r sizes items terms h g
fits_terms r (size ∷ sizes) (a_local ty ∷ items) [] h g = absurd h
fits_terms r (size ∷ sizes) (a_local ty ∷ items) (t ∷ terms) h g = ((h.0.0, h.0.1, fits_local r t.val h.0.2 g.0), fits_terms r sizes items terms h.1 g.1)

some_terms : (r : Renaming) (terms : List RawIndex) → (terms ≡ [] → ⊥) → map (renamed_index r) terms ≡ [] → ⊥
some_terms r [] h e = h refl
some_terms r (t ∷ terms) h e = absurd (cc)

pub fits_inst : (r : Renaming) (scale : Scale) (i : RawInst) → FitsInst scale i → Each (IsFitVal r) (values_of i) → Each (IsFitBlock r) (inst_blocks i) → FitsInst scale (renamed_inst r i)
fits_inst r scale (Alloca size head rest) h g b = h
fits_inst r scale (Gep base offset head index rest) h g b = (fits_val r Ptr base h.0 g.0, h.1, h.2)
fits_inst r scale (Step base offset terms head index rest) h g b =
    (fits_val r Ptr base h.0 g.0, some_terms r terms h.1, fits_terms r scale.sizes scale.items terms h.2 g.1, h.3)
fits_inst r scale (Load ty ptr rest) h g b = (h.0, fits_val r Ptr ptr h.1 g.0)
fits_inst r scale (Store ty val ptr rest) h g b = (h.0, fits_val r ty val h.1 g.0, fits_val r Ptr ptr h.2 g.1.0)
fits_inst r scale (Copy to from len head behind rest) h g b = (h.0, h.1, fits_val r to.ty to.val h.2 g.0, fits_val r from.ty from.val h.3 g.1.0)
fits_inst r scale (Call callee ret args head behind rest) h g b = (h.0, h.1, fits_args r args h.2 g)
fits_inst r scale (Bin op flags ty x y rest) h g b = (h.0, h.1, fits_val r ty x h.2 g.0, fits_val r ty y h.3 g.1.0)
fits_inst r scale (Cmp pred flags ty x y rest) h g b = (h.0, h.1, fits_val r ty x h.2 g.0, fits_val r ty y h.3 g.1.0)
fits_inst r scale (Select cond ty x y rest) h g b = (fits_val r I1 cond h.0 g.0, fits_val r ty x h.1 g.1.0, fits_val r ty y h.2 g.1.1.0)
fits_inst r scale (Cast op flags from x to rest) h g b = (h.0, h.1, h.2, h.3, fits_val r from x h.4 g.0)
fits_inst r scale (Phi ty entries rest) h g b = (some_entries r entries h.0, fits_entries r ty entries h.1 g b)

pub fits_term : (r : Renaming) (t : RawTerm) → FitsTerm t → Each (IsFitVal r) (term_values t) → Each (IsFitBlock r) (term_blocks t) → FitsTerm (renamed_term r t)
fits_term r (Br to rest) h g b = b.0
fits_term r (CondBr cond if_true if_false rest) h g b = (fits_val r I1 cond h.0 g.0, b.0, b.1.0)
fits_term r (Ret None rest) h g b = h
fits_term r (Ret (Some given) rest) h g b = (h.0, fits_val r given.0 given.1 h.1 g.0)
fits_term r (Unreachable rest) h g b = h

-- the name of a result, and none where there is no result
abbrev pub made_name : RawInst → Name → Name
made_name i n = if makes i then n else name.Absent

good_made : (n : Name) → IsNamed n → MayBeNamed n
good_made (name.Word text) h = h
good_made (name.Number n) h = h
good_made name.Absent h = tt

pub fits_made : (r : Renaming) (i : RawInst) (n : Name) → (makes i ≡ true → IsNamed n) → IsMade (made_name i n) (renamed_inst r i)
fits_made r (Alloca size head rest) n h = h refl
fits_made r (Gep base offset head index rest) n h = h refl
fits_made r (Step base offset terms head index rest) n h = h refl
fits_made r (Load ty ptr rest) n h = h refl
fits_made r (Store ty val ptr rest) n h = refl
fits_made r (Copy to from len head behind rest) n h = refl
fits_made r (Call callee None args head behind rest) n h = refl
fits_made r (Call callee (Some ret) args head behind rest) n h = good_made n (h refl)
fits_made r (Bin op flags ty x y rest) n h = h refl
fits_made r (Cmp pred flags ty x y rest) n h = h refl
fits_made r (Select cond ty x y rest) n h = h refl
fits_made r (Cast op flags from x to rest) n h = h refl
fits_made r (Phi ty entries rest) n h = h refl

pub named_made : (b : Bool) (n : Name) → (b ≡ true → IsNamed n) → MayBeNamed (if b then n else name.Absent)
named_made true n h = good_made n (h refl)
named_made false n h = tt

short_made : (b : Bool) (n : Name) → (b ≡ true → IsGood n) → IsShort (name_text (if b then n else name.Absent))
short_made true n h = (h refl).1
short_made false n h = omega arith

-- limits
abbrev Shorts : List (List ℕ) → Type 0
Shorts names = Each IsShort names

short_val : (r : Renaming) (v : RawVal) → Shorts (names_of_value v) → IsGoodVal r v → Shorts (names_of_value (renamed_val r v))
short_val r (Num ty n) h g = tt
short_val r (Local n) h g = (g.1, tt)
short_val r (Global n) h g = h

short_two : (r : Renaming) (a b : RawVal) → Shorts (names_of_value a ++ names_of_value b) → IsGoodVal r a → IsGoodVal r b →
    Shorts (names_of_value (renamed_val r a) ++ names_of_value (renamed_val r b))
short_two r a b h g k =
    each_join IsShort (names_of_value (renamed_val r a)) (names_of_value (renamed_val r b))
    (short_val r a (each_first IsShort (names_of_value a) (names_of_value b) h) g) (short_val r b (each_second IsShort (names_of_value a) (names_of_value b) h) k)

short_args : (r : Renaming) (args : List RawArg) → Shorts (flat_map names_of_arg args) → Each (IsGoodVal r) (map arg_value args) → Shorts (flat_map names_of_arg (map (renamed_arg r) args))
short_args r [] h g = tt
short_args r (a ∷ args) h g =
    each_join IsShort (names_of_value (renamed_val r a.val)) (flat_map names_of_arg (map (renamed_arg r) args))
    (short_val r a.val (each_first IsShort (names_of_value a.val) (flat_map names_of_arg args) h) g.0)
    (short_args r args (each_second IsShort (names_of_value a.val) (flat_map names_of_arg args) h) g.1)

short_entries : (r : Renaming) (es : List RawEntry) → Shorts (flat_map names_of_entry es) → Each (IsGoodVal r) (map entry_value es) → Each (IsGoodBlock r) (map entry_block es) →
    Shorts (flat_map names_of_entry (map (renamed_entry r) es))
short_entries r [] h g b = tt
short_entries r (e ∷ es) h g b =
    let rest = h.1 in (
      b.0.1,
      each_join IsShort (names_of_value (renamed_val r e.val)) (flat_map names_of_entry (map (renamed_entry r) es))
          (short_val r e.val (each_first IsShort (names_of_value e.val) (flat_map names_of_entry es) rest) g.0)
          (short_entries r es (each_second IsShort (names_of_value e.val) (flat_map names_of_entry es) rest) g.1 b.1),
    )

short_terms : (r : Renaming) (terms : List RawIndex) → Shorts (flat_map names_of_index terms) → Each (IsGoodVal r) (map index_value terms) → Shorts (flat_map names_of_index (map (renamed_index r) terms))
short_terms r [] h g = tt
short_terms r (t ∷ terms) h g =
    each_join IsShort (names_of_value (renamed_val r t.val)) (flat_map names_of_index (map (renamed_index r) terms))
    (short_val r t.val (each_first IsShort (names_of_value t.val) (flat_map names_of_index terms) h) g.0)
    (short_terms r terms (each_second IsShort (names_of_value t.val) (flat_map names_of_index terms) h) g.1)

short_inst : (r : Renaming) (i : RawInst) → Shorts (names_of_inst i) → Each (IsGoodVal r) (values_of i) → Each (IsGoodBlock r) (inst_blocks i) → Shorts (names_of_inst (renamed_inst r i))
short_inst r (Alloca size head rest) h g b = tt
short_inst r (Gep base offset head index rest) h g b = short_val r base h g.0
short_inst r (Step base offset terms head index rest) h g b =
    each_join IsShort (names_of_value (renamed_val r base)) (flat_map names_of_index (map (renamed_index r) terms))
    (short_val r base (each_first IsShort (names_of_value base) (flat_map names_of_index terms) h) g.0)
    (short_terms r terms (each_second IsShort (names_of_value base) (flat_map names_of_index terms) h) g.1)
short_inst r (Load ty ptr rest) h g b = short_val r ptr h g.0
short_inst r (Store ty val ptr rest) h g b = short_two r val ptr h g.0 g.1.0
short_inst r (Copy to from len head behind rest) h g b = short_two r to.val from.val h g.0 g.1.0
short_inst r (Call callee ret args head behind rest) h g b = (h.0, short_args r args h.1 g)
short_inst r (Bin op flags ty x y rest) h g b = short_two r x y h g.0 g.1.0
short_inst r (Cmp pred flags ty x y rest) h g b = short_two r x y h g.0 g.1.0
short_inst r (Select cond ty x y rest) h g b =
    each_join IsShort (names_of_value (renamed_val r cond) ++ names_of_value (renamed_val r x)) (names_of_value (renamed_val r y))
    (short_two r cond x (each_first IsShort (names_of_value cond ++ names_of_value x) (names_of_value y) h) g.0 g.1.0)
    (short_val r y (each_second IsShort (names_of_value cond ++ names_of_value x) (names_of_value y) h) g.1.1.0)
short_inst r (Cast op flags from x to rest) h g b = short_val r x h g.0
short_inst r (Phi ty entries rest) h g b = short_entries r entries h g b

short_term : (r : Renaming) (t : RawTerm) → Shorts (names_of_term t) → Each (IsGoodVal r) (term_values t) → Each (IsGoodBlock r) (term_blocks t) → Shorts (names_of_term (renamed_term r t))
short_term r (Br to rest) h g b = (b.0.1, tt)
short_term r (CondBr cond if_true if_false rest) h g b = (b.0.1, (b.1.0.1, short_val r cond h.1.1 g.0))
short_term r (Ret None rest) h g b = tt
short_term r (Ret (Some given) rest) h g b = short_val r given.1 h g.0
short_term r (Unreachable rest) h g b = tt

small_terms : (r : Renaming) (terms : List RawIndex) → Each IsSmallTerm terms → Each IsSmallTerm (map (renamed_index r) terms)
small_terms r [] h = tt
small_terms r (t ∷ terms) h = (h.0, small_terms r terms h.1)

small_inst : (r : Renaming) (i : RawInst) → IsSmallInst i → IsSmallInst (renamed_inst r i)
small_inst r (Alloca size head rest) h = h
small_inst r (Gep base offset head index rest) h = h
small_inst r (Step base offset terms head index rest) h = (h.0, small_terms r terms h.1)
small_inst r (Load ty ptr rest) h = tt
small_inst r (Store ty val ptr rest) h = tt
small_inst r (Copy to from len head behind rest) h = h
small_inst r (Call callee ret args head behind rest) h = tt
small_inst r (Bin op flags ty x y rest) h = tt
small_inst r (Cmp pred flags ty x y rest) h = tt
small_inst r (Select cond ty x y rest) h = tt
small_inst r (Cast op flags from x to rest) h = tt
small_inst r (Phi ty entries rest) h = tt

-- each line again
pub inst_printed : (r : Renaming) (n m : Name) (bytes : List ℕ) (i : RawInst) → Says bytes (said.Inst n i) → Each (IsFitVal r) (values_of i) → Each (IsFitBlock r) (inst_blocks i) → (makes i ≡ true → IsNamed m) →
    IsPrinted (said.Inst (made_name i m) (renamed_inst r i))
inst_printed r n m bytes i says g b named =
    let fits = fits_inst r says.scale i says.fits.1 g b in
    printed_by bytes (said.Inst n i) (said.Inst (made_name i m) (renamed_inst r i)) says
    (inst_line_back r n (made_name i m) says.scale i (named_made (makes i) m named) fits) (fits_made r i m named, fits)

pub term_printed : (r : Renaming) (bytes : List ℕ) (t : RawTerm) → Says bytes (said.Term t) → Each (IsFitVal r) (term_values t) → Each (IsFitBlock r) (term_blocks t) → IsPrinted (said.Term (renamed_term r t))
term_printed r bytes t says g b =
    let fits = fits_term r t says.fits g b in
    printed_by bytes (said.Term t) (said.Term (renamed_term r t)) says (term_line_back r says.scale t fits) fits

pub inst_fine : (r : Renaming) (n m : Name) (i : RawInst) → IsFine (said.Inst n i) → Each (IsGoodVal r) (values_of i) → Each (IsGoodBlock r) (inst_blocks i) → (makes i ≡ true → IsGood m) →
    IsFine (said.Inst (made_name i m) (renamed_inst r i))
inst_fine r n m i h g b good =
    let says = h.whole.says in
    record {
      whole = inst_printed r n m (printed (said.Inst n i)) i says (fit_vals r (values_of i) g) (fit_blocks r (inst_blocks i) b) (λ e. (good e).0);
      within = ((short_made (makes i) m good, short_inst r i h.within.0.1 g b), small_inst r i h.within.1);
    }

pub term_fine : (r : Renaming) (t : RawTerm) → IsFine (said.Term t) → Each (IsGoodVal r) (term_values t) → Each (IsGoodBlock r) (term_blocks t) → IsFine (said.Term (renamed_term r t))
term_fine r t h g b =
    record {
      whole = term_printed r (printed (said.Term t)) t h.whole.says (fit_vals r (term_values t) g) (fit_blocks r (term_blocks t) b);
      within = (short_term r t h.within.0 g b, tt);
    }

pub label_fine : (n m : Name) → IsFine (said.Label n) → IsGood m → IsFine (said.Label m)
label_fine n m h good =
    let says = h.whole.says in
    record {
      whole = printed_by (printed (said.Label n)) (said.Label n) (said.Label m) says (label_line_back says.scale n m good.0) good.0;
      within = ((good.1, tt), tt);
    }

abbrev pub IsGoodParam : Param → Type 0
IsGoodParam p = IsGood p.name

good_params : (ps : List Param) → Each IsGoodParam ps → Each IsParam ps
good_params [] h = tt
good_params (p ∷ ps) h = (good_made p.name h.0.0, good_params ps h.1)

short_params : (ps : List Param) → Each IsGoodParam ps → Shorts (flat_map names_of_param ps)
short_params [] h = tt
short_params (p ∷ ps) h = (h.0.1, short_params ps h.1)

pub define_fine : (head : Head) → IsFine (said.Define head) → Each IsGoodParam (shown_params 0 head.params) → IsFine (said.Define (with_params head))
define_fine head h good =
    let says = h.whole.says in
    let named = good_params (shown_params 0 head.params) good in
    record {
      whole = printed_by (printed (said.Define head)) (said.Define head) (said.Define (with_params head)) says (define_back head says.fits.0 named says.scale)
          ((says.fits.0.0, named), says.fits.1, says.fits.2);
      within = ((h.within.0.0, short_params (shown_params 0 head.params) good), tt);
    }

pub read_fine : (row : List ℕ) (l : Line) → IsRead row l → IsFine l
read_fine row l h =
    let fine : IsFine (kept_of h.written) = record { whole = kept_printed row h.written h.says; within = kept_within h.written h.within } in
    subst (λ x. IsFine x) (sym h.kept) fine

-- a line that is kept whole
kept_twice : (w : Line) → kept_of (kept_of w) ≡ kept_of w
kept_twice (said.Declare head) = ap (λ ps. let h : Head = record head { params = ps } in said.Declare h) (bare_twice head.params)
  where
    bare_twice : (ps : List Param) → map without_name (map without_name ps) ≡ map without_name ps
    bare_twice [] = refl
    bare_twice (p ∷ ps) = ap (λ rest. without_name p ∷ rest) (bare_twice ps)
kept_twice said.Empty = refl
kept_twice said.Close = refl
kept_twice (said.Kept text) = refl
kept_twice (said.Group n text) = refl
kept_twice (said.GlobalVar name text) = refl
kept_twice (said.Label n) = refl
kept_twice (said.Define head) = refl
kept_twice (said.Inst n inst) = refl
kept_twice (said.Term term) = refl

pub read_kept : (row : List ℕ) (l : Line) → IsRead row l → kept_of l ≡ l
read_kept row l h = ap kept_of h.kept ∙ kept_twice h.written ∙ sym h.kept
