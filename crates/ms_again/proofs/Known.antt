-- In a module without faults each global variable that a line uses is one, and each function that it calls is one.
use Rattle.std.proofs.Common.{◌≡◌, ⊎_elim, ℕ, Bool, List, [], Some, length, refl}
use Rattle.std.specs.Prelude.{slice_get}
use Rattle.std.specs.List.{flat_map}
use Rattle.ms_ir.specs.declared.names.Name.{Name}
use Rattle.ms_ir.specs.declared.inst.Effects.{Effects}
use Rattle.ms_grammar.specs.Kept.{Each}
use Rattle.ms_grammar.specs.Form.{Scale, name_text}
use Rattle.ms_grammar.specs.Fits.{IsWordName, FitsInst, FitsTerm}
use Rattle.ms_grammar.specs.declared.line.Line.{Line}
use Rattle.ms_grammar.specs.declared.line.RawVal.{RawVal}
use Rattle.ms_grammar.specs.declared.line.RawVal.TheVariants.{Num, Local, Global}
use Rattle.ms_grammar.specs.declared.line.RawInst.{RawInst}
use Rattle.ms_grammar.specs.declared.line.RawInst.TheVariants.{Alloca, Gep, Step, Load, Store, Copy, Call, Bin, Cmp, Select, Cast, Phi}
use Rattle.ms_resolve.specs.Shape.{InstLine, BlockLines, FuncLines, ItemLines, plain, body}
use Rattle.ms_resolve.specs.Used.{values_of, term_values, callee_of, global_of, inst_names, term_names}
use Rattle.ms_resolve.specs.Faults.{IsIn, StandsAt}
use Rattle.ms_resolve.specs.Faults as named
use Rattle.ms_resolve.specs.Cause.{NoNameFault}
use Rattle.ms_resolve.specs.Module.{names_of, scope_of, funcs_of, module_of}
use Rattle.ms_resolve.proofs.Members.{in_among}
use Rattle.ms_validity.specs.Cause.{HasNone}
use Rattle.ms_validity.specs.Faults.{HasInst, HasTerm, HasTypeFault}
use Rattle.ms_validity.specs.Faults as valid
use Rattle.ms_validity.proofs.BuiltLemmas.{at_built, from_term}
use Rattle.ms_validity.proofs.ListLemmas.{in_here, in_left, in_right, flat_in}
use Rattle.ms_again.proofs.Quiet.{IsPrinted}
use Rattle.ms_again.proofs.Printed.{IsKnownVal, IsKnownCall, IsKnownInst, IsKnownBlock, IsKnownFunc, IsKnownItem}
use Rattle.ms_again.proofs.Sites.{each_at, at_each, IsBlockBy, IsFuncBy, IsNamedVal, inst_values, term_named, name_again, symbol_known, built, body_at, func_in, func_there}

-- a module without faults in names and types, seen at one function
pub record IsSound (effects : List ℕ → Effects) (keeps : List ℕ → Bool) (spare : List ℕ → ℕ) (items : List ItemLines) : Type 0 where
  pub names : NoNameFault items
  pub types : HasNone (HasTypeFault items (module_of effects keeps spare items))

global_by : (items : List ItemLines) (n : Name) → IsWordName n → IsIn (names_of items).globals (name_text n) → IsKnownVal (names_of items) (Global n)
global_by items n word on = name_again (names_of items).globals n word (in_among (names_of items).globals (name_text n) on)

val_by : (items : List ItemLines) (vals : List RawVal) → ((w : List ℕ) → IsIn (flat_map global_of vals) w → IsIn (names_of items).globals w) → (v : RawVal) → IsNamedVal v → IsIn vals v → IsKnownVal (names_of items) v
val_by items vals known (Num ty n) h on = tt
val_by items vals known (Local n) h on = tt
val_by items vals known (Global n) h on = global_by items n h (known (name_text n) (flat_in global_of vals (Global n) (name_text n) on (in_here (name_text n) [])))

vals_by : (items : List ItemLines) (vals : List RawVal) → ((w : List ℕ) → IsIn (flat_map global_of vals) w → IsIn (names_of items).globals w) → Each IsNamedVal vals → Each (IsKnownVal (names_of items)) vals
vals_by items vals known h = each_at (IsKnownVal (names_of items)) vals (λ k v e. val_by items vals known v (at_each IsNamedVal vals k v h e) (k, e))

callee_by : (items : List ItemLines) (scale : Scale) (i : RawInst) → FitsInst scale i → ((w : List ℕ) → IsIn (callee_of i) w → IsIn (names_of items).funcs w) → IsKnownCall (names_of items) i
callee_by items scale (Alloca size head rest) h known = tt
callee_by items scale (Gep base offset head index rest) h known = tt
callee_by items scale (Step base offset terms head index rest) h known = tt
callee_by items scale (Load ty ptr rest) h known = tt
callee_by items scale (Store ty val ptr rest) h known = tt
callee_by items scale (Copy to from len head behind rest) h known = tt
callee_by items scale (Call callee ret args head behind rest) h known =
    name_again (names_of items).funcs callee h.0.0 (in_among (names_of items).funcs (name_text callee) (known (name_text callee) (in_here (name_text callee) [])))
callee_by items scale (Bin op flags ty a b rest) h known = tt
callee_by items scale (Cmp pred flags ty a b rest) h known = tt
callee_by items scale (Select cond ty a b rest) h known = tt
callee_by items scale (Cast op flags from a to rest) h known = tt
callee_by items scale (Phi ty entries rest) h known = tt

inst_known : (effects : List ℕ → Effects) (keeps : List ℕ → Bool) (spare : List ℕ → ℕ) (items : List ItemLines) → IsSound effects keeps spare items → (p : ℕ) (f : FuncLines) → slice_get (funcs_of items) p ≡ Some f →
    (b k : ℕ) (block : BlockLines) (x : InstLine) → slice_get f.blocks b ≡ Some block → slice_get block.insts k ≡ Some x → (scale : Scale) → FitsInst scale x.inst → IsKnownInst (names_of items) x.inst
inst_known effects keeps spare items sound p f at b k block x block_is line_is scale fits =
    let m = module_of effects keeps spare items in
    let body = body_at effects keeps spare items p f at in
    let made = at_built (scope_of effects keeps items f) 0 0 (length f.head.params) f.blocks b k block x block_is line_is in
    let here : HasInst f (built effects keeps spare items f) x.line b k x made.0 =
    record { block = block; block_is = block_is; line_is = line_is; inst_is = made.1; on = refl } in
    let stands : StandsAt f x.line (inst_names x.inst) = named.StandsAt.inst block x (b, block_is) (k, line_is) refl refl in
    let il = func_in items p f at in
    record {
      values = vals_by items (values_of x.inst)
          (λ w on. ⊎_elim
          (λ (g : IsIn (names_of items).funcs w). absurd (sound.types x.line (record { lines = f; f = built effects keeps spare items f; body = body; fault = valid.HasTypeFaultIn.func_operand b k x made.0 w here on g })))
          (λ (g : IsIn (names_of items).globals w). g)
          (symbol_known items f x.line (inst_names x.inst) sound.names il stands w (in_left (flat_map global_of (values_of x.inst)) (callee_of x.inst) w on)))
          (inst_values scale x.inst fits);
      callee = callee_by items scale x.inst fits
          (λ w on. ⊎_elim
          (λ (g : IsIn (names_of items).funcs w). g)
          (λ (g : IsIn (names_of items).globals w). absurd (sound.types x.line (record { lines = f; f = built effects keeps spare items f; body = body; fault = valid.HasTypeFaultIn.global_called b k x made.0 w here on g })))
          (symbol_known items f x.line (inst_names x.inst) sound.names il stands w (in_right (flat_map global_of (values_of x.inst)) (callee_of x.inst) w on)));
    }

term_known : (effects : List ℕ → Effects) (keeps : List ℕ → Bool) (spare : List ℕ → ℕ) (items : List ItemLines) → IsSound effects keeps spare items → (p : ℕ) (f : FuncLines) → slice_get (funcs_of items) p ≡ Some f →
    (b : ℕ) (block : BlockLines) → slice_get f.blocks b ≡ Some block → FitsTerm block.end.term → Each (IsKnownVal (names_of items)) (term_values block.end.term)
term_known effects keeps spare items sound p f at b block block_is fits =
    let m = module_of effects keeps spare items in
    let body = body_at effects keeps spare items p f at in
    let made = from_term (scope_of effects keeps items f) 0 0 (length f.head.params) f.blocks b block block_is in
    let here : HasTerm f (built effects keeps spare items f) block.end.line b block made.0 = record { block_is = block_is; term_is = made.1; on = refl } in
    let stands : StandsAt f block.end.line (term_names block.end.term) = named.StandsAt.term block (b, block_is) refl refl in
    let il = func_in items p f at in
    vals_by items (term_values block.end.term)
    (λ w on. ⊎_elim
    (λ (g : IsIn (names_of items).funcs w). absurd (sound.types block.end.line (record { lines = f; f = built effects keeps spare items f; body = body; fault = valid.HasTypeFaultIn.func_returned b block made.0 w here on g })))
    (λ (g : IsIn (names_of items).globals w). g)
    (symbol_known items f block.end.line (term_names block.end.term) sound.names il stands w on))
    (term_named block.end.term fits)

func_known : (effects : List ℕ → Effects) (keeps : List ℕ → Bool) (spare : List ℕ → ℕ) (items : List ItemLines) → IsSound effects keeps spare items → (p : ℕ) (f : FuncLines) → slice_get (funcs_of items) p ≡ Some f →
    IsFuncBy IsPrinted f → IsKnownFunc (names_of items) f
func_known effects keeps spare items sound p f at fine = record {
  blocks = each_at (IsKnownBlock (names_of items)) f.blocks (λ b block block_is.
      let fine_block = at_each (IsBlockBy IsPrinted) f.blocks b block fine.blocks block_is in
      record {
        insts = each_at (λ (x : InstLine). IsKnownInst (names_of items) x.inst) block.insts (λ k x line_is.
            let says = (at_each _ block.insts k x fine_block.insts line_is).says in
            inst_known effects keeps spare items sound p f at b k block x block_is line_is says.scale says.fits.1);
        term = term_known effects keeps spare items sound p f at b block block_is fine_block.term.says.fits;
      });
  fixed = fine.define.says.fits.2;
}

-- items of lines of which each has a property
abbrev pub IsItemBy : (Line → Type 0) → ItemLines → Type 0
IsItemBy P (plain n line) = Unit {0}
IsItemBy P (body f) = IsFuncBy P f

item_known : (effects : List ℕ → Effects) (keeps : List ℕ → Bool) (spare : List ℕ → ℕ) (items : List ItemLines) → IsSound effects keeps spare items → (item : ItemLines) → IsIn items item → IsItemBy IsPrinted item → IsKnownItem (names_of items) item
item_known effects keeps spare items sound (plain n line) on fine = tt
item_known effects keeps spare items sound (body f) on fine = let there = func_there items f on in func_known effects keeps spare items sound there.0 f there.1 fine

pub items_known : (effects : List ℕ → Effects) (keeps : List ℕ → Bool) (spare : List ℕ → ℕ) (items : List ItemLines) → IsSound effects keeps spare items → Each (IsItemBy IsPrinted) items → Each (IsKnownItem (names_of items)) items
items_known effects keeps spare items sound fine =
    each_at (IsKnownItem (names_of items)) items (λ k item e. item_known effects keeps spare items sound item (k, e) (at_each (IsItemBy IsPrinted) items k item fine e))
