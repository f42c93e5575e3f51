-- Each line that is printed for a module without faults is said by its row, and the text is those rows.
use Rattle.std.proofs.Common.{◌≡◌, ◌≤◌, ◌^◌, ℕ, Bool, true, false, List, [], ◌∷◌, ◌++◌, Option, Some, None, map, if◌then◌else◌, refl, ap, subst, ◌∙◌, arith, append_assoc, is_some}
use Rattle.ms_ir.specs.declared.names.Name.{Name}
use Rattle.ms_ir.specs.declared.names.Name.TheVariants.{Word, Number, Absent}
use Rattle.ms_ir.specs.declared.names.Param.{Param}
use Rattle.ms_grammar.specs.Kept.{Each}
use Rattle.ms_grammar.specs.Form.{printed, no_scale}
use Rattle.ms_grammar.specs.declared.line.Line.{Line}
use Rattle.ms_grammar.specs.declared.line.Line.TheVariants as said
use Rattle.ms_resolve.specs.Shape.{LabelLine, InstLine, BlockLines, FuncLines, ItemLines, plain, body, label_lines, HasLabel, HasBlocks, IsItem}
use Rattle.ms_resolve.specs.Made.{makes}
use Rattle.ms_read.specs.Rows.{rows_of, in_first}
use Rattle.ms_read.specs.Draft.{Say}
use Rattle.ms_print.specs.Numbering.{shown_name, free_after, shown_params}
use Rattle.ms_reread.proofs.Places.{whole_tokens, gap_none}
use Rattle.ms_again.proofs.Renaming.{renamed_term}
use Rattle.ms_again.proofs.Quiet.{IsQuiet, IsPrinted}
use Rattle.ms_again.proofs.Fine.{IsFine, IsGood, IsGoodParam, inst_fine, term_fine, label_fine, define_fine, each_join, each_first, each_second}
use Rattle.ms_again.proofs.Names.{shown, label_name, param_names, inst_free, block_free, results, result_of, all_results, block_names, size_of}
use Rattle.ms_again.proofs.Again.{renaming, insts_said, first_said, label_said, block_said, blocks_said, start, func_said, gap_said, items_said}
use Rattle.ms_again.proofs.Printed.{rows_text}
use Rattle.ms_again.proofs.Sites.{IsFineEntry, IsFineBlock, IsFineFunc}
use Rattle.ms_again.proofs.Uses.{AreRight, IsRightInst, IsRightLines, good_vals, good_froms}

-- an empty line
pub empty_fine : IsFine said.Empty
empty_fine = record {
  whole = record {
    says = record {
      tokens = [];
      scale = no_scale;
      are_tokens = whole_tokens [] [] (gap_none [] 0 (omega arith));
      readable = tt;
      spelled = refl;
      fits = tt;
    };
    quiet = tt;
  };
  within = (tt, tt);
}

-- instructions
made_good : (next : ℕ) (x : InstLine) → Each IsGood (result_of shown next x) → makes x.inst ≡ true → IsGood (shown_name next x.name)
made_good next x h t =
    let here : Each IsGood (shown_name next x.name ∷ []) = subst (λ (b : Bool). Each IsGood (if b then shown_name next x.name ∷ [] else [])) t h in
    here.0

insts_fine : (f : FuncLines) (next : ℕ) (xs : List InstLine) → Each (λ (x : InstLine). IsFine (said.Inst x.name x.inst)) xs → Each (IsRightInst f) xs → Each IsGood (results shown next xs) →
    Each IsFine (insts_said (renaming f) next xs)
insts_fine f next [] h right good = tt
insts_fine f next (x ∷ xs) h right good = (
  inst_fine (renaming f) x.name (shown_name next x.name) x.inst h.0 (good_vals f _ right.0.vals) (good_froms f _ right.0.froms)
      (made_good next x (each_first IsGood (result_of shown next x) (results shown (inst_free shown next x) xs) good)),
  insts_fine f (inst_free shown next x) xs h.1 right.1 (each_second IsGood (result_of shown next x) (results shown (inst_free shown next x) xs) good),
)

-- labels
first_by : (next : ℕ) (n m : Name) → IsFine (said.Label n) → n ≡ m → IsGood (shown_name next m) → Each IsFine (first_said m)
first_by next n (Word text) h e good = (label_fine n (Word text) h good, tt)
first_by next n (Number k) h e good = tt
first_by next n Absent h e good = tt

first_fine : (next : ℕ) (l : Option LabelLine) → Each IsFineEntry (label_lines l) → IsGood (shown_name next (label_name l)) → Each IsFine (label_said true next (label_name l))
first_fine next None h good = tt
first_fine next (Some l) h good = first_by next l.name l.name h.0 refl good

later_fine : (next : ℕ) (l : Option LabelLine) → is_some l ≡ true → Each IsFineEntry (label_lines l) → IsGood (shown_name next (label_name l)) → Each IsFine (label_said false next (label_name l))
later_fine next None some h good = absurd (cc)
later_fine next (Some l) some h good = (empty_fine, (label_fine l.name (shown_name next l.name) h.0 good, tt))

-- blocks
block_fine : (f : FuncLines) (first : Bool) (next : ℕ) (b : BlockLines) → IsFineBlock b → IsRightLines f b → Each IsGood (results shown (free_after next (label_name b.label)) b.insts) →
    Each IsFine (label_said first next (label_name b.label)) → Each IsFine (block_said (renaming f) first next b)
block_fine f first next b h right good label =
    let labels = label_said first next (label_name b.label) in
    let insts = insts_said (renaming f) (free_after next (label_name b.label)) b.insts in
    let end : List Line = said.Term (renamed_term (renaming f) b.end.term) ∷ [] in
    each_join IsFine (labels ++ insts) end (each_join IsFine labels insts label (insts_fine f (free_after next (label_name b.label)) b.insts h.insts right.insts good))
    (term_fine (renaming f) b.end.term h.term (good_vals f _ right.term.vals) (good_froms f _ right.term.froms), tt)

later_blocks : (f : FuncLines) (next : ℕ) (bs : List BlockLines) → Each HasLabel bs → Each IsFineBlock bs → Each (IsRightLines f) bs → Each IsGood (all_results shown next bs) → Each IsGood (block_names shown next bs) →
    Each IsFine (blocks_said (renaming f) false next bs)
later_blocks f next [] has h right good labels = tt
later_blocks f next (b ∷ bs) has h right good labels =
    let here = results shown (free_after next (label_name b.label)) b.insts in
    let more = all_results shown (block_free shown next b) bs in
    each_join IsFine (block_said (renaming f) false next b) (blocks_said (renaming f) false (block_free shown next b) bs)
    (block_fine f false next b h.0 right.0 (each_first IsGood here more good) (later_fine next b.label has.0 h.0.labels labels.0))
    (later_blocks f (block_free shown next b) bs has.1 h.1 right.1 (each_second IsGood here more good) labels.1)

all_blocks : (f : FuncLines) (next : ℕ) (bs : List BlockLines) → HasBlocks bs → Each IsFineBlock bs → Each (IsRightLines f) bs → Each IsGood (all_results shown next bs) → Each IsGood (block_names shown next bs) →
    Each IsFine (blocks_said (renaming f) true next bs)
all_blocks f next [] has h right good labels = tt
all_blocks f next (b ∷ bs) has h right good labels =
    let here = results shown (free_after next (label_name b.label)) b.insts in
    let more = all_results shown (block_free shown next b) bs in
    each_join IsFine (block_said (renaming f) true next b) (blocks_said (renaming f) false (block_free shown next b) bs)
    (block_fine f true next b h.0 right.0 (each_first IsGood here more good) (first_fine next b.label h.0.labels labels.0))
    (later_blocks f (block_free shown next b) bs has h.1 right.1 (each_second IsGood here more good) labels.1)

params_good : (next : ℕ) (ps : List Param) → Each IsGood (param_names shown next ps) → Each IsGoodParam (shown_params next ps)
params_good next [] h = tt
params_good next (p ∷ ps) h = (h.0, params_good (free_after next p.name) ps h.1)

-- a function
pub record IsFineNamed (f : FuncLines) : Type 0 where
  pub fine : IsFineFunc f
  pub few : size_of f ≤ 10 ^ 9
  pub names : AreRight f
  pub uses : Each (IsRightLines f) f.blocks

func_fine : (f : FuncLines) → HasBlocks f.blocks → IsFineNamed f → Each IsFine (func_said f)
func_fine f has h =
    let ps = param_names shown 0 f.head.params in
    let rest = all_results shown (start f) f.blocks in
    let close : List Line = said.Close ∷ [] in (
      define_fine f.head h.fine.define (params_good 0 f.head.params (each_first IsGood ps rest h.names.locals_good)),
      each_join IsFine (blocks_said (renaming f) true (start f) f.blocks) close
          (all_blocks f (start f) f.blocks has h.fine.blocks h.uses (each_second IsGood ps rest h.names.locals_good) h.names.blocks_good) (h.fine.close, tt),
    )

-- items
abbrev pub IsFineWhole : ItemLines → Type 0
IsFineWhole (plain n line) = IsFine line
IsFineWhole (body f) = IsFineNamed f

gap_fine : (before : Option Bool) (after : Bool) → Each IsFine (gap_said before after)
gap_fine None after = tt
gap_fine (Some true) after = (empty_fine, tt)
gap_fine (Some false) true = (empty_fine, tt)
gap_fine (Some false) false = tt

pub items_fine : (before : Option Bool) (items : List ItemLines) → Each IsItem items → Each IsFineWhole items → Each IsFine (items_said before items)
items_fine before [] each h = tt
items_fine before (plain n line ∷ rest) each h =
    each_join IsFine (gap_said before false) (line ∷ items_said (Some false) rest) (gap_fine before false) (h.0, items_fine (Some false) rest each.1 h.1)
items_fine before (body f ∷ rest) each h =
    each_join IsFine (gap_said before true) (func_said f ++ items_said (Some true) rest) (gap_fine before true)
    (each_join IsFine (func_said f) (items_said (Some true) rest) (func_fine f each.0 h.0) (items_fine (Some true) rest each.1 h.1))

-- rows
row_first : (row rest : List ℕ) → IsQuiet row → rows_of (row ++ 10 ∷ rest) ≡ row ∷ rows_of rest
row_first [] rest h = refl
row_first (b ∷ bs) rest h =
    ap (λ (c : Bool). if c then [] ∷ rows_of (bs ++ 10 ∷ rest) else in_first b (rows_of (bs ++ 10 ∷ rest))) h.0
    ∙ ap (λ (rows : List (List ℕ)). in_first b rows) (row_first bs rest h.1)

pub rows_are : (ls : List Line) → Each IsPrinted ls → rows_of (rows_text ls) ≡ map printed ls
rows_are [] h = refl
rows_are (l ∷ ls) h =
    ap rows_of (append_assoc (printed l) (10 ∷ []) (rows_text ls))
    ∙ row_first (printed l) (rows_text ls) h.0.quiet
    ∙ ap (λ (rows : List (List ℕ)). printed l ∷ rows) (rows_are ls h.1)

pub all_printed : (ls : List Line) → Each IsFine ls → Each IsPrinted ls
all_printed [] h = tt
all_printed (l ∷ ls) h = (h.0.whole, all_printed ls h.1)

pub all_say : (ls : List Line) → Each IsFine ls → Say (map printed ls) ls
all_say [] h = tt
all_say (l ∷ ls) h = (h.0.whole.says, h.0.within, all_say ls h.1)
