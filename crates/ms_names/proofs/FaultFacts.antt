-- The least line of a module with a fault in its names.
use Rattle.std.proofs.Common.{◌≡◌, ◌∙◌, ◌⊎◌, inl, inr, ℕ, true, false, List, [], ◌∷◌, Option, Some, None, map, refl, sym, ap, subst}
use Rattle.std.specs.List.{flat_map}
use Rattle.ms_grammar.specs.Kept.{Each}
use Rattle.ms_grammar.specs.declared.line.Head.{Head}
use Rattle.ms_grammar.specs.declared.line.Line.{Line}
use Rattle.ms_grammar.specs.declared.line.Line.TheVariants as said
use Rattle.ms_names.specs.Shape.{FuncLines, ItemLines, plain, body, block_lines, item_lines, HasBlocks, stands_outside, IsItem}
use Rattle.ms_names.specs.Made.{made_in, named_in}
use Rattle.ms_names.specs.Faults.{symbols_of, name_of_symbol, IsSymbolAgain, HasFaultIn, small, again, unknown, HasNameFault, symbol, inside}
use Rattle.ms_names.specs.Draft.{earlier, symbols_after, no_symbols, register_all, no_names}
use Rattle.ms_names.specs.Uses.{known_by, least_lacking, least_in, least_in_line, least_after}
use Rattle.ms_names.specs.declared.register.Register.{Register}
use Rattle.ms_names.proofs.Folds.{is_inner, items_after, IsFold, along_items}
use Rattle.ms_names.proofs.Members.{Among, among_in, in_among}
use Rattle.ms_names.proofs.Least.{IsLeastOf, least_change, least_join}
use Rattle.ms_names.proofs.Registers.{IsMadeFault, register_least, register_is, local_found_first, block_found_first}
use Rattle.ms_names.proofs.UseFacts.{KnowsFirst, IsLacking, lacking_least, lacking_stands, stands_lacking}
use Rattle.ms_names.proofs.FirstFacts.{is_first, first_is_so}
use Rattle.ms_names.proofs.SymbolFacts.{all_are, symbols_least}

-- the names that a function's register finds are the ones that name something
knows_first : (f : FuncLines) (symbols : List (List ℕ)) → KnowsFirst (known_by (register_all no_names (made_in f)) symbols) (named_in f)
knows_first f symbols = record {
  locals = λ q. (λ e. is_first false q (named_in f) (sym (local_found_first q (made_in f)) ∙ e), λ h. local_found_first q (made_in f) ∙ first_is_so false q (made_in f) h);
  blocks = λ q. (λ e. is_first true q (named_in f) (sym (block_found_first q (made_in f)) ∙ e), λ h. block_found_first q (made_in f) ∙ first_is_so true q (made_in f) h);
}

abbrev function_least : List (List ℕ) → FuncLines → Option ℕ
function_least symbols f = least_in symbols f.line f.head (flat_map block_lines f.blocks)

pub function_least_is : (symbols : List (List ℕ)) (f : FuncLines) → HasBlocks f.blocks → IsLeastOf (HasFaultIn symbols f) (function_least symbols f)
function_least_is symbols f h =
    let lines = flat_map block_lines f.blocks in
    let k = known_by (register_all no_names (made_in f)) symbols in
    let knows = knows_first f symbols in
    let o = least_lacking k (register_all no_names (made_in f)).least lines in
    let found : IsLeastOf (HasFaultIn symbols f) o = least_change (λ n. IsMadeFault (made_in f) n ⊎ IsLacking k lines n) (HasFaultIn symbols f) o
    (λ n e. elim e [
      | inl m ↦ elim m [ inl s ↦ small s | inr a ↦ again a ]
      | inr l ↦ let r = lacking_stands k (named_in f) knows f n l in unknown r.0 r.1 r.2
    ])
    (λ n e. elim e [
      | small s ↦ inl (inl s)
      | again a ↦ inl (inr a)
      | unknown used s u ↦ inr (stands_lacking k (named_in f) knows f n used s u)
    ])
    (lacking_least k lines (IsMadeFault (made_in f)) (register_all no_names (made_in f)).least (register_least (made_in f))) in
    let P : Option ℕ → Type 0 = λ o. IsLeastOf (HasFaultIn symbols f) o in
    let same : function_least symbols f ≡ o = ap (λ (r : Register). least_lacking (known_by r symbols) r.least lines) (register_is f h) in
    subst P (sym same) found

-- all functions
earlier_none : (o : Option ℕ) → earlier o None ≡ o
earlier_none None = refl
earlier_none (Some n) = refl

abbrev least_step : List (List ℕ) → Option ℕ → ℕ → Line → List (ℕ × Line) → Option ℕ
least_step symbols o n line rest = earlier o (least_in_line symbols n line rest)

abbrev least_out : Option ℕ → ℕ → Line → Option ℕ
least_out o n line = o

abbrev least_define : List (List ℕ) → Option ℕ → ℕ → Head → List (ℕ × Line) → Option ℕ
least_define symbols o n head lines = earlier o (least_in symbols n head lines)

least_inner : (symbols : List (List ℕ)) (o : Option ℕ) (n : ℕ) (line : Line) (rest : List (ℕ × Line)) → is_inner line ≡ true → least_step symbols o n line rest ≡ o
least_inner symbols o n (said.Define head) rest e = cc
least_inner symbols o n _ rest e = earlier_none o

least_outer : (symbols : List (List ℕ)) (o : Option ℕ) (n : ℕ) (line : Line) (rest : List (ℕ × Line)) → stands_outside line ≡ true → least_step symbols o n line rest ≡ o
least_outer symbols o n (said.Define head) rest e = cc
least_outer symbols o n _ rest e = earlier_none o

least_fold : (symbols : List (List ℕ)) → IsFold (Option ℕ) (least_after symbols) (least_step symbols) least_out (least_define symbols)
least_fold symbols = record {
  none = λ o. refl;
  one = λ o l ls. refl;
  inner = least_inner symbols;
  close = λ o n rest. earlier_none o;
  outer = least_outer symbols;
  defines = λ o n head rest. refl;
}

-- a function of the items has a fault
pub record IsInside (symbols : List (List ℕ)) (items : List ItemLines) (n : ℕ) : Type 0 where
  pub f : FuncLines
  pub among : Among items (body f)
  pub fault : HasFaultIn symbols f n

body_same : (f g : FuncLines) → body f ≡ body g → f ≡ g
body_same f g e = cc

plain_not_body : (n : ℕ) (line : Line) (f : FuncLines) → plain n line ≡ body f → ⊥
plain_not_body n line f e = cc

items_least : (symbols : List (List ℕ)) (items : List ItemLines) → Each IsItem items → (P : ℕ → Type 0) (o : Option ℕ) → IsLeastOf P o
    → IsLeastOf (λ n. P n ⊎ IsInside symbols items n) (items_after least_out (least_define symbols) o items)
items_least symbols [] h P o least = least_change P (λ n. P n ⊎ IsInside symbols [] n) o (λ n p. inl p) (λ n e. elim e [ inl p ↦ p | inr i ↦ absurd i.among ]) least
items_least symbols (plain m line ∷ items) h P o least =
    least_change (λ n. P n ⊎ IsInside symbols items n) (λ n. P n ⊎ IsInside symbols (plain m line ∷ items) n) (items_after least_out (least_define symbols) o items)
    (λ n e. elim e [ inl p ↦ inl p | inr i ↦ inr (record { f = i.f; among = inr i.among; fault = i.fault }) ])
    (λ n e. elim e [
      | inl p ↦ inl p
      | inr i ↦ elim i.among [ inl s ↦ absurd (plain_not_body m line i.f s) | inr t ↦ inr (record { f = i.f; among = t; fault = i.fault }) ]
    ]) (items_least symbols items h.1 P o least)
items_least symbols (body f ∷ items) h P o least =
    let o' = earlier o (function_least symbols f) in
    let Q : ℕ → Type 0 = λ n. P n ⊎ HasFaultIn symbols f n in
    least_change (λ n. Q n ⊎ IsInside symbols items n) (λ n. P n ⊎ IsInside symbols (body f ∷ items) n) (items_after least_out (least_define symbols) o' items)
    (λ n e. elim e [
      | inl q ↦ elim q [ inl p ↦ inl p | inr i ↦ inr (record { f = f; among = inl refl; fault = i }) ]
      | inr i ↦ inr (record { f = i.f; among = inr i.among; fault = i.fault })
    ])
    (λ n e. elim e [
      | inl p ↦ inl (inl p)
      | inr i ↦ elim i.among [
        | inl s ↦ let R : FuncLines → Type 0 = λ g. HasFaultIn symbols g n in inl (inr (subst R (sym (body_same f i.f s)) i.fault))
        | inr t ↦ inr (record { f = i.f; among = t; fault = i.fault })
      ]
    ]) (items_least symbols items h.1 Q o' (least_join P (HasFaultIn symbols f) o (function_least symbols f) least (function_least_is symbols f h.0)))

-- the whole module
abbrev pub module_least : List (ℕ × Line) → Option ℕ
module_least lines = let s = symbols_after no_symbols lines in least_after s.all s.least lines

pub module_least_is : (items : List ItemLines) → Each IsItem items → IsLeastOf (HasNameFault items) (module_least (flat_map item_lines items))
module_least_is items h =
    let s = symbols_after no_symbols (flat_map item_lines items) in
    let symbols = map name_of_symbol (symbols_of items) in
    let o = items_after least_out (least_define symbols) s.least items in
    let found : IsLeastOf (HasNameFault items) o = least_change (λ n. IsSymbolAgain (symbols_of items) n ⊎ IsInside symbols items n) (HasNameFault items) o
    (λ n e. elim e [ inl a ↦ symbol a | inr i ↦ inside i.f (among_in items (body i.f) i.among) i.fault ])
    (λ n e. elim e [ symbol a ↦ inl a | inside f there fault ↦ inr (record { f = f; among = in_among items (body f) there; fault = fault }) ])
    (items_least symbols items h (IsSymbolAgain (symbols_of items)) s.least (symbols_least items h)) in
    let P : Option ℕ → Type 0 = λ o. IsLeastOf (HasNameFault items) o in
    let same : module_least (flat_map item_lines items) ≡ o =
    ap (λ ws. least_after ws s.least (flat_map item_lines items)) (all_are items h)
    ∙ along_items (least_after symbols) (least_step symbols) least_out (least_define symbols) (least_fold symbols) items h s.least in
    subst P (sym same) found
