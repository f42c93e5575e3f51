-- What going along a module's lines tells of its functions and globals.
use Rattle.std.proofs.Common.{◌≡◌, ◌∙◌, ◌⊎◌, inl, inr, ℕ, Bool, true, List, [], ◌∷◌, ◌++◌, Option, None, map, take, refl, sym, ap, subst, append_assoc}
use Rattle.std.specs.Prelude.{if◌then◌else◌}
use Rattle.std.specs.List.{flat_map}
use Rattle.ms_grammar.specs.Kept.{Each}
use Rattle.ms_grammar.specs.declared.line.Head.{Head}
use Rattle.ms_grammar.specs.declared.line.Line.{Line}
use Rattle.ms_grammar.specs.declared.line.Line.TheVariants as said
use Rattle.ms_names.specs.Shape.{ItemLines, plain, body, item_lines, stands_outside, IsItem}
use Rattle.ms_names.specs.Faults.{Symbol, line_symbols, symbols_of, name_of_symbol, IsSymbolAgain, func_names_in, global_names_in}
use Rattle.ms_names.specs.Places.{is_word_there}
use Rattle.ms_names.specs.Draft.{with_fault, with_func, symbols_with, symbols_after, no_symbols}
use Rattle.ms_names.specs.declared.symbols.Symbols.{Symbols}
use Rattle.ms_names.proofs.Folds.{is_inner, items_after, IsFold, along_items}
use Rattle.ms_names.proofs.Members.{Among, among_in, get_among, among_map, map_among, there_word, word_there_any}
use Rattle.ms_names.proofs.Registers.{take_get, get_take}
use Rattle.ms_names.proofs.Least.{IsLeastOf, least_change, run, least_along, FaultAlong, least_along_is, along_at, at_along}

symbols_inner : (s : Symbols) (n : ℕ) (line : Line) → is_inner line ≡ true → symbols_with s n line ≡ s
symbols_inner s n (said.Label name) e = refl
symbols_inner s n (said.Inst name inst) e = refl
symbols_inner s n (said.Term term) e = refl
symbols_inner s n _ e = cc

abbrev defined_symbol : Symbols → ℕ → Head → List (ℕ × Line) → Symbols
defined_symbol s n head lines = with_func s n head.name

symbol_fold : IsFold Symbols symbols_after (λ s n line rest. symbols_with s n line) symbols_with defined_symbol
symbol_fold = record {
  none = λ s. refl;
  one = λ s l ls. refl;
  inner = λ s n line rest e. symbols_inner s n line e;
  close = λ s n rest. refl;
  outer = λ s n line rest e. refl;
  defines = λ s n head rest. refl;
}

-- one symbol more
abbrev with_symbol : Symbols → Symbol → Symbols
with_symbol s m = record {
  all = s.all ++ m.name ∷ [];
  funcs = (if m.is_func then s.funcs ++ m.name ∷ [] else s.funcs);
  globals = (if m.is_func then s.globals else s.globals ++ m.name ∷ []);
  least = with_fault s.least (is_word_there s.all m.name) m.line;
}

abbrev all_symbols : Symbols → List Symbol → Symbols
all_symbols s [] = s
all_symbols s (m ∷ ms) = all_symbols (with_symbol s m) ms

symbols-append : (s : Symbols) (xs ys : List Symbol) → all_symbols s (xs ++ ys) ≡ all_symbols (all_symbols s xs) ys
symbols-append s [] ys = refl
symbols-append s (x ∷ xs) ys = symbols-append (with_symbol s x) xs ys

line_symbol : (s : Symbols) (n : ℕ) (line : Line) (ms : List Symbol) → stands_outside line ≡ true → all_symbols (symbols_with s n line) ms ≡ all_symbols (all_symbols s (line_symbols n line)) ms
line_symbol s n (said.GlobalVar name text) ms e = refl
line_symbol s n (said.Declare head) ms e = refl
line_symbol s n (said.Kept text) ms e = refl
line_symbol s n (said.Group number text) ms e = refl
line_symbol s n _ ms e = cc

items_symbols : (items : List ItemLines) → Each IsItem items → (s : Symbols) → items_after symbols_with defined_symbol s items ≡ all_symbols s (symbols_of items)
items_symbols [] h s = refl
items_symbols (plain n line ∷ items) h s = items_symbols items h.1 (symbols_with s n line) ∙ line_symbol s n line (symbols_of items) h.0 ∙ sym (symbols-append s (line_symbols n line) (symbols_of items))
items_symbols (body f ∷ items) h s = items_symbols items h.1 (with_func s f.line f.head.name)

pub symbols_are : (items : List ItemLines) → Each IsItem items → symbols_after no_symbols (flat_map item_lines items) ≡ all_symbols no_symbols (symbols_of items)
symbols_are items h = along_items symbols_after (λ s n line rest. symbols_with s n line) symbols_with defined_symbol symbol_fold items h no_symbols ∙ items_symbols items h no_symbols

append_none : {X : Type 0} (xs : List X) → xs ≡ xs ++ []
append_none [] = refl
append_none (x ∷ xs) = ap (λ r. x ∷ r) (append_none xs)

all_names : (ms : List Symbol) (s : Symbols) → (all_symbols s ms).all ≡ s.all ++ map name_of_symbol ms
all_names [] s = append_none s.all
all_names (m ∷ ms) s = all_names ms (with_symbol s m) ∙ append_assoc s.all (m.name ∷ []) (map name_of_symbol ms)

func_line : (s : Symbols) (n : ℕ) (line : Line) → stands_outside line ≡ true → (symbols_with s n line).funcs ≡ s.funcs ++ func_names_in (plain n line)
func_line s n (said.GlobalVar name text) e = append_none s.funcs
func_line s n (said.Declare head) e = refl
func_line s n (said.Kept text) e = append_none s.funcs
func_line s n (said.Group number text) e = append_none s.funcs
func_line s n _ e = cc

global_line : (s : Symbols) (n : ℕ) (line : Line) → stands_outside line ≡ true → (symbols_with s n line).globals ≡ s.globals ++ global_names_in (plain n line)
global_line s n (said.GlobalVar name text) e = refl
global_line s n (said.Declare head) e = append_none s.globals
global_line s n (said.Kept text) e = append_none s.globals
global_line s n (said.Group number text) e = append_none s.globals
global_line s n _ e = cc

func_items : (items : List ItemLines) → Each IsItem items → (s : Symbols) → (items_after symbols_with defined_symbol s items).funcs ≡ s.funcs ++ flat_map func_names_in items
func_items [] h s = append_none s.funcs
func_items (plain n line ∷ items) h s =
    func_items items h.1 (symbols_with s n line) ∙ ap (λ ws. ws ++ flat_map func_names_in items) (func_line s n line h.0)
    ∙ append_assoc s.funcs (func_names_in (plain n line)) (flat_map func_names_in items)
func_items (body f ∷ items) h s = func_items items h.1 (with_func s f.line f.head.name) ∙ append_assoc s.funcs (f.head.name ∷ []) (flat_map func_names_in items)

global_items : (items : List ItemLines) → Each IsItem items → (s : Symbols) → (items_after symbols_with defined_symbol s items).globals ≡ s.globals ++ flat_map global_names_in items
global_items [] h s = append_none s.globals
global_items (plain n line ∷ items) h s =
    global_items items h.1 (symbols_with s n line) ∙ ap (λ ws. ws ++ flat_map global_names_in items) (global_line s n line h.0)
    ∙ append_assoc s.globals (global_names_in (plain n line)) (flat_map global_names_in items)
global_items (body f ∷ items) h s = global_items items h.1 (with_func s f.line f.head.name)

abbrev after : List ItemLines → Symbols
after items = symbols_after no_symbols (flat_map item_lines items)

along : (items : List ItemLines) → Each IsItem items → after items ≡ items_after symbols_with defined_symbol no_symbols items
along items h = along_items symbols_after (λ s n line rest. symbols_with s n line) symbols_with defined_symbol symbol_fold items h no_symbols

pub funcs_are : (items : List ItemLines) → Each IsItem items → (after items).funcs ≡ flat_map func_names_in items
funcs_are items h = ap (λ (s : Symbols). s.funcs) (along items h) ∙ func_items items h no_symbols

pub globals_are : (items : List ItemLines) → Each IsItem items → (after items).globals ≡ flat_map global_names_in items
globals_are items h = ap (λ (s : Symbols). s.globals) (along items h) ∙ global_items items h no_symbols

pub all_are : (items : List ItemLines) → Each IsItem items → (after items).all ≡ map name_of_symbol (symbols_of items)
all_are items h = ap (λ (s : Symbols). s.all) (symbols_are items h) ∙ all_names (symbols_of items) no_symbols

-- the least line that makes a name again
abbrev pub known_step : List (List ℕ) → Symbol → List (List ℕ)
known_step known m = known ++ m.name ∷ []

abbrev pub is_known : List (List ℕ) → Symbol → Bool
is_known known m = is_word_there known m.name

abbrev pub symbol_line : Symbol → ℕ
symbol_line m = m.line

least_symbols : (ms : List Symbol) (s : Symbols) → (all_symbols s ms).least ≡ least_along known_step is_known symbol_line s.all s.least ms
least_symbols [] s = refl
least_symbols (m ∷ ms) s = least_symbols ms (with_symbol s m)

pub run_names : (ms : List Symbol) (known : List (List ℕ)) → run known_step known ms ≡ known ++ map name_of_symbol ms
run_names [] known = append_none known
run_names (m ∷ ms) known = run_names ms (known ++ m.name ∷ []) ∙ append_assoc known (m.name ∷ []) (map name_of_symbol ms)

pub known_again : (ms : List Symbol) (n : ℕ) → FaultAlong known_step is_known symbol_line [] ms n → IsSymbolAgain ms n
known_again ms n h =
    let a = along_at known_step is_known symbol_line ms [] n h in
    let there = there_word (map name_of_symbol (take a.at ms)) a.x.name (ap (λ ws. is_word_there ws a.x.name) (sym (run_names (take a.at ms) [])) ∙ a.bad) in
    let one = among_map name_of_symbol (take a.at ms) a.x.name there in
    let place = among_in (take a.at ms) one.0 one.1 in
    let first = take_get ms a.at place.0 one.0 place.1 in
    record {
      first = place.0;
      at = a.at;
      before = first.0;
      one = one.0;
      other = a.x;
      first_is = first.1;
      at_is = a.found;
      same = one.2;
      on = a.on;
    }

again_known : (ms : List Symbol) (n : ℕ) → IsSymbolAgain ms n → FaultAlong known_step is_known symbol_line [] ms n
again_known ms n a =
    let one : Among (take a.at ms) a.one = get_among (take a.at ms) a.first a.one (get_take ms a.at a.first a.one a.before a.first_is) in
    let P : List ℕ → Type 0 = λ w. Among (map name_of_symbol (take a.at ms)) w in
    let there : is_word_there (map name_of_symbol (take a.at ms)) a.other.name ≡ true =
    word_there_any (map name_of_symbol (take a.at ms)) a.other.name (subst P a.same (map_among name_of_symbol (take a.at ms) a.one one)) in
    at_along known_step is_known symbol_line ms [] n a.at a.other a.at_is (ap (λ ws. is_word_there ws a.other.name) (run_names (take a.at ms) []) ∙ there) a.on

pub symbols_least : (items : List ItemLines) → Each IsItem items → IsLeastOf (IsSymbolAgain (symbols_of items)) (after items).least
symbols_least items h =
    let ms = symbols_of items in
    let F : ℕ → Type 0 = λ n. FaultAlong known_step is_known symbol_line [] ms n in
    let Never : ℕ → Type 0 = λ n. ⊥ in
    let o = least_along known_step is_known symbol_line [] None ms in
    let along : IsLeastOf (λ n. Never n ⊎ F n) o = least_along_is known_step is_known symbol_line ms [] Never None (λ n e. e) in
    let changed : IsLeastOf (IsSymbolAgain ms) o = least_change (λ n. Never n ⊎ F n) (IsSymbolAgain ms) o
    (λ n e. elim e [ inl never ↦ absurd never | inr f ↦ known_again ms n f ]) (λ n a. inr (again_known ms n a)) along in
    let P : Option ℕ → Type 0 = λ o. IsLeastOf (IsSymbolAgain ms) o in
    subst P (sym (ap (λ (s : Symbols). s.least) (symbols_are items h) ∙ least_symbols ms no_symbols)) changed
