-- Where no name is made again, each name of a module's lines is new.
use Rattle.std.proofs.Common.{◌≡◌, ◌∙◌, inl, inr, ℕ, true, false, List, [], ◌∷◌, ◌++◌, map, refl, sym, ap, subst, append_assoc}
use Rattle.std.specs.List.{flat_map}
use Rattle.ms_ir.specs.Module.{IsNew}
use Rattle.ms_ir.specs.Symbols.{NamesState, NotNamed}
use Rattle.ms_grammar.specs.Kept.{Each}
use Rattle.ms_grammar.specs.declared.line.Line.{Line}
use Rattle.ms_grammar.specs.declared.line.Line.TheVariants as said
use Rattle.ms_names.specs.Shape.{ItemLines, plain, body, block_lines, item_lines, stands_outside, IsItem}
use Rattle.ms_names.specs.Faults.{Symbol, symbols_of, name_of_symbol, IsSymbolAgain}
use Rattle.ms_names.specs.Places.{is_word_there}
use Rattle.ms_resolve.specs.Build.{line_new, IsLineNew, AreNew}
use Rattle.ms_names.proofs.Folds.{is_inner, AreInner, inner-blocks}
use Rattle.ms_names.proofs.Members.{Among, get_among, among_append, among_left, among_right, map_among, word_there_any}
use Rattle.ms_names.proofs.Least.{run, FaultAlong}
use Rattle.ms_names.proofs.SymbolFacts.{known_step, is_known, symbol_line, run_names, known_again}

abbrev pub NoneAgain : List Symbol → Type 0
NoneAgain ms = (n : ℕ) → IsSymbolAgain ms n → ⊥

along_append : (pre : List Symbol) (known : List (List ℕ)) (ms : List Symbol) (n : ℕ) → FaultAlong known_step is_known symbol_line (run known_step known pre) ms n
    → FaultAlong known_step is_known symbol_line known (pre ++ ms) n
along_append [] known ms n h = h
along_append (m ∷ pre) known ms n h = inr (along_append pre (known_step known m) ms n h)

-- a symbol whose name an earlier one has
not_before : (pre : List Symbol) (m : Symbol) (post : List Symbol) → NoneAgain (pre ++ m ∷ post) → (x : Symbol) → Among pre x → x.name ≡ m.name → ⊥
not_before pre m post none x h same =
    let P : List ℕ → Type 0 = λ w. Among (map name_of_symbol pre) w in
    let there : is_word_there (map name_of_symbol pre) m.name ≡ true = word_there_any (map name_of_symbol pre) m.name (subst P same (map_among name_of_symbol pre x h)) in
    let known : is_known (run known_step [] pre) m ≡ true = ap (λ ws. is_word_there ws m.name) (run_names pre []) ∙ there in
    none m.line (known_again (pre ++ m ∷ post) m.line (along_append pre [] (m ∷ post) m.line (inl (known, refl))))

-- each name of the list is that of a symbol
abbrev AreOf : List Symbol → List (List ℕ) → Type 0
AreOf pre ws = (w : List ℕ) → Among ws w → (x : Symbol) × Among pre x × (x.name ≡ w)

are_of_more : (pre : List Symbol) (m : Symbol) (ws : List (List ℕ)) → AreOf pre ws → AreOf (pre ++ m ∷ []) ws
are_of_more pre m ws h = λ w a. let r = h w a in (r.0, among_left pre (m ∷ []) r.0 r.1, r.2)

are_of_push : (pre : List Symbol) (m : Symbol) (ws : List (List ℕ)) → AreOf pre ws → AreOf (pre ++ m ∷ []) (ws ++ m.name ∷ [])
are_of_push pre m ws h = λ w a. elim (among_append ws (m.name ∷ []) w a) [
  | inl old ↦ are_of_more pre m ws h w old
  | inr new ↦ elim new [ inl s ↦ (m, among_right pre (m ∷ []) m (inl refl), s) | inr never ↦ absurd never ]
]

not_named : (pre : List Symbol) (m : Symbol) (post : List Symbol) (ws : List (List ℕ)) → NoneAgain (pre ++ m ∷ post) → AreOf pre ws → NotNamed ws m.name
not_named pre m post ws none of = λ n e. let r = of m.name (get_among ws n m.name e) in not_before pre m post none r.0 r.1 r.2

is_new : (pre : List Symbol) (m : Symbol) (post : List Symbol) (names : NamesState) → NoneAgain (pre ++ m ∷ post) → AreOf pre names.funcs → AreOf pre names.globals → IsNew names m.name
is_new pre m post names none funcs globals = (not_named pre m post names.funcs none funcs, not_named pre m post names.globals none globals)

shifted : (pre : List Symbol) (m : Symbol) (post : List Symbol) → NoneAgain (pre ++ m ∷ post) → NoneAgain ((pre ++ m ∷ []) ++ post)
shifted pre m post none = let P : List Symbol → Type 0 = λ ms. NoneAgain ms in subst P (sym (append_assoc pre (m ∷ []) post)) none

inner_new : (line : Line) (names : NamesState) (rest : List (ℕ × Line)) → is_inner line ≡ true → AreNew names rest → IsLineNew names line × AreNew (line_new names line) rest
inner_new (said.Label name) names rest e h = (tt, h)
inner_new (said.Inst name inst) names rest e h = (tt, h)
inner_new (said.Term term) names rest e h = (tt, h)
inner_new _ names rest e h = cc

skip_new : (inner rest : List (ℕ × Line)) (names : NamesState) → AreInner inner → AreNew names rest → AreNew names (inner ++ rest)
skip_new [] rest names i h = h
skip_new (l ∷ ls) rest names i h = inner_new l.1 names (ls ++ rest) i.0 (skip_new ls rest names i.1 h)

-- what is still to show of a line, where the rest is shown for all that comes before it
abbrev RestNew : List ItemLines → Type 0
RestNew items = (pre : List Symbol) (names : NamesState) → NoneAgain (pre ++ symbols_of items) → AreOf pre names.funcs → AreOf pre names.globals → AreNew names (flat_map item_lines items)

func_new : (m : Symbol) (items : List ItemLines) → RestNew items → (pre : List Symbol) (names : NamesState) → NoneAgain (pre ++ m ∷ symbols_of items) → AreOf pre names.funcs → AreOf pre names.globals
    → IsNew names m.name × AreNew (record names { funcs = names.funcs ++ m.name ∷ [] }) (flat_map item_lines items)
func_new m items rest pre names none funcs globals = (
  is_new pre m (symbols_of items) names none funcs globals,
  rest (pre ++ m ∷ []) (record names { funcs = names.funcs ++ m.name ∷ [] }) (shifted pre m (symbols_of items) none) (are_of_push pre m names.funcs funcs) (are_of_more pre m names.globals globals),
)

global_new : (m : Symbol) (items : List ItemLines) → RestNew items → (pre : List Symbol) (names : NamesState) → NoneAgain (pre ++ m ∷ symbols_of items) → AreOf pre names.funcs → AreOf pre names.globals
    → IsNew names m.name × AreNew (record names { globals = names.globals ++ m.name ∷ [] }) (flat_map item_lines items)
global_new m items rest pre names none funcs globals = (
  is_new pre m (symbols_of items) names none funcs globals,
  rest (pre ++ m ∷ []) (record names { globals = names.globals ++ m.name ∷ [] }) (shifted pre m (symbols_of items) none) (are_of_more pre m names.funcs funcs) (are_of_push pre m names.globals globals),
)

new_line : (n : ℕ) (line : Line) → stands_outside line ≡ true → (items : List ItemLines) → RestNew items → RestNew (plain n line ∷ items)
new_line n (said.Kept text) e items rest = λ pre names none funcs globals. (tt, rest pre names none funcs globals)
new_line n (said.Group number text) e items rest = λ pre names none funcs globals. (tt, rest pre names none funcs globals)
new_line n (said.GlobalVar name text) e items rest = λ pre names none funcs globals. global_new (record { line = n; is_func = false; name = name }) items rest pre names none funcs globals
new_line n (said.Declare head) e items rest = λ pre names none funcs globals. func_new (record { line = n; is_func = true; name = head.name }) items rest pre names none funcs globals
new_line n _ e items rest = cc

new_items : (items : List ItemLines) → Each IsItem items → RestNew items
new_items [] h = λ pre names none funcs globals. tt
new_items (plain n line ∷ items) h = new_line n line h.0 items (new_items items h.1)
new_items (body f ∷ items) h = λ pre names none funcs globals.
    let m : Symbol = record { line = f.line; is_func = true; name = f.head.name } in
    let here = func_new m items (new_items items h.1) pre names none funcs globals in
    let names' : NamesState = record names { funcs = names.funcs ++ f.head.name ∷ [] } in
    let inner = flat_map block_lines f.blocks in
    let close : List (ℕ × Line) = (f.close, said.Close) ∷ [] in
    let rest = flat_map item_lines items in
    let behind : AreNew names' (close ++ rest) = (tt, here.1) in
    let P : List (ℕ × Line) → Type 0 = λ ls. AreNew names' ls in
    (here.0, subst P (sym (append_assoc inner close rest)) (skip_new inner (close ++ rest) names' (inner-blocks f.blocks) behind))

pub are_new : (items : List ItemLines) → Each IsItem items → NoneAgain (symbols_of items) → AreNew (record { funcs = []; globals = [] }) (flat_map item_lines items)
are_new items h none = new_items items h [] (record { funcs = []; globals = [] }) none (λ w a. absurd a) (λ w a. absurd a)
