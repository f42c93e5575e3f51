-- A draft's lines one by one: what each makes of names, and the lines of each function's body.
use Rattle.std.specs.Prelude.{ℕ, ◌||◌, Bool, true, false, List, [], ◌∷◌, ◌++◌, Option, Some, None, min, nat_lt, if◌then◌else◌}
use Rattle.ms_ir.specs.declared.names.Name.{Name}
use Rattle.ms_ir.specs.declared.names.Name.TheVariants.{Word, Number, Absent}
use Rattle.ms_ir.specs.declared.names.Param.{Param}
use Rattle.ms_grammar.specs.declared.line.Head.{Head}
use Rattle.ms_grammar.specs.declared.line.Line.{Line}
use Rattle.ms_grammar.specs.declared.line.Line.TheVariants as said
use Rattle.ms_names.specs.Made.{Made, makes, param_made, full_name, free_behind}
use Rattle.ms_names.specs.Places.{is_word_there, is_name_there}
use Rattle.ms_names.specs.declared.symbols.Symbols.{Symbols}
use Rattle.ms_names.specs.declared.register.Register.{Register}

-- the earlier of two lines
abbrev pub earlier : Option ℕ → Option ℕ → Option ℕ
earlier None b = b
earlier (Some a) None = Some a
earlier (Some a) (Some b) = Some (min a b)

-- the least line with a fault, where this one has one or not
abbrev pub with_fault : Option ℕ → Bool → ℕ → Option ℕ
with_fault least fault n = if fault then earlier least (Some n) else least

-- the symbols after a line
abbrev pub with_func : Symbols → ℕ → List ℕ → Symbols
with_func s n name = record { all = s.all ++ name ∷ []; funcs = s.funcs ++ name ∷ []; globals = s.globals; least = with_fault s.least (is_word_there s.all name) n }

abbrev pub with_global : Symbols → ℕ → List ℕ → Symbols
with_global s n name = record { all = s.all ++ name ∷ []; funcs = s.funcs; globals = s.globals ++ name ∷ []; least = with_fault s.least (is_word_there s.all name) n }

abbrev pub symbols_with : Symbols → ℕ → Line → Symbols
symbols_with s n (said.GlobalVar name text) = with_global s n name
symbols_with s n (said.Declare head) = with_func s n head.name
symbols_with s n (said.Define head) = with_func s n head.name
symbols_with s n _ = s

abbrev pub symbols_after : Symbols → List (ℕ × Line) → Symbols
symbols_after s [] = s
symbols_after s (l ∷ ls) = symbols_after (symbols_with s l.0 l.1) ls

abbrev pub no_symbols : Symbols
no_symbols = record { all = []; funcs = []; globals = []; least = None }

-- whether a written number is less than the next free one
abbrev pub is_small : ℕ → Name → Bool
is_small next (Word w) = false
is_small next (Number n) = nat_lt n next
is_small next Absent = false

-- whether a local or block has the name
abbrev pub is_taken : Register → Name → Bool
is_taken r name = is_name_there r.locals name || is_name_there r.blocks name

-- the name by which a thing is found: none where an earlier thing has it
abbrev pub found_as : Bool → Name → Name
found_as taken name = if taken then Absent else name

-- the register of a function's names after a further thing
abbrev pub with_full : Register → ℕ → Bool → Name → Register
with_full r n is_block full = record {
  locals = (if is_block then r.locals else r.locals ++ found_as (is_taken r full) full ∷ []);
  blocks = (if is_block then r.blocks ++ found_as (is_taken r full) full ∷ [] else r.blocks);
  next = r.next;
  least = with_fault r.least (is_taken r full) n;
}

abbrev pub register_with : Register → Made → Register
register_with r m = record (with_full (record r { least = with_fault r.least (is_small r.next m.name) m.line }) m.line m.is_block (full_name r.next m.name)) { next = free_behind r.next m.name }

abbrev pub register_all : Register → List Made → Register
register_all r [] = r
register_all r (m ∷ ms) = register_all (register_with r m) ms

abbrev pub no_names : Register
no_names = record { locals = []; blocks = []; next = 0; least = None }

abbrev pub params_after : Register → ℕ → List Param → Register
params_after r n [] = r
params_after r n (p ∷ ps) = params_after (register_with r (param_made n p)) n ps

-- what a line of a function makes
abbrev pub line_made : ℕ → Line → List Made
line_made n (said.Label name) = record { line = n; is_block = true; name = name } ∷ []
line_made n (said.Inst name inst) = if makes inst then record { line = n; is_block = false; name = name } ∷ [] else []
line_made n _ = []

abbrev pub lines_after : Register → List (ℕ × Line) → Register
lines_after r [] = r
lines_after r (l ∷ ls) = lines_after (register_all r (line_made l.0 l.1)) ls

abbrev pub is_label : Line → Bool
is_label (said.Label name) = true
is_label _ = false

-- the first block, where it has no label line
abbrev pub first_made : ℕ → List (ℕ × Line) → List Made
first_made n [] = record { line = n; is_block = true; name = Absent } ∷ []
first_made n (l ∷ ls) = if is_label l.1 then [] else record { line = n; is_block = true; name = Absent } ∷ []

-- the register of a function of this line, head and body
abbrev pub register_in : ℕ → Head → List (ℕ × Line) → Register
register_in n head body = lines_after (register_all (params_after no_names n head.params) (first_made n body)) body

abbrev pub is_inside : Line → Bool
is_inside said.Close = false
is_inside _ = true

-- the lines up to a function's last one
abbrev pub body_lines : List (ℕ × Line) → List (ℕ × Line)
body_lines [] = []
body_lines (l ∷ ls) = if is_inside l.1 then l ∷ body_lines ls else []
