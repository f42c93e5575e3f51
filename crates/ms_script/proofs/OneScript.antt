-- A text is one script, or fails in one way.
use Rattle.std.proofs.Common.{◌≡◌, ◌≢◌, ℕ, ◌+◌, ◌≤◌, List, [], ◌∷◌, ◌++◌, length, drop, Option, Some, None, slice_get, refl, sym, ap, subst, ◌∙◌, arith, append-nil, length-append}
use Rattle.ms_lex.specs.Line.{IsTokens}
use Rattle.ms_lex.specs.declared.token.Token.{Token}
use Rattle.ms_lex.proofs.OneList.{one_list}
use Rattle.ms_ir.specs.declared.names.FuncNo.{FuncNo}
use Rattle.ms_ir.specs.declared.names.Name.{Name}
use Rattle.ms_ir.specs.Module.{ModuleState}
use Rattle.ms_ir.specs.Symbols.{AreDistinct}
use Rattle.ms_grammar.specs.Parts.{bytes_at}
use Rattle.ms_grammar.specs.Grammar.{Says}
use Rattle.ms_grammar.specs.declared.line.Line.TheVariants as said
use Rattle.ms_grammar.specs.declared.line.RawInst.{RawInst}
use Rattle.ms_grammar.proofs.OneLine.{one_line}
use Rattle.ms_read.specs.Rows.{rows_of}
use Rattle.ms_script.specs.Lines.{verb_of, block_of, number_of, IsSpot, IsTarget, IsInserted, Ends, IsEditLine, SaysEdit, IsSmallEdit, IsSmall}
use Rattle.ms_script.specs.Script.{Say, IsScript, IsFirstBad, SaysNothing, IsTooMuch, IsScriptCause, steps_from}
use Rattle.ms_script.specs.declared.edit.RawEdit.{RawEdit}
use Rattle.ms_script.specs.declared.edit.RawEdit.TheVariants.{Insert, Remove, Move, Unlink}
use Rattle.ms_script.specs.declared.edit.Step.{Step}
use Rattle.ms_script.specs.declared.fault.ScriptFault.{ScriptFault}
use Rattle.ms_script.specs.declared.fault.ScriptFault.TheVariants.{ScriptText, ScriptLimit, Memory}
use Rattle.ms_script.proofs.Fronts.{SameSpot, one_spot, target_spot}
use Rattle.ms_script.proofs.LineLemmas.{one_verb}

inserted_one : (m : ModuleState) (line : List ℕ) (tokens : List Token) (i j : RawInst) (a b : Name) → IsInserted m line tokens i a → IsInserted m line tokens j b
    → said.Inst a i ≡ said.Inst b j
inserted_one m line tokens i j a b x y =
    let cells : x.colon ∷ x.more ≡ y.colon ∷ y.more = sym x.whole ∙ y.whole in
    let colon : x.colon ≡ y.colon = cc in
    one_line (drop x.colon.to line) (said.Inst a i) (said.Inst b j) x.says (subst (λ (t : Token). Says (drop t.to line) (said.Inst b j)) (sym colon) y.says)

target_one : (line : List ℕ) (a b : Name) (n k : ℕ) (tokens : List Token) → IsTarget line a n tokens → IsTarget line b k tokens → SameSpot a b n k [] []
target_one line a b n k tokens x y = one_spot line a b n k x.spot [] [] x.spot_is (target_spot line b k tokens x.spot x.to x.whole y)

-- behind a word, a block and a number stands one edit
ends_one : (m : ModuleState) (line : List ℕ) (rest : List Token) (a b : RawEdit) → verb_of a ≡ verb_of b → block_of a ≡ block_of b → number_of a ≡ number_of b
    → Ends m line rest a → Ends m line rest b → a ≡ b
ends_one m line rest (Insert b p i r) (Insert c q j s) v block number x y =
    let made : said.Inst r i ≡ said.Inst s j = inserted_one m line rest i j r s x y in
    let inst : i ≡ j = cc in
    let name : r ≡ s = cc in
    cc
ends_one m line rest (Remove b p) (Remove c q) v block number x y = cc
ends_one m line rest (Move b p to at) (Move c q other place) v block number x y =
    let same = target_one line to other at place rest x y in
    let blocks : to ≡ other = same.block_is in
    let places : at ≡ place = same.number_is in
    cc
ends_one m line rest (Unlink b p) (Unlink c q) v block number x y = cc
ends_one m line rest (Insert _ _ _ _) (Remove _ _) v block number x y = absurd (cc)
ends_one m line rest (Insert _ _ _ _) (Move _ _ _ _) v block number x y = absurd (cc)
ends_one m line rest (Insert _ _ _ _) (Unlink _ _) v block number x y = absurd (cc)
ends_one m line rest (Remove _ _) (Insert _ _ _ _) v block number x y = absurd (cc)
ends_one m line rest (Remove _ _) (Move _ _ _ _) v block number x y = absurd (cc)
ends_one m line rest (Remove _ _) (Unlink _ _) v block number x y = absurd (cc)
ends_one m line rest (Move _ _ _ _) (Insert _ _ _ _) v block number x y = absurd (cc)
ends_one m line rest (Move _ _ _ _) (Remove _ _) v block number x y = absurd (cc)
ends_one m line rest (Move _ _ _ _) (Unlink _ _) v block number x y = absurd (cc)
ends_one m line rest (Unlink _ _) (Insert _ _ _ _) v block number x y = absurd (cc)
ends_one m line rest (Unlink _ _) (Remove _ _) v block number x y = absurd (cc)
ends_one m line rest (Unlink _ _) (Move _ _ _ _) v block number x y = absurd (cc)

edit_one : (m : ModuleState) (line : List ℕ) (f g : FuncNo) (a b : RawEdit) → IsEditLine m line f a → IsEditLine m line g b → a ≡ b
edit_one m line f g a b x y =
    let cells : x.verb ∷ x.global ∷ x.spot ≡ y.verb ∷ y.global ∷ y.spot =
    one_list line (x.verb ∷ x.global ∷ x.spot) (y.verb ∷ y.global ∷ y.spot) x.are_tokens y.are_tokens in
    let first : x.verb ≡ y.verb = cc in
    let spot : x.spot ≡ y.spot = cc in
    let word : verb_of a ≡ verb_of b = one_verb (verb_of a) (verb_of b) (sym x.verb_is ∙ ap (λ (t : Token). bytes_at line t) first ∙ y.verb_is) in
    let same = one_spot line (block_of a) (block_of b) (number_of a) (number_of b) x.spot x.rest y.rest x.spot_is
    (subst (λ (ts : List Token). IsSpot line (block_of b) (number_of b) ts y.rest) (sym spot) y.spot_is) in
    ends_one m line x.rest a b word same.block_is same.number_is x.ends (subst (λ (ts : List Token). Ends m line ts b) (sym same.rest_is) y.ends)

func_numbered : ℕ → FuncNo
func_numbered k = record { 0 = k }

same_func : (f g : FuncNo) → f.0 ≡ g.0 → f ≡ g
unfolding func_numbered
same_func f g e = ap func_numbered e

func_one : (m : ModuleState) (line : List ℕ) (f g : FuncNo) (a b : RawEdit) → AreDistinct m.names.funcs → IsEditLine m line f a → IsEditLine m line g b → f ≡ g
func_one m line f g a b distinct x y =
    let cells : x.verb ∷ x.global ∷ x.spot ≡ y.verb ∷ y.global ∷ y.spot =
    one_list line (x.verb ∷ x.global ∷ x.spot) (y.verb ∷ y.global ∷ y.spot) x.are_tokens y.are_tokens in
    let second : x.global ≡ y.global = cc in
    let marked : 64 ∷ x.name ≡ 64 ∷ y.name = sym x.global_is ∙ ap (λ (t : Token). bytes_at line t) second ∙ y.global_is in
    let name : x.name ≡ y.name = cc in
    same_func f g (distinct f.0 g.0 x.name x.func_is (subst (λ (n : List ℕ). slice_get m.names.funcs g.0 ≡ Some n) (sym name) y.func_is))

-- a line with no token is no edit
not_empty : (m : ModuleState) (line : List ℕ) (f : FuncNo) (e : RawEdit) → IsTokens line [] → IsEditLine m line f e → ⊥
not_empty m line f e none h =
    let cells : [] ≡ h.verb ∷ h.global ∷ h.spot = one_list line [] (h.verb ∷ h.global ∷ h.spot) none h.are_tokens in
    cc

same_entry : {X Y : Type 0} (a b : X × Y) → a.0 ≡ b.0 → a.1 ≡ b.1 → Some a ≡ Some b
same_entry a b first second = ap (λ x. Some (x, a.1)) first ∙ ap (λ y. Some (b.0, y)) second

-- a line says one thing
said_one : (m : ModuleState) (line : List ℕ) (a b : Option (FuncNo × RawEdit)) → AreDistinct m.names.funcs → SaysEdit m line a → SaysEdit m line b → a ≡ b
said_one m line None None distinct x y = refl
said_one m line None (Some b) distinct x y = absurd (not_empty m line b.0 b.1 x y)
said_one m line (Some a) None distinct x y = absurd (not_empty m line a.0 a.1 y x)
said_one m line (Some a) (Some b) distinct x y = same_entry a b (func_one m line a.0 b.0 a.1 b.1 distinct x y) (edit_one m line a.0 b.0 a.1 b.1 x y)

-- it is within its limits whatever it is found to say
small_one : (m : ModuleState) (line : List ℕ) (a b : Option (FuncNo × RawEdit)) → SaysEdit m line a → SaysEdit m line b → IsSmall a → IsSmall b
small_one m line a None x y small = tt
small_one m line None (Some b) x y small = absurd (not_empty m line b.0 b.1 x y)
small_one m line (Some a) (Some b) x y small = subst (λ (e : RawEdit). IsSmallEdit e) (edit_one m line a.0 b.0 a.1 b.1 x y) small

lines_one : (m : ModuleState) (rows : List (List ℕ)) (a b : List (Option (FuncNo × RawEdit))) → AreDistinct m.names.funcs → Say m rows a → Say m rows b → a ≡ b
lines_one m [] [] [] distinct x y = refl
lines_one m [] [] (b ∷ bs) distinct x y = absurd y
lines_one m [] (a ∷ more) bs distinct x y = absurd x
lines_one m (row ∷ rows) [] bs distinct x y = absurd x
lines_one m (row ∷ rows) (a ∷ more) [] distinct x y = absurd y
lines_one m (row ∷ rows) (a ∷ more) (b ∷ bs) distinct x y =
    let first : a ≡ b = said_one m row a b distinct x.0 y.0 in
    let rest : more ≡ bs = lines_one m rows more bs distinct x.2 y.2 in
    cc

pub one_script : (bytes : List ℕ) (m : ModuleState) (s t : List Step) → AreDistinct m.names.funcs → IsScript bytes m s → IsScript bytes m t → s ≡ t
one_script bytes m s t distinct x y =
    x.script_is ∙ ap (λ (lines : List (Option (FuncNo × RawEdit))). steps_from 1 lines) (lines_one m (rows_of bytes) x.lines y.lines distinct x.read.say y.read.say) ∙ sym y.script_is

say_length : (m : ModuleState) (rows : List (List ℕ)) (lines : List (Option (FuncNo × RawEdit))) → Say m rows lines → length lines ≡ length rows
say_length m [] [] h = refl
say_length m [] (l ∷ lines) h = absurd h
say_length m (row ∷ rows) [] h = absurd h
say_length m (row ∷ rows) (l ∷ lines) h = let more = say_length m rows lines h.2 in omega (arith, more)

-- a row that fails so is not read
abbrev Stops : ModuleState → (ℕ → List ℕ → Type 0) → Type 0
Stops m Fails = (n : ℕ) (row : List ℕ) (one : Option (FuncNo × RawEdit)) → Fails n row → SaysEdit m row one → IsSmall one → n ≤ 4096 → ⊥

nothing_stops : (m : ModuleState) → Stops m (λ n row. SaysNothing m row)
nothing_stops m n row one fails says small few = fails one says

too_much_stops : (m : ModuleState) → Stops m (λ n row. IsTooMuch m n row)
too_much_stops m n row one fails says small few = fails.past (small_one m row one fails.one says fails.says small) few

-- rows that are read stand before a row that fails
read_before : (m : ModuleState) (Fails : ℕ → List ℕ → Type 0) → Stops m Fails → (k : ℕ) (before : List (List ℕ)) (row : List ℕ) (rest rows : List (List ℕ))
    (lines : List (Option (FuncNo × RawEdit))) (more : List (List ℕ)) → Say m rows lines → k + length lines ≤ 4096 → Fails (k + length before + 1) row
    → before ++ row ∷ rest ≡ rows ++ more → length rows ≤ length before
read_before m Fails stops k before row rest [] lines more say few fails e = omega arith
read_before m Fails stops k before row rest (r ∷ rows) [] more say few fails e = absurd say
read_before m Fails stops k [] row rest (r ∷ rows) (l ∷ lines) more say few fails e =
    let first : row ≡ r = cc in
    absurd (stops (k + 0 + 1) row l fails (subst (λ (x : List ℕ). SaysEdit m x l) (sym first) say.0) say.1 (omega (arith, few)))
read_before m Fails stops k (b ∷ before) row rest (r ∷ rows) (l ∷ lines) more say few fails e =
    let others : before ++ row ∷ rest ≡ rows ++ more = cc in
    let number : k + length (b ∷ before) + 1 ≡ k + 1 + length before + 1 = omega arith in
    let shorter = read_before m Fails stops (k + 1) before row rest rows lines more say.2 (omega (arith, few)) (subst (λ n. Fails n row) number fails) others in
    omega (arith, shorter)

-- the number of a row that fails, by the rows before it
number_at : (bytes : List ℕ) (m : ModuleState) (Fails : ℕ → List ℕ → Type 0) (n : ℕ) (x : IsFirstBad bytes m Fails n) → n ≡ 0 + length x.before + 1
number_at bytes m Fails n x = let same = say_length m x.before x.lines x.read.say in omega (arith, x.number_is, same)

not_after : (bytes : List ℕ) (m : ModuleState) (F G : ℕ → List ℕ → Type 0) → Stops m G → (n k : ℕ) (x : IsFirstBad bytes m F n) (y : IsFirstBad bytes m G k)
    → length x.before ≤ length y.before
not_after bytes m F G stops n k x y =
    read_before m G stops 0 y.before y.row y.rest x.before x.lines (x.row ∷ x.rest) x.read.say (let few = x.read.few in omega (arith, few))
    (subst (λ n. G n y.row) (number_at bytes m G k y) y.fails) (sym y.rows_are ∙ x.rows_are)

same_place : (bytes : List ℕ) (m : ModuleState) (F G : ℕ → List ℕ → Type 0) → Stops m F → Stops m G → (n k : ℕ) (x : IsFirstBad bytes m F n) (y : IsFirstBad bytes m G k)
    → length x.before ≡ length y.before
same_place bytes m F G f g n k x y =
    let on = not_after bytes m F G g n k x y in
    let back = not_after bytes m G F f k n y x in
    omega (arith, on, back)

same_number : (bytes : List ℕ) (m : ModuleState) (F G : ℕ → List ℕ → Type 0) → Stops m F → Stops m G → (n k : ℕ) → IsFirstBad bytes m F n → IsFirstBad bytes m G k → n ≡ k
same_number bytes m F G f g n k x y =
    let place = same_place bytes m F G f g n k x y in
    let first = number_at bytes m F n x in
    let second = number_at bytes m G k y in
    omega (arith, place, first, second)

row_behind : (a b : List (List ℕ)) (x y : List ℕ) (xs ys : List (List ℕ)) → length a ≡ length b → a ++ x ∷ xs ≡ b ++ y ∷ ys → x ≡ y
row_behind [] [] x y xs ys same e = cc
row_behind [] (q ∷ b) x y xs ys same e = absurd (omega (arith, same))
row_behind (p ∷ a) [] x y xs ys same e = absurd (omega (arith, same))
row_behind (p ∷ a) (q ∷ b) x y xs ys same e =
    let others : a ++ x ∷ xs ≡ b ++ y ∷ ys = cc in
    row_behind a b x y xs ys (omega (arith, same)) others

-- a line that is none passes no limit
text_or_limit : (bytes : List ℕ) (m : ModuleState) (n k : ℕ) → IsFirstBad bytes m (λ n row. SaysNothing m row) n → IsFirstBad bytes m (λ n row. IsTooMuch m n row) k → ⊥
text_or_limit bytes m n k x y =
    let place = same_place bytes m (λ n row. SaysNothing m row) (λ n row. IsTooMuch m n row) (nothing_stops m) (too_much_stops m) n k x y in
    let row = row_behind x.before y.before x.row y.row x.rest y.rest place (sym x.rows_are ∙ y.rows_are) in
    x.fails y.fails.one (subst (λ (r : List ℕ). SaysEdit m r y.fails.one) (sym row) y.fails.says)

pub one_cause : (bytes : List ℕ) (m : ModuleState) (a b : ScriptFault) → a ≢ Memory → b ≢ Memory → IsScriptCause bytes m a → IsScriptCause bytes m b → a ≡ b
one_cause bytes m (ScriptText n) (ScriptText k) f g x y =
    ap ScriptText (same_number bytes m (λ n row. SaysNothing m row) (λ n row. SaysNothing m row) (nothing_stops m) (nothing_stops m) n k x y)
one_cause bytes m (ScriptText n) (ScriptLimit k) f g x y = absurd (text_or_limit bytes m n k x y)
one_cause bytes m (ScriptLimit n) (ScriptText k) f g x y = absurd (text_or_limit bytes m k n y x)
one_cause bytes m (ScriptLimit n) (ScriptLimit k) f g x y =
    ap ScriptLimit (same_number bytes m (λ n row. IsTooMuch m n row) (λ n row. IsTooMuch m n row) (too_much_stops m) (too_much_stops m) n k x y)
one_cause bytes m Memory b f g x y = absurd (f refl)
one_cause bytes m a Memory f g x y = absurd (g refl)

-- a text that is read does not fail
not_both : (bytes : List ℕ) (m : ModuleState) (s : List Step) (F : ℕ → List ℕ → Type 0) → Stops m F → (n : ℕ) → IsScript bytes m s → IsFirstBad bytes m F n → ⊥
not_both bytes m s F stops n x y =
    let all : length (rows_of bytes) ≤ length y.before =
    read_before m F stops 0 y.before y.row y.rest (rows_of bytes) x.lines [] x.read.say (let few = x.read.few in omega (arith, few))
    (subst (λ n. F n y.row) (number_at bytes m F n y) y.fails) (sym y.rows_are ∙ sym (append-nil (rows_of bytes))) in
    let whole : length (rows_of bytes) ≡ length (y.before ++ y.row ∷ y.rest) = ap length y.rows_are in
    let parts : length (y.before ++ y.row ∷ y.rest) ≡ length y.before + length (y.row ∷ y.rest) = simp length-append in
    omega (arith, all, whole, parts)

pub script_or_cause : (bytes : List ℕ) (m : ModuleState) (s : List Step) (a : ScriptFault) → a ≢ Memory → IsScript bytes m s → IsScriptCause bytes m a → ⊥
script_or_cause bytes m s (ScriptText n) f x y = not_both bytes m s (λ n row. SaysNothing m row) (nothing_stops m) n x y
script_or_cause bytes m s (ScriptLimit n) f x y = not_both bytes m s (λ n row. IsTooMuch m n row) (too_much_stops m) n x y
script_or_cause bytes m s Memory f x y = f refl
