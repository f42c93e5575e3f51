-- A line says one thing.
use Rattle.std.proofs.Common.{◌≡◌, ◌<◌, ◌≤◌, ◌^◌, ℕ, true, List, [], ◌∷◌, ◌++◌, Some, None, length, decimal, refl, sym, ap, subst, ◌∙◌, append-nil, arith}
use Rattle.std.proofs.lemmas.Fmt.{decimal_injective}
use Rattle.ms_lex.specs.Bytes.{is_mark}
use Rattle.ms_lex.specs.Kinds.{is_token}
use Rattle.ms_lex.specs.Line.{IsTokens}
use Rattle.ms_lex.proofs.First.{first_tells}
use Rattle.ms_lex.proofs.OneList.{one_list}
use Rattle.ms_lex.specs.declared.token.Token.{Token}
use Rattle.ms_lex.specs.declared.token.TokenKind.{TokenKind}
use Rattle.ms_lex.specs.declared.token.TokenKind.TheVariants as kind
use Rattle.ms_ir.specs.declared.names.Name.{Name}
use Rattle.ms_ir.specs.declared.names.Name.TheVariants as name
use Rattle.ms_grammar.specs.Words.{spelling, cast_word}
use Rattle.ms_grammar.specs.Kept.{Each, in_braces}
use Rattle.ms_grammar.specs.Parts.{Part, Class, blank, token, kept, kept_line, group_line, global_line, texts, bytes_at, kept_text}
use Rattle.ms_grammar.specs.Form.{Scale, form, word_part, local_part, head_parts, brace_parts, inst_parts, term_parts, result_parts, name_text}
use Rattle.ms_grammar.specs.Fits.{FitsLine, IsMade, IsNamed}
use Rattle.ms_grammar.specs.Grammar.{Says, IsReadableToken}
use Rattle.ms_grammar.specs.declared.line.Head.{Head}
use Rattle.ms_grammar.specs.declared.line.Line.{Line}
use Rattle.ms_grammar.specs.declared.line.Line.TheVariants as said
use Rattle.ms_grammar.specs.declared.line.RawInst.{RawInst}
use Rattle.ms_grammar.specs.declared.line.RawInst.TheVariants.{Alloca, Gep, Step, Load, Store, Copy, Call, Bin, Cmp, Select, Cast, Phi}
use Rattle.ms_grammar.specs.declared.keyword.Keyword.{Keyword}
use Rattle.ms_grammar.specs.declared.keyword.Keyword.TheVariants as word
use Rattle.ms_grammar.specs.Scan.{Stops}
use Rattle.ms_grammar.proofs.Walks.{brace_stops}
use Rattle.ms_grammar.proofs.Both.{Both, Agree, both_blank, both_token, both_lead, both_name, flip, starts_with, skip_blank, StopsAll, behind_first, name_one, whole_run, along}
use Rattle.ms_grammar.proofs.Digits.{few_decimal}
use Rattle.ms_grammar.proofs.Heads.{head_same}
use Rattle.ms_grammar.proofs.Leads.{inst_lead, lead_is, lead_of, a_bin}
use Rattle.ms_grammar.proofs.Instructions.{inst_one, term_one}
use Rattle.ms_grammar.proofs.Sorts.{sort_is, line_sort}

mark_lead : (n : List ℕ) → lead_of (37 ∷ n) ≡ a_bin
unfolding lead_of spelling cast_word
mark_lead n = refl

-- what a local's mark begins is the first word of no instruction without a result
local_lead : (i : RawInst) → a_bin ≡ lead_is i → IsMade name.Absent i → ⊥
unfolding lead_is
local_lead (Store _ _ _ _) e made = cc
local_lead (Copy _ _ _ _ _ _) e made = cc
local_lead (Call _ _ _ _ _ _) e made = cc
local_lead i e made = absurd made

-- an instruction whose result is not named does not begin with a name
unnamed_no_local : (line : List ℕ) (s : Scale) (i : RawInst) (n : List ℕ) (ps : List Part) → IsMade name.Absent i → Both line (inst_parts s i) (token (37 ∷ n) ∷ ps) → ⊥
unnamed_no_local line s i n ps made h =
    let lead = inst_lead line h.tokens s i h.one in
    let first = starts_with line h.tokens (37 ∷ n) ps h.other in
    local_lead i (sym (mark_lead n) ∙ ap (λ t. lead_of t) (heads (37 ∷ n) lead.text first.0 lead.more (sym first.1 ∙ lead.whole)) ∙ lead.tells) made
  where
    heads : (a b : List ℕ) (s t : List (List ℕ)) → a ∷ s ≡ b ∷ t → a ≡ b
    heads a b s t e = cc

made_word : (text : List ℕ) (i : RawInst) → IsMade (name.Word text) i → IsNamed (name.Word text)
made_word text (Alloca _ _ _) h = h
made_word text (Gep _ _ _ _ _) h = h
made_word text (Step _ _ _ _ _ _) h = h
made_word text (Load _ _ _) h = h
made_word text (Store _ _ _ _) h = absurd (cc)
made_word text (Copy _ _ _ _ _ _) h = absurd (cc)
made_word text (Call _ None _ _ _ _) h = absurd (cc)
made_word text (Call _ (Some _) _ _ _ _) h = h
made_word text (Bin _ _ _ _ _ _) h = h
made_word text (Cmp _ _ _ _ _ _) h = h
made_word text (Select _ _ _ _ _) h = h
made_word text (Cast _ _ _ _ _ _) h = h
made_word text (Phi _ _ _) h = h

made_number : (n : ℕ) (i : RawInst) → IsMade (name.Number n) i → IsNamed (name.Number n)
made_number n (Alloca _ _ _) h = h
made_number n (Gep _ _ _ _ _) h = h
made_number n (Step _ _ _ _ _ _) h = h
made_number n (Load _ _ _) h = h
made_number n (Store _ _ _ _) h = absurd (cc)
made_number n (Copy _ _ _ _ _ _) h = absurd (cc)
made_number n (Call _ None _ _ _ _) h = absurd (cc)
made_number n (Call _ (Some _) _ _ _ _) h = h
made_number n (Bin _ _ _ _ _ _) h = h
made_number n (Cmp _ _ _ _ _ _) h = h
made_number n (Select _ _ _ _ _) h = h
made_number n (Cast _ _ _ _ _ _) h = h
made_number n (Phi _ _ _) h = h

both_behind : (line : List ℕ) (n m : Name) (ps qs : List Part) → IsNamed n → IsNamed m →
    Both line (local_part n ∷ blank ∷ word_part word.Equals ∷ blank ∷ ps) (local_part m ∷ blank ∷ word_part word.Equals ∷ blank ∷ qs) → Agree n m line ps qs
both_behind line n m ps qs f g h =
    let names = both_name line 37 n m (blank ∷ word_part word.Equals ∷ blank ∷ ps) (blank ∷ word_part word.Equals ∷ blank ∷ qs) f g h in
    record { same = names.same; rest = both_lead line word.Equals ps qs (both_blank line (word_part word.Equals ∷ blank ∷ ps) (word_part word.Equals ∷ blank ∷ qs) names.rest) }

-- the name of a result
both_result : (line : List ℕ) (n m : Name) (s t : Scale) (i j : RawInst) → IsMade n i → IsMade m j →
    Both line (result_parts n ++ inst_parts s i) (result_parts m ++ inst_parts t j) → Agree n m line (inst_parts s i) (inst_parts t j)
both_result line (name.Word a) (name.Word b) s t i j f g h = both_behind line (name.Word a) (name.Word b) (inst_parts s i) (inst_parts t j) (made_word a i f) (made_word b j g) h
both_result line (name.Word a) (name.Number b) s t i j f g h = both_behind line (name.Word a) (name.Number b) (inst_parts s i) (inst_parts t j) (made_word a i f) (made_number b j g) h
both_result line (name.Number a) (name.Word b) s t i j f g h = both_behind line (name.Number a) (name.Word b) (inst_parts s i) (inst_parts t j) (made_number a i f) (made_word b j g) h
both_result line (name.Number a) (name.Number b) s t i j f g h = both_behind line (name.Number a) (name.Number b) (inst_parts s i) (inst_parts t j) (made_number a i f) (made_number b j g) h
both_result line name.Absent name.Absent s t i j f g h = record { same = refl; rest = h }
both_result line name.Absent (name.Word b) s t i j f g h = absurd (unnamed_no_local line s i b (blank ∷ word_part word.Equals ∷ blank ∷ inst_parts t j) f h)
both_result line name.Absent (name.Number b) s t i j f g h =
    absurd (unnamed_no_local line s i (name_text (name.Number b)) (blank ∷ word_part word.Equals ∷ blank ∷ inst_parts t j) f h)
both_result line (name.Word a) name.Absent s t i j f g h =
    absurd (unnamed_no_local line t j a (blank ∷ word_part word.Equals ∷ blank ∷ inst_parts s i) g (flip line (result_parts (name.Word a) ++ inst_parts s i) (inst_parts t j) h))
both_result line (name.Number a) name.Absent s t i j f g h =
    absurd (unnamed_no_local line t j (name_text (name.Number a)) (blank ∷ word_part word.Equals ∷ blank ∷ inst_parts s i) g (flip line (result_parts (name.Number a) ++ inst_parts s i) (inst_parts t j) h))

-- two runs that are kept to the end of a line are one
same_whole : (line : List ℕ) (c d : Class) (s t : List ℕ) (b : Both line (kept c s ∷ []) (kept d t ∷ [])) → b.one.0 ≡ b.other.0
same_whole line c d s t b =
    sym (whole_run line b.tokens b.one.0 b.one.1 b.one.2 b.one.4) ∙ whole_run line b.tokens b.other.0 b.other.1 b.other.2 b.other.4

kept_one : (line : List ℕ) (s t : List ℕ) → Both line (kept kept_line s ∷ []) (kept kept_line t ∷ []) → s ≡ t
kept_one line s t b = b.one.3.1 ∙ ap (λ r. kept_text line r) (same_whole line kept_line kept_line s t b) ∙ sym b.other.3.1

-- the number of a group, as its digits give it
second_cell : (a b c d : List ℕ) (s t : List (List ℕ)) → a ∷ b ∷ s ≡ c ∷ d ∷ t → b ≡ d
second_cell a b c d s t e = cc

first_cell : (a b : List ℕ) (s t : List (List ℕ)) → a ∷ s ≡ b ∷ t → a ≡ b
first_cell a b s t e = cc

group_one : (line : List ℕ) (n m : ℕ) (s t : List ℕ) → n < 10 ^ 9 → m < 10 ^ 9 → Both line (kept (group_line n) s ∷ []) (kept (group_line m) t ∷ []) → said.Group n s ≡ said.Group m t
group_one line n m s t small small' b =
    let runs = same_whole line (group_line n) (group_line m) s t b in
    let one = b.one.3.0 in
    let other = b.other.3.0 in
    let cells = sym one.tokens ∙ ap (λ r. texts line r) runs ∙ other.tokens in
    let digits_same : decimal n ≡ decimal m =
    behind_first 35 35 (decimal n) (decimal m) (second_cell (spelling word.Attributes) (35 ∷ decimal n) (spelling word.Attributes) (35 ∷ decimal m) (spelling word.Equals ∷ in_braces one.inner) (spelling word.Equals ∷ in_braces other.inner) cells) in
    let numbers : n ≡ m = decimal_injective n m (omega arith) (omega arith) digits_same in
    ap (λ k. said.Group k s) numbers ∙ ap (λ u. said.Group m u) (b.one.3.1 ∙ ap (λ r. kept_text line r) runs ∙ sym b.other.3.1)

global_one : (line : List ℕ) (n m s t : List ℕ) → Both line (kept (global_line n) s ∷ []) (kept (global_line m) t ∷ []) → said.GlobalVar n s ≡ said.GlobalVar m t
global_one line n m s t b =
    let runs = same_whole line (global_line n) (global_line m) s t b in
    let one = b.one.3.0 in
    let other = b.other.3.0 in
    let cells = sym one.tokens ∙ ap (λ r. texts line r) runs ∙ other.tokens in
    let names : n ≡ m = behind_first 64 64 n m (first_cell (64 ∷ n) (64 ∷ m) (spelling word.Equals ∷ one.before ++ one.kind ∷ one.rest) (spelling word.Equals ∷ other.before ++ other.kind ∷ other.rest) cells) in
    ap (λ k. said.GlobalVar k s) names ∙ ap (λ u. said.GlobalVar m u) (b.one.3.1 ∙ ap (λ r. kept_text line r) runs ∙ sym b.other.3.1)

label_one : (line : List ℕ) (n m : Name) → IsNamed n → IsNamed m → Both line (token (name_text n) ∷ word_part word.Colon ∷ []) (token (name_text m) ∷ word_part word.Colon ∷ []) → n ≡ m
label_one line n m f g b = name_one n m f g (both_token line (name_text n) (name_text m) (word_part word.Colon ∷ []) (word_part word.Colon ∷ []) b).same

none_stops : (line : List ℕ) → StopsAll true line []
none_stops line [] h = tt
none_stops line (t ∷ ts) h = absurd (cc)

open_stops : (line : List ℕ) → StopsAll true line brace_parts
open_stops line rest h =
    let first = starts_with line rest (spelling word.OpenBrace) [] (skip_blank line rest (word_part word.OpenBrace ∷ []) h) in
    subst (λ ts. Stops true ts) (sym first.1) (brace_stops true first.0)

closed : (line : List ℕ) (k : Keyword) (a b : Head) → Both line (head_parts k a) (head_parts k b) → Both line (head_parts k a ++ []) (head_parts k b ++ [])
closed line k a b h =
    subst (λ ps. Both line ps (head_parts k b ++ [])) (sym (append-nil (head_parts k a))) (subst (λ qs. Both line (head_parts k a) qs) (sym (append-nil (head_parts k b))) h)

inst_line_one : (line : List ℕ) (s t : Scale) (n m : Name) (i j : RawInst) → FitsLine s (said.Inst n i) → FitsLine t (said.Inst m j) →
    Both line (form s (said.Inst n i)) (form t (said.Inst m j)) → said.Inst n i ≡ said.Inst m j
inst_line_one line s t n m i j f g h =
    let left : List Part = result_parts n ++ inst_parts s i in
    let right : List Part = result_parts m ++ inst_parts t j in
    let names = both_result line n m s t i j f.0 g.0 (both_blank line left right (both_blank line (blank ∷ left) (blank ∷ right) h)) in
    ap (λ x. said.Inst x i) names.same ∙ ap (λ x. said.Inst m x) (inst_one line s t i j f.1 g.1 names.rest)

-- a group of a readable line has a small number
abbrev HasSmallGroup : Line → Type 0
HasSmallGroup (said.Group n text) = n < 10 ^ 9
HasSmallGroup _ = Unit {0}

-- two lines that the same tokens spell
pub line_one : (line : List ℕ) (s t : Scale) (a b : Line) → FitsLine s a → FitsLine t b → HasSmallGroup a → HasSmallGroup b → Both line (form s a) (form t b) → a ≡ b
unfolding sort_is
line_one line s t said.Empty said.Empty f g k l h = refl
line_one line s t said.Close said.Close f g k l h = refl
line_one line s t (said.Kept a) (said.Kept b) f g k l h = ap (λ x. said.Kept x) (kept_one line a b h)
line_one line s t (said.Group n a) (said.Group m b) f g k l h = group_one line n m a b k l h
line_one line s t (said.GlobalVar n a) (said.GlobalVar m b) f g k l h = global_one line n m a b h
line_one line s t (said.Label n) (said.Label m) f g k l h = ap (λ x. said.Label x) (label_one line n m f g h)
line_one line s t (said.Declare a) (said.Declare b) f g k l h =
    ap (λ x. said.Declare x) (head_same line word.Declare a b [] [] f g (none_stops line) (none_stops line) (closed line word.Declare a b h)).same
line_one line s t (said.Define a) (said.Define b) f g k l h =
    ap (λ x. said.Define x) (head_same line word.Define a b brace_parts brace_parts f.0 g.0 (open_stops line) (open_stops line) h).same
line_one line s t (said.Inst n i) (said.Inst m j) f g k l h = inst_line_one line s t n m i j f g h
line_one line s t (said.Term i) (said.Term j) f g k l h =
    ap (λ x. said.Term x) (term_one line i j f g (both_blank line (term_parts i) (term_parts j) (both_blank line (blank ∷ term_parts i) (blank ∷ term_parts j) h)))
line_one line s t a b f g k l h =
    let e : sort_is a ≡ sort_is b = sym (line_sort line h.tokens s a f h.one) ∙ line_sort line h.tokens t b g h.other in absurd (cc)

-- digits behind the mark of a group
group_digits : (k : TokenKind) (ds : List ℕ) → is_token k (35 ∷ ds) ≡ true → IsReadableToken k (35 ∷ ds) → length ds ≤ 9
unfolding is_mark
group_digits kind.Group ds h r = (r h).1
group_digits k ds h r = absurd (let e : Some kind.Group ≡ Some k = first_tells k 35 ds h in cc)

-- the second token of a line
record IsSecond (b : List ℕ) : Type 0 where
  pub kind : TokenKind
  pub is_kind : is_token kind b ≡ true
  pub readable : IsReadableToken kind b

second_token : (line : List ℕ) (tokens : List Token) (a b : List ℕ) (ts : List (List ℕ)) → IsTokens line tokens → Each (λ t. IsReadableToken t.kind (bytes_at line t)) tokens →
    texts line tokens ≡ a ∷ b ∷ ts → IsSecond b
second_token line [] a b ts are readable e = absurd (cc)
second_token line (t ∷ []) a b ts are readable e = absurd (cc)
second_token line (t ∷ (u ∷ us)) a b ts are readable e =
    let at : bytes_at line u ≡ b = second_cell (bytes_at line t) (bytes_at line u) a b (texts line us) ts e in
    record { kind = u.kind; is_kind = subst (λ s. is_token u.kind s ≡ true) at are.1.0.bytes; readable = subst (λ s. IsReadableToken u.kind s) at readable.1.0 }

small_group : (line : List ℕ) (l : Line) → Says line l → HasSmallGroup l
small_group line (said.Group n text) says =
    let run = says.spelled in
    let shown = ap (λ r. texts line r) (whole_run line says.tokens run.0 run.1 run.2 run.4) ∙ run.3.0.tokens in
    let second = second_token line says.tokens (spelling word.Attributes) (35 ∷ decimal n) (spelling word.Equals ∷ in_braces run.3.0.inner) says.are_tokens says.readable shown in
    few_decimal n (group_digits second.kind (decimal n) second.is_kind second.readable)
small_group line l says = tt

-- what a line says
pub one_line : (line : List ℕ) (a b : Line) → Says line a → Says line b → a ≡ b
one_line line a b f g =
    let tokens = one_list line f.tokens g.tokens f.are_tokens g.are_tokens in
    line_one line f.scale g.scale a b f.fits g.fits (small_group line a f) (small_group line b g)
    (record { tokens = f.tokens; one = f.spelled; other = along line (form g.scale b) f.tokens g.tokens tokens g.spelled })
