-- The first tokens of a line tell its kind.
use Rattle.std.proofs.Common.{◌≡◌, ℕ, Bool, true, false, List, [], ◌∷◌, ◌++◌, Option, Some, None, if◌then◌else◌, decimal, refl, sym, ap, subst, ◌∙◌, append_assoc, append-nil}
use Rattle.std.specs.Str.{bytes_eq}
use Rattle.std.specs.List.{list_any, flat_map}
use Rattle.ms_lex.specs.Bytes.{is_mark}
use Rattle.ms_lex.specs.Kinds.{is_word, is_token}
use Rattle.ms_lex.specs.First.{first_kind}
use Rattle.ms_lex.proofs.First.{first_tells, some_bytes}
use Rattle.ms_lex.specs.declared.token.Token.{Token}
use Rattle.ms_lex.specs.declared.token.TokenKind.{TokenKind}
use Rattle.ms_lex.specs.declared.token.TokenKind.TheVariants as kind
use Rattle.ms_ir.specs.declared.names.Ty.{Ty}
use Rattle.ms_ir.specs.declared.names.Ty.TheVariants.{I1, I8, I16, I32, I64, Ptr}
use Rattle.ms_ir.specs.declared.names.Name.{Name}
use Rattle.ms_ir.specs.declared.names.Name.TheVariants as name
use Rattle.ms_grammar.specs.Words.{spelling, type_word}
use Rattle.ms_grammar.specs.Kept.{Each, AreMany, IsAttribute, IsTailItem, IsKeptLine, IsGroupLine, IsGlobalLine, IsCallMark, in_braces}
use Rattle.ms_grammar.specs.Kept.IsAttribute.{plain, called, aligned, quoted, paired, grouped}
use Rattle.ms_grammar.specs.Kept.IsCallMark.{plain as mark_plain, tail as mark_tail, no_tail as mark_no_tail}
use Rattle.ms_grammar.specs.Kept.IsKeptLine.{source, target, metadata, named, comdat}
use Rattle.ms_grammar.specs.Parts.{Part, blank, token, kept, tail, Spells, texts, result_word}
use Rattle.ms_grammar.specs.Form.{Scale, form, word_part, head_parts, brace_parts, inst_parts, term_parts, result_parts, name_text}
use Rattle.ms_grammar.specs.Fits.{IsMade, FitsLine}
use Rattle.ms_grammar.specs.declared.line.Head.{Head}
use Rattle.ms_grammar.specs.declared.line.Line.{Line}
use Rattle.ms_grammar.specs.declared.line.Line.TheVariants as said
use Rattle.ms_grammar.specs.declared.line.RawInst.{RawInst}
use Rattle.ms_grammar.specs.declared.line.RawInst.TheVariants.{Store, Copy, Call}
use Rattle.ms_grammar.specs.declared.line.RawTerm.{RawTerm}
use Rattle.ms_grammar.specs.declared.line.RawTerm.TheVariants.{Br, CondBr, Ret, Unreachable}
use Rattle.ms_grammar.specs.declared.keyword.Keyword.{Keyword}
use Rattle.ms_grammar.specs.declared.keyword.Keyword.TheVariants as word
use Rattle.ms_grammar.proofs.Steps.{one_of}
use Rattle.ms_grammar.proofs.Walks.{differs}
use Rattle.ms_grammar.proofs.Tails.{tail_first}
use Rattle.ms_grammar.proofs.Both.{skip_blank, texts_append, whole_run}
use Rattle.ms_grammar.proofs.Insts.{rest_tail}
use Rattle.ms_grammar.proofs.Calls.{regroup}
use Rattle.ms_grammar.proofs.Leads.{inst_lead, lead_no_type, rest_of}

-- the kinds of lines
pub data Sort : Type 0 where
  an_empty : Sort
  a_close : Sort
  a_kept : Sort
  a_group : Sort
  a_global : Sort
  a_label : Sort
  a_declare : Sort
  a_define : Sort
  an_inst : Sort
  a_term : Sort

-- the kind of a line that its first word tells
unfoldable pub by_word : List ℕ → Sort
by_word w =
    if bytes_eq w (spelling word.CloseBrace) then a_close
    else (if list_any (bytes_eq w) (spelling word.Br ∷ spelling word.Ret ∷ spelling word.Unreachable ∷ []) then a_term
    else (if list_any (bytes_eq w) (spelling word.Store ∷ spelling word.Call ∷ spelling word.Tail ∷ spelling word.NoTail ∷ []) then an_inst
    else (if bytes_eq w (spelling word.Declare) then a_declare
    else (if bytes_eq w (spelling word.Define) then a_define
    else (if bytes_eq w (spelling word.Attributes) then a_group
    else a_kept)))))

-- the kind of a line that gives a local something
abbrev pub by_third : List (List ℕ) → Sort
by_third [] = an_inst
by_third (t ∷ ts) = if bytes_eq t (spelling word.TypeOf) then a_kept else an_inst

-- the kind of a line that gives something to what is of a kind
abbrev pub by_mark : Option TokenKind → List (List ℕ) → Sort
by_mark (Some kind.Local) ts = by_third ts
by_mark (Some kind.Global) ts = a_global
by_mark _ ts = a_kept

abbrev pub kind_of : List ℕ → Option TokenKind
kind_of [] = None
kind_of (b ∷ bs) = first_kind b

unfoldable pub sort_of : List (List ℕ) → Sort
sort_of [] = an_empty
sort_of (w ∷ []) = by_word w
sort_of (w ∷ (s ∷ ts)) =
    if bytes_eq s (spelling word.Colon) then a_label
    else (if bytes_eq s (spelling word.Equals) then by_mark (kind_of w) ts
    else by_word w)

unfoldable pub sort_is : Line → Sort
sort_is said.Empty = an_empty
sort_is said.Close = a_close
sort_is (said.Kept _) = a_kept
sort_is (said.Group _ _) = a_group
sort_is (said.GlobalVar _ _) = a_global
sort_is (said.Label _) = a_label
sort_is (said.Declare _) = a_declare
sort_is (said.Define _) = a_define
sort_is (said.Inst _ _) = an_inst
sort_is (said.Term _) = a_term

-- a text that is neither a colon nor an equals sign
record IsPlain (s : List ℕ) : Type 0 where
  pub no_colon : bytes_eq s (spelling word.Colon) ≡ false
  pub no_equals : bytes_eq s (spelling word.Equals) ≡ false

-- tokens that begin with such a text, or none
abbrev Plain : List (List ℕ) → Type 0
Plain [] = Unit {0}
Plain (s ∷ ts) = IsPlain s

plain_sort : (w : List ℕ) (ts : List (List ℕ)) → Plain ts → sort_of (w ∷ ts) ≡ by_word w
unfolding sort_of
plain_sort w [] p = refl
plain_sort w (s ∷ ts) p = rw (p.no_colon, p.no_equals) refl

by_test : (test : List ℕ → Bool) (s : List ℕ) → test s ≡ true → test (spelling word.Colon) ≡ false → test (spelling word.Equals) ≡ false → IsPlain s
by_test test s h a b = record { no_colon = differs test s (spelling word.Colon) h a; no_equals = differs test s (spelling word.Equals) h b }

word_plain : (s : List ℕ) → is_word s ≡ true → IsPlain s
unfolding spelling
word_plain s h = by_test is_word s h refl refl

quoted_plain : (s : List ℕ) → is_token kind.Quoted s ≡ true → IsPlain s
unfolding spelling
quoted_plain s h = by_test (is_token kind.Quoted) s h refl refl

group_plain : (s : List ℕ) → is_token kind.Group s ≡ true → IsPlain s
unfolding spelling
group_plain s h = by_test (is_token kind.Group) s h refl refl

align_plain : IsPlain (spelling word.Align)
unfolding spelling
align_plain = record { no_colon = refl; no_equals = refl }

comma_plain : IsPlain (spelling word.Comma)
unfolding spelling
comma_plain = record { no_colon = refl; no_equals = refl }

label_plain : IsPlain (spelling word.Label)
unfolding spelling
label_plain = record { no_colon = refl; no_equals = refl }

call_plain : IsPlain (spelling word.Call)
unfolding spelling
call_plain = record { no_colon = refl; no_equals = refl }

type_plain : (ty : Ty) → IsPlain (type_word ty)
unfolding spelling type_word
type_plain I1 = record { no_colon = refl; no_equals = refl }
type_plain I8 = record { no_colon = refl; no_equals = refl }
type_plain I16 = record { no_colon = refl; no_equals = refl }
type_plain I32 = record { no_colon = refl; no_equals = refl }
type_plain I64 = record { no_colon = refl; no_equals = refl }
type_plain Ptr = record { no_colon = refl; no_equals = refl }

void_plain : IsPlain (spelling word.Void)
unfolding spelling
void_plain = record { no_colon = refl; no_equals = refl }

result_plain : (ret : Option Ty) → IsPlain (result_word ret)
result_plain None = void_plain
result_plain (Some ty) = type_plain ty

attribute_plain : (item rest : List (List ℕ)) → IsAttribute item → Plain (item ++ rest)
attribute_plain item rest (plain w h is) = subst (λ i. Plain (i ++ rest)) (sym is) (word_plain w h.a_word)
attribute_plain item rest (called w inner h balanced is) = subst (λ i. Plain (i ++ rest)) (sym is) (word_plain w h.a_word)
attribute_plain item rest (aligned n h is) = subst (λ i. Plain (i ++ rest)) (sym is) align_plain
attribute_plain item rest (quoted s h is) = subst (λ i. Plain (i ++ rest)) (sym is) (quoted_plain s h)
attribute_plain item rest (paired s t h k is) = subst (λ i. Plain (i ++ rest)) (sym is) (quoted_plain s h)
attribute_plain item rest (grouped g h is) = subst (λ i. Plain (i ++ rest)) (sym is) (group_plain g h)

items_plain : (items : List (List (List ℕ))) (rest : List (List ℕ)) → Each IsAttribute items → Plain rest → Plain (flat_map (λ i. i) items ++ rest)
items_plain [] rest each p = p
items_plain (item ∷ items) rest each p =
    subst (λ ts. Plain ts) (sym (append_assoc item (flat_map (λ i. i) items) rest)) (attribute_plain item (flat_map (λ i. i) items ++ rest) each.0)

-- attributes, before what begins so
many_plain : (ts rest : List (List ℕ)) → AreMany IsAttribute ts → Plain rest → Plain (ts ++ rest)
many_plain ts rest many p = subst (λ us. Plain (us ++ rest)) (sym many.whole) (items_plain many.items rest many.each p)

tail_plain : (ts : List (List ℕ)) → AreMany IsTailItem ts → Plain ts
tail_plain [] many = tt
tail_plain (t ∷ ts) many = subst (λ s. IsPlain s) (sym (tail_first (t ∷ ts) t ts many refl)) comma_plain

-- a token that stands first, and what is spelled behind it
record Started (line : List ℕ) (tokens : List Token) (s : List ℕ) (ps : List Part) : Type 0 where
  pub rest : List Token
  pub whole : texts line tokens ≡ s ∷ texts line rest
  pub spelled : Spells line rest ps

started : (line : List ℕ) (tokens : List Token) (s : List ℕ) (ps : List Part) → Spells line tokens (token s ∷ ps) → Started line tokens s ps
started line tokens s ps h =
    let one = one_of line tokens h.0 h.1 s h.2 h.3 in
    record { rest = h.1; whole = ap (λ ts. texts line ts) one.whole ∙ ap (λ b. b ∷ texts line h.1) one.bytes; spelled = h.4 }

-- a token behind a blank
second_plain : (line : List ℕ) (tokens : List Token) (s : List ℕ) (ps : List Part) → IsPlain s → Spells line tokens (blank ∷ token s ∷ ps) → Plain (texts line tokens)
second_plain line tokens s ps p h =
    let first = started line tokens s ps (skip_blank line tokens (token s ∷ ps) h) in subst (λ ts. Plain ts) (sym first.whole) p

two_sort : (line : List ℕ) (tokens : List Token) (w s : List ℕ) (ps : List Part) → IsPlain s → Spells line tokens (token w ∷ blank ∷ token s ∷ ps) → sort_of (texts line tokens) ≡ by_word w
two_sort line tokens w s ps p h =
    let first = started line tokens w (blank ∷ token s ∷ ps) h in
    ap (λ ts. sort_of ts) first.whole ∙ plain_sort w (texts line first.rest) (second_plain line first.rest s ps p first.spelled)

head_sort : (line : List ℕ) (tokens : List Token) (k : Keyword) (a : Head) (ps : List Part) → Spells line tokens (head_parts k a ++ ps) → sort_of (texts line tokens) ≡ by_word (spelling k)
head_sort line tokens k a ps h =
    let first = started line tokens (spelling k) (rest_of (head_parts k a ++ ps)) h in
    let inner = first.spelled in
    let result = second_plain line inner.1 (result_word a.ret) (rest_of (rest_of (rest_of (rest_of (head_parts k a ++ ps))))) (result_plain a.ret) inner.4 in
    let shown : texts line first.rest ≡ texts line inner.0 ++ texts line inner.1 = ap (λ ts. texts line ts) inner.2 ∙ texts_append line inner.0 inner.1 in
    ap (λ ts. sort_of ts) first.whole
    ∙ plain_sort (spelling k) (texts line first.rest) (subst (λ ts. Plain ts) (sym shown) (many_plain (texts line inner.0) (texts line inner.1) inner.3.0 result))

declare_word : by_word (spelling word.Declare) ≡ a_declare
unfolding by_word spelling
declare_word = refl

define_word : by_word (spelling word.Define) ≡ a_define
unfolding by_word spelling
define_word = refl

close_word : by_word (spelling word.CloseBrace) ≡ a_close
unfolding by_word spelling
close_word = refl

store_word : by_word (spelling word.Store) ≡ an_inst
unfolding by_word spelling
store_word = refl

call_words : (by_word (spelling word.Call) ≡ an_inst) × (by_word (spelling word.Tail) ≡ an_inst) × (by_word (spelling word.NoTail) ≡ an_inst)
unfolding by_word spelling
call_words = (refl, refl, refl)

term_words : (by_word (spelling word.Br) ≡ a_term) × (by_word (spelling word.Ret) ≡ a_term) × (by_word (spelling word.Unreachable) ≡ a_term)
unfolding by_word spelling
term_words = (refl, refl, refl)

kind_told : (k : TokenKind) (s : List ℕ) → is_token k s ≡ true → kind_of s ≡ Some k
kind_told k [] h = let none : is_token k [] ≡ false = some_bytes k in absurd (cc)
kind_told k (b ∷ bs) h = first_tells k b bs h

-- a line that gives something to what is of a kind
given_sort : (a : List ℕ) (ts : List (List ℕ)) → sort_of (a ∷ spelling word.Equals ∷ ts) ≡ by_mark (kind_of a) ts
unfolding sort_of spelling
given_sort a ts = refl

kept_sort : (ts : List (List ℕ)) → IsKeptLine ts → sort_of ts ≡ a_kept
unfolding by_word spelling
kept_sort ts (source n h is) = ap (λ us. sort_of us) is ∙ given_sort (spelling word.SourceFilename) (n ∷ [])
kept_sort ts (target what n h k is) = ap (λ us. sort_of us) is ∙ plain_sort (spelling word.Target) (what ∷ spelling word.Equals ∷ n ∷ []) (word_plain what h)
kept_sort ts (metadata n rest h balanced is) = ap (λ us. sort_of us) is ∙ given_sort n rest ∙ ap (λ k. by_mark k rest) (kind_told kind.Meta n h)
kept_sort ts (named n rest h balanced is) = ap (λ us. sort_of us) is ∙ given_sort n (spelling word.TypeOf ∷ rest) ∙ ap (λ k. by_mark k (spelling word.TypeOf ∷ rest)) (kind_told kind.Local n h)
kept_sort ts (comdat n kd h k is) = ap (λ us. sort_of us) is ∙ given_sort (36 ∷ n) (spelling word.Comdat ∷ kd ∷ [])

group_sort : (n : ℕ) (ts : List (List ℕ)) → IsGroupLine n ts → sort_of ts ≡ a_group
unfolding by_word spelling
group_sort n ts h = ap (λ us. sort_of us) h.tokens ∙ plain_sort (spelling word.Attributes) ((35 ∷ decimal n) ∷ spelling word.Equals ∷ in_braces h.inner) (record { no_colon = refl; no_equals = refl })

global_sort : (n : List ℕ) (ts : List (List ℕ)) → IsGlobalLine n ts → sort_of ts ≡ a_global
unfolding is_mark
global_sort n ts h = ap (λ us. sort_of us) h.tokens ∙ given_sort (64 ∷ n) (h.before ++ h.kind ∷ h.rest)

label_sort : (a : List ℕ) (ts : List (List ℕ)) → sort_of (a ∷ spelling word.Colon ∷ ts) ≡ a_label
unfolding sort_of spelling
label_sort a ts = refl

-- a named instruction
named_sort : (line : List ℕ) (tokens : List Token) (s : Scale) (n : List ℕ) (i : RawInst) →
    Spells line tokens (token (37 ∷ n) ∷ blank ∷ word_part word.Equals ∷ blank ∷ inst_parts s i) → sort_of (texts line tokens) ≡ an_inst
unfolding is_mark
named_sort line tokens s n i h =
    let first = started line tokens (37 ∷ n) (blank ∷ word_part word.Equals ∷ blank ∷ inst_parts s i) h in
    let second = started line first.rest (spelling word.Equals) (blank ∷ inst_parts s i) (skip_blank line first.rest (word_part word.Equals ∷ blank ∷ inst_parts s i) first.spelled) in
    let lead = inst_lead line second.rest s i (skip_blank line second.rest (inst_parts s i) second.spelled) in
    let shown : texts line tokens ≡ (37 ∷ n) ∷ spelling word.Equals ∷ lead.text ∷ lead.more =
    first.whole ∙ ap (λ ts. (37 ∷ n) ∷ ts) (second.whole ∙ ap (λ ts. spelling word.Equals ∷ ts) lead.whole) in
    ap (λ ts. sort_of ts) shown ∙ given_sort (37 ∷ n) (lead.text ∷ lead.more) ∙ rw (lead_no_type lead.text i lead.tells) refl

mark_sort : (mark rest : List (List ℕ)) → IsCallMark mark → Plain rest → sort_of (mark ++ rest) ≡ an_inst
mark_sort mark rest (mark_plain is) p = ap (λ m. sort_of (m ++ rest)) is ∙ plain_sort (spelling word.Call) rest p ∙ call_words.0
mark_sort mark rest (mark_tail is) p = ap (λ m. sort_of (m ++ rest)) is ∙ plain_sort (spelling word.Tail) (spelling word.Call ∷ rest) call_plain ∙ call_words.1
mark_sort mark rest (mark_no_tail is) p = ap (λ m. sort_of (m ++ rest)) is ∙ plain_sort (spelling word.NoTail) (spelling word.Call ∷ rest) call_plain ∙ call_words.2

marked_sort : (line : List ℕ) (tokens mark rest : List Token) → tokens ≡ mark ++ rest → IsCallMark (texts line mark) → Plain (texts line rest) → sort_of (texts line tokens) ≡ an_inst
marked_sort line tokens mark rest e marked p =
    ap (λ ts. sort_of (texts line ts)) e ∙ ap (λ ts. sort_of ts) (texts_append line mark rest) ∙ mark_sort (texts line mark) (texts line rest) marked p

result_tokens_plain : (line : List ℕ) (ret : Option Ty) (result rest : List Token) → texts line result ≡ result_word ret ∷ [] → Plain (texts line (result ++ rest))
result_tokens_plain line ret result rest is =
    let at : texts line (result ++ rest) ≡ result_word ret ∷ texts line rest = texts_append line result rest ∙ ap (λ ts. ts ++ texts line rest) is in
    subst (λ ts. Plain ts) (sym at) (result_plain ret)

unnamed_sort : (line : List ℕ) (tokens : List Token) (s : Scale) (i : RawInst) → IsMade name.Absent i → Spells line tokens (inst_parts s i) → sort_of (texts line tokens) ≡ an_inst
unnamed_sort line tokens s (Store ty a p u) made h =
    two_sort line tokens (spelling word.Store) (type_word ty) (rest_of (rest_of (rest_of (inst_parts s (Store ty a p u))))) (type_plain ty) h ∙ store_word
unnamed_sort line tokens s (Copy a x n c p u) made h =
    let head = h.3 in
    marked_sort line tokens head.mark (head.result ++ h.1) (h.2 ∙ ap (λ r. r ++ h.1) head.whole ∙ append_assoc head.mark head.result h.1) head.marked
    (result_tokens_plain line None head.result h.1 head.result_is)
unnamed_sort line tokens s (Call n a xs c p u) made h =
    let head = h.3 in
    let rest : List Token = head.result ++ (head.written ++ h.1) in
    marked_sort line tokens head.mark (head.before ++ rest) (regroup tokens h.0 head.mark head.before head.result head.written h.1 h.2 head.whole) head.marked
    (subst (λ ts. Plain ts) (sym (texts_append line head.before rest))
    (many_plain (texts line head.before) (texts line rest) head.attributes (result_tokens_plain line a head.result (head.written ++ h.1) head.result_is)))
unnamed_sort line tokens s i made h = absurd made

inst_sort : (line : List ℕ) (tokens : List Token) (s : Scale) (n : Name) (i : RawInst) → IsMade n i → Spells line tokens (result_parts n ++ inst_parts s i) → sort_of (texts line tokens) ≡ an_inst
inst_sort line tokens s (name.Word text) i made h = named_sort line tokens s text i h
inst_sort line tokens s (name.Number n) i made h = named_sort line tokens s (decimal n) i h
inst_sort line tokens s name.Absent i made h = unnamed_sort line tokens s i made h

term_sort : (line : List ℕ) (tokens : List Token) (i : RawTerm) → Spells line tokens (term_parts i) → sort_of (texts line tokens) ≡ a_term
term_sort line tokens (Br n u) h = two_sort line tokens (spelling word.Br) (spelling word.Label) (rest_of (rest_of (rest_of (term_parts (Br n u))))) label_plain h ∙ term_words.0
term_sort line tokens (CondBr c n m u) h = two_sort line tokens (spelling word.Br) (type_word I1) (rest_of (rest_of (rest_of (term_parts (CondBr c n m u))))) (type_plain I1) h ∙ term_words.0
term_sort line tokens (Ret None u) h = two_sort line tokens (spelling word.Ret) (spelling word.Void) (rest_of (rest_of (rest_of (term_parts (Ret None u))))) void_plain h ∙ term_words.1
term_sort line tokens (Ret (Some x) u) h = two_sort line tokens (spelling word.Ret) (type_word x.0) (rest_of (rest_of (rest_of (term_parts (Ret (Some x) u))))) (type_plain x.0) h ∙ term_words.1
term_sort line tokens (Unreachable u) h =
    let first = started line tokens (spelling word.Unreachable) (kept tail u ∷ []) h in
    ap (λ ts. sort_of ts) first.whole ∙ plain_sort (spelling word.Unreachable) (texts line first.rest) (tail_plain (texts line first.rest) (rest_tail line first.rest u first.spelled)) ∙ term_words.2

-- what is kept to the end of a line
whole_sort : (line : List ℕ) (tokens run rest : List Token) (x : Sort) → tokens ≡ run ++ rest → rest ≡ [] → sort_of (texts line run) ≡ x → sort_of (texts line tokens) ≡ x
whole_sort line tokens run rest x a b c = ap (λ ts. sort_of (texts line ts)) (whole_run line tokens run rest a b) ∙ c

-- the kind of a line
pub line_sort : (line : List ℕ) (tokens : List Token) (s : Scale) (l : Line) → FitsLine s l → Spells line tokens (form s l) → sort_of (texts line tokens) ≡ sort_is l
unfolding sort_is sort_of
line_sort line tokens s said.Empty fits h = ap (λ ts. sort_of (texts line ts)) h
line_sort line tokens s said.Close fits h =
    let first = started line tokens (spelling word.CloseBrace) [] h in
    ap (λ ts. sort_of ts) (first.whole ∙ ap (λ r. spelling word.CloseBrace ∷ texts line r) first.spelled) ∙ close_word
line_sort line tokens s (said.Kept text) fits h = whole_sort line tokens h.0 h.1 a_kept h.2 h.4 (kept_sort (texts line h.0) h.3.0)
line_sort line tokens s (said.Group n text) fits h = whole_sort line tokens h.0 h.1 a_group h.2 h.4 (group_sort n (texts line h.0) h.3.0)
line_sort line tokens s (said.GlobalVar n text) fits h = whole_sort line tokens h.0 h.1 a_global h.2 h.4 (global_sort n (texts line h.0) h.3.0)
line_sort line tokens s (said.Label n) fits h =
    let first = started line tokens (name_text n) (word_part word.Colon ∷ []) h in
    let second = started line first.rest (spelling word.Colon) [] first.spelled in
    ap (λ ts. sort_of ts) (first.whole ∙ ap (λ ts. name_text n ∷ ts) second.whole) ∙ label_sort (name_text n) (texts line second.rest)
line_sort line tokens s (said.Declare head) fits h = head_sort line tokens word.Declare head [] (subst (λ ps. Spells line tokens ps) (sym (append-nil (head_parts word.Declare head))) h) ∙ declare_word
line_sort line tokens s (said.Define head) fits h = head_sort line tokens word.Define head brace_parts h ∙ define_word
line_sort line tokens s (said.Inst n i) fits h =
    inst_sort line tokens s n i fits.0 (skip_blank line tokens (result_parts n ++ inst_parts s i) (skip_blank line tokens (blank ∷ result_parts n ++ inst_parts s i) h))
line_sort line tokens s (said.Term i) fits h = term_sort line tokens i (skip_blank line tokens (term_parts i) (skip_blank line tokens (blank ∷ term_parts i) h))
