-- Two lists of parts that the same tokens spell agree part by part.
use Rattle.std.proofs.Common.{◌≡◌, ◌≢◌, ◌⊎◌, ℕ, Bool, true, false, List, [], ◌∷◌, ◌++◌, Some, refl, sym, ap, subst, ◌∙◌, inl, inr, append-nil}
use Rattle.ms_lex.specs.declared.token.Token.{Token}
use Rattle.ms_ir.specs.declared.names.Ty.{Ty}
use Rattle.ms_ir.specs.declared.names.Name.{Name}
use Rattle.ms_ir.specs.declared.names.Name.TheVariants as name
use Rattle.ms_grammar.specs.Words.{spelling, type_word}
use Rattle.std.proofs.Common.{◌<◌, lit<, arith}
use Rattle.ms_lex.specs.Kinds.{is_token}
use Rattle.ms_lex.specs.First.{first_kind}
use Rattle.ms_lex.specs.declared.token.TokenKind.TheVariants.{Number}
use Rattle.ms_lex.proofs.First.{first_tells}
use Rattle.ms_grammar.specs.Numbers.{magnitude, Means, numeral, yes, no}
use Rattle.ms_grammar.specs.Parts.{Part, blank, token, flag, number, count, kept, apart, attributes, post, tail, Spells, texts, bytes_at, kept_text}
use Rattle.ms_grammar.specs.Form.{value_part, type_part, word_part, name_text}
use Rattle.ms_grammar.specs.Fits.{IsNamed, IsWordName, IsValue}
use Rattle.ms_grammar.specs.declared.line.RawVal.{RawVal}
use Rattle.ms_grammar.specs.declared.line.RawVal.TheVariants.{Num, Local, Global}
use Rattle.ms_grammar.specs.declared.keyword.Keyword.TheVariants as word
use Rattle.ms_grammar.specs.Reading.{name_of}
use Rattle.ms_grammar.proofs.Steps.{one_of}
use Rattle.ms_grammar.proofs.Words.{name_of_text, one_number}
use Rattle.ms_grammar.specs.declared.keyword.Keyword.{Keyword}
use Rattle.ms_grammar.proofs.Objects.{type_one}
use Rattle.ms_grammar.specs.Scan.{Stops}
use Rattle.ms_grammar.proofs.Walks.{one_attributes, one_post}

-- tokens that spell both
pub record Both (line : List ℕ) (ps qs : List Part) : Type 0 where
  pub tokens : List Token
  pub one : Spells line tokens ps
  pub other : Spells line tokens qs

-- two values are one, and the tokens behind them spell both rests
pub record Agree {X : Type 0} (x y : X) (line : List ℕ) (ps qs : List Part) : Type 0 where
  pub same : x ≡ y
  pub rest : Both line ps qs

pub record SameHead (s t : List ℕ) (rest left : List Token) : Type 0 where
  pub text : s ≡ t
  pub behind : rest ≡ left

pub same_head : (line : List ℕ) (tokens run rest gone left : List Token) (s t : List ℕ) → tokens ≡ run ++ rest → tokens ≡ gone ++ left →
    texts line run ≡ s ∷ [] → texts line gone ≡ t ∷ [] → SameHead s t rest left
same_head line tokens run rest gone left s t a b c d =
    let one = one_of line tokens run rest s a c in
    let other = one_of line tokens gone left t b d in
    let cells : one.first ∷ rest ≡ other.first ∷ left = sym one.whole ∙ other.whole in
    let token : one.first ≡ other.first = cc in
    record { text = sym one.bytes ∙ ap (λ u. bytes_at line u) token ∙ other.bytes; behind = cc }

pub along : (line : List ℕ) (ps : List Part) (rest left : List Token) → rest ≡ left → Spells line left ps → Spells line rest ps
along line ps rest left e h = subst (λ ts. Spells line ts ps) (sym e) h

behind_none : (line : List ℕ) (tokens run rest : List Token) (ps : List Part) → tokens ≡ run ++ rest → run ≡ [] → Spells line rest ps → Spells line tokens ps
behind_none line tokens run rest ps whole none h = along line ps tokens rest (whole ∙ ap (λ r. r ++ rest) none) h

pub skip_blank : (line : List ℕ) (tokens : List Token) (ps : List Part) → Spells line tokens (blank ∷ ps) → Spells line tokens ps
skip_blank line tokens ps h = behind_none line tokens h.0 h.1 ps h.2 h.3 h.4

pub both_blank : (line : List ℕ) (ps qs : List Part) → Both line (blank ∷ ps) (blank ∷ qs) → Both line ps qs
both_blank line ps qs b = record { tokens = b.tokens; one = skip_blank line b.tokens ps b.one; other = skip_blank line b.tokens qs b.other }

pub both_token : (line : List ℕ) (s t : List ℕ) (ps qs : List Part) → Both line (token s ∷ ps) (token t ∷ qs) → Agree s t line ps qs
both_token line s t ps qs b =
    let head = same_head line b.tokens b.one.0 b.one.1 b.other.0 b.other.1 s t b.one.2 b.other.2 b.one.3 b.other.3 in
    record { same = head.text; rest = record { tokens = b.one.1; one = b.one.4; other = along line qs b.one.1 b.other.1 head.behind b.other.4 } }

-- names are told by their texts
pub name_one : (n m : Name) → IsNamed n → IsNamed m → name_text n ≡ name_text m → n ≡ m
name_one n m h k e =
    let first : name_of (name_text n) ≡ Some n = name_of_text n h in
    let second : name_of (name_text m) ≡ Some m = name_of_text m k in
    let through : name_of (name_text n) ≡ name_of (name_text m) = ap (λ t. name_of t) e in
    cc

pub word_named : (n : Name) → IsWordName n → IsNamed n
word_named (name.Word text) h = h
word_named (name.Number n) h = absurd h
word_named name.Absent h = absurd h

-- a number begins with no mark of a name
number_no_mark : (mark : ℕ) (text : List ℕ) → (mark ≡ 37) ⊎ (mark ≡ 64) → is_token Number (mark ∷ text) ≡ true → ⊥
number_no_mark mark text (inl e) h =
    let kind : first_kind 37 ≡ Some Number = subst (λ m. first_kind m ≡ Some Number) e (first_tells Number mark text h) in cc
number_no_mark mark text (inr e) h =
    let kind : first_kind 64 ≡ Some Number = subst (λ m. first_kind m ≡ Some Number) e (first_tells Number mark text h) in cc

word_no_mark : (mark letter : ℕ) (text rest : List ℕ) → (mark ≡ 37) ⊎ (mark ≡ 64) → 64 < letter → mark ∷ text ≡ letter ∷ rest → ⊥
word_no_mark mark letter text rest (inl e) h f = let first : mark ≡ letter = cc in omega arith
word_no_mark mark letter text rest (inr e) h f = let first : mark ≡ letter = cc in omega arith

true_no_mark : (mark : ℕ) (text : List ℕ) → (mark ≡ 37) ⊎ (mark ≡ 64) → mark ∷ text ≡ spelling word.True → ⊥
unfolding spelling
true_no_mark mark text e f = word_no_mark mark 116 text (114 ∷ 117 ∷ 101 ∷ []) e (lit< tt) f

false_no_mark : (mark : ℕ) (text : List ℕ) → (mark ≡ 37) ⊎ (mark ≡ 64) → mark ∷ text ≡ spelling word.False → ⊥
unfolding spelling
false_no_mark mark text e f = word_no_mark mark 102 text (97 ∷ 108 ∷ 115 ∷ 101 ∷ []) e (lit< tt) f

no_mark : (ty : Ty) (n : ℕ) (mark : ℕ) (text : List ℕ) → (mark ≡ 37) ⊎ (mark ≡ 64) → Means ty n (mark ∷ text) → ⊥
no_mark ty n mark text e (numeral spelled value) = number_no_mark mark text e spelled
no_mark ty n mark text e (yes one is spelled) = true_no_mark mark text e spelled
no_mark ty n mark text e (no one is spelled) = false_no_mark mark text e spelled

number_no_token : (line : List ℕ) (ty : Ty) (n mark : ℕ) (text : List ℕ) (ps qs : List Part) → (mark ≡ 37) ⊎ (mark ≡ 64) →
    Both line (number ty n ∷ ps) (token (mark ∷ text) ∷ qs) → ⊥
number_no_token line ty n mark text ps qs marked b =
    let head = same_head line b.tokens b.one.0 b.one.1 b.other.0 b.other.1 b.one.3.0 (mark ∷ text) b.one.2 b.other.2 b.one.3.1 b.other.3 in
    let means : Means ty n (mark ∷ text) = subst (λ s. Means ty n s) head.text b.one.3.2 in
    no_mark ty n mark text marked means

pub flip : (line : List ℕ) (ps qs : List Part) → Both line ps qs → Both line qs ps
flip line ps qs b = record { tokens = b.tokens; one = b.other; other = b.one }

numbers_one : (line : List ℕ) (ty : Ty) (n m : ℕ) (ps qs : List Part) → Both line (number ty n ∷ ps) (number ty m ∷ qs) → Agree n m line ps qs
numbers_one line ty n m ps qs b =
    let head = same_head line b.tokens b.one.0 b.one.1 b.other.0 b.other.1 b.one.3.0 b.other.3.0 b.one.2 b.other.2 b.one.3.1 b.other.3.1 in
    let means : Means ty n b.other.3.0 = subst (λ s. Means ty n s) head.text b.one.3.2 in
    record { same = one_number ty n m b.other.3.0 means b.other.3.2; rest = record { tokens = b.one.1; one = b.one.4; other = along line qs b.one.1 b.other.1 head.behind b.other.4 } }

pub both_count : (line : List ℕ) (n m : ℕ) (ps qs : List Part) → Both line (count n ∷ ps) (count m ∷ qs) → Agree n m line ps qs
both_count line n m ps qs b =
    let head = same_head line b.tokens b.one.0 b.one.1 b.other.0 b.other.1 b.one.3.0 b.other.3.0 b.one.2 b.other.2 b.one.3.1 b.other.3.1 in
    record { same = b.one.3.2.value ∙ ap (λ s. magnitude s) head.text ∙ sym b.other.3.2.value; rest = record { tokens = b.one.1; one = b.one.4; other = along line qs b.one.1 b.other.1 head.behind b.other.4 } }

agree_map : {X Y : Type 0} (f : X → Y) (x y : X) (line : List ℕ) (ps qs : List Part) → Agree x y line ps qs → Agree (f x) (f y) line ps qs
agree_map f x y line ps qs a = record { same = ap f a.same; rest = a.rest }

pub behind_first : (a b : ℕ) (s t : List ℕ) → a ∷ s ≡ b ∷ t → s ≡ t
behind_first a b s t e = cc

marks_apart : (s t : List ℕ) → 37 ∷ s ≡ 64 ∷ t → ⊥
marks_apart s t e = cc

both_num : (line : List ℕ) (own own' : Ty) (n m : ℕ) (ps qs : List Part) → own ≡ own' → Both line (number own n ∷ ps) (number own' m ∷ qs) → Agree (Num own n) (Num own' m) line ps qs
both_num line own own' n m ps qs types h =
    let one = numbers_one line own n m ps qs (subst (λ t. Both line (number own n ∷ ps) (number t m ∷ qs)) (sym types) h) in
    record { same = ap (λ t. Num t n) types ∙ ap (λ k. Num own' k) one.same; rest = one.rest }

pub both_name : (line : List ℕ) (mark : ℕ) (n m : Name) (ps qs : List Part) → IsNamed n → IsNamed m →
    Both line (token (mark ∷ name_text n) ∷ ps) (token (mark ∷ name_text m) ∷ qs) → Agree n m line ps qs
both_name line mark n m ps qs h k b =
    let one = both_token line (mark ∷ name_text n) (mark ∷ name_text m) ps qs b in
    record { same = name_one n m h k (behind_first mark mark (name_text n) (name_text m) one.same); rest = one.rest }

-- a value of a type
pub both_value : (line : List ℕ) (ty : Ty) (a b : RawVal) (ps qs : List Part) → IsValue ty a → IsValue ty b →
    Both line (value_part a ∷ ps) (value_part b ∷ qs) → Agree a b line ps qs
both_value line ty (Num own n) (Num own' m) ps qs f g h = both_num line own own' n m ps qs (f.0 ∙ sym g.0) h
both_value line ty (Num own n) (Local m) ps qs f g h = absurd (number_no_token line own n 37 (name_text m) ps qs (inl refl) h)
both_value line ty (Num own n) (Global m) ps qs f g h = absurd (number_no_token line own n 64 (name_text m) ps qs (inr refl) h)
both_value line ty (Local n) (Num own m) ps qs f g h =
    absurd (number_no_token line own m 37 (name_text n) qs ps (inl refl) (flip line (token (37 ∷ name_text n) ∷ ps) (number own m ∷ qs) h))
both_value line ty (Local n) (Local m) ps qs f g h = agree_map (λ k. Local k) n m line ps qs (both_name line 37 n m ps qs f g h)
both_value line ty (Local n) (Global m) ps qs f g h =
    absurd (marks_apart (name_text n) (name_text m) (both_token line (37 ∷ name_text n) (64 ∷ name_text m) ps qs h).same)
both_value line ty (Global n) (Num own m) ps qs f g h =
    absurd (number_no_token line own m 64 (name_text n) qs ps (inr refl) (flip line (token (64 ∷ name_text n) ∷ ps) (number own m ∷ qs) h))
both_value line ty (Global n) (Local m) ps qs f g h =
    absurd (marks_apart (name_text m) (name_text n) (sym (both_token line (64 ∷ name_text n) (37 ∷ name_text m) ps qs h).same))
both_value line ty (Global n) (Global m) ps qs f g h =
    agree_map (λ k. Global k) n m line ps qs (both_name line 64 n m ps qs (word_named n f.1) (word_named m g.1) h)

-- a word of the grammar, the same in both
pub both_word : (line : List ℕ) (w : Keyword) (ps qs : List Part) → Both line (word_part w ∷ ps) (word_part w ∷ qs) → Both line ps qs
both_word line w ps qs b = (both_token line (spelling w) (spelling w) ps qs b).rest

pub both_lead : (line : List ℕ) (w : Keyword) (ps qs : List Part) → Both line (word_part w ∷ blank ∷ ps) (word_part w ∷ blank ∷ qs) → Both line ps qs
both_lead line w ps qs b = both_blank line ps qs (both_word line w (blank ∷ ps) (blank ∷ qs) b)

pub both_type : (line : List ℕ) (ty tz : Ty) (ps qs : List Part) → Both line (type_part ty ∷ ps) (type_part tz ∷ qs) → Agree ty tz line ps qs
both_type line ty tz ps qs b = let one = both_token line (type_word ty) (type_word tz) ps qs b in record { same = type_one ty tz one.same; rest = one.rest }

-- a value behind its type
pub record AgreeTyped (ty tz : Ty) (a b : RawVal) (line : List ℕ) (ps qs : List Part) : Type 0 where
  pub type_same : ty ≡ tz
  pub value_same : a ≡ b
  pub rest : Both line ps qs

pub both_typed : (line : List ℕ) (ty tz : Ty) (a b : RawVal) (ps qs : List Part) → IsValue ty a → IsValue tz b →
    Both line (type_part ty ∷ blank ∷ value_part a ∷ ps) (type_part tz ∷ blank ∷ value_part b ∷ qs) → AgreeTyped ty tz a b line ps qs
both_typed line ty tz a b ps qs f g h =
    let types = both_type line ty tz (blank ∷ value_part a ∷ ps) (blank ∷ value_part b ∷ qs) h in
    let value = both_value line ty a b ps qs f (subst (λ t. IsValue t b) (sym types.same) g)
    (both_blank line (value_part a ∷ ps) (value_part b ∷ qs) types.rest) in
    record { type_same = types.same; value_same = value.same; rest = value.rest }

-- runs of one list that have the same texts are the same
pub record SameRun (us vs ps qs : List Token) : Type 0 where
  pub run : us ≡ vs
  pub behind : ps ≡ qs

pub same_run : (line : List ℕ) (us vs ps qs : List Token) → us ++ ps ≡ vs ++ qs → texts line us ≡ texts line vs → SameRun us vs ps qs
same_run line [] [] ps qs e f = record { run = refl; behind = e }
same_run line [] (v ∷ vs) ps qs e f = absurd (cc)
same_run line (u ∷ us) [] ps qs e f = absurd (cc)
same_run line (u ∷ us) (v ∷ vs) ps qs e f =
    let rest = same_run line us vs ps qs (cc) (cc) in
    let run : us ≡ vs = rest.run in
    let first : u ≡ v = cc in
    record { run = cc; behind = rest.behind }

pub texts_append : (line : List ℕ) (us vs : List Token) → texts line (us ++ vs) ≡ texts line us ++ texts line vs
texts_append line [] vs = refl
texts_append line (u ∷ us) vs = ap (λ ts. bytes_at line u ∷ ts) (texts_append line us vs)

pub texts_cut : (line : List ℕ) (tokens us vs ps qs : List Token) → tokens ≡ us ++ ps → tokens ≡ vs ++ qs → texts line us ++ texts line ps ≡ texts line vs ++ texts line qs
texts_cut line tokens us vs ps qs a b = sym (texts_append line us ps) ∙ ap (λ ts. texts line ts) (sym a ∙ b) ∙ texts_append line vs qs

-- parts whose tokens attributes cannot take in
abbrev pub StopsAll : Bool → List ℕ → List Part → Type 0
StopsAll meta line ps = (rest : List Token) → Spells line rest ps → Stops meta (texts line rest)

-- kept attributes
pub both_attributes : (line : List ℕ) (s t : List ℕ) (ps qs : List Part) → StopsAll false line ps → StopsAll false line qs →
    Both line (apart attributes s ∷ ps) (apart attributes t ∷ qs) → Agree s t line ps qs
both_attributes line s t ps qs stop stop' b =
    let cut = one_attributes (texts line b.one.0) (texts line b.other.0) (texts line b.one.1) (texts line b.other.1)
    (texts_cut line b.tokens b.one.0 b.other.0 b.one.1 b.other.1 b.one.2 b.other.2) b.one.3.0 b.other.3.0 (stop b.one.1 b.one.4) (stop' b.other.1 b.other.4) in
    let runs = same_run line b.one.0 b.other.0 b.one.1 b.other.1 (sym b.one.2 ∙ b.other.2) cut in
    record { same = b.one.3.1 ∙ ap (λ r. kept_text line r) runs.run ∙ sym b.other.3.1; rest = record { tokens = b.one.1; one = b.one.4; other = along line qs b.one.1 b.other.1 runs.behind b.other.4 } }

pub both_post : (line : List ℕ) (s t : List ℕ) (ps qs : List Part) → StopsAll true line ps → StopsAll true line qs →
    Both line (apart post s ∷ ps) (apart post t ∷ qs) → Agree s t line ps qs
both_post line s t ps qs stop stop' b =
    let cut = one_post (texts line b.one.0) (texts line b.other.0) (texts line b.one.1) (texts line b.other.1)
    (texts_cut line b.tokens b.one.0 b.other.0 b.one.1 b.other.1 b.one.2 b.other.2) b.one.3.0 b.other.3.0 (stop b.one.1 b.one.4) (stop' b.other.1 b.other.4) in
    let runs = same_run line b.one.0 b.other.0 b.one.1 b.other.1 (sym b.one.2 ∙ b.other.2) cut in
    record { same = b.one.3.1 ∙ ap (λ r. kept_text line r) runs.run ∙ sym b.other.3.1; rest = record { tokens = b.one.1; one = b.one.4; other = along line qs b.one.1 b.other.1 runs.behind b.other.4 } }

-- what is kept to the end of the line
pub whole_run : (line : List ℕ) (tokens run rest : List Token) → tokens ≡ run ++ rest → rest ≡ [] → tokens ≡ run
whole_run line tokens run rest a b = a ∙ ap (λ r. run ++ r) b ∙ append-nil run

pub both_tail : (line : List ℕ) (s t : List ℕ) → Both line (kept tail s ∷ []) (kept tail t ∷ []) → s ≡ t
both_tail line s t b =
    let one = whole_run line b.tokens b.one.0 b.one.1 b.one.2 b.one.4 in
    let other = whole_run line b.tokens b.other.0 b.other.1 b.other.2 b.other.4 in
    b.one.3.1 ∙ ap (λ r. kept_text line r) (sym one ∙ other) ∙ sym b.other.3.1

-- a token that stands first
pub starts_with : (line : List ℕ) (rest : List Token) (s : List ℕ) (ps : List Part) → Spells line rest (token s ∷ ps) → (ts : List (List ℕ)) × (texts line rest ≡ s ∷ ts)
starts_with line rest s ps h =
    let one = one_of line rest h.0 h.1 s h.2 h.3 in
    (texts line h.1, ap (λ ts. texts line ts) one.whole ∙ ap (λ b. b ∷ texts line h.1) one.bytes)

-- tokens that spell these parts do not begin with a word
abbrev pub NotFirst : List ℕ → List ℕ → List Part → Type 0
NotFirst line w ps = (rest : List Token) (ts : List (List ℕ)) → Spells line rest ps → texts line rest ≡ w ∷ ts → ⊥

pub token_not_first : (line w s : List ℕ) (ps : List Part) → s ≢ w → NotFirst line w (token s ∷ ps)
token_not_first line w s ps unlike rest ts h e = let first = starts_with line rest s ps h in let both : s ∷ first.0 ≡ w ∷ ts = sym first.1 ∙ e in unlike (cc)

pub blank_not_first : (line w : List ℕ) (ps : List Part) → NotFirst line w ps → NotFirst line w (blank ∷ ps)
blank_not_first line w ps below rest ts h e = below rest ts (skip_blank line rest ps h) e

no_texts : (line : List ℕ) (run : List Token) → texts line run ≡ [] → run ≡ []
no_texts line [] e = refl
no_texts line (t ∷ ts) e = absurd (cc)

pub skip_flag : (line : List ℕ) (tokens : List Token) (w : List ℕ) (ps : List Part) → Spells line tokens (flag w false ∷ ps) → Spells line tokens ps
skip_flag line tokens w ps h = behind_none line tokens h.0 h.1 ps h.2 (no_texts line h.0 h.3) h.4

pub flag_not_first : (line w v : List ℕ) (set : Bool) (ps : List Part) → v ≢ w → NotFirst line w ps → NotFirst line w (flag v set ∷ ps)
flag_not_first line w v true ps unlike below rest ts h e = token_not_first line w v ps unlike rest ts h e
flag_not_first line w v false ps unlike below rest ts h e = below rest ts (skip_flag line rest v ps h) e

-- a flag's word stands there in both or in none
pub both_flag : (line w : List ℕ) (a b : Bool) (ps qs : List Part) → NotFirst line w ps → NotFirst line w qs → Both line (flag w a ∷ ps) (flag w b ∷ qs) → Agree a b line ps qs
both_flag line w true true ps qs f g h = record { same = refl; rest = (both_token line w w ps qs (record { tokens = h.tokens; one = h.one; other = h.other })).rest }
both_flag line w false false ps qs f g h =
    record { same = refl; rest = record { tokens = h.tokens; one = skip_flag line h.tokens w ps h.one; other = skip_flag line h.tokens w qs h.other } }
both_flag line w true false ps qs f g h =
    let first = starts_with line h.tokens w ps h.one in absurd (g h.tokens first.0 (skip_flag line h.tokens w qs h.other) first.1)
both_flag line w false true ps qs f g h =
    let first = starts_with line h.tokens w qs h.other in absurd (f h.tokens first.0 (skip_flag line h.tokens w ps h.one) first.1)
