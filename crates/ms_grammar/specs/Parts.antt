-- What a line is made of: how its parts are printed, and which tokens spell them.
use Rattle.std.specs.Prelude.{◌≡◌, ◌==◌, ℕ, ℤ, Bool, false, List, [], ◌∷◌, ◌++◌, Option, Some, None, if◌then◌else◌, map, slice_range}
use Rattle.ms_lex.specs.declared.token.Token.{Token}
use Rattle.ms_ir.specs.declared.names.Ty.{Ty}
use Rattle.ms_grammar.specs.Words.{spelling, type_word}
use Rattle.ms_grammar.specs.Numbers.{Means, IsCount, number_text}
use Rattle.ms_grammar.specs.Kept.{IsAttribute, IsPostItem, IsTailItem, AreMany, IsObject, IsIndexList, IndexItem, AreWoven, IsKeptLine, IsGroupLine, IsGlobalLine, IsCallMark, IsCallType}
use Rattle.ms_grammar.specs.declared.keyword.Keyword.TheVariants as word
use Rattle.std.specs.Fmt.{decimal}

-- the kinds of kept text
pub data Class : Type 0 where
  attributes : Class
  post : Class
  tail : Class
  object : ℕ → Class
  gep_head : List ℕ → Class
  indices : List ℤ → Class
  call_head : Option Ty → Class
  copy_head : Class
  kept_line : Class
  group_line : ℕ → Class
  global_line : List ℕ → Class

-- a part of a line: a blank that only printing writes, a token, a word that stands where a flag is
-- set, a number of a type, a number of 0 or more, kept text, kept text behind a blank, and a list of
-- indices with texts that stand in the places of its percent signs
pub data Part : Type 0 where
  blank : Part
  token : List ℕ → Part
  flag : List ℕ → Bool → Part
  number : Ty → ℕ → Part
  count : ℕ → Part
  kept : Class → List ℕ → Part
  apart : Class → List ℕ → Part
  woven : List IndexItem → List (List ℕ) → List ℕ → Part

-- text behind a blank, and nothing where there is none
abbrev pub behind_blank : List ℕ → List ℕ
behind_blank [] = []
behind_blank (b ∷ bs) = 32 ∷ b ∷ bs

-- a text with these texts in the places of its first percent signs
abbrev pub filled : List (List ℕ) → List ℕ → List ℕ
filled [] text = text
filled (t ∷ ts) [] = []
filled (t ∷ ts) (b ∷ bs) = if b == 37 then t ++ filled ts bs else b ∷ filled (t ∷ ts) bs

-- how a part is printed
abbrev pub part_text : Part → List ℕ
part_text blank = 32 ∷ []
part_text (token text) = text
part_text (flag text set) = if set then 32 ∷ text else []
part_text (number ty n) = number_text ty n
part_text (count n) = decimal n
part_text (kept class text) = text
part_text (apart class text) = behind_blank text
part_text (woven items names index) = filled names index

-- how parts are printed, one behind another
abbrev pub text_of : List Part → List ℕ
text_of [] = []
text_of (p ∷ ps) = part_text p ++ text_of ps

-- the bytes of tokens
abbrev pub bytes_at : List ℕ → Token → List ℕ
bytes_at line t = slice_range line t.from t.to

abbrev pub texts : List ℕ → List Token → List (List ℕ)
texts line run = map (bytes_at line) run

-- where the last of some tokens ends
abbrev pub end_of : Token → List Token → ℕ
end_of t [] = t.to
end_of t (u ∷ us) = end_of u us

-- what stands from the first byte of some tokens to their last
abbrev pub kept_text : List ℕ → List Token → List ℕ
kept_text line [] = []
kept_text line (t ∷ ts) = slice_range line t.from (end_of t ts)

-- Tokens with their locals cut to percent signs. What stands before a local is at least a blank, so that a number may take its place.
abbrev pub is_local : List ℕ → Bool
is_local [] = false
is_local (b ∷ bs) = b == 37

abbrev pub gap_or_blank : List ℕ → List ℕ
gap_or_blank [] = 32 ∷ []
gap_or_blank (b ∷ bs) = b ∷ bs

abbrev pub cut_token : List ℕ → List ℕ → List ℕ
cut_token gap s = if is_local s then gap_or_blank gap ++ 37 ∷ [] else gap ++ s

abbrev pub cut_behind : List ℕ → ℕ → List Token → List ℕ
cut_behind line at [] = []
cut_behind line at (t ∷ ts) = cut_token (slice_range line at t.from) (bytes_at line t) ++ cut_behind line t.to ts

abbrev pub cut_text : List ℕ → List Token → List ℕ
cut_text line [] = []
cut_text line (t ∷ ts) = bytes_at line t ++ cut_behind line t.to ts

-- texts with a blank between two, the empty ones left out
abbrev pub joined : List (List ℕ) → List ℕ
joined [] = []
joined ([] ∷ rest) = joined rest
joined ((b ∷ bs) ∷ rest) = (b ∷ bs) ++ behind_blank (joined rest)

-- the word of what a function gives
abbrev pub result_word : Option Ty → List ℕ
result_word None = spelling word.Void
result_word (Some ty) = type_word ty

-- tokens of a getelementptr before its base: attributes, then a type with these sizes
pub record IsGepHead (sizes : List ℕ) (line : List ℕ) (run : List Token) (text : List ℕ) : Type 0 where
  pub before : List Token
  pub object : List Token
  pub whole : run ≡ before ++ object
  pub attributes : AreMany IsAttribute (texts line before)
  pub sized : IsObject sizes (texts line object)
  pub is : text ≡ joined (kept_text line before ∷ kept_text line object ∷ [])

-- tokens of a call before the name of the callee
pub record IsCallHead (ret : Option Ty) (line : List ℕ) (run : List Token) (text : List ℕ) : Type 0 where
  pub mark : List Token
  pub before : List Token
  pub result : List Token
  pub written : List Token
  pub whole : run ≡ mark ++ before ++ result ++ written
  pub marked : IsCallMark (texts line mark)
  pub attributes : AreMany IsAttribute (texts line before)
  pub result_is : texts line result ≡ result_word ret ∷ []
  pub written_is : IsCallType (texts line written)
  pub is : text ≡ joined (texts line mark ++ kept_text line before ∷ result_word ret ∷ kept_text line written ∷ [])

-- tokens of a memcpy before the name of the callee
pub record IsCopyHead (line : List ℕ) (run : List Token) (text : List ℕ) : Type 0 where
  pub mark : List Token
  pub result : List Token
  pub whole : run ≡ mark ++ result
  pub marked : IsCallMark (texts line mark)
  pub result_is : texts line result ≡ spelling word.Void ∷ []
  pub is : text ≡ joined (texts line run)

-- tokens that pass a test, and their text
abbrev pub IsKept : (List (List ℕ) → Type 0) → List ℕ → List Token → List ℕ → Type 0
IsKept P line run text = P (texts line run) × (text ≡ kept_text line run)

-- which tokens have which text, for each kind of kept text
abbrev pub InClass : Class → List ℕ → List Token → List ℕ → Type 0
InClass attributes = IsKept (AreMany IsAttribute)
InClass post = IsKept (AreMany IsPostItem)
InClass tail = IsKept (AreMany IsTailItem)
InClass (object size) = IsKept (λ ts. (sizes : List ℕ) × IsObject (size ∷ sizes) ts)
InClass (gep_head sizes) = IsGepHead sizes
InClass (indices values) = IsKept (IsIndexList values)
InClass (call_head ret) = IsCallHead ret
InClass copy_head = IsCopyHead
InClass kept_line = IsKept IsKeptLine
InClass (group_line n) = IsKept (IsGroupLine n)
InClass (global_line name) = IsKept (IsGlobalLine name)

-- which tokens spell a part
abbrev pub SpellsPart : List ℕ → List Token → Part → Type 0
SpellsPart line run blank = run ≡ []
SpellsPart line run (token text) = texts line run ≡ text ∷ []
SpellsPart line run (flag text set) = texts line run ≡ (if set then text ∷ [] else [])
SpellsPart line run (number ty n) = (s : List ℕ) × (texts line run ≡ s ∷ []) × Means ty n s
SpellsPart line run (count n) = (s : List ℕ) × (texts line run ≡ s ∷ []) × IsCount n s
SpellsPart line run (kept class text) = InClass class line run text
SpellsPart line run (apart class text) = InClass class line run text
SpellsPart line run (woven items names index) = AreWoven items names (texts line run) × (index ≡ cut_text line run)

-- which tokens spell parts, one behind another
abbrev pub Spells : List ℕ → List Token → List Part → Type 0
Spells line tokens [] = tokens ≡ []
Spells line tokens (p ∷ ps) = (run rest : List Token) × (tokens ≡ run ++ rest) × SpellsPart line run p × Spells line rest ps
