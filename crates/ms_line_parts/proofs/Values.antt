-- Tokens that are no value.
use Rattle.std.proofs.Common.{◌≡◌, ◌≢◌, ℕ, true, false, List, [], ◌∷◌, Option, Some, None, if◌then◌else◌, refl, sym, ap, ◌∙◌, subst, inl, inr}
use Rattle.std.specs.Option.{MatchOption}
use Rattle.std.specs.Str.{bytes_eq}
use Rattle.ms_lex.specs.Kinds.{is_number}
use Rattle.ms_lex.specs.Line.{IsTokenOf}
use Rattle.ms_lex.specs.declared.token.Token.{Token}
use Rattle.ms_lex.specs.declared.token.TokenKind.TheVariants as kind
use Rattle.ms_line_parts.proofs.OneKind.{local_kind, global_kind, means_kind}
use Rattle.ms_ir.specs.declared.names.Ty.{Ty}
use Rattle.ms_ir.specs.declared.names.Ty.TheVariants.{I1, I8, I16, I32, I64, Ptr}
use Rattle.ms_ir.specs.declared.names.Name.{Name}
use Rattle.ms_grammar.specs.declared.line.RawVal.{RawVal}
use Rattle.ms_grammar.specs.declared.line.RawVal.TheVariants.{Num, Local, Global}
use Rattle.ms_grammar.specs.declared.keyword.Keyword.TheVariants as word
use Rattle.ms_grammar.specs.Words.{spelling, type_word}
use Rattle.ms_grammar.specs.Numbers.{Means, numeral, yes, no, bits, modulo}
use Rattle.ms_grammar.specs.Reading.{truth_of, number_of, type_of}
use Rattle.ms_grammar.proofs.Steps.{tells}
use Rattle.ms_grammar.proofs.Words.{number_of_means, type_of_word}
use Rattle.ms_grammar.specs.Parts.{bytes_at, SpellsPart}
use Rattle.ms_grammar.specs.Form.{name_text, value_part}
use Rattle.ms_grammar.specs.Fits.{IsNamed, IsWordName, IsValue, IsInt}

first_one : (s t : List ℕ) → s ∷ [] ≡ t ∷ [] → s ≡ t
first_one s t e = cc

pub no_value : (line : List ℕ) (token : Token) (ty : Ty) →
    ((n : Name) → IsNamed n → bytes_at line token ≢ 37 ∷ name_text n) →
    ((n : Name) → ty ≡ Ptr → IsWordName n → bytes_at line token ≢ 64 ∷ name_text n) →
    ((n : ℕ) → IsInt ty → Means ty n (bytes_at line token) → ⊥) →
    (v : RawVal) → IsValue ty v → SpellsPart line (token ∷ []) (value_part v) → ⊥
no_value line token ty locals globals numbers (Num own n) is spells =
    let means : Means ty n spells.0 = subst (λ t. Means t n spells.0) is.0 spells.2 in
    numbers n is.1 (subst (λ s. Means ty n s) (sym (first_one _ _ spells.1)) means)
no_value line token ty locals globals numbers (Local n) is spells = locals n is (first_one _ _ spells)
no_value line token ty locals globals numbers (Global n) is spells = globals n is.0 is.1 (first_one _ _ spells)

-- what a numeral says, and what any other token says, of a type
pub numeral_told : (ty : Ty) (s t : List ℕ) (o : Option ℕ) → s ≡ t → is_number s ≡ true → o ≡ modulo (bits ty) s →
    MatchOption o ((n : ℕ) → Means ty n t → ⊥) (λ n. Means ty n t)
unfolding number_of
numeral_told ty s t None same spelled e = λ n means.
    let told : number_of ty s ≡ Some n = number_of_means ty n s (subst (λ u. Means ty n u) (sym same) means) in
    let is : number_of ty s ≡ modulo (bits ty) s = rw spelled refl in
    cc
numeral_told ty s t (Some n) same spelled e = subst (λ u. Means ty n u) same (numeral spelled (sym e))

truth_means : (ty : Ty) (s : List ℕ) (n : ℕ) → truth_of ty s ≡ Some n → Means ty n s
truth_means I1 s n e =
    elim (tells s (spelling word.True)) [
      | inl told ↦ (let one : Some 1 ≡ Some n = rw told.0 at e in yes refl (cc) told.1)
      | inr told ↦
          let left : (if bytes_eq s (spelling word.False) then Some 0 else None) ≡ Some n = rw told.0 at e in
          elim (tells s (spelling word.False)) [
            | inl again ↦ (let none : Some 0 ≡ Some n = rw again.0 at left in no refl (cc) again.1)
            | inr again ↦ (let none : None ≡ Some n = rw again.0 at left in absurd (cc))
          ]
    ]
truth_means I8 s n e = absurd (cc)
truth_means I16 s n e = absurd (cc)
truth_means I32 s n e = absurd (cc)
truth_means I64 s n e = absurd (cc)
truth_means Ptr s n e = absurd (cc)

pub truth_told : (ty : Ty) (s t : List ℕ) (o : Option ℕ) → s ≡ t → is_number s ≡ false → o ≡ truth_of ty s →
    MatchOption o ((n : ℕ) → Means ty n t → ⊥) (λ n. Means ty n t)
unfolding number_of
truth_told ty s t None same unlike e = λ n means.
    let told : number_of ty s ≡ Some n = number_of_means ty n s (subst (λ u. Means ty n u) (sym same) means) in
    let is : number_of ty s ≡ truth_of ty s = rw unlike refl in
    cc
truth_told ty s t (Some n) same unlike e = subst (λ u. Means ty n u) same (truth_means ty s n (sym e))

-- a token that names nothing: its number tells whether it is a value
pub number_alone : (line : List ℕ) (token : Token) (ty : Ty) (Q : RawVal → Type 0) (o : Option RawVal) → IsTokenOf line token →
    (token.kind ≡ kind.Local → ⊥) → (token.kind ≡ kind.Global → ty ≡ Ptr → ⊥) →
    MatchOption o ((n : ℕ) → IsInt ty → Means ty n (bytes_at line token) → ⊥) Q →
    MatchOption o ((v : RawVal) → IsValue ty v → SpellsPart line (token ∷ []) (value_part v) → ⊥) Q
number_alone line token ty Q None is no_local no_global told =
    no_value line token ty
    (λ n named e. no_local (local_kind token.kind (bytes_at line token) (name_text n) is.bytes e))
    (λ n pointer named e. no_global (global_kind token.kind (bytes_at line token) (name_text n) is.bytes e) pointer)
    told
number_alone line token ty Q (Some v) is no_local no_global told = told

-- a local that is none
pub no_local : (line : List ℕ) (token : Token) (ty : Ty) → IsTokenOf line token → token.kind ≡ kind.Local →
    ((n : Name) → IsNamed n → bytes_at line token ≢ 37 ∷ name_text n) →
    (v : RawVal) → IsValue ty v → SpellsPart line (token ∷ []) (value_part v) → ⊥
no_local line token ty is local none =
    no_value line token ty none
    (λ n pointer named e. let other : token.kind ≡ kind.Global = global_kind token.kind (bytes_at line token) (name_text n) is.bytes e in cc)
    (λ n int means. elim (means_kind token.kind ty n (bytes_at line token) is.bytes means) [ inl number ↦ cc | inr word ↦ cc ])

-- a global that is none
pub no_global : (line : List ℕ) (token : Token) (ty : Ty) → IsTokenOf line token → token.kind ≡ kind.Global →
    ((n : Name) → IsWordName n → bytes_at line token ≢ 64 ∷ name_text n) →
    (v : RawVal) → IsValue ty v → SpellsPart line (token ∷ []) (value_part v) → ⊥
no_global line token ty is global none =
    no_value line token ty
    (λ n named e. let other : token.kind ≡ kind.Local = local_kind token.kind (bytes_at line token) (name_text n) is.bytes e in cc)
    (λ n pointer named e. none n named e)
    (λ n int means. elim (means_kind token.kind ty n (bytes_at line token) is.bytes means) [ inl number ↦ cc | inr word ↦ cc ])

-- the type that a word names
pub type_of_is : (s : List ℕ) (ty : Ty) → type_of s ≡ Some ty → s ≡ type_word ty
unfolding type_of
type_of_is s ty e = elim (tells s (type_word I1)) [
  | inl is ↦ (let one : Some I1 ≡ Some ty = rw is.0 at e in let same_type : I1 ≡ ty = cc in is.1 ∙ ap type_word same_type)
  | inr a ↦ elim (tells s (type_word I8)) [
    | inl is ↦ (let one : Some I8 ≡ Some ty = rw (a.0, is.0) at e in let same_type : I8 ≡ ty = cc in is.1 ∙ ap type_word same_type)
    | inr b ↦ elim (tells s (type_word I16)) [
      | inl is ↦ (let one : Some I16 ≡ Some ty = rw (a.0, b.0, is.0) at e in let same_type : I16 ≡ ty = cc in is.1 ∙ ap type_word same_type)
      | inr c ↦ elim (tells s (type_word I32)) [
        | inl is ↦ (let one : Some I32 ≡ Some ty = rw (a.0, b.0, c.0, is.0) at e in let same_type : I32 ≡ ty = cc in is.1 ∙ ap type_word same_type)
        | inr d ↦ elim (tells s (type_word I64)) [
          | inl is ↦ (let one : Some I64 ≡ Some ty = rw (a.0, b.0, c.0, d.0, is.0) at e in let same_type : I64 ≡ ty = cc in is.1 ∙ ap type_word same_type)
          | inr f ↦ elim (tells s (type_word Ptr)) [
            | inl is ↦ (let one : Some Ptr ≡ Some ty = rw (a.0, b.0, c.0, d.0, f.0, is.0) at e in let same_type : Ptr ≡ ty = cc in is.1 ∙ ap type_word same_type)
            | inr g ↦ (let none : None ≡ Some ty = rw (a.0, b.0, c.0, d.0, f.0, g.0) at e in absurd (cc))
          ]
        ]
      ]
    ]
  ]
]

pub type_told : (s : List ℕ) (o : Option Ty) → o ≡ type_of s → MatchOption o ((ty : Ty) → s ≢ type_word ty) (λ ty. s ≡ type_word ty)
type_told s None e = λ ty is. let told : type_of s ≡ Some ty = ap type_of is ∙ type_of_word ty in cc
type_told s (Some ty) e = type_of_is s ty (sym e)
