-- A token is of one kind.
use Rattle.std.proofs.Common.{◌≡◌, ◌⊎◌, ℕ, Bool, true, false, subst, List, [], ◌∷◌, Some, refl, sym, ap, ◌∙◌, inl, inr}
use Rattle.ms_lex.specs.Bytes.{is_mark}
use Rattle.std.proofs.lemmas.Bool.{false_from_ne_true}
use Rattle.ms_lex.specs.Kinds.{is_token, is_number}
use Rattle.ms_lex.specs.First.{first_kind}
use Rattle.ms_lex.specs.declared.token.TokenKind.{TokenKind}
use Rattle.ms_lex.specs.declared.token.TokenKind.TheVariants.{Word, Local, Global, Number}
use Rattle.ms_lex.proofs.First.{first_tells, some_bytes}
use Rattle.ms_ir.specs.declared.names.Ty.{Ty}
use Rattle.ms_grammar.specs.declared.keyword.Keyword.TheVariants as word
use Rattle.ms_grammar.specs.Words.{spelling}
use Rattle.ms_grammar.specs.Numbers.{Means, numeral, yes, no}

pub only_kind : (k l : TokenKind) (s : List ℕ) → is_token k s ≡ true → is_token l s ≡ true → k ≡ l
only_kind k l [] a b = let none : is_token k [] ≡ false = some_bytes k in absurd (cc)
only_kind k l (c ∷ cs) a b = let e = sym (first_tells k c cs a) ∙ first_tells l c cs b in cc

pub local_kind : (k : TokenKind) (s t : List ℕ) → is_token k s ≡ true → s ≡ 37 ∷ t → k ≡ Local
unfolding is_mark
local_kind k s t a e =
    let h : is_token k (37 ∷ t) ≡ true = ap (is_token k) (sym e) ∙ a in
    let told : first_kind 37 ≡ Some k = first_tells k 37 t h in
    let is : first_kind 37 ≡ Some Local = refl in
    cc

pub global_kind : (k : TokenKind) (s t : List ℕ) → is_token k s ≡ true → s ≡ 64 ∷ t → k ≡ Global
unfolding is_mark
global_kind k s t a e =
    let h : is_token k (64 ∷ t) ≡ true = ap (is_token k) (sym e) ∙ a in
    let told : first_kind 64 ≡ Some k = first_tells k 64 t h in
    let is : first_kind 64 ≡ Some Global = refl in
    cc

true_word : is_token Word (spelling word.True) ≡ true
unfolding spelling
true_word = refl

false_word : is_token Word (spelling word.False) ≡ true
unfolding spelling
false_word = refl

-- a number of a type is a numeral or a word
pub means_kind : (k : TokenKind) (ty : Ty) (n : ℕ) (s : List ℕ) → is_token k s ≡ true → Means ty n s → (k ≡ Number) ⊎ (k ≡ Word)
means_kind k ty n s a (numeral spelled value) = inl (only_kind k Number s a spelled)
means_kind k ty n s a (yes one is spelled) = inr (only_kind k Word s a (ap (is_token Word) spelled ∙ true_word))
means_kind k ty n s a (no one is spelled) = inr (only_kind k Word s a (ap (is_token Word) spelled ∙ false_word))

pub no_number : (k : TokenKind) (s : List ℕ) → is_token k s ≡ true → (k ≡ Number → ⊥) → is_number s ≡ false
no_number k s a other = false_from_ne_true _ (λ spelled. other (only_kind k Number s a spelled))

-- whether a token is of a kind, by its own kind
pub kind_told : (k l : TokenKind) (s : List ℕ) (r : Bool) → is_token k s ≡ true → (r ≡ true → k ≡ l) → (r ≡ false → k ≡ l → ⊥) → r ≡ is_token l s
kind_told k l s true a same_if apart_if = sym (subst (λ j. is_token j s ≡ true) (same_if refl) a)
kind_told k l s false a same_if apart_if = sym (false_from_ne_true _ (λ b. apart_if refl (only_kind k l s a b)))

pub no_kind : (k l : TokenKind) (s : List ℕ) → is_token k s ≡ true → (k ≡ l → ⊥) → is_token l s ≡ false
no_kind k l s a apart = false_from_ne_true _ (λ b. apart (only_kind k l s a b))
