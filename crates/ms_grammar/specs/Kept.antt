-- The parts of a line that are kept as they stand. Tokens are here the bytes of each.
use Rattle.std.specs.Prelude.{◌≡◌, ◌≢◌, ◌⊎◌, ℕ, ℤ, ◌*◌, ◌<◌, Bool, true, false, List, [], ◌∷◌, ◌++◌, Option, Some, None, if◌then◌else◌, codes, decimal}
use Rattle.std.specs.List.{flat_map, list_any}
use Rattle.std.specs.Str.{bytes_eq}
use Rattle.ms_lex.specs.Kinds.{is_word, is_number, is_token}
use Rattle.ms_lex.specs.declared.token.TokenKind.TheVariants.{Local, Quoted, Group, Meta}
use Rattle.ms_ir.specs.declared.names.Ty.{Ty}
use Rattle.ms_grammar.specs.Words.{spelling, type_word}
use Rattle.ms_grammar.specs.Numbers.{bits, bytes_of, signed, magnitude, IsCount}
use Rattle.ms_grammar.specs.declared.keyword.Keyword.TheVariants as word

-- a fact for each member
abbrev pub Each : {X : Type 0} → (X → Type 0) → List X → Type 0
Each P [] = Unit {0}
Each P (x ∷ xs) = P x × Each P xs

-- the mark that closes a bracket
abbrev pub closer : List ℕ → Option (List ℕ)
closer t =
    if bytes_eq t (spelling word.Open) then Some (spelling word.Close)
    else (if bytes_eq t (spelling word.OpenSquare) then Some (spelling word.CloseSquare)
    else (if bytes_eq t (spelling word.OpenBrace) then Some (spelling word.CloseBrace)
    else None))

abbrev pub is_closer : List ℕ → Bool
is_closer t = list_any (bytes_eq t) (spelling word.Close ∷ spelling word.CloseSquare ∷ spelling word.CloseBrace ∷ [])

-- the brackets that are open when a token comes, the last one first, and those that are open behind it
abbrev pub behind_closer : List (List ℕ) → List ℕ → Option (List (List ℕ))
behind_closer [] t = None
behind_closer (c ∷ opened) t = if bytes_eq c t then Some opened else None

abbrev pub behind_mark : Option (List ℕ) → List (List ℕ) → List ℕ → Option (List (List ℕ))
behind_mark (Some c) opened t = Some (c ∷ opened)
behind_mark None opened t = if is_closer t then behind_closer opened t else Some opened

abbrev pub behind_token : List (List ℕ) → List ℕ → Option (List (List ℕ))
behind_token opened t = behind_mark (closer t) opened t

abbrev pub behind_tokens : Option (List (List ℕ)) → List (List ℕ) → Option (List (List ℕ))
behind_tokens None ts = None
behind_tokens (Some opened) [] = Some opened
behind_tokens (Some opened) (t ∷ ts) = behind_tokens (behind_token opened t) ts

-- tokens in which each bracket is closed, the last opened first
abbrev pub IsBalanced : List (List ℕ) → Type 0
IsBalanced ts = behind_tokens (Some []) ts ≡ Some []

-- tokens in a pair of brackets
abbrev pub in_parentheses : List (List ℕ) → List (List ℕ)
in_parentheses inner = spelling word.Open ∷ inner ++ spelling word.Close ∷ []

abbrev pub in_braces : List (List ℕ) → List (List ℕ)
in_braces inner = spelling word.OpenBrace ∷ inner ++ spelling word.CloseBrace ∷ []

-- the words that begin no attribute: types, and what gives the line a meaning that is refused
unfoldable pub reserved : List (List ℕ)
reserved =
    codes "void" ∷ codes "ptr" ∷ codes "label" ∷ codes "i1" ∷ codes "i8" ∷ codes "i16" ∷ codes "i32" ∷ codes "i64"
    ∷ codes "byval" ∷ codes "inalloca" ∷ codes "preallocated" ∷ codes "swifterror" ∷ codes "musttail" ∷ codes "addrspace"
    ∷ codes "volatile" ∷ codes "atomic" ∷ codes "asm" ∷ []

-- a word that may begin an attribute
pub record IsFree (w : List ℕ) : Type 0 where
  pub a_word : is_word w ≡ true
  pub allowed : list_any (bytes_eq w) reserved ≡ false

-- one attribute
pub data IsAttribute (ts : List (List ℕ)) : Type 0 where
  plain : (w : List ℕ) → IsFree w → ts ≡ w ∷ [] → IsAttribute ts
  called : (w : List ℕ) (inner : List (List ℕ)) → IsFree w → IsBalanced inner → ts ≡ w ∷ in_parentheses inner → IsAttribute ts
  aligned : (n : List ℕ) → is_number n ≡ true → ts ≡ spelling word.Align ∷ n ∷ [] → IsAttribute ts
  quoted : (s : List ℕ) → is_token Quoted s ≡ true → ts ≡ s ∷ [] → IsAttribute ts
  paired : (s t : List ℕ) → is_token Quoted s ≡ true → is_token Quoted t ≡ true → ts ≡ s ∷ spelling word.Equals ∷ t ∷ [] → IsAttribute ts
  grouped : (g : List ℕ) → is_token Group g ≡ true → ts ≡ g ∷ [] → IsAttribute ts

-- two metadata tokens
pub record IsMetaPair (ts : List (List ℕ)) : Type 0 where
  pub first : List ℕ
  pub second : List ℕ
  pub first_is : is_token Meta first ≡ true
  pub second_is : is_token Meta second ≡ true
  pub both : ts ≡ first ∷ second ∷ []

-- an attribute behind the arguments
pub data IsPostItem (ts : List (List ℕ)) : Type 0 where
  attribute : IsAttribute ts → IsPostItem ts
  metadata : IsMetaPair ts → IsPostItem ts

-- what may stand behind the form of an instruction, with its comma
pub data IsTailItem (ts : List (List ℕ)) : Type 0 where
  aligned : (n : List ℕ) → is_number n ≡ true → ts ≡ spelling word.Comma ∷ spelling word.Align ∷ n ∷ [] → IsTailItem ts
  metadata : (pair : List (List ℕ)) → IsMetaPair pair → ts ≡ spelling word.Comma ∷ pair → IsTailItem ts
  inline : (pair inner : List (List ℕ)) → IsMetaPair pair → IsBalanced inner → ts ≡ spelling word.Comma ∷ pair ++ in_braces inner → IsTailItem ts

-- any number of things, one behind another
pub record AreMany (P : List (List ℕ) → Type 0) (ts : List (List ℕ)) : Type 0 where
  pub items : List (List (List ℕ))
  pub each : Each P items
  pub whole : ts ≡ flat_map (λ item. item) items

-- a type that has a place in memory
abbrev pub IsStored : Ty → Type 0
IsStored ty = 0 < bytes_of ty

-- the type of arrays of so many members, and so on, of numbers of a type
abbrev pub object_tokens : List (List ℕ) → Ty → List (List ℕ)
object_tokens [] ty = type_word ty ∷ []
object_tokens (n ∷ ns) ty = spelling word.OpenSquare ∷ n ∷ spelling word.Times ∷ object_tokens ns ty ++ spelling word.CloseSquare ∷ []

-- the bytes of the type, of its members, of theirs, and so on
abbrev pub times_first : ℕ → List ℕ → List ℕ
times_first n [] = []
times_first n (size ∷ sizes) = n * size ∷ size ∷ sizes

abbrev pub object_sizes : List (List ℕ) → Ty → List ℕ
object_sizes [] ty = bytes_of ty ∷ []
object_sizes (n ∷ ns) ty = times_first (magnitude n) (object_sizes ns ty)

-- the type of an object with these sizes
pub record IsObject (sizes : List ℕ) (ts : List (List ℕ)) : Type 0 where
  pub counts : List (List ℕ)
  pub member : Ty
  pub are_counts : Each (λ n. IsCount (magnitude n) n) counts
  pub stored : IsStored member
  pub tokens : ts ≡ object_tokens counts member
  pub sized : sizes ≡ object_sizes counts member

-- an index of a getelementptr: its type and its number
pub record Index : Type 0 where
  pub ty : Ty
  pub number : List ℕ

pub record IsIndex (index : Index) (value : ℤ) : Type 0 where
  pub stored : IsStored index.ty
  pub spelled : is_number index.number ≡ true
  pub in_range : signed (bits index.ty) index.number ≡ Some value

abbrev pub AreIndices : List Index → List ℤ → Type 0
AreIndices [] [] = Unit {0}
AreIndices (i ∷ is) (v ∷ vs) = IsIndex i v × AreIndices is vs
AreIndices _ _ = ⊥

abbrev pub more_indices : List Index → List (List ℕ)
more_indices [] = []
more_indices (i ∷ is) = spelling word.Comma ∷ type_word i.ty ∷ i.number ∷ more_indices is

abbrev pub index_tokens : List Index → List (List ℕ)
index_tokens [] = []
index_tokens (i ∷ is) = type_word i.ty ∷ i.number ∷ more_indices is

-- the list of indices with these values
pub record IsIndexList (values : List ℤ) (ts : List (List ℕ)) : Type 0 where
  pub indices : List Index
  pub some : indices ≢ []
  pub each : AreIndices indices values
  pub tokens : ts ≡ index_tokens indices

-- an index as it counts: a number with its value, or a local of a type
pub data IndexItem : Type 0 where
  constant : ℤ → IndexItem
  term : Ty → IndexItem

-- an index of a type that is a local with this text
pub record IsTermIndex (index : Index) (ty : Ty) (text : List ℕ) : Type 0 where
  pub typed : index.ty ≡ ty
  pub stored : IsStored ty
  pub a_local : is_token Local index.number ≡ true
  pub is : index.number ≡ text

-- indices that are these items, the locals among them with these texts
abbrev pub AreItems : List Index → List IndexItem → List (List ℕ) → Type 0
AreItems [] [] names = names ≡ []
AreItems [] (item ∷ items) names = ⊥
AreItems (i ∷ is) [] names = ⊥
AreItems (i ∷ is) (constant v ∷ items) names = IsIndex i v × AreItems is items names
AreItems (i ∷ is) (term ty ∷ items) [] = ⊥
AreItems (i ∷ is) (term ty ∷ items) (name ∷ names) = IsTermIndex i ty name × AreItems is items names

-- the list of indices that are these items
pub record AreWoven (items : List IndexItem) (names : List (List ℕ)) (ts : List (List ℕ)) : Type 0 where
  pub indices : List Index
  pub some : indices ≢ []
  pub each : AreItems indices items names
  pub tokens : ts ≡ index_tokens indices

-- a line that says nothing of memory
pub data IsKeptLine (ts : List (List ℕ)) : Type 0 where
  source : (name : List ℕ) → is_token Quoted name ≡ true → ts ≡ spelling word.SourceFilename ∷ spelling word.Equals ∷ name ∷ [] → IsKeptLine ts
  target : (what is : List ℕ) → is_word what ≡ true → is_token Quoted is ≡ true → ts ≡ spelling word.Target ∷ what ∷ spelling word.Equals ∷ is ∷ [] → IsKeptLine ts
  metadata : (name : List ℕ) (rest : List (List ℕ)) → is_token Meta name ≡ true → IsBalanced rest → ts ≡ name ∷ spelling word.Equals ∷ rest → IsKeptLine ts
  named : (name : List ℕ) (rest : List (List ℕ)) → is_token Local name ≡ true → IsBalanced rest → ts ≡ name ∷ spelling word.Equals ∷ spelling word.TypeOf ∷ rest → IsKeptLine ts
  comdat : (name kind : List ℕ) → is_word (36 ∷ name) ≡ true → is_word kind ≡ true → ts ≡ (36 ∷ name) ∷ spelling word.Equals ∷ spelling word.Comdat ∷ kind ∷ [] → IsKeptLine ts

-- the line of an attribute group
pub record IsGroupLine (number : ℕ) (ts : List (List ℕ)) : Type 0 where
  pub inner : List (List ℕ)
  pub balanced : IsBalanced inner
  pub tokens : ts ≡ spelling word.Attributes ∷ (35 ∷ decimal number) ∷ spelling word.Equals ∷ in_braces inner

-- the line of a global variable
pub record IsGlobalLine (name : List ℕ) (ts : List (List ℕ)) : Type 0 where
  pub before : List (List ℕ)
  pub kind : List ℕ
  pub rest : List (List ℕ)
  pub attributes : AreMany IsAttribute before
  pub kind_is : (kind ≡ spelling word.Global) ⊎ (kind ≡ spelling word.Constant)
  pub some : rest ≢ []
  pub balanced : IsBalanced rest
  pub tokens : ts ≡ (64 ∷ name) ∷ spelling word.Equals ∷ before ++ kind ∷ rest

-- the words that begin a call
pub data IsCallMark (ts : List (List ℕ)) : Type 0 where
  plain : ts ≡ spelling word.Call ∷ [] → IsCallMark ts
  tail : ts ≡ spelling word.Tail ∷ spelling word.Call ∷ [] → IsCallMark ts
  no_tail : ts ≡ spelling word.NoTail ∷ spelling word.Call ∷ [] → IsCallMark ts

-- no type of the callee, or tokens in parentheses
pub data IsCallType (ts : List (List ℕ)) : Type 0 where
  none : ts ≡ [] → IsCallType ts
  written : (inner : List (List ℕ)) → IsBalanced inner → ts ≡ in_parentheses inner → IsCallType ts
