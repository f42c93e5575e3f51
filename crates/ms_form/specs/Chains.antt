-- Lists of numbers, linked in both directions.
use Rattle.std.specs.Prelude.{◌≡◌, ◌<◌, ◌↔◌, ℕ, zero, suc, List, [], ◌∷◌, length, Option, Some, None, slice_get, slice_index_or, slice_set, if◌then◌else◌, ◌==◌}
use Rattle.ms_form.specs.declared.chains.Link.{Link}
use Rattle.ms_form.specs.Lists.{IsIn, EachOnce}

-- each number's list, where it is in one; the numbers of each list in order; how many more numbers and lists there is room for
pub record ChainsState : Type 0 where
  pub homes : List (Option ℕ)
  pub lists : List (List ℕ)
  pub spare : ℕ

-- a list without a number
abbrev pub without : ℕ → List ℕ → List ℕ
without n [] = []
without n (m ∷ rest) = if m == n then without n rest else (m ∷ without n rest)

-- the number behind another
abbrev pub behind : ℕ → List ℕ → Option ℕ
behind n [] = None
behind n (m ∷ rest) = if m == n then slice_get rest 0 else behind n rest

-- the number behind another in the list of its home
abbrev pub behind_at : ℕ → List (List ℕ) → Option ℕ → Option ℕ
behind_at n lists None = None
behind_at n lists (Some home) = behind n (slice_index_or lists home [])

-- each list holds exactly the numbers whose home it is, each once
abbrev pub AreExact : List (Option ℕ) → List (List ℕ) → Type 0
AreExact homes lists = (list : ℕ) → EachOnce (slice_index_or lists list []) × ((n : ℕ) → IsIn n (slice_index_or lists list []) ↔ (slice_index_or homes n None ≡ Some list))

-- the link of a number that is in no list
abbrev pub no_link : Link
no_link = record { home = None; before = None; after = None }

abbrev pub home_of : Link → Option ℕ
home_of link = link.home

-- These numbers, in this order, are linked in this list, behind the one before.
abbrev pub Chained : List Link → ℕ → Option ℕ → List ℕ → Type 0
Chained links list before [] = Unit {0}
Chained links list before (n ∷ rest) = (n < length links) × (slice_index_or links n no_link ≡ record { home = Some list; before = before; after = slice_get rest 0 }) × Chained links list (Some n) rest

-- the numbers that the links lead to, as many as there are turns at most
abbrev pub follow : List Link → ℕ → Option ℕ → List ℕ
follow links zero at = []
follow links (suc turns) None = []
follow links (suc turns) (Some n) = n ∷ follow links turns (slice_index_or links n no_link).after

abbrev pub numbers_from : List Link → Option ℕ → List ℕ
numbers_from links at = follow links (length links) at

-- this head and these links keep the list
pub record IsChain (links : List Link) (head : Option ℕ) (list : ℕ) (xs : List ℕ) : Type 0 where
  pub first : head ≡ slice_get xs 0
  pub chained : Chained links list None xs
  pub once : EachOnce xs

pub record IsChains (links : List Link) (heads : List (Option ℕ)) (lists : List (List ℕ)) : Type 0 where
  pub lengths : length lists ≡ length heads
  pub each : (list : ℕ) → list < length heads → IsChain links (slice_index_or heads list None) list (slice_index_or lists list [])
  pub exact : (n list : ℕ) → (slice_index_or links n no_link).home ≡ Some list → IsIn n (slice_index_or lists list [])

-- the links after the number before, if any, was led to another one
abbrev pub after_set : List Link → Option ℕ → Option ℕ → List Link
after_set links None after = links
after_set links (Some n) after = slice_set links n (record (slice_index_or links n no_link) { after = after })

-- the links after the number behind, if any, was led back to another one
abbrev pub before_set : List Link → Option ℕ → Option ℕ → List Link
before_set links None before = links
before_set links (Some n) before = slice_set links n (record (slice_index_or links n no_link) { before = before })

-- the links in which two numbers are led past what stood between them
abbrev pub led_past : List Link → Option ℕ → Option ℕ → List Link
led_past links before after = before_set (after_set links before after) after before

-- what a list begins with once a number with these neighbours is out
abbrev pub first_left : Option ℕ → Option ℕ → Option ℕ → Option ℕ
first_left None after first = after
first_left (Some _) after first = first
