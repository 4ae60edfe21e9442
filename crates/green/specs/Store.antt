-- The store: four lent places, and the list of entries that they spell.
use Rattle.std.specs.Prelude.{ℕ, zero, suc, ◌+◌, ◌*◌, ◌/◌, ◌%◌, ◌^◌, ◌≡◌, List, [], ◌∷◌, ◌++◌, map, true, false, length, get_or, drop}
use Rattle.std.proofs.Math.Seq.{slice}
use Rattle.std.specs.Borrow.{Bor, MutBor}
use denote.Triple.Both.{Both}
use Rattle.definitions.specs.Entry.{Entry, token_entry, node_entry, Lent, Limits, within}

-- records of 8 words, child places, text bytes, and how many of each are in use
pub record Store : Type 0 where
  pub records : List ℕ
  pub children : List ℕ
  pub text : List ℕ
  pub used : List ℕ

-- the counts: of records, of child places, of text bytes, and five that are spare
abbrev pub counts_of : ℕ → ℕ → ℕ → List ℕ
counts_of records children text = records ∷ children ∷ text ∷ 0 ∷ 0 ∷ 0 ∷ 0 ∷ 0 ∷ []

abbrev pub store : List ℕ → List ℕ → List ℕ → List ℕ → Store
store r c t u = record { records = r; children = c; text = t; used = u }

-- the store behind four `&` of a contract; where one of them is a `&mut`, the contract writes `store` with what is old and new
abbrev pub here : Bor (List ℕ) → Bor (List ℕ) → Bor (List ℕ) → Bor (List ℕ) → Store
here r c t u = store r.now c.now t.now u.now

-- the same from what an `ensures` has of a `&`
abbrev pub entered : {A B C D : Type 0} → Both (Bor (List ℕ)) A → Both (Bor (List ℕ)) B → Both (Bor (List ℕ)) C → Both (Bor (List ℕ)) D → Store
entered r c t u = here r.entry c.entry t.entry u.entry

-- of a `&mut`, what an `ensures` has: as the function was called, and as it returns
abbrev pub Lists : Type 0
Lists = Both (MutBor (List ℕ)) (MutBor (List ℕ))

abbrev pub both : {A : Type 0} → A → A → Both A A
both a a' = record { entry = a; exit = a' }

-- the store behind four `&mut`, as the function was called and as it returns
abbrev pub stores : Lists → Lists → Lists → Lists → Both Store Store
stores r c t u = both (store r.entry.now c.entry.now t.entry.now u.entry.now) (store r.exit.now c.exit.now t.exit.now u.exit.now)

abbrev pub lent : Store → Lent
lent s = record { records = length s.records / 8; children = length s.children; text = length s.text }

-- what new records may take of a store: 15
abbrev pub limits : Store → Limits
limits s = within (lent s)

-- the words of record n
abbrev pub words_at : List ℕ → ℕ → List ℕ
words_at records n = slice (n * 8) (n * 8 + 8) records

-- the places or bytes that a record's words name
abbrev pub named : List ℕ → List ℕ → List ℕ
named ws l = slice (get_or ws 1 0) (get_or ws 1 0 + get_or ws 2 0) l

-- the numbers in child places
abbrev pub numbers : List ℕ → List ℕ
numbers ws = map (λ w. w % 2 ^ 32) ws

-- an entry by its tag
unfoldable pub tagged : ℕ → List Entry → ℕ → List ℕ → List ℕ → Entry
tagged zero es k b ns = token_entry k b
tagged (suc zero) es k b ns = node_entry true es k ns
tagged (suc (suc t)) es k b ns = node_entry false es k ns

-- the entry that a record's words spell, es being the entries before it
abbrev pub entry_in : List Entry → List ℕ → List ℕ → List ℕ → Entry
entry_in es ws children text = tagged (get_or ws 0 0 / 2 ^ 16) es (get_or ws 0 0 % 2 ^ 16) (named ws text) (numbers (named ws children))

-- the entries of the first n records
unfoldable pub entries_to : Store → ℕ → List Entry
entries_to s zero = []
entries_to s (suc n) = entries_to s n ++ (entry_in (entries_to s n) (words_at s.records n) s.children s.text ∷ [])

-- THE DENOTATION: the entries that a store spells
unfoldable pub entries : Store → List Entry
entries s = entries_to s (get_or s.used 0 0)

-- no place past those in use after a call was written
pub record Untouched (s s' : Store) : Type 0 where
  pub records : drop (get_or s'.used 0 0 * 8) s'.records ≡ drop (get_or s'.used 0 0 * 8) s.records
  pub children : drop (get_or s'.used 1 0) s'.children ≡ drop (get_or s'.used 1 0) s.children
  pub text : drop (get_or s'.used 2 0) s'.text ≡ drop (get_or s'.used 2 0) s.text

-- as many places are lent after a call as before it
pub record SameLengths (s s' : Store) : Type 0 where
  pub records : length s'.records ≡ length s.records
  pub children : length s'.children ≡ length s.children
  pub text : length s'.text ≡ length s.text
