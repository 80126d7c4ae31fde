-- The table that a source stands for: symbols numbered as first named, terms as first completed, equal terms one. The lists may be longer than a table's
-- limits: then the answer is number 3. Assumes nothing: these are definitions.
use Rattle.std.specs.Prelude.{Bool, false, cond, ◌||◌, ◌&&◌, List, [], ◌∷◌, ◌++◌, map, ℕ, suc, ◌≤◌, ltb, leb, length}
use Rattle.std.proofs.Math.Bool.{decide}
use Rattle.std.proofs.Math.Decide.{ℕ_discrete}
use Rattle.calculus.specs.Signature.{pairing, seal, same_two}
use Rattle.calculus.specs.Terms.{same_build, build2, Act, send, receive, fresh, compare, split, decrypt}
use Rattle.calculus.specs.Tables.{Sort, is_name, is_variable, Entry, leaf_entry, kind_entry, same_entry, Table}
use Rattle.calculus.specs.Version1.{same_one1, same_seal1, encryption, signature1}
use Rattle.text.specs.Source.{Name, Term, named, paired, sealed, Further, no_more, also, Step, output, input, restriction, matching, splitting, decryption, Source}
use Rattle.text.specs.Grammar.{Piece, fixed, given, used, pieces}
use Rattle.text.specs.Places.{same_name}

-- ── Symbols, as first named ──

-- is a name in a list?
unfoldable pub is_named : Name → List Name → Bool
is_named x [] = false
is_named x (y ∷ ys) = same_name x y || is_named x ys

-- one name more, at the end, if it is new
unfoldable pub with_name : List Name → Name → List Name
with_name xs x = cond (is_named x xs) xs (xs ++ (x ∷ []))

-- the names of pieces, behind those that came before
unfoldable pub names_from : List Name → List Piece → List Name
names_from xs [] = xs
names_from xs (fixed w ∷ ps) = names_from xs ps
names_from xs (given x ∷ ps) = names_from (with_name xs x) ps
names_from xs (used x ∷ ps) = names_from (with_name xs x) ps

-- the symbols of a source by number
unfoldable pub symbols_of : Source → List Name
symbols_of d = names_from [] (pieces d)

-- the number of a name
unfoldable pub number_of : Name → List Name → ℕ
number_of x [] = 0
number_of x (y ∷ ys) = cond (same_name x y) 0 (suc (number_of x ys))

-- ── Sorts: a name is listed on line 1, or restricted ──

unfoldable pub restricted : List Step → List Name
restricted [] = []
restricted (output M N ∷ ts) = restricted ts
restricted (input M x ∷ ts) = restricted ts
restricted (restriction x ∷ ts) = x ∷ restricted ts
restricted (matching M N ∷ ts) = restricted ts
restricted (splitting M x y ∷ ts) = restricted ts
restricted (decryption M K x ∷ ts) = restricted ts

unfoldable pub sort_in : Source → Name → Sort
sort_in d x = cond (is_named x (d.names ++ restricted d.steps)) is_name is_variable

-- ── Terms, as first completed ──

-- an entry of the table of terms
abbrev pub TermEntry : Type 0
TermEntry = Entry signature1 ℕ

-- are two entries the same?
abbrev pub same_term : TermEntry → TermEntry → Bool
same_term e f = decide (same_entry ℕ_discrete (same_build same_one1 ℕ_discrete (same_two same_seal1)) e f)

-- the entries, and the index of the term that was completed last
pub record Placed : Type 0 where
  pub entries : List TermEntry
  pub index : ℕ

-- the index of an entry; their number where it is not there
unfoldable pub index_of : TermEntry → List TermEntry → ℕ
index_of e [] = 0
index_of e (f ∷ es) = cond (same_term e f) 0 (suc (index_of e es))

-- an entry is completed: it is there already, or it comes behind the others
unfoldable pub completed : TermEntry → List TermEntry → Placed
completed e es = record { entries = cond (ltb (index_of e es) (length es)) es (es ++ (e ∷ [])); index = index_of e es }

-- a pair, and a ciphertext, of two entries
abbrev pub pair_entry : ℕ → ℕ → TermEntry
pair_entry a b = kind_entry (build2 pairing a b)

abbrev pub cipher_entry : ℕ → ℕ → TermEntry
cipher_entry a b = kind_entry (build2 (seal encryption) a b)

-- a compound term is completed when its second part is
unfoldable pub joined : (ℕ → ℕ → TermEntry) → ℕ → Placed → Placed
joined f a p = completed (f a p.index) p.entries

-- the entries, and a step with its terms' indexes
pub record Stepped : Type 0 where
  pub entries : List TermEntry
  pub step : Act signature1 ℕ

module _ (xs : List Name) where
  unfoldable mutual
    -- a term: a name when it is read, a pair behind its parts, a ciphertext behind its key
    pub place_term : Term → List TermEntry → Placed
    place_term (named x) es = completed (leaf_entry (number_of x xs)) es
    place_term (paired M N) es =
        let m : Placed = place_term M es in
        joined pair_entry m.index (place_term N m.entries)
    place_term (sealed M Ms K) es =
        let p : Placed = place_further Ms (place_term M es) in
        joined cipher_entry p.index (place_term K p.entries)

    -- the plaintexts behind one that is placed: the pairs are completed from the right, when the list ends
    pub place_further : Further → Placed → Placed
    place_further no_more m = m
    place_further (also M Ms) m = joined pair_entry m.index (place_further Ms (place_term M m.entries))

  -- ── Steps ──

  -- two terms, left first
  unfoldable pub place_two : Term → Term → (ℕ → ℕ → Act signature1 ℕ) → List TermEntry → Stepped
  place_two M N f es =
      let m : Placed = place_term M es in
      let n : Placed = place_term N m.entries in
      record { entries = n.entries; step = f m.index n.index }

  unfoldable pub place_one : Term → (ℕ → Act signature1 ℕ) → List TermEntry → Stepped
  place_one M f es = let m : Placed = place_term M es in record { entries = m.entries; step = f m.index }

  unfoldable pub place_step : Step → List TermEntry → Stepped
  place_step (output M N) es = place_two M N send es
  place_step (input M x) es = place_one M (λ a. receive a (number_of x xs)) es
  place_step (restriction x) es = record { entries = es; step = fresh (number_of x xs) }
  place_step (matching M N) es = place_two M N compare es
  place_step (splitting M x y) es = place_one M (λ a. split a (number_of x xs) (number_of y xs)) es
  place_step (decryption M K x) es = place_two M K (λ a b. decrypt encryption a b (number_of x xs)) es

  -- the entries when all steps are placed, and the steps
  unfoldable pub placed_entries : List Step → List TermEntry → List TermEntry
  placed_entries [] es = es
  placed_entries (t ∷ ts) es = placed_entries ts (place_step t es).entries

  unfoldable pub placed_steps : List Step → List TermEntry → List (Act signature1 ℕ)
  placed_steps [] es = []
  placed_steps (t ∷ ts) es = (place_step t es).step ∷ placed_steps ts (place_step t es).entries

-- ── The table ──

-- what a source stands for
abbrev pub stands_for : Source → Table signature1
stands_for d =
    record {
      sorts = map (sort_in d) (symbols_of d);
      entries = placed_entries (symbols_of d) d.steps [];
      steps = placed_steps (symbols_of d) d.steps [];
    }

-- its counts are within a table's limits; else the answer is number 3, and there are no bytes
pub record InLimits (t : Table signature1) : Type 0 where
  pub few_symbols : length t.sorts ≤ 96
  pub few_terms : length t.entries ≤ 128
  pub few_steps : length t.steps ≤ 64

unfoldable pub within_limits : Table signature1 → Bool
within_limits t = leb (length t.sorts) 96 && (leb (length t.entries) 128 && leb (length t.steps) 64)
