-- How a table is written as a text: the source, whose text is Grammar.antt's, and the text's length without unfolding a term. Assumes nothing: these are
-- definitions.
use Rattle.std.specs.Prelude.{Bool, true, false, cond, List, [], ◌∷◌, ◌++◌, map, ℕ, ◌+◌, ◌/◌, ◌%◌, min, ltb, get_or}
use Rattle.calculus.specs.Signature.{pairing, seal}
use Rattle.calculus.specs.Terms.{Tree, leaf, one, two, build1, build2, Act, send, receive, fresh, compare, split, decrypt}
use Rattle.calculus.specs.Tables.{Sort, is_name, is_variable, sort_of, Entry, leaf_entry, kind_entry, Table, process, free}
use Rattle.calculus.specs.Version1.{One1, signature1}
use Rattle.text.specs.Source.{Name, Term, named, paired, sealed, no_more, Step, output, input, restriction, matching, splitting, decryption, Source}

-- ── Names ──

-- i in decimal; a table has at most 96 symbols, so two digits do
unfoldable pub decimal : ℕ → List ℕ
decimal i = cond (ltb i 10) ((0x30 + i) ∷ []) ((0x30 + i / 10) ∷ (0x30 + i % 10) ∷ [])

-- symbol i is `s` and i
unfoldable pub symbol_name : ℕ → Name
symbol_name i = 0x73 ∷ decimal i

-- ── The source ──

-- no kind has one part
unfoldable pub no_term : One1 → Term
no_term k = elim k [ ]

-- a term, with one plaintext in each brace
unfoldable pub written_term : Tree signature1 ℕ → Term
written_term (leaf x) = named (symbol_name x)
written_term (one k M) = no_term k
written_term (two pairing M N) = paired (written_term M) (written_term N)
written_term (two (seal c) M N) = sealed (written_term M) no_more (written_term N)

unfoldable pub written_step : Act signature1 (Tree signature1 ℕ) → Step
written_step (send M N) = output (written_term M) (written_term N)
written_step (receive M x) = input (written_term M) (symbol_name x)
written_step (fresh x) = restriction (symbol_name x)
written_step (compare M N) = matching (written_term M) (written_term N)
written_step (split M x y) = splitting (written_term M) (symbol_name x) (symbol_name y)
written_step (decrypt c M N x) = decryption (written_term M) (written_term N) (symbol_name x)

-- is a sort that of names?
unfoldable pub is_name_sort : Sort → Bool
is_name_sort is_name = true
is_name_sort is_variable = false

-- those of some symbols that are names, and those that are variables
unfoldable pub names_among : List Sort → List ℕ → List ℕ
names_among so [] = []
names_among so (x ∷ xs) = cond (is_name_sort (sort_of so x)) (x ∷ names_among so xs) (names_among so xs)

unfoldable pub variables_among : List Sort → List ℕ → List ℕ
variables_among so [] = []
variables_among so (x ∷ xs) = cond (is_name_sort (sort_of so x)) (variables_among so xs) (x ∷ variables_among so xs)

-- free names and free variables by index, then the steps
abbrev pub source_of : Table signature1 → Source
source_of t =
    record {
      names = map symbol_name (names_among t.sorts (free signature1 t));
      variables = map symbol_name (variables_among t.sorts (free signature1 t));
      steps = map written_step (process signature1 t);
    }

-- ── The text's length, by one pass over the entries ──

-- a name's length
unfoldable pub name_length : ℕ → ℕ
name_length x = cond (ltb x 10) 2 3

-- a term's length, of those of lower terms: brackets, comma and space; braces
unfoldable pub entry_length : (ℕ → ℕ) → Entry signature1 ℕ → ℕ
entry_length f (leaf_entry x) = name_length x
entry_length f (kind_entry (build1 k a)) = 0
entry_length f (kind_entry (build2 pairing a b)) = 4 + f a + f b
entry_length f (kind_entry (build2 (seal c) a b)) = 2 + f a + f b

-- the lengths of terms, those of lower ones being ls
unfoldable pub lengths_from : List ℕ → List (Entry signature1 ℕ) → List ℕ
lengths_from ls [] = ls
lengths_from ls (e ∷ es) = lengths_from (ls ++ (entry_length (λ a. get_or ls a 2) e ∷ [])) es

-- a step's length: its word, its terms and symbols, spaces and the line feed
unfoldable pub step_length : (ℕ → ℕ) → Act signature1 ℕ → ℕ
step_length f (send a b) = 6 + f a + f b
step_length f (receive a x) = 5 + f a + name_length x
step_length f (fresh x) = 5 + name_length x
step_length f (compare a b) = 8 + f a + f b
step_length f (split a x y) = 9 + f a + name_length x + name_length y
step_length f (decrypt c a b x) = 11 + f a + f b + name_length x

unfoldable pub steps_length : (ℕ → ℕ) → List (Act signature1 ℕ) → ℕ
steps_length f [] = 0
steps_length f (s ∷ ss) = step_length f s + steps_length f ss

-- an opening line: each symbol with the space or line feed behind it; an empty one is a line feed
unfoldable pub behind_length : List ℕ → ℕ
behind_length [] = 0
behind_length (x ∷ xs) = name_length x + 1 + behind_length xs

unfoldable pub line_length : List ℕ → ℕ
line_length [] = 1
line_length (x ∷ xs) = behind_length (x ∷ xs)

unfoldable pub text_length : Table signature1 → ℕ
text_length t =
    line_length (names_among t.sorts (free signature1 t)) + line_length (variables_among t.sorts (free signature1 t))
    + steps_length (λ a. get_or (lengths_from [] t.entries) a 2) t.steps

-- the place of number 15: the bytes needed, 2^64 - 1 where that many or more are
abbrev pub saturated : ℕ → ℕ
saturated n = min n 0xFFFF_FFFF_FFFF_FFFF
