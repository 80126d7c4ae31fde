-- The role table that bytes stand for, and the bytes of a role table. Assumes nothing: these are definitions.
use Rattle.std.specs.Prelude.{List, [], ◌∷◌, ◌++◌, ℕ, zero, suc, length}
use Rattle.codes.specs.Marks.{mark}
use Rattle.entries.specs.Fields.{code}
use Rattle.table_layout.specs.Layout.{symbols, terms, steps, terms_at, steps_at, sort, term_field, step_field}
use Rattle.calculus.specs.Signature.{Two, pairing, seal}
use Rattle.calculus.specs.Terms.{build1, build2, Act, send, receive, fresh, compare, split, decrypt}
use Rattle.calculus.specs.Tables.{Sort, is_name, is_variable, Entry, leaf_entry, kind_entry, Table, free}
use Rattle.calculus.specs.Version1.{One1, Seal1, encryption, signature1}
use Rattle.entries.specs.Tiling.{listed, joined}

-- ── From bytes ──

-- a sort byte: 0 name, else variable
unfoldable pub sort_of : ℕ → Sort
sort_of zero = is_name
sort_of (suc b) = is_variable

-- a term by its code and its two fields; an unknown code is read as symbol 0
unfoldable pub entry_of : ℕ → ℕ → ℕ → Entry signature1 ℕ
entry_of zero a b = leaf_entry a
entry_of (suc zero) a b = kind_entry (build2 pairing a b)
entry_of (suc (suc zero)) a b = kind_entry (build2 (seal encryption) a b)
entry_of (suc (suc (suc op))) a b = leaf_entry 0

-- a step by its op and its fields a, b, x, y; an unknown op is read as the restriction of symbol 0
unfoldable pub act_of : ℕ → ℕ → ℕ → ℕ → ℕ → Act signature1 ℕ
act_of zero a b x y = send a b
act_of (suc zero) a b x y = receive a x
act_of (suc (suc zero)) a b x y = fresh x
act_of (suc (suc (suc zero))) a b x y = compare a b
act_of (suc (suc (suc (suc zero)))) a b x y = split a x y
act_of (suc (suc (suc (suc (suc zero))))) a b x y = decrypt encryption a b x
act_of (suc (suc (suc (suc (suc (suc op)))))) a b x y = fresh 0

-- symbol x, term i and step k of a file
unfoldable pub sort_at : List ℕ → ℕ → Sort
sort_at s x = sort_of (sort s x)

unfoldable pub term_at : List ℕ → ℕ → Entry signature1 ℕ
term_at s i = entry_of (code s 0 (terms_at s) i) (term_field s i 0) (term_field s i 1)

unfoldable pub step_at : List ℕ → ℕ → Act signature1 ℕ
step_at s k = act_of (code s 1 (steps_at s) k) (step_field s k 0) (step_field s k 1) (step_field s k 2) (step_field s k 3)

-- the table that a file stands for
abbrev pub table_of : List ℕ → Table signature1
table_of s =
    record {
      sorts = listed (sort_at s) 0 (symbols s);
      entries = listed (term_at s) 0 (terms s);
      steps = listed (step_at s) 0 (steps s);
    }

-- its free symbols, which are the first registers, and their number
abbrev pub free_of : List ℕ → List ℕ
free_of s = free signature1 (table_of s)

abbrev pub free_count : List ℕ → ℕ
free_count s = length (free_of s)

-- ── And back ──

-- a symbol's byte
unfoldable pub sort_bytes : Sort → List ℕ
sort_bytes is_name = 0 ∷ []
sort_bytes is_variable = 1 ∷ []

-- the codes of the kinds; there is none of one part
unfoldable pub one_code : One1 → ℕ
one_code k = elim k [ ]

unfoldable pub two_code : Two Seal1 → ℕ
two_code pairing = 1
two_code (seal encryption) = 2

-- the three bytes of a term
unfoldable pub entry_bytes : Entry signature1 ℕ → List ℕ
entry_bytes (leaf_entry x) = 0 ∷ x ∷ 0 ∷ []
entry_bytes (kind_entry (build1 k a)) = one_code k ∷ a ∷ 0 ∷ []
entry_bytes (kind_entry (build2 k a b)) = two_code k ∷ a ∷ b ∷ []

-- the five bytes of a step
unfoldable pub step_bytes : Act signature1 ℕ → List ℕ
step_bytes (send a b) = 0 ∷ a ∷ b ∷ 0 ∷ 0 ∷ []
step_bytes (receive a x) = 1 ∷ a ∷ 0 ∷ x ∷ 0 ∷ []
step_bytes (fresh x) = 2 ∷ 0 ∷ 0 ∷ x ∷ 0 ∷ []
step_bytes (compare a b) = 3 ∷ a ∷ b ∷ 0 ∷ 0 ∷ []
step_bytes (split a x y) = 4 ∷ a ∷ 0 ∷ x ∷ y ∷ []
step_bytes (decrypt c a b x) = 5 ∷ a ∷ b ∷ x ∷ 0 ∷ []

-- the header: mark, version 1, the three counts
unfoldable pub header_bytes : Table signature1 → List ℕ
header_bytes t = mark 0 0 ∷ mark 0 1 ∷ mark 0 2 ∷ 0 ∷ 1 ∷ length t.sorts ∷ length t.entries ∷ length t.steps ∷ []

-- the file: header, symbols, terms, steps
unfoldable pub table_bytes : Table signature1 → List ℕ
table_bytes t = header_bytes t ++ (joined sort_bytes t.sorts ++ (joined entry_bytes t.entries ++ joined step_bytes t.steps))
