-- Document 01's marked examples as tables, and two of our own. Assumes nothing.
use Rattle.std.specs.Prelude.{List, [], ◌∷◌, ◌++◌, ℕ, zero, suc}
use Rattle.calculus.specs.Signature.{pairing, seal}
use Rattle.calculus.specs.Tables.{Entry, leaf_entry, kind_entry, is_name, is_variable, Table}
use Rattle.calculus.specs.Terms.{build2, send, receive, compare, split, decrypt}
use Rattle.calculus.specs.Version1.{signature1, encryption}

abbrev pub Table1 : Type 0
Table1 = Table signature1

-- c(x), decrypt x with k as y, send y on c; symbols c k x y
abbrev pub E1 : Table1
E1 = record {
  sorts = is_name ∷ is_name ∷ is_variable ∷ is_variable ∷ [];
  entries = leaf_entry 0 ∷ leaf_entry 1 ∷ leaf_entry 2 ∷ leaf_entry 3 ∷ [];
  steps = receive 0 2 ∷ decrypt encryption 2 1 3 ∷ send 0 3 ∷ [];
}

-- zero counts
abbrev pub E2 : Table1
E2 = record { sorts = []; entries = []; steps = [] }

-- k sent on k, then x decrypted with k; symbols k x y
abbrev pub E5 : Table1
E5 = record {
  sorts = is_name ∷ is_variable ∷ is_variable ∷ [];
  entries = leaf_entry 0 ∷ leaf_entry 1 ∷ [];
  steps = send 0 0 ∷ decrypt encryption 1 0 2 ∷ [];
}

-- split of a name
abbrev pub E6 : Table1
E6 = record {
  sorts = is_name ∷ is_variable ∷ is_variable ∷ [];
  entries = leaf_entry 0 ∷ [];
  steps = split 0 1 2 ∷ [];
}

-- x split as a, b, again as c, d, then c sent on a; symbols x a b c d
abbrev pub E7 : Table1
E7 = record {
  sorts = is_variable ∷ is_variable ∷ is_variable ∷ is_variable ∷ is_variable ∷ [];
  entries = leaf_entry 0 ∷ leaf_entry 1 ∷ leaf_entry 3 ∷ [];
  steps = split 0 1 2 ∷ split 0 3 4 ∷ send 1 2 ∷ [];
}

-- name n matched with (n, n)
abbrev pub E8 : Table1
E8 = record {
  sorts = is_name ∷ [];
  entries = leaf_entry 0 ∷ kind_entry (build2 pairing 0 0) ∷ [];
  steps = compare 0 1 ∷ [];
}

-- c(x), then c sent on c, then a split of x; symbols c x and two parts
abbrev pub E12 : Table1
E12 = record {
  sorts = is_name ∷ is_variable ∷ is_variable ∷ is_variable ∷ [];
  entries = leaf_entry 0 ∷ leaf_entry 1 ∷ [];
  steps = receive 0 1 ∷ send 0 0 ∷ split 1 2 3 ∷ [];
}

-- a name and a variable that nothing uses
abbrev pub Unused : Table1
Unused = record { sorts = is_name ∷ is_variable ∷ []; entries = []; steps = [] }

-- n entries from i on, each the pair of the one before with itself
unfoldable pub doubling : ℕ → ℕ → List (Entry signature1 ℕ)
doubling i zero = []
doubling i (suc n) = kind_entry (build2 pairing i i) ∷ doubling (suc i) n

-- x, paired with itself 40 times over, encrypted under k and sent on c; symbols c k x
abbrev pub Shared : Table1
Shared = record {
  sorts = is_name ∷ is_name ∷ is_variable ∷ [];
  entries = leaf_entry 0 ∷ leaf_entry 1 ∷ leaf_entry 2 ∷ (doubling 2 40 ++ (kind_entry (build2 (seal encryption) 42 1) ∷ []));
  steps = send 0 43 ∷ [];
}
