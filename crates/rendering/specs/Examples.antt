-- What translating and judging document 01's examples gives. Assumes nothing.
use Rattle.std.specs.Prelude.{◌≡◌, List, [], ◌∷◌, length}
use Rattle.calculus.specs.Signature.{pairing, seal}
use Rattle.calculus.specs.Terms.{build2, send, receive, compare, split, decrypt, left, right, Statement, act, half, build}
use Rattle.calculus.specs.Tables.{leaf_entry, kind_entry, is_name, Table}
use Rattle.calculus.specs.Version1.{encryption, signature1}
use Rattle.calculus.specs.ExampleTables.{E1, E8, E12, doubling}
use Rattle.rendering.specs.Rendering.{halves, merged}
use Rattle.rendering.specs.Judge.{not_due, unfinished, accepted, judge}
use Rattle.rendering.specs.Translation.{translation}

-- the list of E1: receive, decrypt, send
abbrev pub list1 : List (Statement signature1)
list1 = act (receive 0 2) ∷ act (decrypt encryption 2 1 3) ∷ act (send 0 3) ∷ []

-- E11: its list without the decryption, sending register 2
abbrev pub list11 : List (Statement signature1)
list11 = act (receive 0 2) ∷ act (send 0 2) ∷ []

-- the order of building: {(k, c)} under (c, k), sent on c
abbrev pub ordered : Table signature1
ordered = record {
  sorts = is_name ∷ is_name ∷ [];
  entries = leaf_entry 0 ∷ leaf_entry 1 ∷ kind_entry (build2 pairing 0 1) ∷ kind_entry (build2 pairing 1 0) ∷ kind_entry (build2 (seal encryption) 3 2) ∷ [];
  steps = send 0 4 ∷ [];
}

-- a term that unfolds to 2^40 symbols
abbrev pub shared40 : Table signature1
shared40 = record { sorts = is_name ∷ []; entries = leaf_entry 0 ∷ doubling 0 40; steps = compare 0 40 ∷ [] }

-- ── Statements ──

-- translation: E1, E8, E12 (a split as two statements, and as one), plaintext before key, and a shared term in as many statements as it has entries
abbrev pub ExamplesTranslate : Type 0
ExamplesTranslate =
    (translation signature1 halves E1 ≡ list1)
    × (translation signature1 halves E8 ≡ build (build2 pairing 0 0) ∷ act (compare 0 1) ∷ [])
    × (translation signature1 halves E12 ≡ act (receive 0 1) ∷ act (send 0 0) ∷ half left 1 2 ∷ half right 1 3 ∷ [])
    × (translation signature1 merged E12 ≡ act (receive 0 1) ∷ act (send 0 0) ∷ act (split 1 2 3) ∷ [])
    × (translation signature1 halves ordered ≡ build (build2 pairing 1 0) ∷ build (build2 pairing 0 1) ∷ build (build2 (seal encryption) 2 3) ∷ act (send 0 4) ∷ [])
    × (length (translation signature1 halves shared40) ≡ 41)

-- judging: E1 is accepted; E11 is 12 at place 1; a split with its right half missing is 13 at its step
abbrev pub ExamplesJudged : Type 0
ExamplesJudged =
    (judge signature1 halves E1 list1 ≡ accepted)
    × (judge signature1 halves E1 list11 ≡ not_due 1)
    × (judge signature1 halves E12 (act (receive 0 1) ∷ act (send 0 0) ∷ half left 1 2 ∷ []) ≡ unfinished 2)
    × (judge signature1 halves shared40 (translation signature1 halves shared40) ≡ accepted)
