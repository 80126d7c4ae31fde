-- Document 01's marked examples E1 to E12 as one table, and the statement that they hold. Assumes nothing: these are definitions.
use Rattle.std.specs.Prelude.{List, [], ◌∷◌, ◌++◌, ℕ, ◌*◌, replicate, Ok, Err}
use Rattle.answers.specs.Ladder.{refusal}
use Rattle.calculus.specs.Signature.{seal}
use Rattle.calculus.specs.Terms.{atom, leaf, two, Value}
use Rattle.calculus.specs.Scope.{All}
use Rattle.calculus.specs.Version1.{encryption, signature1}
use Rattle.running.specs.Acts.{sent, received, Logged, logged}
use Rattle.machine.specs.declared.Ran.{Ran}
use Rattle.worked.specs.Examples.{Example, refused_table, typed, compiled, judged_as, ran_as, Holds}

-- ── Tables: header, symbols, terms, steps ──

-- a table's header: mark, version 1, and the counts S, T and P
abbrev table : ℕ → ℕ → ℕ → List ℕ → List ℕ
table symbols terms steps rest = 0x53 ∷ 0x50 ∷ 0x54 ∷ 0 ∷ 1 ∷ symbols ∷ terms ∷ steps ∷ rest

-- c(x), decrypt x with k as y, send y on c; symbols c k x y
abbrev pub e1 : List ℕ
e1 = table 4 4 3
    (0 ∷ 0 ∷ 1 ∷ 1 ∷
    0 ∷ 0 ∷ 0 ∷ 0 ∷ 1 ∷ 0 ∷ 0 ∷ 2 ∷ 0 ∷ 0 ∷ 3 ∷ 0 ∷
    1 ∷ 0 ∷ 0 ∷ 2 ∷ 0 ∷ 5 ∷ 2 ∷ 1 ∷ 3 ∷ 0 ∷ 0 ∷ 0 ∷ 3 ∷ 0 ∷ 0 ∷ [])

-- zero counts
abbrev pub e2 : List ℕ
e2 = table 0 0 0 []

-- seven bytes
abbrev pub e3 : List ℕ
e3 = 0x53 ∷ 0x50 ∷ 0x54 ∷ 0 ∷ 1 ∷ 0 ∷ 0 ∷ []

-- so many names, and nothing else
abbrev pub e4 : ℕ → List ℕ
e4 n = table n 0 0 (replicate n 0)

-- k sent on k, then x decrypted with k as y; symbols k x y
abbrev pub e5 : List ℕ
e5 = table 3 2 2 (0 ∷ 1 ∷ 1 ∷ 0 ∷ 0 ∷ 0 ∷ 0 ∷ 1 ∷ 0 ∷ 0 ∷ 0 ∷ 0 ∷ 0 ∷ 0 ∷ 5 ∷ 1 ∷ 0 ∷ 2 ∷ 0 ∷ [])

-- split of a name; symbols n a b
abbrev pub e6 : List ℕ
e6 = table 3 1 1 (0 ∷ 1 ∷ 1 ∷ 0 ∷ 0 ∷ 0 ∷ 4 ∷ 0 ∷ 0 ∷ 1 ∷ 2 ∷ [])

-- x split as a, b, again as c, d, then c sent on a; symbols x a b c d
abbrev pub e7 : List ℕ
e7 = table 5 3 3
    (1 ∷ 1 ∷ 1 ∷ 1 ∷ 1 ∷
    0 ∷ 0 ∷ 0 ∷ 0 ∷ 1 ∷ 0 ∷ 0 ∷ 3 ∷ 0 ∷
    4 ∷ 0 ∷ 0 ∷ 1 ∷ 2 ∷ 4 ∷ 0 ∷ 0 ∷ 3 ∷ 4 ∷ 0 ∷ 1 ∷ 2 ∷ 0 ∷ 0 ∷ [])

-- name n matched with (n, n)
abbrev pub e8 : List ℕ
e8 = table 1 2 1 (0 ∷ 0 ∷ 0 ∷ 0 ∷ 1 ∷ 0 ∷ 0 ∷ 3 ∷ 0 ∷ 1 ∷ 0 ∷ 0 ∷ [])

-- split of x, binding a twice; symbols x a
abbrev pub e9 : List ℕ
e9 = table 2 1 1 (1 ∷ 1 ∷ 0 ∷ 0 ∷ 0 ∷ 4 ∷ 0 ∷ 0 ∷ 1 ∷ 1 ∷ [])

-- input on x binding x
abbrev pub e10 : List ℕ
e10 = table 1 1 1 (1 ∷ 0 ∷ 0 ∷ 0 ∷ 1 ∷ 0 ∷ 0 ∷ 0 ∷ 0 ∷ [])

-- c(x), then c sent on c, then a split of x; symbols c x and the two parts
abbrev pub e12 : List ℕ
e12 = table 4 2 3
    (0 ∷ 1 ∷ 1 ∷ 1 ∷
    0 ∷ 0 ∷ 0 ∷ 0 ∷ 1 ∷ 0 ∷
    1 ∷ 0 ∷ 0 ∷ 1 ∷ 0 ∷ 0 ∷ 0 ∷ 0 ∷ 0 ∷ 0 ∷ 4 ∷ 1 ∷ 0 ∷ 2 ∷ 3 ∷ [])

-- ── Types with their length bytes ──

-- of c, k, x, y
abbrev pub types1 : List ℕ
types1 = 1 ∷ 2 ∷ 1 ∷ 3 ∷ 2 ∷ 5 ∷ 0 ∷ 1 ∷ 0 ∷ []

-- of so many names: each a length byte 1, and 1 for Name
abbrev pub names : ℕ → List ℕ
names n = replicate (n * 2) 1

-- of x, a, b, c, d: x is 4 2 0, a is 2, c is 0
abbrev pub types7 : List ℕ
types7 = 3 ∷ 4 ∷ 2 ∷ 0 ∷ 1 ∷ 2 ∷ 1 ∷ 0 ∷ 1 ∷ 0 ∷ 1 ∷ 0 ∷ []

-- of c, x and its parts
abbrev pub types12 : List ℕ
types12 = 1 ∷ 2 ∷ 3 ∷ 4 ∷ 0 ∷ 0 ∷ 1 ∷ 0 ∷ 1 ∷ 0 ∷ []

-- ── Lists: header, types, statements ──

-- a list's header: mark, version 1, the count S, and N with its high byte first
abbrev list : ℕ → ℕ → List ℕ → List ℕ
list symbols statements rest = 0x53 ∷ 0x50 ∷ 0x4C ∷ 0 ∷ 1 ∷ symbols ∷ 0 ∷ statements ∷ rest

-- of E1: receive, decrypt, send
abbrev pub list1 : List ℕ
list1 = list 4 3 (types1 ++ (1 ∷ 0 ∷ 0 ∷ 2 ∷ 6 ∷ 2 ∷ 1 ∷ 3 ∷ 0 ∷ 0 ∷ 3 ∷ 0 ∷ []))

-- of E2
abbrev pub list2 : List ℕ
list2 = 0x53 ∷ 0x50 ∷ 0x4C ∷ 0 ∷ 1 ∷ 0 ∷ 0 ∷ 0 ∷ []

-- of E8: the pair is built, then compared
abbrev pub list8 : List ℕ
list8 = list 1 2 (names 1 ++ (7 ∷ 0 ∷ 0 ∷ 0 ∷ 3 ∷ 0 ∷ 1 ∷ 0 ∷ []))

-- E1's list without its decryption, sending a register
abbrev pub list11 : ℕ → List ℕ
list11 register = list 4 2 (types1 ++ (1 ∷ 0 ∷ 0 ∷ 2 ∷ 0 ∷ 0 ∷ register ∷ 0 ∷ []))

-- of E12: receive, send, left, right
abbrev pub list12 : List ℕ
list12 = list 4 4 (types12 ++ (1 ∷ 0 ∷ 0 ∷ 1 ∷ 0 ∷ 0 ∷ 0 ∷ 0 ∷ 4 ∷ 1 ∷ 0 ∷ 2 ∷ 5 ∷ 1 ∷ 0 ∷ 3 ∷ []))

-- ── Traces: header, values, starting values, supply ──

-- a trace's header: mark, version 1, the counts V and K with their high bytes first, and F
abbrev trace : ℕ → ℕ → ℕ → List ℕ → List ℕ
trace values supplies startings rest = 0x53 ∷ 0x50 ∷ 0x58 ∷ 0 ∷ 1 ∷ 0 ∷ values ∷ 0 ∷ supplies ∷ startings ∷ rest

-- the values of E1: channel 0, key 0, the plain atom 5, and value 2, the atom, encrypted under value 1, the key
abbrev pub values1 : List ℕ
values1 = 0 ∷ 0 ∷ 1 ∷ 0 ∷ 0 ∷ 0 ∷ 0 ∷ 2 ∷ 0 ∷ 0 ∷ 0 ∷ 0 ∷ 0 ∷ 0 ∷ 5 ∷ 2 ∷ 0 ∷ 2 ∷ 0 ∷ 1 ∷ []

-- of E1: c is the channel, k the key, and the ciphertext is supplied
abbrev pub trace1 : List ℕ
trace1 = trace 4 1 2 (values1 ++ (0 ∷ 0 ∷ 0 ∷ 1 ∷ 0 ∷ 3 ∷ []))

-- of E8: n is the plain atom 5
abbrev pub trace8 : List ℕ
trace8 = trace 1 0 1 (0 ∷ 0 ∷ 0 ∷ 0 ∷ 5 ∷ 0 ∷ 0 ∷ [])

-- the values of E12: channel 0 and the plain atom 5
abbrev pub values12 : List ℕ
values12 = 0 ∷ 0 ∷ 1 ∷ 0 ∷ 0 ∷ 0 ∷ 0 ∷ 0 ∷ 0 ∷ 5 ∷ []

-- of E12: c is the channel, and the atom is supplied
abbrev pub trace12 : List ℕ
trace12 = trace 2 1 1 (values12 ++ (0 ∷ 0 ∷ 0 ∷ 1 ∷ []))

-- ── Runs ──

-- E1 finishes after its three statements, the supply used; nothing is made
abbrev pub ran1 : Ran
ran1 = record { ending = 0; place = 3; used = 1; logged = 2; count = 4 }

-- its messages: received on value 0, value 3; sent on value 0, value 2
abbrev pub messages1 : List ℕ
messages1 = 1 ∷ 0 ∷ 0 ∷ 0 ∷ 3 ∷ 0 ∷ 0 ∷ 0 ∷ 0 ∷ 2 ∷ []

-- as terms: received on channel 0, the ciphertext
abbrev pub received1 : Logged (Value signature1)
received1 = logged received (leaf (atom 1 0)) (two (seal encryption) (leaf (atom 0 5)) (leaf (atom 2 0)))

-- sent on it, the atom
abbrev pub sent1 : Logged (Value signature1)
sent1 = logged sent (leaf (atom 1 0)) (leaf (atom 0 5))

-- E8 ends with 2 at the comparison, the pair having been made
abbrev pub ran8 : Ran
ran8 = record { ending = 2; place = 1; used = 0; logged = 0; count = 2 }

-- its values: the atom, and the pair
abbrev pub values8 : List ℕ
values8 = 0 ∷ 0 ∷ 0 ∷ 0 ∷ 5 ∷ 1 ∷ 0 ∷ 0 ∷ 0 ∷ 0 ∷ []

-- E12 ends with 4 at its first statement, the value logged and used
abbrev pub ran12 : Ran
ran12 = record { ending = 4; place = 0; used = 1; logged = 1; count = 2 }

-- its message: received on value 0, value 1
abbrev pub messages12 : List ℕ
messages12 = 1 ∷ 0 ∷ 0 ∷ 0 ∷ 1 ∷ []

-- as terms: received on channel 0, the atom
abbrev pub received12 : Logged (Value signature1)
received12 = logged received (leaf (atom 1 0)) (leaf (atom 0 5))

-- what the process does next: c sent on c
abbrev pub sent12 : Logged (Value signature1)
sent12 = logged sent (leaf (atom 1 0)) (leaf (atom 1 0))

-- ── The table of examples ──

abbrev pub examples : List Example
examples =
    -- E1: its types, and its list, which the judge accepts; run, it finishes, and says what the process says
    typed e1 types1 ∷ compiled e1 list1 ∷ judged_as e1 list1 (Ok tt) ∷ ran_as e1 list1 trace1 ran1 values1 messages1 (received1 ∷ sent1 ∷ []) (received1 ∷ sent1 ∷ []) ∷
    -- E2: accepted
    typed e2 [] ∷ compiled e2 list2 ∷
    -- E3
    refused_table e3 (refusal 1 0 0) ∷
    -- E4: 96 symbols pass the limit, 97 do not
    typed (e4 96) (names 96) ∷ refused_table (e4 97) (refusal 3 0 0) ∷
    -- E5 and E6: no typing
    refused_table e5 (refusal 10 0 0) ∷ refused_table e6 (refusal 10 0 0) ∷
    -- E7
    typed e7 types7 ∷
    -- E8: typed; no message, by the list or by the process
    typed e8 (names 1) ∷ compiled e8 list8 ∷ ran_as e8 list8 trace8 ran8 values8 [] [] [] ∷
    -- E9: bound again; E10: used before it is bound
    refused_table e9 (refusal 8 0 0) ∷ refused_table e10 (refusal 9 0 0) ∷
    -- E11: the sending is not due; register 3 is not given
    judged_as e1 (list11 2) (Err (refusal 12 1 1)) ∷ judged_as e1 (list11 3) (Err (refusal 5 1 21)) ∷
    -- E12: the list ends early; the process sends
    compiled e12 list12 ∷ ran_as e12 list12 trace12 ran12 values12 messages12 (received12 ∷ []) (received12 ∷ sent12 ∷ []) ∷ []

-- E1 to E12 hold
abbrev pub ExamplesHold : Type 0
ExamplesHold = All Holds examples
