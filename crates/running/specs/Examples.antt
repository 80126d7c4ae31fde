-- Document 01's examples E1, E8 and E12, and document 02 c)'s fresh names, run as lists and as processes. Assumes nothing.
use Rattle.std.specs.Prelude.{◌≡◌, [], ◌∷◌, ℕ, zero, suc}
use Rattle.types.specs.Types.{Message, Basic, Cipher, Pair}
use Rattle.types.specs.Version1.{name, channel, T, shkey, shared}
use Rattle.calculus.specs.Signature.{pairing, seal}
use Rattle.calculus.specs.Terms.{atom, leaf, build2, two, send, receive, fresh}
use Rattle.calculus.specs.Tables.{leaf_entry, kind_entry, is_name, is_variable, Table}
use Rattle.calculus.specs.Version1.{encryption, signature1}
use Rattle.rendering.specs.Rendering.{halves}
use Rattle.rendering.specs.Translation.{translation}
use Rattle.calculus.specs.ExampleTables.{E1, E8, E12}
use Rattle.running.specs.Acts.{typed, finished, not_equal, received_lacks, not_fresh, no_pair, sent, received, logged}
use Rattle.running.specs.Demand3.{Trace, list_run, process_run}

-- E1: c a channel, k a key; the supply is a plain atom encrypted under k
unfoldable pub types1 : ℕ → T
types1 zero = Basic channel
types1 (suc zero) = Basic shkey
types1 (suc (suc zero)) = Cipher shared Message
types1 (suc (suc (suc x))) = Message

abbrev pub trace1 : Trace signature1
trace1 = record {
  values = leaf_entry (atom 1 0) ∷ leaf_entry (atom 2 0) ∷ leaf_entry (atom 0 7) ∷ kind_entry (build2 (seal encryption) 2 1) ∷ [];
  starting = 0 ∷ 1 ∷ [];
  supply = 3 ∷ [];
}

-- E8: name n matched with (n, n), from an atom
abbrev pub types8 : ℕ → T
types8 x = Basic name

abbrev pub trace8 : Trace signature1
trace8 = record { values = leaf_entry (atom 0 5) ∷ []; starting = 0 ∷ []; supply = [] }

-- E12: c is a channel, the supply is a plain atom
unfoldable pub types12 : ℕ → T
types12 zero = Basic channel
types12 (suc zero) = Pair Message Message
types12 (suc (suc x)) = Message

abbrev pub trace12 : Trace signature1
trace12 = record { values = leaf_entry (atom 1 0) ∷ leaf_entry (atom 0 5) ∷ []; starting = 0 ∷ []; supply = 1 ∷ [] }

-- a fresh name after a receipt: in c x, new n, out c n
abbrev pub renewal : Table signature1
renewal = record {
  sorts = is_name ∷ is_variable ∷ is_name ∷ [];
  entries = leaf_entry 0 ∷ leaf_entry 2 ∷ [];
  steps = receive 0 1 ∷ fresh 2 ∷ send 0 1 ∷ [];
}

-- c a channel, x a message, n a name
unfoldable pub types_renewal : ℕ → T
types_renewal zero = Basic channel
types_renewal (suc zero) = Message
types_renewal (suc (suc x)) = Basic name

-- a channel, a key, a plain atom, and the atom encrypted under the key; value r is received, and value n supplied for the fresh name
abbrev pub trace_renewal : ℕ → ℕ → Trace signature1
trace_renewal r n = record {
  values = leaf_entry (atom 1 0) ∷ leaf_entry (atom 2 0) ∷ leaf_entry (atom 0 7) ∷ kind_entry (build2 (seal encryption) 2 1) ∷ [];
  starting = 0 ∷ [];
  supply = r ∷ n ∷ [];
}

-- ── Statements ──

-- E1 finishes: it receives the ciphertext and sends its inside; so does the process
abbrev pub Example1 : Type 0
Example1 =
    (list_run signature1 (typed types1) (translation signature1 halves E1) trace1
    ≡ record { ending = finished; place = 3; rest = []; log = logged received 0 3 ∷ logged sent 0 2 ∷ []; store = trace1.values })
    × (process_run signature1 E1 trace1
    ≡ record {
      ending = finished;
      place = 3;
      rest = [];
      store = tt;
      log = logged received (leaf (atom 1 0)) (two (seal encryption) (leaf (atom 0 7)) (leaf (atom 2 0))) ∷ logged sent (leaf (atom 1 0)) (leaf (atom 0 7)) ∷ [];
    })

-- E8 ends with 2 at its comparison, the pair having been made; the process is stuck at step 0 for that cause
abbrev pub Example8 : Type 0
Example8 =
    (list_run signature1 (typed types8) (translation signature1 halves E8) trace8
    ≡ record { ending = not_equal; place = 1; rest = []; log = []; store = leaf_entry (atom 0 5) ∷ kind_entry (build2 pairing 0 0) ∷ [] })
    × (process_run signature1 E8 trace8 ≡ record { ending = not_equal; place = 0; rest = []; log = []; store = tt })

-- E12, the early stop: the list ends with 4 at its first statement, the value logged and used; the process sends, and is stuck at the split
abbrev pub Example12 : Type 0
Example12 =
    (list_run signature1 (typed types12) (translation signature1 halves E12) trace12
    ≡ record { ending = received_lacks; place = 0; rest = []; log = logged received 0 1 ∷ []; store = trace12.values })
    × (process_run signature1 E12 trace12
    ≡ record {
      ending = no_pair;
      place = 2;
      rest = [];
      store = tt;
      log = logged received (leaf (atom 1 0)) (leaf (atom 0 5)) ∷ logged sent (leaf (atom 1 0)) (leaf (atom 1 0)) ∷ [];
    })

-- the ciphertext is received, then value n is supplied for the fresh name: list and process end with 6 there
abbrev pub RenewalFails : ℕ → Type 0
RenewalFails n =
    (list_run signature1 (typed types_renewal) (translation signature1 halves renewal) (trace_renewal 3 n)
    ≡ record { ending = not_fresh; place = 1; rest = []; log = logged received 0 3 ∷ []; store = (trace_renewal 3 n).values })
    × (process_run signature1 renewal (trace_renewal 3 n)
    ≡ record { ending = not_fresh; place = 1; rest = []; log = logged received (leaf (atom 1 0)) (two (seal encryption) (leaf (atom 0 7)) (leaf (atom 2 0))) ∷ []; store = tt })

-- the atom inside a held ciphertext, and its key: neither is fresh
abbrev pub ExampleInside : Type 0
ExampleInside = RenewalFails 2 × RenewalFails 1

-- the key is received, then the atom is supplied: the ciphertext that has it inside is in the table, but no register holds it, so it is fresh
abbrev pub ExampleNotHeld : Type 0
ExampleNotHeld =
    (list_run signature1 (typed types_renewal) (translation signature1 halves renewal) (trace_renewal 1 2)
    ≡ record { ending = finished; place = 3; rest = []; log = logged received 0 1 ∷ logged sent 0 2 ∷ []; store = (trace_renewal 1 2).values })
    × (process_run signature1 renewal (trace_renewal 1 2)
    ≡ record {
      ending = finished;
      place = 3;
      rest = [];
      store = tt;
      log = logged received (leaf (atom 1 0)) (leaf (atom 2 0)) ∷ logged sent (leaf (atom 1 0)) (leaf (atom 0 7)) ∷ [];
    })
