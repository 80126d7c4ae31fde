-- Document 01's types as a table: 0 Message, 1 Name, 2 Channel, 3 ShKey, 4 pair, 5 ciphertext. Assumes nothing.
use Rattle.std.proofs.Math.Option.{Option, none, some}
use Rattle.std.specs.Prelude.{List, [], ◌∷◌, ℕ}
use Rattle.std.proofs.Math.ListN.{get_elem?}
use Rattle.types.specs.Forest.{Forest}
use Rattle.types.specs.Types.{TypeTable, Ty}
use Rattle.types.specs.Prefix.{Node, n_message, n_basic, n_cipher, n_pair, Codes, encoded}

-- the basic types
pub data Base1 : Type 0 where
  name channel shkey : Base1
  deriving Discrete as same_base1

-- Channel and ShKey lie below Name
unfoldable pub parent1 : Base1 → Option Base1
parent1 name = none
parent1 channel = some name
parent1 shkey = some name

-- how many lie above
unfoldable pub depth1 : Base1 → ℕ
depth1 name = 0
depth1 channel = 1
depth1 shkey = 1

-- the one kind of ciphertext type
pub data Former1 : Type 0 where
  shared : Former1
  deriving Discrete as same_former1

-- the tables
abbrev pub forest1 : Forest
forest1 = record { Base = Base1; same = same_base1; parent = parent1; depth = depth1 }

abbrev pub types1 : TypeTable
types1 = record { forest = forest1; Former = Former1; same_former = same_former1 }

-- document 01's types
abbrev pub T : Type 0
T = Ty types1

-- the code of each node
unfoldable pub code1 : Node types1 → ℕ
code1 n_message = 0
code1 (n_basic name) = 1
code1 (n_basic channel) = 2
code1 (n_basic shkey) = 3
code1 n_pair = 4
code1 (n_cipher shared) = 5

-- the node of each code, in order
abbrev pub nodes1 : List (Node types1)
nodes1 = n_message ∷ n_basic name ∷ n_basic channel ∷ n_basic shkey ∷ n_pair ∷ n_cipher shared ∷ []

-- the node of a byte, if it is one
unfoldable pub node_of1 : ℕ → Option (Node types1)
node_of1 n = get_elem? nodes1 n

-- the codes
abbrev pub codes1 : Codes types1
codes1 = record { code = code1; node_of = node_of1 }

-- a type's bytes
abbrev pub bytes : T → List ℕ
bytes = encoded codes1
