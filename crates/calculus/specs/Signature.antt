-- The kinds of terms as a table: what each kind's parts need, what type it gives, and what opens it. The theorems quantify over such
-- a table; document 01's is in Version1.antt. Assumes nothing; `SignatureLaws` are the laws of a table.
use Rattle.std.specs.Prelude.{◌≡◌, ℕ}
use Rattle.types.specs.Forest.{Falls}
use Rattle.types.specs.Types.{TypeTable, Ty}
use Rattle.types.specs.Prefix.{nodes}

-- the kinds of terms with two parts: pairs, and the kinds of sealed terms, whose second part is the key
pub data Two (Seal : Type 0) : Type 0 where
  pairing : Two Seal
  seal : Seal → Two Seal
  deriving Discrete as same_two

-- how an opening key fits a sealing key: it is the same; or the sealing key is of one kind and the opening key of another, over one part
pub data Fit (One : Type 0) : Type 0 where
  itself : Fit One
  twins : One → One → Fit One

-- a table of kinds
pub record Signature : Type 1 where
  pub types : TypeTable
  -- kinds with one part: the type that the part needs, and the basic type that the whole has
  pub One : Type 0
  pub same_one : Discrete One
  pub part : One → Ty types
  pub result : One → types.forest.Base
  -- sealed kinds: the ciphertext type; the basic types of the sealing and of the opening key, and how these fit
  pub Seal : Type 0
  pub same_seal : Discrete Seal
  pub former : Seal → types.Former
  pub sealing : Seal → types.forest.Base
  pub opening : Seal → types.forest.Base
  pub fit : Seal → Fit One
  -- the basic type that an atom of each kind visibly has
  pub atom_type : ℕ → types.forest.Base
  -- the types Name and Channel
  pub name : types.forest.Base
  pub channel : types.forest.Base

-- the laws of a table: the basic types are a forest, and no kind with one part needs more of it than a basic type or Message
pub record SignatureLaws (𝓢 : Signature) : Type 0 where
  pub falls : Falls 𝓢.types.forest
  pub flat : (k : 𝓢.One) → nodes 𝓢.types (𝓢.part k) ≡ 1
