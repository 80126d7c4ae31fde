-- Document 01's kinds as a table: pairs and shared-key encryption. Assumes nothing.
use Rattle.std.specs.Prelude.{[], ◌∷◌, ℕ, get_or}
use Rattle.types.specs.Types.{Message}
use Rattle.types.specs.Version1.{Base1, name, channel, shkey, shared, types1}
use Rattle.calculus.specs.Signature.{Signature, itself}

-- there is no kind with one part
pub data One1 : Type 0 where
  deriving Discrete as same_one1

-- the one sealed kind
pub data Seal1 : Type 0 where
  encryption : Seal1
  deriving Discrete as same_seal1

-- atom kinds: 0 plain, 1 channel, 2 key
unfoldable pub atom_type1 : ℕ → Base1
atom_type1 k = get_or (name ∷ channel ∷ shkey ∷ []) k name

-- the table
abbrev pub signature1 : Signature
signature1 = record {
  types = types1;
  One = One1;
  same_one = same_one1;
  part = λ k. Message;
  result = λ k. name;
  Seal = Seal1;
  same_seal = same_seal1;
  former = λ s. shared;
  sealing = λ s. shkey;
  opening = λ s. shkey;
  fit = λ s. itself;
  atom_type = atom_type1;
  name = name;
  channel = channel;
}
