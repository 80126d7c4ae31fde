-- A string of bytes that is the file of a list. Assumes nothing: these are definitions.
use Rattle.std.specs.Prelude.{◌≡◌, List, ℕ}
use Rattle.types.specs.Version1.{T}
use Rattle.decoded_list.specs.Bytes.{list_bytes}
use Rattle.decoded_list.specs.Statements.{statements_of}

-- the bytes are those of a list: of some types, and of the statements that they stand for
pub record Decoded (s : List ℕ) : Type 0 where
  pub types : List T
  pub is_file : s ≡ list_bytes (record { types = types; statements = statements_of s })
