-- A trace as what it holds, and that as a file. Assumes nothing: these are definitions.
use Rattle.std.specs.Prelude.{List, ◌++◌, ℕ, length}
use Rattle.codes.specs.Marks.{mark}
use Rattle.opening.specs.Opening.{version}
use Rattle.trace.specs.Layout as layout
use Rattle.entries.specs.Tiling.{listed, joined, number_bytes, Entry, entry_of, entry_bytes}

-- what a trace holds
pub record Trace : Type 0 where
  pub its_version : ℕ
  pub values : List Entry
  pub starting : List ℕ
  pub supply : List ℕ

-- what a file holds
abbrev pub trace_of : List ℕ → Trace
trace_of s =
    record {
      its_version = version s;
      values = listed (entry_of s 3 10) 0 (layout.values s);
      starting = listed (layout.starting s) 0 (layout.startings s);
      supply = listed (layout.supply s) 0 (layout.supplies s);
    }

-- the header: mark, version, and the three counts
abbrev pub header_bytes : Trace → List ℕ
header_bytes t =
    listed (mark 2) 0 3 ++ number_bytes 2 t.its_version ++ number_bytes 2 (length t.values)
    ++ number_bytes 2 (length t.supply) ++ number_bytes 1 (length t.starting)

-- the file: header, values, starting values, supply
abbrev pub trace_bytes : Trace → List ℕ
trace_bytes t =
    header_bytes t ++ joined (entry_bytes 3) t.values ++ joined (number_bytes 2) t.starting ++ joined (number_bytes 2) t.supply
