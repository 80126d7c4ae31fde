-- What the answer of a freshness test says. Assumes nothing: these are definitions.
use Rattle.std.specs.Prelude.{◌≡◌, Bool, List, ℕ, ◌≤◌, length}
use Rattle.calculus.specs.Terms.{Atom}
use Rattle.calculus.specs.Tables.{Entry}
use Rattle.calculus.specs.Version1.{signature1}
use Rattle.running.specs.Values.{is_fresh, index}
use Rattle.running.specs.Lists.{Register, held}
use Rattle.value_table.specs.Kept.{Kept}
use Rattle.run_parts.specs.Registers.{Given}

-- whatever n values are kept and whatever m registers are given, r says whether v is fresh
pub record FreshBy (w : List ℕ) (n : ℕ) (g : List ℕ) (m v : ℕ) (r : Bool) : Type 0 where
  pub answer : (z : List ℕ) (es : List (Entry signature1 Atom)) (rs : List (Register ℕ)) → Kept z es w n → Given rs g m → length es ≤ 1536
      → r ≡ is_fresh signature1 (index signature1 es) (held rs) v
