-- Whether lower bounds fit: Rust's Option of nothing more. Assumes nothing: these are definitions.
use Rattle.std.specs.Prelude.{Option}

abbrev pub Fit : Type 0
Fit = Option (Unit {0})
