-- Rust's Option of a place or a number of bytes, by the names of what it answers. Assumes nothing: these are definitions.
use Rattle.std.specs.Prelude.{Option, ℕ}

-- where a type ends, if there is one
abbrev pub End : Type 0
End = Option ℕ

-- how many bytes were written, if what was wanted is there and fits
abbrev pub Lower : Type 0
Lower = Option ℕ
