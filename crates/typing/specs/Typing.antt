-- What the inference answers: a typing, or the step from which on there is none. Assumes nothing: these are definitions.
use Rattle.std.specs.Prelude.{Result}
use Rattle.typing.specs.declared.NoTyping.{NoTyping}

abbrev pub Typing : Type 0
Typing = Result (Unit {0}) NoTyping
