-- The number of an ending is what the code's cast gives. Assumes nothing.
use mathlib.Core.Path.{◌≡◌, refl}
use denote.Enum.Declared.{tag_of}
use Rattle.effects.specs.Effects.{ending_number}
use Rattle.effects.specs.contracts.Ending.{the_type}
use Rattle.effects.specs.declared.Ending.{Ending}
use Rattle.effects.specs.declared.Ending.TheVariants.{Finished, NoSupply, NotEqual, WrongKey, ReceivedLacks, OpenedLacks, NotFresh, FreshLacks, NoPair, NoCiphertext}

pub ending_cast : (e : Ending) → tag_of the_type e ≡ ending_number e
unfolding ending_number
ending_cast Finished = refl
ending_cast NoSupply = refl
ending_cast NotEqual = refl
ending_cast WrongKey = refl
ending_cast ReceivedLacks = refl
ending_cast OpenedLacks = refl
ending_cast NotFresh = refl
ending_cast FreshLacks = refl
ending_cast NoPair = refl
ending_cast NoCiphertext = refl
