-- The statements of this crate at document 01's kinds. Assumes nothing.
use Rattle.calculus.specs.Version1.{signature1}
use Rattle.rendering.specs.Lists.{ListsJudgedExactly, AnswerOnce, AcceptsTheFaithful}
use Rattle.rendering.specs.Translation.{TranslationIsFaithful, TranslationIsAccepted, EveryTermIsMade, LengthIsKnown, TranslationFits}
use Rattle.rendering.proofs.MadeLaws.{every_term_is_made}
use Rattle.rendering.proofs.TranslationLaws.{translation_is_faithful, length_is_known, translation_fits}
use Rattle.rendering.proofs.ListLaws.{lists_judged_exactly, answer_once, accepts_the_faithful, translation_is_accepted}

pub lists_judged_exactly1 : ListsJudgedExactly signature1
lists_judged_exactly1 = lists_judged_exactly signature1

pub answer_once1 : AnswerOnce signature1
answer_once1 = answer_once signature1

pub accepts_the_faithful1 : AcceptsTheFaithful signature1
accepts_the_faithful1 = accepts_the_faithful signature1

pub translation_is_faithful1 : TranslationIsFaithful signature1
translation_is_faithful1 = translation_is_faithful signature1

pub translation_is_accepted1 : TranslationIsAccepted signature1
translation_is_accepted1 = translation_is_accepted signature1

pub every_term_is_made1 : EveryTermIsMade signature1
every_term_is_made1 = every_term_is_made signature1

pub length_is_known1 : LengthIsKnown signature1
length_is_known1 = length_is_known signature1

pub translation_fits1 : TranslationFits signature1
translation_fits1 = translation_fits signature1
