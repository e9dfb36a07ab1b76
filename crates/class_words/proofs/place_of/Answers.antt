-- `class_words::place_of` meets its contract: it reads the word of the place.
use borrow.Author.Rules.{rules}
use Rattle.class_words.specs.Words.{place_of}
use Rattle.class_words.proofs.place_of.Goals as goal

pub returns : goal.returns
unfolding place_of
returns c = search rules
