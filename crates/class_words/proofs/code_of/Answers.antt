-- `class_words::code_of` meets its contract: a stage's place in its list is its code.
use Rattle.std.proofs.Common.{rules}
use Rattle.class_words.specs.Words.{code_of}
use Rattle.class_words.proofs.code_of.Goals as goal

pub returns : goal.returns
unfolding code_of
returns c = search rules
