-- An answer as a row has it is told by its number, so that a row's last byte prints the word of its answer. Assumes nothing.
use mathlib.Core.Path.{◌≡◌, refl}
use Rattle.definitions.specs.Answers.{rendered, answer_number, answer_of, answer_word, shown}
use Rattle.definitions.specs.declared.Answer.{Answer}
use Rattle.definitions.specs.declared.Answer.TheVariants.{No, Yes, At, Lacking, Blocked, Lost, NeighbourBlocked, StoodDown, Stopped}

pub answer_told : (a : Answer) → answer_of (answer_number a) ≡ shown a
answer_told No = refl
answer_told Yes = refl
answer_told (At x) = refl
answer_told Lacking = refl
answer_told Blocked = refl
answer_told Lost = refl
answer_told NeighbourBlocked = refl
answer_told StoodDown = refl
answer_told Stopped = refl

pub word_told : (a : Answer) → answer_word (answer_number a) ≡ (rendered a).1
word_told No = refl
word_told Yes = refl
word_told (At x) = refl
word_told Lacking = refl
word_told Blocked = refl
word_told Lost = refl
word_told NeighbourBlocked = refl
word_told StoodDown = refl
word_told Stopped = refl
