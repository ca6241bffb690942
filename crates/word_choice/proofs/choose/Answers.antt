use Rattle.word_choice.specs.ChoiceOfLaws.{chosen_both}
use Rattle.word_choice.proofs.choose.Goals as goal

pub returns-then-text-room : goal.returns-then-text-room
returns-then-text-room c = chosen_both _ _ (rw (← c.clip-room.ensures) c.whole.ensures)

pub returns-then-text-ge50 : goal.returns-then-text-ge50
returns-then-text-ge50 c = chosen_both _ _ (rw (← c.clip-room.ensures) c.by_block.ensures)

pub returns : goal.returns
returns c = chosen_both _ _ (rw (← c.clip-room.ensures) c.by_characters.ensures)
