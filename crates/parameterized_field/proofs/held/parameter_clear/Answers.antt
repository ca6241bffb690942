use Rattle.parameterized_field.specs.WritingLaws.{name_size, name_is, text_made, star_held, stays_clear, room_clear}
use borrow.Author.Rules.{rules}
use Rattle.parameterized_field.proofs.held.parameter_clear.Goals as goal

pub slice_bounds-are_all-end : goal.slice_bounds-are_all-end
slice_bounds-are_all-end c = name_size _ _ c.token_end-name.ensures

pub returns-then-not-are_all : goal.returns-then-not-are_all
returns-then-not-are_all c = λ _. star_held _ (rw (name_is _ _ c.token_end-name.ensures) at c.are_all.ensures) c.if-not-are_all.true

pub returns-then-not-converted : goal.returns-then-not-converted
returns-then-not-converted c =
    λ is. stays_clear _ (rw (name_is _ _ c.token_end-name.ensures) at c.are_all.ensures) c.if-not-are_all.false is c.if-not-converted.true

pub slice_bounds-has_room-end : goal.slice_bounds-has_room-end
slice_bounds-has_room-end c = name_size _ _ c.token_end-name.ensures

pub slice_bounds-has_room-end-2 : goal.slice_bounds-has_room-end-2
slice_bounds-has_room-end-2 c = (text_made _ c.make_text-n.ensures c.requires.0 c.requires.1).within

pub slice_bounds-has_room-end-3 : goal.slice_bounds-has_room-end-3
slice_bounds-has_room-end-3 c = (text_made _ c.make_text-n.ensures c.requires.0 c.requires.1).size

pub returns : goal.returns
returns c =
    let made = text_made _ c.make_text-n.ensures c.requires.0 c.requires.1 in
    let stars = rw (name_is _ _ c.token_end-name.ensures) at c.are_all.ensures in
    let room = rw (name_is _ _ c.token_end-name.ensures, made.is) at c.has_room.ensures in
    λ is. room_clear _ stars c.if-not-are_all.false is c.if-not-converted.false c.requires.0 room
