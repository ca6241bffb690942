use Rattle.word_choice.specs.ChoiceLaws.{also_plain, sure_short, sure_high, sure_by}
use Rattle.word_choice.specs.BlockLaws.{untrue}
use borrow.Author.Tests.{leb-true}
use Prim.Native.Nat.{◌+◌, ◌*◌, ◌/◌}
use native.Mathlib.Omega.{arith}
use Rattle.word_choice.proofs.surely_in_q.Goals as goal

pub returns-then-text-lt48 : goal.returns-then-text-lt48
returns-then-text-lt48 c = (sure_short _ c.args.text.now c.if-text-lt48.true, λ e. untrue e)

pub returns-then-text-ge128 : goal.returns-then-text-ge128
returns-then-text-ge128 c = (sure_high _ c.args.text.now (omega arith) c.if-text-ge128.true, λ e. untrue e)

pub returns : goal.returns
returns c =
    let text = c.args.text.now in
    let room = c.clip-room.result in
    rw (← c.clip-room.ensures) (
      sure_by room text (omega arith) c.if-text-ge128.false c.others.result c.others.ensures.0,
      λ e. also_plain room text (omega (arith, c.clip-room.ensures)) (omega (arith, c.others.ensures.0, leb-true (room / 4 * 3 + 2 * c.others.result) room e)),
    )
