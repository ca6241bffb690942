use Rattle.std.proofs.Common.{◌-◌, length, arith, sym, ◌∙◌, refl}
use Rattle.std.proofs.lemmas.List.{take_rest}
use Rattle.utf8.specs.Window.{placed, window_at}
use Rattle.utf8.specs.WindowLaws.{passed_none, passed_part, passed_more, passed_last, block_fails}
use Rattle.utf8.proofs.blocks_placed.Goals as goal

pub loop-block-init : goal.loop-block-init
loop-block-init c = passed_none

pub returns-then-not-all_windows : goal.returns-then-not-all_windows
returns-then-not-all_windows c =
    let h = c.in-Some.ensures.cases in
    let g = c.loop-block.invariant in
    block_fails (window_at placed c.args.s.now) (length c.args.s.now - length c.loop-block.rest.now) 32 _ (omega (arith, g.few, h.enough))
    (sym (passed_part g 32 h.enough h.same) ∙ sym c.all_windows.ensures ∙ c.if-not-all_windows.true)

pub loop-block-preserved : goal.loop-block-preserved
loop-block-preserved c =
    let h = c.in-Some.ensures.cases in
    passed_more c.loop-block.invariant 32 h.enough h.same (take_rest c.loop-block.rest.now 32) (sym c.all_windows.ensures ∙ c.if-not-all_windows.false)

pub returns : goal.returns
returns c = passed_last c.loop-block.invariant 32 c.requires c.in_default.ensures.cases refl c.all_windows-2.ensures
