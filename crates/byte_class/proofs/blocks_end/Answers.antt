use Rattle.std.proofs.Common.{◌≡◌, ◌+◌, ◌-◌, ◌∙◌, ap, sym, length, drop, arith, drop-drop}
use Rattle.lists.specs.Run.{run}
use Rattle.lists.specs.RunLaws.{run_block}
use Rattle.byte_class.proofs.blocks_end.Goals as goal

pub loop-block-preserved : goal.loop-block-preserved
loop-block-preserved g c =
    let s = c.args.s.now in
    let rest = c.loop-block.rest.now in
    let more = c.in-Some.more.now in
    let k = length s - length rest in
    let inv = c.loop-block.invariant in
    let size : length more + 32 ≡ length rest = c.in-Some.ensures.cases.2 in
    let after : length s - length more ≡ k + 32 = omega arith in
    let stands : more ≡ drop (k + 32) s = c.in-Some.ensures.cases.1 ∙ ap (drop 32) inv.1 ∙ drop-drop 32 k s in
    let passed = run_block g.C.Class.member s k 32 (omega arith) (rw (← inv.1, ← c.in-Some.ensures.cases.0) (sym c.long_are_all.ensures ∙ c.if-not-long_are_all.false)) in
    let runs : run g.C.Class.member s ≡ k + run g.C.Class.member (drop k s) = rw (← inv.1) inv.2 in
    (omega arith, rw after stands, rw (after, stands) (runs ∙ passed))
