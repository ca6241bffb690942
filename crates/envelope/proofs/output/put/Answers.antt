use Rattle.std.proofs.Common.{◌<◌, ◌≤◌, arith, ◌∙◌, length-take, get_or-take}
use Rattle.buffer.specs.BufferLaws.{length_added, length_capped}
use Rattle.envelope.proofs.WrittenLaws.{rcpts_first, rcpts_next, rcpts_last, all_written}
use Rattle.envelope.proofs.output.put.Goals as goal

pub loop-at-init : goal.loop-at-init
loop-at-init c = rcpts_first _ _ _ _ _ (omega arith)

pub loop-at-preserved : goal.loop-at-preserved
loop-at-preserved c =
    let starts = c.args.starts.now in
    let k = c.loop-at.at-index in
    let inside : k < c.clip-n.result = omega (arith, length-take c.clip-n.result starts) in
    rcpts_next c.args.envelope.now starts inside (get_or-take c.clip-n.result starts k 0 inside) c.loop-at.invariant c.add_line_at-next-in-loop-at.ensures (omega (arith, length_added c.add_line_at-next.ensures, c.well_formed.0.0))

pub shape_of-out : goal.shape_of-out
shape_of-out c = length_capped c.loop-at.invariant ∙ length_added c.add_line_at-next.ensures

pub returns : goal.returns
returns c =
    let starts = c.args.starts.now in
    let w = c.well_formed in
    let told = c.told-starts in
    let all : c.clip-n.result ≤ c.loop-at.at-index = omega (arith, c.clip-n.ensures, length-take c.clip-n.result starts) in
    all_written c.args.envelope.now starts c.clip-n.result c.args.count c.add_line_at-next.ensures (rcpts_last c.args.envelope.now starts all c.loop-at.invariant) c.clip-n.ensures (omega (arith, c.well_formed.0.0))
