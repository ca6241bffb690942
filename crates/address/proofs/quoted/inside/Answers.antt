use Rattle.std.proofs.Common.{◌≡◌, false, sym, ◌∙◌, arith, length}
use Rattle.address.specs.AddressLaws.{quoted_step_lem, quoted_stop, quoted_close, quoted_end}
use Rattle.address.proofs.quoted.inside.Goals as goal

pub returns-then-s-at : goal.returns-then-s-at
returns-then-s-at c = sym (quoted_end _ _ false c.if-s-at.true)

pub returns-then-b-escaped : goal.returns-then-b-escaped
returns-then-b-escaped c = sym (c.loop-i.invariant ∙ quoted_close _ _ _ c.loop-i-test.true c.if-b-escaped.true)

pub returns-then-not-b-escaped : goal.returns-then-not-b-escaped
returns-then-not-b-escaped c = sym (c.loop-i.invariant ∙ quoted_stop _ _ _ c.loop-i-test.true c.if-b-escaped.false c.if-not-b-escaped.true)

pub loop-i-preserved : goal.loop-i-preserved
loop-i-preserved c = c.loop-i.invariant ∙ quoted_step_lem _ _ _ c.loop-i-test.true c.if-b-escaped.false c.if-not-b-escaped.false

pub returns : goal.returns
returns c =
    let end : length c.args.s.now ≡ c.loop-i.i = omega arith in
    rw end (sym (c.loop-i.invariant ∙ quoted_end _ _ _ c.loop-i-test.false))
