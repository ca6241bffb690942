use Rattle.utf8.specs.CharAtLaws.{char_at_end, char_at_ascii, char_at_none, to_leads, to_third, char_at_two, char_at_three, char_at_four, char_at_bad}
use mathlib.Core.Bool.{true, false}
use mathlib.Core.Path.{sym, ◌∙◌}
use native.Mathlib.Omega.{arith}
use Rattle.utf8.proofs.char_at.Goals as goal

pub returns-then-s-at : goal.returns-then-s-at
returns-then-s-at c = sym (char_at_end c.args.s.now c.args.at c.if-s-at.true)

pub returns-then-a-lt128 : goal.returns-then-a-lt128
returns-then-a-lt128 c = let g = c.args in sym (char_at_ascii g.s.now g.at c.if-s-at.false c.if-a-lt128.true)

pub returns-then-not-a-n : goal.returns-then-not-a-n
returns-then-not-a-n c = let g = c.args in
    sym (char_at_none g.s.now g.at c.if-s-at.false _ c.char_len-n.ensures c.if-a-lt128.false c.if-not-a-n.true)

pub bounds-s-at-2 : goal.bounds-s-at-2
bounds-s-at-2 c = let g = c.args in
    let l = to_leads g.s.now g.at _ c.if-s-at.false c.char_len-n.ensures c.if-not-a-n.false in
    omega arith

pub returns-then-not-is_tail : goal.returns-then-not-is_tail
returns-then-not-is_tail c = let g = c.args in
    let l = to_leads g.s.now g.at _ c.if-s-at.false c.char_len-n.ensures c.if-not-a-n.false in
    sym (char_at_two l c.if-n-eq2.true false (sym c.is_tail.ensures ∙ c.if-not-is_tail.true))

pub returns-then-n-eq2 : goal.returns-then-n-eq2
returns-then-n-eq2 c = let g = c.args in
    let l = to_leads g.s.now g.at _ c.if-s-at.false c.char_len-n.ensures c.if-not-a-n.false in
    sym (char_at_two l c.if-n-eq2.true true (sym c.is_tail.ensures ∙ c.if-not-is_tail.false))

pub bounds-s-at-3 : goal.bounds-s-at-3
bounds-s-at-3 c = let g = c.args in
    let l = to_leads g.s.now g.at _ c.if-s-at.false c.char_len-n.ensures c.if-not-a-n.false in
    omega (arith, c.if-n-eq2.false)

pub returns-then-not-second_low-b : goal.returns-then-not-second_low-b
returns-then-not-second_low-b c = let g = c.args in
    let l = to_leads g.s.now g.at _ c.if-s-at.false c.char_len-n.ensures c.if-not-a-n.false in
    let t = to_third g.s.now g.at _ _ _ false c.second_low.ensures c.second_high.ensures c.is_tail-2.ensures c.if-not-second_low-b.true in
    sym (char_at_bad l c.if-n-eq2.false t)

pub returns-then-n-eq3 : goal.returns-then-n-eq3
returns-then-n-eq3 c = let g = c.args in
    let l = to_leads g.s.now g.at _ c.if-s-at.false c.char_len-n.ensures c.if-not-a-n.false in
    let t = to_third g.s.now g.at _ _ _ true c.second_low.ensures c.second_high.ensures c.is_tail-2.ensures c.if-not-second_low-b.false in
    sym (char_at_three l c.if-n-eq3.true true t)

pub bounds-s-at-4 : goal.bounds-s-at-4
bounds-s-at-4 c = let g = c.args in
    let l = to_leads g.s.now g.at _ c.if-s-at.false c.char_len-n.ensures c.if-not-a-n.false in
    omega (arith, c.if-n-eq2.false, c.if-n-eq3.false)

pub returns-then-not-is_tail-2 : goal.returns-then-not-is_tail-2
returns-then-not-is_tail-2 c = let g = c.args in
    let l = to_leads g.s.now g.at _ c.if-s-at.false c.char_len-n.ensures c.if-not-a-n.false in
    let t = to_third g.s.now g.at _ _ _ true c.second_low.ensures c.second_high.ensures c.is_tail-2.ensures c.if-not-second_low-b.false in
    sym (char_at_four l (omega (arith, c.if-n-eq2.false, c.if-n-eq3.false)) true false t (sym c.is_tail-3.ensures ∙ c.if-not-is_tail-2.true))

pub returns : goal.returns
returns c = let g = c.args in
    let l = to_leads g.s.now g.at _ c.if-s-at.false c.char_len-n.ensures c.if-not-a-n.false in
    let t = to_third g.s.now g.at _ _ _ true c.second_low.ensures c.second_high.ensures c.is_tail-2.ensures c.if-not-second_low-b.false in
    sym (char_at_four l (omega (arith, c.if-n-eq2.false, c.if-n-eq3.false)) true true t (sym c.is_tail-3.ensures ∙ c.if-not-is_tail-2.false))
