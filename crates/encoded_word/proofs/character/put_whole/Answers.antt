use Rattle.encoded_word.specs.WritingLaws.{put_stop, put_high_lem, escapes_two, escapes_three, escapes_four}
use Rattle.row_length.specs.LengthLaws.{stepped_high}
use Rattle.buffer.specs.BufferLaws.{appended_then}
use native.Mathlib.Omega.{arith}
use mathlib.Core.Path.{◌≡◌, refl}
use Rattle.encoded_word.proofs.character.put_whole.Goals as goal

pub returns-then-left-m : goal.returns-then-left-m
returns-then-left-m c = put_stop (stepped_high (omega arith) c.requires.4) c.if-left-m.true

pub returns-then-n-eq2 : goal.returns-then-n-eq2
returns-then-n-eq2 c = let size : c.args.n ≡ 2 = c.if-n-eq2.true in
    (omega arith, put_high_lem _ _ _ _ _ (omega arith) c.requires.4 _ (rw size (escapes_two c.args.s.now c.args.i (omega arith))) c.if-left-m.false refl c.put_escapes-third.ensures)

pub returns-then-n-eq3 : goal.returns-then-n-eq3
returns-then-n-eq3 c = let size : c.args.n ≡ 3 = c.if-n-eq3.true in
    (omega arith, put_high_lem _ _ _ _ _ (omega arith) c.requires.4 _ (rw size (escapes_three c.args.s.now c.args.i (omega arith))) c.if-left-m.false refl (appended_then c.put_escapes-third.ensures c.put_escape-fourth.ensures))

pub returns : goal.returns
returns c = let size : c.args.n ≡ 4 = omega arith in
    (omega arith, put_high_lem _ _ _ _ _ (omega arith) c.requires.4 _ (rw size (escapes_four c.args.s.now c.args.i (omega arith))) c.if-left-m.false refl (appended_then (appended_then c.put_escapes-third.ensures c.put_escape-fourth.ensures) c.put_escape-after.ensures))
