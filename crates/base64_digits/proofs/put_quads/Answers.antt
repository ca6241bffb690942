use Rattle.base64_digits.specs.Base64.{in_base64}
use Rattle.base64_digits.proofs.WritingLaws.{five_quads}
use Rattle.buffer.specs.BufferLaws.{length_appended}
use native.Mathlib.Omega.{arith}
use borrow.Author.Rules.{rules}
use Rattle.base64_digits.proofs.put_quads.Goals as goal

pub put_quad-third-requires : goal.put_quad-third-requires
unfolding in_base64
put_quad-third-requires c = search rules

pub put_quad-fourth-requires : goal.put_quad-fourth-requires
unfolding in_base64
put_quad-fourth-requires c = search rules

pub put_quad-fifth-requires : goal.put_quad-fifth-requires
unfolding in_base64
put_quad-fifth-requires c = search rules

pub put_quad-requires : goal.put_quad-requires
unfolding in_base64
put_quad-requires c = omega (arith, c.requires, c.put_quad-fifth.ensures.place, c.put_quad-fourth.ensures.place, c.put_quad-third.ensures.place, c.put_quad-second.ensures.place, length_appended c.put_quad-fifth.ensures, length_appended c.put_quad-fourth.ensures, length_appended c.put_quad-third.ensures, length_appended c.put_quad-second.ensures)

pub returns : goal.returns
returns c = five_quads c.args.bytes.now (search rules) c.put_quad-second.ensures c.put_quad-third.ensures c.put_quad-fourth.ensures c.put_quad-fifth.ensures c.put_quad.ensures
