use Rattle.std.proofs.Common.{sym, ◌∙◌}
use Rattle.header_name.specs.Names.{other_kind, other_commented}
use Rattle.header_name.specs.NameTableLaws.{among_bytes}
use Rattle.letter_case.specs.LetterCase.{bytes}
use Rattle.header_name.proofs.other_kind.Goals as goal

pub returns-then-has_name : goal.returns-then-has_name
unfolding other_kind other_commented bytes
returns-then-has_name c = rw (among_bytes other_commented c.args.name.now, sym c.has_name.ensures ∙ c.if-has_name.true)

pub returns-else-has_name : goal.returns-else-has_name
unfolding other_kind other_commented bytes
returns-else-has_name c = rw (among_bytes other_commented c.args.name.now, sym c.has_name.ensures ∙ c.if-has_name.false)
