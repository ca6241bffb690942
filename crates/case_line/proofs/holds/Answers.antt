use Rattle.std.proofs.Common.{sym, ◌∙◌, rules}
use Rattle.case_line.specs.CaseLineLaws.{holds_of}
use Rattle.case_line.proofs.holds.Goals as goal

pub returns : goal.returns
returns c = λ e. holds_of _ _ _ _ _ _ _ c.clip-end.ensures c.part.ensures c.part-2.ensures (search rules) c.part-3.ensures (sym c.is_untouched.ensures ∙ e)
