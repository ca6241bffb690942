use Rattle.call.proofs.OutputLaws.{mail_short, rcpt_short, ready_texts}
use Rattle.call.proofs.NewFieldLaws.{found_within, found_front, found_size}
use mathlib.Core.Path.{refl}
use borrow.Author.Rules.{rules}
use Rattle.call.proofs.output.fill.Goals as goal

pub slice_bounds-mail-end : goal.slice_bounds-mail-end
slice_bounds-mail-end c = found_within c.put_mail_replacement-n.ensures (mail_short c.requires.0) refl

pub slice_bounds-fill_with-end : goal.slice_bounds-fill_with-end
slice_bounds-fill_with-end c = found_size c.put_mail_replacement-n.ensures (mail_short c.requires.0) refl

pub slice_bounds-rcpt-end : goal.slice_bounds-rcpt-end
slice_bounds-rcpt-end c = found_within c.put_rcpt_replacement-m.ensures (rcpt_short c.requires.0) refl

pub slice_bounds-fill_with-end-2 : goal.slice_bounds-fill_with-end-2
slice_bounds-fill_with-end-2 c = found_size c.put_rcpt_replacement-m.ensures (rcpt_short c.requires.0) refl

pub fill_with-requires : goal.fill_with-requires
fill_with-requires c = (c.requires.0, c.requires.1, ready_texts c.requires.0 (found_front c.put_mail_replacement-n.ensures (mail_short c.requires.0) refl) (found_front c.put_rcpt_replacement-m.ensures (rcpt_short c.requires.0) refl))
