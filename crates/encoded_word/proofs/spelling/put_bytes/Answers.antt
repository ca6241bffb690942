use Rattle.encoded_word.specs.WritingLaws.{put_part}
use Rattle.encoded_word.proofs.spelling.put_bytes.Goals as goal

pub returns : goal.returns
returns g c = put_part _ _ _ _ _ c.told-bytes c.requires c.copy_from_slice.ensures.after
